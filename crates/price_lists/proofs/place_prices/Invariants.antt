-- The first k prices are written, and nothing else has changed.
use Rattle.price_lists.specs.PriceLists.{PlacedTo}
use Rattle.price_lists.proofs.place_prices.Given as goal

abbrev pub invariant-loop-k : goal.invariant-loop-k
invariant-loop-k l = PlacedTo l.price l.from l.own l.k l.fn.out l.out

-- Those before k that have an amount of 0 have a price by the rule, and nothing else has changed.
use Rattle.std.proofs.Common.{◌≡◌, ℕ, ℤ, ◌<◌, length}
use Rattle.price_lists.specs.PriceLists.{StruckPriced}
use Rattle.price_lists.proofs.price_struck.Given as goal

abbrev pub invariant-loop-k : goal.invariant-loop-k
invariant-loop-k g l = (f : ℕ → ℤ) → ((k : ℕ) (z : ℤ) → k < length l.amounts → goal.F-post g l.rule k z → z ≡ f k)
    → StruckPriced l.amounts f 0 l.k l.fn.price l.price

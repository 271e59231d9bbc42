-- The least of the first k is found.
use Rattle.std.proofs.Common.{◌≡◌, ℕ, ℤ, ◌<◌}
use Rattle.transport.specs.Lists.{table, least_for}
use Rattle.price_lists.proofs.least.Given as goal

abbrev pub invariant-loop-k : goal.invariant-loop-k
invariant-loop-k g l = (f : ℕ → ℤ) → ((k : ℕ) (z : ℤ) → k < l.count → goal.F-post g l.number k z → z ≡ f k)
    → l.least ≡ least_for (table l.k f)

use Rattle.std.proofs.Common.{◌≡◌, ◌≤◌, ◌*◌}
use Rattle.transport.specs.Lists.{sum_to, at}
use Rattle.transport.specs.Limits.{max_amount}
use Rattle.sheet.proofs.total_of.Given as goal

-- The sum of the amounts before the present one, each of which is within its limit.
abbrev pub invariant-loop-x : goal.invariant-loop-x
invariant-loop-x l = (l.sum ≤ l.x-index * max_amount) × (l.sum ≡ sum_to l.x-index (at l.amounts))

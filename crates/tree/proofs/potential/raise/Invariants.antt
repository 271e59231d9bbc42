-- The nodes that are no longer in `bits` have their new price.
use Rattle.std.proofs.Common.{◌+ℤ◌, pos}
use Rattle.tree.specs.Bits.{Touching}
use Rattle.tree.proofs.potential.raise.Given as goal

abbrev pub invariant-loop-bits : goal.invariant-loop-bits
invariant-loop-bits l = Touching (λ z. z +ℤ l.x) (pos 0) l.fn.price l.at l.bits l.price

abbrev pub decreases-loop-bits : goal.decreases-loop-bits
decreases-loop-bits l = l.bits

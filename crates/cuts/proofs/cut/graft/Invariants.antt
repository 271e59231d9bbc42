-- The masks whose places are no longer in `bits` are turned over.
use Rattle.prelude.specs.Words.{ℕ}
use Rattle.std.specs.Int.Bits.{bit_xor}
use Rattle.tree.specs.Bits.{Touching}
use Rattle.cuts.proofs.cut.graft.Given as goal

abbrev pub invariant-loop-bits : goal.invariant-loop-bits
invariant-loop-bits l = Touching (λ (y : ℕ). bit_xor y l.x) 0 l.initial.masks l.at l.bits l.masks

abbrev pub decreases-loop-bits : goal.decreases-loop-bits
decreases-loop-bits l = l.bits

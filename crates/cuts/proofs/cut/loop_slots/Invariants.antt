-- The slots of the loop that are no longer in `bits` are told by their rows.
use Rattle.cuts.specs.Cycle.{FarRows}
use Rattle.cuts.proofs.cut.loop_slots.Given as goal

abbrev pub invariant-loop-bits : goal.invariant-loop-bits
invariant-loop-bits l = FarRows l.basis.path l.basis.lane l.cycle l.bits l.far

abbrev pub decreases-loop-bits : goal.decreases-loop-bits
decreases-loop-bits l = l.bits

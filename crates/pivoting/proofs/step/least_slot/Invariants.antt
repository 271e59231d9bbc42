-- The least pair of the slots that are no longer in `bits`, and its slot.
use Rattle.std.specs.Prelude.{◌≡◌}
use Rattle.board.specs.Slots.{slot_pair_of, LeastSlot}
use Rattle.pivoting.proofs.step.least_slot.Given as goal

abbrev pub invariant-loop-bits : goal.invariant-loop-bits
invariant-loop-bits l =
    let a = l.board.amounts in
    LeastSlot a.q a.e l.board.basis.lane l.slots l.bits l.at × (l.least ≡ slot_pair_of a.q a.e l.board.basis.lane l.at)

abbrev pub decreases-loop-bits : goal.decreases-loop-bits
decreases-loop-bits l = l.bits

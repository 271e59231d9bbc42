-- On the lanes of the slots that are no longer in `bits` x is added.
use Rattle.board.specs.Slots.{Added}
use Rattle.pivoting.proofs.step.carry.Given as goal

abbrev pub invariant-loop-bits : goal.invariant-loop-bits
invariant-loop-bits l =
    let old = l.fn.amounts in
    Added l.x.q l.basis.lane l.slots l.bits old.q l.amounts.q × Added l.x.e l.basis.lane l.slots l.bits old.e l.amounts.e

abbrev pub decreases-loop-bits : goal.decreases-loop-bits
decreases-loop-bits l = l.bits

use Rattle.prelude.specs.Words.{arith, length-set}
use Rattle.tree.specs.Queue.{room, queue-next}
use Rattle.tree.proofs.strike.first_leaves.Goals as goal

pub offset_bounds-leaf-tail : goal.offset_bounds-leaf-tail
offset_bounds-leaf-tail c = omega (arith, room (omega arith) c.loop-node.invariant.1)

pub bounds-leaf-tail : goal.bounds-leaf-tail
bounds-leaf-tail c = omega (arith, room (omega arith) c.loop-node.invariant.1)

pub overflow_add-tail : goal.overflow_add-tail
overflow_add-tail c = grind (arith, room (omega arith) c.loop-node.invariant.1, c.joins_queue-tail.ensures)

pub loop-node-preserved : goal.loop-node-preserved
loop-node-preserved c =
    let i = c.loop-node in (
      simp length-set i.invariant.0,
      rw c.joins_queue-tail.ensures (queue-next i.node (omega arith) (omega arith) i.invariant.0 i.invariant.1),
    )

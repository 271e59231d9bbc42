-- The queue holds the leaves among the nodes passed.
use Rattle.std.proofs.Common.{◌≡◌, length}
use Rattle.tree.specs.Layout.{node_room}
use Rattle.tree.specs.Queue.{Queue}
use Rattle.tree.proofs.strike.first_leaves.Given as goal

abbrev pub invariant-loop-node : goal.invariant-loop-node
invariant-loop-node l = (length l.leaf ≡ node_room) × Queue l.node l.live l.leaf 0 l.tail

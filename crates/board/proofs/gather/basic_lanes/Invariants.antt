-- The lanes of the first i rows are listed.
use Rattle.board.specs.Lanes.{Lanes}
use Rattle.board.proofs.gather.basic_lanes.Given as goal

abbrev pub invariant-loop-i : goal.invariant-loop-i
invariant-loop-i l = Lanes l.adj l.i l.lanes l.count

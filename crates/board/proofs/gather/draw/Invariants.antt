-- The masks have the lanes of the slots so far.
use Rattle.board.specs.Drawing.{Redrawn}
use Rattle.board.proofs.gather.draw.Given as goal

abbrev pub invariant-loop-l : goal.invariant-loop-l
invariant-loop-l l = Redrawn l.m l.basis.lane l.l-index l.adj

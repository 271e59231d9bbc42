-- The run of the allowance has come to the tableau that is kept.
use Rattle.std.proofs.Common.{◌-◌, List}
use Rattle.transport.specs.Problem.{Problem}
use Rattle.transport.specs.declared.Cell.{Cell}
use Rattle.tree.specs.Basis.{SameEnds}
use Rattle.rounds.specs.OnBoard.{BegunOn}
use Rattle.runs.specs.Runs.{GoingOn}
use Rattle.runs.proofs.run.rounds.Given as goal

abbrev pub invariant-loop-made : goal.invariant-loop-made
invariant-loop-made l = record {
  same_ends : SameEnds l.fn.board.basis l.board.basis;
  going : (P : Problem) (T : List Cell) → BegunOn P T l.fn.board l.cost l.m l.n
      → GoingOn P T l.allowance l.board l.cost l.price l.slack l.m l.n (l.allowance - l.made) l.made;
}

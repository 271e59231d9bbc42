-- The run of the bound of rounds has come to the tableau that is kept. That tableau's valued cost falls
-- in each round.
use Rattle.std.proofs.Common.{◌-◌, List}
use Rattle.transport.specs.Problem.{Problem}
use Rattle.transport.specs.Round.{round_bound}
use Rattle.transport.specs.declared.Cell.{Cell}
use Rattle.tree.specs.Basis.{SameEnds}
use Rattle.rounds.specs.OnBoard.{BegunOn}
use Rattle.runs.specs.Runs.{GoingOn, board_value}
use Rattle.runs.proofs.run.finish.Given as goal

abbrev pub invariant-loop-slack : goal.invariant-loop-slack
invariant-loop-slack l = record {
  same_ends : SameEnds l.fn.board.basis l.board.basis;
  going : (P : Problem) (T : List Cell) → BegunOn P T l.fn.board l.cost l.m l.n
      → GoingOn P T (round_bound P) l.board l.cost l.price l.slack l.m l.n (round_bound P - l.made) l.made;
}

abbrev pub decreases-loop-slack : goal.decreases-loop-slack
decreases-loop-slack l = board_value l.board.amounts.q l.board.amounts.e l.cost l.m l.n

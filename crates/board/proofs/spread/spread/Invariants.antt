-- The cells from number k on are held.
use Rattle.prelude.specs.Words.{drop}
use Rattle.transport.specs.Tableau.{cells_of}
use Rattle.tree.specs.Layout.{stride}
use Rattle.board.specs.Held.{Held}
use Rattle.board.proofs.spread.spread.Given as goal

abbrev pub invariant-loop-k : goal.invariant-loop-k
invariant-loop-k l = Held l.m stride (drop l.k (cells_of l.t)) l.adj l.amounts.q l.amounts.e

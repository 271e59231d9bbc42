-- All cells fit where those that are left do, at `least` or later.
use Rattle.std.specs.Prelude.{◌≡◌}
use Rattle.prelude.specs.Words.{drop}
use Rattle.transport.specs.Tableau.{cells_of}
use Rattle.board.specs.CellTests.{cells_fit_of, fits_from}
use Rattle.board.proofs.fit.cells_fit.Given as goal

abbrev pub invariant-loop-c : goal.invariant-loop-c
invariant-loop-c l = cells_fit_of l.m l.n (cells_of l.fn.t) ≡ fits_from l.m l.n l.least (drop l.c-index l.c-items)

-- On each way through the code its tests decide those of the definition.
use Rattle.std.specs.Prelude.{◌+◌, ◌*◌}
use Rattle.prelude.specs.Words.{arith, lt-ltb, le-ltb, le-leb, lt-leb}
use Rattle.transport.specs.Amount.{nothing}
use Rattle.transport.specs.Problem.{place}
use Rattle.transport.specs.Belonging.{above_zero}
use Rattle.board.specs.CellTests.{fits_at}
use Rattle.board.proofs.fit.cell_fits.Goals as goal

pub returns : goal.returns
unfolding fits_at place above_zero nothing
returns c = let a = c.args in
    rw (
      lt-ltb a.c.row a.m (omega arith),
      lt-ltb a.c.col a.n (omega arith),
      le-leb a.least (a.c.row * a.n + a.c.col) (omega arith),
    ) c.less.ensures

pub returns-then-m-c : goal.returns-then-m-c
unfolding fits_at
returns-then-m-c c = rw (le-ltb c.args.c.row c.args.m (omega arith))

pub returns-then-n-c : goal.returns-then-n-c
unfolding fits_at
returns-then-n-c c = let a = c.args in rw (lt-ltb a.c.row a.m (omega arith), le-ltb a.c.col a.n (omega arith))

pub returns-then-c-n : goal.returns-then-c-n
unfolding fits_at place
returns-then-c-n c = let a = c.args in
    rw (
      lt-ltb a.c.row a.m (omega arith),
      lt-ltb a.c.col a.n (omega arith),
      lt-leb a.least (a.c.row * a.n + a.c.col) (omega arith),
    )

-- Each way out of the code is a case of `within`.
use Rattle.prelude.specs.Words.{le-leb, lt-leb}
use Rattle.transport.specs.Lists.{within}
use Rattle.sheet.proofs.side_fits.Statement.{statement}
use Rattle.sheet.proofs.side_fits.Tie as tie

returns : tie.Need-returns-then-count-ge1
unfolding within
returns c = rw (le-leb 1 c.before.args.count c.if-count-ge1.true)

returns-2 : tie.Need-returns-else-count-ge1
unfolding within
returns-2 c = rw (lt-leb 1 c.before.args.count c.if-count-ge1.false)

pub side_fits_spec : {M : Type 1} → statement M
side_fits_spec = tie.close (tie.spec returns returns-2)

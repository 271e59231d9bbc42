-- Of the columns before j just the tight ones are in.
use Rattle.tight.specs.Tight.{TightRow}
use Rattle.tight.proofs.tight_in_row.Given as goal

abbrev pub invariant-loop-j : goal.invariant-loop-j
invariant-loop-j l = TightRow l.cost l.price l.m l.i l.j l.tight

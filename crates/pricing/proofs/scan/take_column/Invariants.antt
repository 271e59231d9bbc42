-- The column is taken in for the rows before i.
use Rattle.pricing.specs.Slacks.{Changing, lowering}
use Rattle.pricing.proofs.scan.take_column.Given as goal

abbrev pub invariant-loop-i : goal.invariant-loop-i
invariant-loop-i l = Changing (lowering l.cost l.j l.v) l.initial.least l.i l.least

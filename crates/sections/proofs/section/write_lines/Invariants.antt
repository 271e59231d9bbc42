-- The output holds the lines of the numbers so far.
use Rattle.sections.specs.LinesWritten.{LinesWritten}
use Rattle.sections.proofs.section.write_lines.Given as goal

abbrev pub invariant-loop-number : goal.invariant-loop-number
invariant-loop-number g l =
    LinesWritten g.T.Decimal.text l.numbers l.width l.initial.out l.out l.at l.left l.number-index

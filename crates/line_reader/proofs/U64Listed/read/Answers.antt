-- The number, and then its end.
use Rattle.prelude.specs.Words.{ap, ◌∙◌}
use Rattle.transport.specs.SheetText.{number}
use Rattle.sections.specs.Lines.{ending}
use Rattle.tokens.specs.Reading.{end_reading}
use Rattle.line_reader.proofs.U64Listed.read.Goals as goal

pub returns-clause-reads : goal.returns-clause-reads
unfolding number
returns-clause-reads c =
    ap (end_reading (ending c.args.left)) c.read_number.ensures.reads ∙ c.read_end.ensures.reads

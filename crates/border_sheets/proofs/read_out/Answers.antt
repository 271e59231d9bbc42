-- The answer of the call, as it crosses the border.
use Rattle.prelude.specs.Words.{ap, ◌∙◌}
use Rattle.border_sheets.specs.Crossing.{read_as, read_is}
use Rattle.border_sheets.proofs.read_out.Goals as goal

pub returns : goal.returns
returns c = let e = c.read_sheet.ensures in (c.counts_out.ensures ∙ ap read_as e.0 ∙ read_is _, e.1, e.2, e.3)

-- The answer of the call, as it crosses the border.
use Rattle.prelude.specs.Words.{ap, ◌∙◌}
use Rattle.border_sheets.specs.Crossing.{written, written_is}
use Rattle.border_sheets.proofs.write_sheet_out.Goals as goal

pub returns : goal.returns
returns c = let e = c.write_sheet.ensures in (c.write_out.ensures ∙ ap written e.0 ∙ written_is _, e.1)

-- Each way out is a case of the answer.
use Rattle.prelude.specs.Words.{sym, ap, ◌∙◌}
use Rattle.border_sheets.specs.Crossing.{started, started-is}
use Rattle.border_sheets.proofs.start_out.Goals as goal

pub returns-in-Ok : goal.returns-in-Ok
returns-in-Ok c = ap started (sym c.in-Ok.is ∙ c.start-answer.ensures) ∙ started-is _

pub returns-in-Err : goal.returns-in-Err
returns-in-Err c =
    rw (c.number.ensures, c.empty_tableau.ensures)
    (ap started (sym c.in-Err.is ∙ c.start-answer.ensures) ∙ started-is _)

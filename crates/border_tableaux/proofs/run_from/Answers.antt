-- Each way out is a case of the answer.
use Rattle.prelude.specs.Words.{ap, ◌∙◌}
use Rattle.border_tableaux.specs.Crossing.{ran, ran-is}
use Rattle.border_tableaux.proofs.run_from.Goals as goal

pub returns-in-Finished : goal.returns-in-Finished
returns-in-Finished c = rw c.in-Finished.is at (ap ran c.in-Ok.ensures ∙ ran-is _)

pub returns-in-Spent : goal.returns-in-Spent
returns-in-Spent c = rw c.in-Spent.is at (ap ran c.in-Ok.ensures ∙ ran-is _)

pub returns-in-Err : goal.returns-in-Err
returns-in-Err c = rw (c.empty_tableau.ensures, c.number.ensures) (ap ran c.in-Err.ensures ∙ ran-is _)

-- Each way out is a case of the answer.
use Rattle.prelude.specs.Words.{ap, ◌∙◌}
use Rattle.border_tableaux.specs.Crossing.{settled_as, settled_is}
use Rattle.border_tableaux.proofs.settle_from.Goals as goal

pub returns-in-Ok : goal.returns-in-Ok
returns-in-Ok c = let e = c.in-Ok.ensures in (ap settled_as e.0 ∙ settled_is _, e.1)

pub returns-in-Err : goal.returns-in-Err
returns-in-Err c = let e = c.in-Err.ensures in (c.number-number.ensures ∙ ap settled_as e.0 ∙ settled_is _, e.1)

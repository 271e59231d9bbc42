-- Each way out is a case of the answer.
use Rattle.prelude.specs.Words.{ap, ◌∙◌}
use Rattle.transport.specs.Limits.{max_side}
use Rattle.transport.specs.Lists.{padded}
use Rattle.transport.specs.Answers.{prices, no_prices}
use Rattle.border_tableaux.specs.Crossing.{rounded, rounded-is}
use Rattle.border_tableaux.proofs.round_from.Goals as goal

pub returns-in-Ok-Moved : goal.returns-in-Ok-Moved
unfolding no_prices prices padded max_side
returns-in-Ok-Moved c = ap rounded (rw c.in-Ok-Moved.field-0-is at c.in-Ok-Moved.ensures) ∙ rounded-is _

pub returns-in-Ok-Finished : goal.returns-in-Ok-Finished
returns-in-Ok-Finished c =
    rw c.empty_tableau.ensures (ap rounded (rw c.in-Ok-Finished.field-0-is at c.in-Ok-Finished.ensures) ∙ rounded-is _)

pub returns-in-Err : goal.returns-in-Err
unfolding no_prices prices padded max_side
returns-in-Err c = rw (c.empty_tableau.ensures, c.number.ensures) (ap rounded c.in-Err.ensures ∙ rounded-is _)

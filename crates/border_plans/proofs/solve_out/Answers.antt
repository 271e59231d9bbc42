-- The answer of the call, as it crosses the border.
use Rattle.prelude.specs.Words.{ap, ◌∙◌}
use Rattle.border_plans.specs.Crossing.{solved_as, solved-is}
use Rattle.border_plans.proofs.solve_out.Goals as goal

pub returns : goal.returns
returns c = let e = c.solve.ensures in (c.solved_out.ensures ∙ ap solved_as e.0 ∙ solved-is _, e.1, e.2, e.3)

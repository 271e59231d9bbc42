-- The rounds come to the finished tableau, which is given under own numbers; its prices and the
-- settled plan are written, and the cost is that of the plan.
use Rattle.prelude.specs.Words.{◌∙◌, rules}
use mir.Syntax.{w64}
use Rattle.transport.specs.Laws.RangeLaws.{back}
use Rattle.solving.specs.Stored.{sheet-finished}
use Rattle.solving.specs.Told.{stored_summable, told_stored}
use Rattle.editing.proofs.solve.solve_from.Goals as goal

pub last_tableau-tableau-requires : goal.last_tableau-tableau-requires
last_tableau-tableau-requires c =
    let (T, w) = c.requires.admitted in
    (_, _, _, _, _, sheet-finished w (c.finish-rounds.ensures.ran _ _ w.begun))

pub store_solution-requires-clause-finished : goal.store_solution-requires-clause-finished
store_solution-requires-clause-finished c =
    let (T, w) = c.requires.admitted in
    (_, _, _, sheet-finished w (c.finish-rounds.ensures.ran _ _ w.begun))

pub plan_cost-cost-requires : goal.plan_cost-cost-requires
plan_cost-cost-requires c =
    let (T, w) = c.requires.admitted in
    let f = sheet-finished w (c.finish-rounds.ensures.ran _ _ w.begun) in
    stored_summable (c.store_solution.ensures.stored _ _ _ f) w.accepted

pub returns : goal.returns
returns c = λ T w.
    let total = back w64 c.plan_cost-cost.result (search rules) ∙ c.plan_cost-cost.ensures in
    let f = sheet-finished w (c.finish-rounds.ensures.ran _ _ w.begun) in
    (told_stored (c.store_solution.ensures.stored _ _ _ f) w.accepted total, c.last_tableau-tableau.ensures _ _ _ _ _ f)

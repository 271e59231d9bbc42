-- The answer of the call, as it crosses the border.
use Rattle.prelude.specs.Words.{ap, ◌∙◌, length}
use Rattle.transport.specs.Sheet.{sheet_of}
use Rattle.transport.specs.PlanText.{write_plan_call}
use Rattle.border_sheets.specs.Crossing.{written, written_is}
use Rattle.border_plans.proofs.write_plan_out.Goals as goal

pub returns : goal.returns
returns c =
    let e = c.write_plan.ensures in
    let S = sheet_of c.args.supply.now c.args.demand.now c.args.cost.now in
    (c.write_out.ensures ∙ ap written e.0 ∙ written_is (write_plan_call S (length c.args.out.now)), e.1)

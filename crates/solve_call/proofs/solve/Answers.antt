-- Each way out is a case of the call.
use Rattle.prelude.specs.Words.{sym, ◌∙◌, arith, rules}
use Rattle.std.proofs.lemmas.Result.{err_from_is_err_and}
use Rattle.std.proofs.lemmas.Bool.Decides.{nat_tests}
use mir.Syntax.{w64}
use Rattle.transport.specs.Sheet.{roasteries, cafes, sheet_of}
use Rattle.transport.specs.Laws.RangeLaws.{back}
use Rattle.transport.specs.Laws.SheetLaws.{accepted}
use Rattle.transport.specs.Laws.Sound.{sources-room, sinks-room}
use Rattle.tree.specs.Layout.{stride-is}
use Rattle.transport.specs.Calls.{solution, solve_call}
use Rattle.sheet.specs.Check.{accepted-none, refused-some}
use Rattle.solving.specs.Rooms.{tests_early, tests-short, tests-none}
use Rattle.solve_call.specs.Solve.{told-all}
use Rattle.solving.specs.Told.{told-refused, told-by, stored_summable, told_stored}
use Rattle.solve_call.proofs.solve.Goals as goal

pub returns-in_err-check_sheet : goal.returns-in_err-check_sheet
unfolding solve_call
returns-in_err-check_sheet c =
    let p = err_from_is_err_and c.from_residual.result c.from_residual.ensures.1 in
    let S = sheet_of c.args.supply.now c.args.demand.now c.args.cost.now in
    let refuses = refused-some _ _ (sym c.check_sheet.ensures ∙ c.in_err-check_sheet.was) in
    rw (p.1, p.2) (told-all (told-refused (tests_early S _ _ _ _ _ refuses)))

pub missing_room-requires : goal.missing_room-requires
unfolding roasteries cafes
missing_room-requires c =
    let S = sheet_of c.args.supply.now c.args.demand.now c.args.cost.now in
    let ok = accepted S (accepted-none _ (sym c.check_sheet.ensures ∙ c.in_ok-check_sheet.was)) in
    (omega (arith, stride-is, ok.limits.roasteries_high, sources-room), omega (arith, stride-is, ok.limits.cafes_high, sinks-room))

pub returns-then-missing_room-gt0 : goal.returns-then-missing_room-gt0
unfolding roasteries cafes solve_call
returns-then-missing_room-gt0 c =
    let S = sheet_of c.args.supply.now c.args.demand.now c.args.cost.now in
    let passed = accepted-none _ (sym c.check_sheet.ensures ∙ c.in_ok-check_sheet.was) in
    told-all (told-refused (tests-short S _ _ _ _ passed (omega arith)))

pub solve_checked-rounds-requires : goal.solve_checked-rounds-requires
solve_checked-rounds-requires c =
    let S = sheet_of c.args.supply.now c.args.demand.now c.args.cost.now in
    let passed = accepted-none _ (sym c.check_sheet.ensures ∙ c.in_ok-check_sheet.was) in
    record { accepted = accepted S passed; supply_in_bounds = (omega arith, omega arith, omega arith) }

pub plan_cost-total-requires : goal.plan_cost-total-requires
plan_cost-total-requires c =
    let S = sheet_of c.args.supply.now c.args.demand.now c.args.cost.now in
    let passed = accepted-none _ (sym c.check_sheet.ensures ∙ c.in_ok-check_sheet.was) in
    stored_summable c.solve_checked-rounds.ensures (accepted S passed)

pub returns : goal.returns
unfolding roasteries cafes solution solve_call
returns c =
    let S = sheet_of c.args.supply.now c.args.demand.now c.args.cost.now in
    let passed = accepted-none _ (sym c.check_sheet.ensures ∙ c.in_ok-check_sheet.was) in
    let total = back w64 c.plan_cost-total.result (search rules) ∙ c.plan_cost-total.ensures in
    told-all (told-by (tests-none S _ _ _ _ passed (omega arith, omega arith, omega arith))
    (told_stored c.solve_checked-rounds.ensures (accepted S passed) total))

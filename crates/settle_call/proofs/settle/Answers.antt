-- Each way out is a case of the call.
use Rattle.std.specs.Prelude.{◌≤◌}
use Rattle.prelude.specs.Words.{arith, ℕ, mul-le-mul_left, ◌∙◌, length}
use Rattle.std.proofs.lemmas.Result.{err_from_is_err_and}
use Rattle.transport.specs.Limits.{max_side}
use Rattle.transport.specs.Sheet.{roasteries, cafes, sheet_of}
use Rattle.transport.specs.Laws.Sound.{sources-room, sinks-room}
use Rattle.transport.specs.declared.Refusal.{Refusal}
use Rattle.rounds.specs.Begun.{begun-sides}
use Rattle.solving.specs.Settled.{settled-storable, stored_settled}
use Rattle.settle_call.specs.Settle.{front-refuses, unfinished-refuses, short-refuses, none-refuses, settle-refused, settle-given}
use Rattle.settle_call.proofs.settle.Goals as goal

pub load_sheet-requires : goal.load_sheet-requires
load_sheet-requires c = c.new-board.ensures.empty

pub returns-in_err-parties : goal.returns-in_err-parties
returns-in_err-parties c =
    let S = sheet_of c.args.supply.now c.args.demand.now c.args.cost.now in
    let room = length c.args.plan.now in
    let p = err_from_is_err_and c.from_residual.result c.from_residual.ensures.1 in
    rw (p.1, p.2) (settle-refused S c.args.t room _ _ (front-refuses S c.args.t room _ c.in_err-parties.ensures.loaded))

pub is_finished-requires : goal.is_finished-requires
is_finished-requires c = (_, _, _, _, c.in_ok-parties.ensures.loaded.1.begun)

pub returns-then-not-is_finished : goal.returns-then-not-is_finished
returns-then-not-is_finished c =
    let S = sheet_of c.args.supply.now c.args.demand.now c.args.cost.now in
    let room = length c.args.plan.now in
    let (passed, admitted, parties) = c.in_ok-parties.ensures.loaded in
    let judged = c.is_finished.ensures.judged _ _ _ _ admitted.begun in
    settle-refused S c.args.t room _ Refusal.Unfinished
    (unfinished-refuses S c.args.t room passed (judged.done ∙ c.if-not-is_finished.true))

-- This holds also where the plan has the columns of the tableau: such a program (must-fail/plan_with_extra_column) fails only where it returns.
pub overflow_mul-supply : goal.overflow_mul-supply
unfolding roasteries cafes max_side
overflow_mul-supply c =
    let w = c.in_ok-parties.ensures.loaded.1 in
    let m : ℕ = length c.args.supply.now in
    let limits = w.accepted.limits in
    let narrow : length c.args.demand.now ≤ max_side = omega (arith, limits.cafes_high, sinks-room) in
    omega (arith, limits.roasteries_high, sources-room, mul-le-mul_left m narrow, mul-le-mul_left m (begun-sides w.begun).cols_high)

pub returns-then-plan-supply : goal.returns-then-plan-supply
unfolding roasteries cafes
returns-then-plan-supply c =
    let S = sheet_of c.args.supply.now c.args.demand.now c.args.cost.now in
    let room = length c.args.plan.now in
    let (passed, admitted, parties) = c.in_ok-parties.ensures.loaded in
    let judged = rw c.if-not-is_finished.false at (c.is_finished.ensures.judged _ _ _ _ admitted.begun) in
    settle-refused S c.args.t room _ Refusal.TooShort (short-refuses S c.args.t room passed judged.done (omega arith))

-- ---- the bags are those of the settled plan

pub settle_board-requires : goal.settle_board-requires
settle_board-requires c =
    let (passed, admitted, parties) = c.in_ok-parties.ensures.loaded in
    let judged = rw c.if-not-is_finished.false at (c.is_finished.ensures.judged _ _ _ _ admitted.begun) in
    (_, _, _, judged, admitted.begun.costs)

pub store_plan-requires : goal.store_plan-requires
unfolding roasteries cafes
store_plan-requires c =
    let (passed, w, parties) = c.in_ok-parties.ensures.loaded in
    let judged = rw c.if-not-is_finished.false at (c.is_finished.ensures.judged _ _ _ _ w.begun) in
    let bags = c.settle_board.ensures.settled _ _ _ judged w.begun.costs in
    rw (c.row_numbers.ensures, c.cafe_numbers.ensures, w.parties.row_numbers, w.parties.cafe_numbers)
    (settled-storable w.accepted bags (omega arith))

pub returns : goal.returns
unfolding roasteries cafes
returns c =
    let S = sheet_of c.args.supply.now c.args.demand.now c.args.cost.now in
    let room = length c.args.plan.now in
    let (passed, w, parties) = c.in_ok-parties.ensures.loaded in
    let judged = rw c.if-not-is_finished.false at (c.is_finished.ensures.judged _ _ _ _ w.begun) in
    let bags = c.settle_board.ensures.settled _ _ _ judged w.begun.costs in
    let stored = rw (c.row_numbers.ensures, c.cafe_numbers.ensures, w.parties.row_numbers, w.parties.cafe_numbers) at c.store_plan.ensures in
    settle-given S c.args.t room c.args.plan.now w.accepted (none-refuses S c.args.t room passed judged.done (omega arith))
    (stored_settled w.accepted bags (omega arith) stored)

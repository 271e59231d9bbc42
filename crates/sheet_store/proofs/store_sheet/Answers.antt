-- What check_numbers refuses, too little room and a sheet that is stored are the cases of the call (`ReadCall`).
use Rattle.prelude.specs.Words.{arith, sym, ◌∙◌, le_trans}
use Rattle.std.proofs.lemmas.Result.{err_from_is_err_and}
use Rattle.std.proofs.lemmas.Bool.Decides.{nat_tests}
use Rattle.transport.specs.Laws.Sound.{sources-room, sinks-room}
use Rattle.transport.specs.Sheet.{sheet_of}
use Rattle.decimals.specs.Front.{front}
use Rattle.sheet.specs.Check.{accepted-none, refused-some}
use Rattle.sheet_store.specs.ReadCall.{stored_number, stored_tight, stored_given}
use Rattle.sheet_store.proofs.store_sheet.Goals as goal
use Rattle.sheet_store.proofs.store_sheet.Goals.{then-supply_fits, else-supply_fits, then-demand_fits, else-demand_fits}

pub check_numbers-requires : goal.check_numbers-requires
check_numbers-requires c = (le_trans c.requires.0 sources-room, le_trans c.requires.1 sinks-room)

pub returns-in_err-check_numbers : goal.returns-in_err-check_numbers
returns-in_err-check_numbers c =
    let p = err_from_is_err_and c.from_residual.result c.from_residual.ensures.1 in
    let refuses = refused-some _ _ (sym c.check_numbers.ensures ∙ c.in_err-check_numbers.was) in
    rw (p.1, p.2) (stored_number _ _ _ (sheet_of c.args.sheet_supply.now c.args.sheet_demand.now c.args.sheet_cost.now) _ refuses)

pub returns-then-not-cost_fits : goal.returns-then-not-cost_fits
returns-then-not-cost_fits c =
    let a = c.args in
    let clear = accepted-none _ (sym c.check_numbers.ensures ∙ c.in_ok-check_numbers.was) in
    stored_tight a.supply.now a.demand.now a.cost.now (sheet_of a.sheet_supply.now a.sheet_demand.now a.sheet_cost.now) clear c.requires.2
    (λ (s, d, k). grind (arith, nat_tests))

pub returns : goal.returns
unfolding front
returns c =
    let a = c.args in
    let clear = accepted-none _ (sym c.check_numbers.ensures ∙ c.in_ok-check_numbers.was) in
    let f = stored_given a.supply.now a.demand.now a.cost.now (sheet_of a.sheet_supply.now a.sheet_demand.now a.sheet_cost.now) clear c.requires.2
    (grind (arith, nat_tests)) in
    rw (c.copy_from_slice.ensures.after, c.copy_from_slice-2.ensures.after, c.copy_from_slice-3.ensures.after) f

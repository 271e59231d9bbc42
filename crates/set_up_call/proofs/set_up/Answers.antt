-- The sheet is refused, or stands with its finished tableau.
use Rattle.std.specs.Prelude.{◌≡◌, Err, ⊤}
use Rattle.std.specs.declared.result.Result.{Result}
use Rattle.transport.specs.declared.Refusal.{Refusal}
use Rattle.prelude.specs.Words.{sym, ap, ◌∙◌, by_option, List, ℕ, ℤ, none}
use Rattle.transport.specs.Sheet.{sheet_of, refusal, sheet_tests}
use Rattle.transport.specs.Laws.SheetLaws.{accepted}
use Rattle.sheet.specs.Check.{check_answer, check-some, refused-some}
use Rattle.set_up_call.specs.SetUp.{set-up-refused, set-up-given}
use Rattle.set_up_call.proofs.set_up.Goals as goal

-- What is no error is no refusal.
passed : (supply demand : List ℕ) (cost : List ℤ) {r : Result ⊤ Refusal} → let S = sheet_of supply demand cost in
    r ≡ check_answer (refusal (sheet_tests S)) → ((e : Refusal) → r ≡ Err e → ⊥) → refusal (sheet_tests S) ≡ none
passed supply demand cost e never = by_option (refusal (sheet_tests (sheet_of supply demand cost))) (λ n. n)
    (λ k f. absurd (never k (e ∙ ap check_answer f ∙ check-some k)))

pub returns-in-Err : goal.returns-in-Err
returns-in-Err c =
    let S = sheet_of c.args.supply.now c.args.demand.now c.args.cost.now in
    let refuses = refused-some _ _ (sym c.check_sheet.ensures ∙ c.in-Err.is) in
    rw c.number-number.ensures (set-up-refused S refuses c.no_standing.ensures)

pub keep_sheet-requires : goal.keep_sheet-requires
keep_sheet-requires c = accepted _ (passed c.args.supply.now c.args.demand.now c.args.cost.now c.check_sheet.ensures c.in_default.not-Err)

pub finished_tableau-requires : goal.finished_tableau-requires
finished_tableau-requires c = accepted _ (passed c.args.supply.now c.args.demand.now c.args.cost.now c.check_sheet.ensures c.in_default.not-Err)

pub returns : goal.returns
returns c =
    let S = sheet_of c.args.supply.now c.args.demand.now c.args.cost.now in
    let clear = passed c.args.supply.now c.args.demand.now c.args.cost.now c.check_sheet.ensures c.in_default.not-Err in
    set-up-given S clear c.keep_sheet.ensures c.finished_tableau.ensures

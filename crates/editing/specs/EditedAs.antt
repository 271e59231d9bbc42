-- An edit of a standing sheet, case by case: what it refuses and what it gives.
use Rattle.std.specs.Prelude.{Ok, Err, MatchResult, is_err, ◌≡◌, ◌&&◌, ◌||◌, ◌+◌}
use Rattle.std.specs.declared.result.Result.{Result}
use Rattle.std.proofs.lemmas.Result.{MatchResult-from_err}
use Rattle.prelude.specs.Words.{refl, ap, subst, ◌∙◌, Bool, true, false, true≢false, not, List, none, some, by_option}
use Rattle.prelude.specs.Words.{ℕ, arith, ltb, eqb, add-one, ℤ, length}
use Rattle.transport.specs.declared.Cell.{Cell}
use Rattle.transport.specs.declared.Edit.{Edit}
use Rattle.transport.specs.declared.Refusal.{Refusal}
use Rattle.transport.specs.declared.SolveAnswer.{SolveAnswer}
use Rattle.transport.specs.Sheet.{Sheet, roasteries, cafes, refusal}
use Rattle.transport.specs.Calls.{unless, inside, Solution, solution_from, solve_tests}
use Rattle.transport.specs.Answers.{result_of, solve_answer}
use Rattle.transport.specs.Standing.{edited, Standing, Passes, standing_tests, max_counter, bad_edit, edit_tests}
use Rattle.transport.specs.Standing.{edit_from, edit_call, carried_out}
use Rattle.transport.specs.Laws.SheetLaws.{refusal_yes, refusal_no, refusal-pass, refusal-stands}
use Rattle.transport.specs.Laws.CallLaws.{unless-refused}
use Rattle.solving.specs.Told.{Told, told-refused, told-by}
use Rattle.edit_steps.specs.Edits.{beginning, may}
use Rattle.editing.specs.declared.solve.Edited.{Edited}
use Rattle.editing.specs.SolvedAs.{SolvedAs, answer_of}

-- An edit of the standing sheet St: the answer, and what the lent lists then hold. S' is the sheet
-- that then stands: that of St if the edit is refused, or else the edited sheet, counted, with its
-- finished tableau.
pub record EditedAs (St : Standing) (e : Edit) (r : Result Edited Refusal) (S' : Sheet) (u u' v v' : List ℤ)
    (plan plan' : List ℕ) : Type 0 where
  pub told : Told (edit_call St e (length u) (length v) (length plan)) (answer_of r) u u' v v' plan plan'
  pub stands : MatchResult r
      (λ done. record { sheet = S'; tableau = done.tableau; counter = St.counter + 1 } ≡ carried_out St e)
      (λ k. S' ≡ St.sheet)

-- Two lists of tests that refuse alike.
unless-alike : {A : Type 0} (ts us : List (Bool × Refusal)) (x : A) → refusal ts ≡ refusal us → unless ts x ≡ unless us x
unfolding unless
unless-alike ts us x e = rw (e, unless)

not-and : (a b c : Bool) → not (a && b) || c ≡ not (a && b && not c)
not-and true true true = refl
not-and true true false = refl
not-and true false true = refl
not-and true false false = refl
not-and false b true = refl
not-and false b false = refl

-- What is answered as solved, no test refuses.
pub answer-solved : (tests : List (Bool × Refusal)) (x : Solution) {y : SolveAnswer}
    → Ok y ≡ solve_answer (unless tests x) → refusal tests ≡ none
unfolding solve_answer result_of
answer-solved tests x e = by_option (refusal tests)
    (λ n. n)
    (λ j h.
    let clash = e ∙ ap solve_answer (unless-refused tests x j h) in
    let z : ◌≡◌ {A = ℕ} 0 1 = cc in absurd (omega arith))

-- What is no refusal is an edit that is made.
made_of : (r : Result Edited Refusal) → is_err r ≡ false → (d : Edited) × (r ≡ Ok d)
made_of (Ok d) e = (d, refl)
made_of (Err k) e = absurd (true≢false e)

module _ (St : Standing) (e : Edit) (u v : List ℤ) (plan : List ℕ) where
  abbrev S : Sheet
  S = St.sheet

  abbrev known : Bool
  known = may e.row (roasteries S) e.col (cafes S) St.counter

  bad_is : (bad_edit St e).0 ≡ not known
  unfolding bad_edit
  bad_is = not-and (ltb e.row (roasteries S)) (ltb e.col (cafes S)) (eqb St.counter max_counter)

  abbrev tests : List (Bool × Refusal)
  tests = edit_tests St e (length u) (length v) (length plan)

  edit_refused : (k : Refusal) → refusal tests ≡ some k → EditedAs St e (Err k) S u u v v plan plan
  unfolding edit_call
  edit_refused k r = record {
    told = told-refused (unless-refused tests (solution_from (edited S e) (edit_from St e)) k r);
    stands = refl;
  }

  -- The first check ..
  pub edit_early : (k : Refusal) → refusal (standing_tests St) ≡ some k → EditedAs St e (Err k) S u u v v plan plan
  unfolding edit_tests
  edit_early k f = edit_refused k (refusal-stands (standing_tests St) _ k f)

  module _ (w : Passes St) where
    -- .. then a bad edit ..
    pub edit_unknown : known ≡ false → EditedAs St e (Err Refusal.BadEdit) S u u v v plan plan
    unfolding edit_tests bad_edit
    edit_unknown f = edit_refused Refusal.BadEdit
        (refusal-pass (standing_tests St) _ w ∙ refusal_yes (bad_edit St e) _ (bad_is ∙ ap not f))

    -- .. and then it is as solve says of the edited sheet.
    module _ (f : known ≡ true) {S' : Sheet} (same : S' ≡ edited S e) {r : Result Edited Refusal} {u' v' : List ℤ}
        {plan' : List ℕ}
        (done : SolvedAs S' (beginning e.change S' (inside S St.tableau)) r u u' v v' plan plan') where
      abbrev late : List (Bool × Refusal)
      late = solve_tests (edited S e) (length u) (length v) (length plan)

      solved : SolvedAs (edited S e) (edit_from St e) r u u' v v' plan plan'
      unfolding edit_from beginning
      solved =
          let T : List Cell = inside S St.tableau in
          subst (λ (R : Sheet). SolvedAs R (beginning e.change R T) r u u' v v' plan plan') same done

      alike : refusal tests ≡ refusal late
      unfolding edit_tests
      alike = refusal-pass (standing_tests St) _ w ∙ refusal_no (bad_edit St e) late (bad_is ∙ ap not f)

      told : Told (edit_call St e (length u) (length v) (length plan)) (answer_of r) u u' v v' plan plan'
      unfolding edit_call
      told = told-by (unless-alike tests late _ alike) solved.told

      -- A refusal leaves the sheet as it was ..
      pub edit_late : is_err r ≡ true → {S'' : Sheet} → S'' ≡ S → EditedAs St e r S'' u u' v v' plan plan'
      edit_late is back = record { told = told; stands = MatchResult-from_err r _ _ is (λ k. back) }

      -- .. and else it stands.
      pub edit_solved : is_err r ≡ false → EditedAs St e r S' u u' v v' plan plan'
      unfolding edit_call carried_out
      edit_solved is =
          let (d, is_ok) = made_of r is in
          let tableau = rw is_ok at solved.tableau in
          record {
            told = told;
            stands = rw is_ok (λ i. record { sheet = same i; tableau = tableau i; counter = add-one St.counter i });
          }

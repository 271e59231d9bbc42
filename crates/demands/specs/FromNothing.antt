-- Phone orders (02, Five): an accepted edit gives what solving the edited sheet from nothing gives,
-- but for the rounds, and the standing sheet after it passes its first check again.
use Rattle.std.specs.Prelude.{◌≡◌, ◌&&◌}
use Rattle.prelude.specs.Words.{refl, sym, ap, ◌∙◌, Bool, true, List, none, subst, by_option, ℕ}
use Rattle.prelude.specs.Words.{eqb, eq-eqb, not-false}
use Rattle.transport.specs.declared.Cell.{Cell}
use Rattle.transport.specs.declared.Change.{Change}
use Rattle.transport.specs.declared.Edit.{Edit}
use Rattle.transport.specs.declared.Tableau.{Tableau}
use Rattle.transport.specs.Lists.{all}
use Rattle.transport.specs.Problem.{Problem, sources, sinks}
use Rattle.transport.specs.Sheet.{Sheet, sheet_tests, refusal}
use Rattle.transport.specs.Extended.{surplus, wanted, extended}
use Rattle.transport.specs.Parties.{rows_left_of, columns_left, struck, problem_of}
use Rattle.transport.specs.Tableau.{cells_of, tableau_of, basis_size}
use Rattle.transport.specs.Belonging.{cells_belong}
use Rattle.transport.specs.Potential.{is_finished_of}
use Rattle.transport.specs.OwnNumbers.{own, renumbered, covers, belongs_to}
use Rattle.transport.specs.Round.{run, round_bound}
use Rattle.transport.specs.Calls.{given, Solution, tableau_tests, inside, finished_tests, run_from}
use Rattle.transport.specs.Calls.{solution_from, solution, solve_tests, solve_call}
use Rattle.transport.specs.Standing.{edited, Standing, Passes, last_tableau_of, set_up_call, standing_tests, bad_edit}
use Rattle.transport.specs.Standing.{edit_tests, edit_from, carried_out, edit_call, stands_after}
use Rattle.transport.specs.Statements.{Accepted, Belongs, FirstFinished, FromNothing}
use Rattle.transport.specs.Laws.ListLaws.{and_right}
use Rattle.transport.specs.Laws.SheetLaws.{refusal-clear, refusal-pass, accepted, passes}
use Rattle.transport.specs.Laws.CallLaws.{unless-given, unless-refused, unless-given_iff, refusal-last}
use Rattle.transport.specs.Laws.OwnLaws.{length-own, renumbered-own}
use Rattle.transport.proofs.Sound.{sound, rows_left, columns-left}
use Rattle.tableaux.specs.Belonging.{belongs_iff, belongs-amounts}
use Rattle.tableaux.specs.Starting.{start-belongs}
use Rattle.tableaux.specs.Running.{run-done_iff, run-reached, run-finished}
use Rattle.tableaux.specs.Ending.{run_ends, run-belongs, start-finished, start-last}
use Rattle.reduction.specs.OwnBelonging.{belongs_to_iff, own-belongs}
use Rattle.demands.specs.Demand3.{solution-best}
use Rattle.demands.specs.Says.{refusal-front, cells_for}
use Rattle.demands.specs.EqualPrices.{given-equal}

-- ---- the first check

-- A tableau that is not refused belongs, among the parties left.
passes-belongs : (S : Sheet) (t : Tableau) → refusal (tableau_tests S t) ≡ none → Belongs (problem_of S) (inside S t)
unfolding tableau_tests belongs_to inside problem_of
passes-belongs S t e =
    let (sheet, own) = (refusal-last (sheet_tests S) _).0 e in
    let ok = sound (accepted S sheet) in
    let E : Problem = extended S in
    let count : Bool = eqb t.count (basis_size (sources (struck E)) (sinks (struck E))) in
    let front : Bool = count && all (covers E) (cells_of t) in
    let cells = and_right front (cells_belong (struck E) (renumbered E (cells_of t))) (not-false _ own) in
    (belongs_iff (problem_of S) (inside S t) ok.sources_low ok.sinks_low).0 cells

-- What is known of a sheet and a tableau that pass the first check.
record Stands (S : Sheet) (t : Tableau) : Type 1 where
  pub accepted : Accepted S
  pub belongs : Belongs (problem_of S) (inside S t)
  pub finished : is_finished_of (problem_of S) (inside S t) ≡ true

stands : (S : Sheet) (t : Tableau) → refusal (finished_tests S t) ≡ none → Stands S t
unfolding finished_tests tableau_tests
stands S t e =
    let (front, done) = (refusal-last (tableau_tests S t) _).0 e in
    let (sheet, own) = (refusal-last (sheet_tests S) _).0 front in
    record { accepted = accepted S sheet; belongs = passes-belongs S t front; finished = not-false _ done }

module _ {S : Sheet} (ok : Accepted S) {T : List Cell} (w : Belongs (problem_of S) T) where
  -- Under own numbers and back it is the same tableau.
  inside-own : inside S (tableau_of (own (extended S) T)) ≡ T
  unfolding inside problem_of
  inside-own = rw (cells_for (own (extended S) T), renumbered-own (extended S) T w.on_sheet)

  own-passes : refusal (tableau_tests S (tableau_of (own (extended S) T))) ≡ none
  unfolding tableau_tests belongs_to problem_of extended rows_left_of columns_left tableau_of
  own-passes =
      let U : List Cell = own (extended S) T in
      let cells = (belongs_to_iff (extended S) U (rows_left ok) (columns-left ok)).1
      (own-belongs (extended S) T (rows_left ok) w) in
      let count = length-own (extended S) T ∙ w.count in
      (refusal-last (sheet_tests S) _).1 (passes ok, rw (cells_for U, eq-eqb _ _ count, cells))

  -- A finished tableau of the parties left, under own numbers, passes the first check.
  own-stands : is_finished_of (problem_of S) T ≡ true → refusal (finished_tests S (tableau_of (own (extended S) T))) ≡ none
  unfolding finished_tests
  own-stands done = (refusal-last (tableau_tests S _) _).1 (own-passes, rw (inside-own, done))

-- ---- an edit

module _ (St : Standing) where
  abbrev S : Sheet
  S = St.sheet

  go : (row col : ℕ) (change : Change) → let e : Edit = record { row = row; col = col; change = change } in
      Passes St → Accepted (edited S e) → Belongs (problem_of (edited S e)) (edit_from St e)
  unfolding edited edit_from problem_of extended wanted surplus struck rows_left_of columns_left standing_tests
  go row col (Change.Cost c) w ok =
      let S' : Sheet = edited S (record { row = row; col = col; change = Change.Cost c }) in
      let new = sound ok in
      let kept = stands S St.tableau w in
      let old = sound kept.accepted in
      let T : List Cell = inside S St.tableau in
      let cells = (belongs_iff (problem_of S) T old.sources_low old.sinks_low).1 kept.belongs in
      (belongs_iff (problem_of S') T new.sources_low new.sinks_low).0
      (belongs-amounts (problem_of S') (problem_of S) T refl refl ∙ cells)
  go row col (Change.Amounts s d) w ok =
      start-belongs (problem_of (edited S (record { row = row; col = col; change = Change.Amounts s d }))) (sound ok)

  -- The tableau on which its rounds begin belongs to the problem of the edited sheet: belonging
  -- looks at amounts alone, so a cost edit may go on from the kept tableau.
  pub edit_begins : (e : Edit) → Passes St → Accepted (edited S e) → Belongs (problem_of (edited S e)) (edit_from St e)
  edit_begins e w ok = go e.row e.col e.change w ok

  module _ (e : Edit) (w : Passes St) (ok : Accepted (edited S e)) where
    abbrev P : Problem
    P = problem_of (edited S e)

    abbrev last : List Cell
    last = (run P (round_bound P) (edit_from St e)).tableau

    last-belongs : Belongs P last
    last-belongs = run-belongs (sound ok) (round_bound P) (edit_from St e) (edit_begins e w ok)

    last-finished : is_finished_of P last ≡ true
    last-finished =
        run-finished P (round_bound P) (edit_from St e) ∙ run_ends (sound ok) (edit_from St e) (edit_begins e w ok)

    -- The standing sheet after the edit passes the first check.
    stays : Passes (carried_out St e)
    unfolding standing_tests carried_out last_tableau_of run_from
    stays = own-stands ok last-belongs last-finished

    -- The rounds are those from where it begins to the first finished tableau.
    its_rounds : FirstFinished P (edit_from St e) (solution_from (edited S e) (edit_from St e)).rounds
    unfolding solution_from
    its_rounds =
        let ends = run_ends (sound ok) (edit_from St e) (edit_begins e w ok) in
        let (h, l, r) = (run-done_iff P (round_bound P) (edit_from St e)).0 ends in
        rw (run-reached P h (round_bound P) (edit_from St e) l r) r

    -- The tableaux to which the rounds of the edit and the rounds from the start lead both belong
    -- and are finished, so that they have the same prices. Plan and cost are the sheet's.
    same-solution : let s = solution (edited S e) in let r = solution_from (edited S e) (edit_from St e) in
        (r.cost ≡ s.cost) × (r.u ≡ s.u) × (r.v ≡ s.v) × (r.plan ≡ s.plan)
    unfolding solution solution_from
    same-solution =
        let done = start-finished (sound ok) in
        let (u, v) = given-equal (edited S e) (sound ok) last-belongs (start-last (sound ok)) last-finished done in
        (refl, u, v, refl)

-- An accepted edit, in the words of the request.
pub from_nothing : (St : Standing) (e : Edit) (uRoom vRoom plan_room : ℕ) (s : Solution)
    → edit_call St e uRoom vRoom plan_room ≡ given s → FromNothing St e uRoom vRoom plan_room s
unfolding edit_call edit_tests solve_tests solve_call
from_nothing St e uRoom vRoom plan_room s given-s =
    let S' : Sheet = edited St.sheet e in
    let (clear, is) = (unless-given_iff (edit_tests St e uRoom vRoom plan_room) (solution_from S' (edit_from St e)) s).0
    given-s in
    let front = refusal-front (standing_tests St) _ clear in
    let later = sym (refusal-pass (standing_tests St) _ front) ∙ clear in
    let (known, rest) = refusal-clear (bad_edit St e) (solve_tests S' uRoom vRoom plan_room) later in
    let ok = accepted S' (refusal-front (sheet_tests S') _ rest) in
    let (cost, u, v, plan) = same-solution St e front ok in
    let is-cost = ap (λ (r : Solution). r.cost) is ∙ cost in
    let is-plan = ap (λ (r : Solution). r.plan) is ∙ plan in
    let is-rounds = ap (λ (r : Solution). r.rounds) is in
    record {
      solved = unless-given (solve_tests S' uRoom vRoom plan_room) (solution S') rest;
      cost = is-cost;
      u = ap (λ (r : Solution). r.u) is ∙ u;
      v = ap (λ (r : Solution). r.v) is ∙ v;
      plan = is-plan;
      best = rw (is-cost, is-plan) (solution-best S' (sound ok));
      rounds = subst (λ (k : ℕ). FirstFinished (problem_of S') (edit_from St e) k) (sym is-rounds)
          (its_rounds St e front ok);
      stands = stays St e front ok;
    }

-- What is set up passes the first check.
pub set-up-stands : (S : Sheet) (St : Standing) → set_up_call S ≡ given St → Passes St
unfolding set_up_call standing_tests last_tableau_of run_from
set-up-stands S St e =
    let (clear, is) = (unless-given_iff (sheet_tests S) _ St).0 e in
    let ok = accepted S clear in
    rw is (own-stands ok (start-last (sound ok)) (start-finished (sound ok)))

-- Whatever an edit answers, the sheet that then stands passes the first check.
module _ (St : Standing) (e : Edit) (uRoom vRoom plan_room : ℕ) where
  pub edit_stands : Passes St → Passes (stands_after (edit_call St e uRoom vRoom plan_room) St (carried_out St e))
  unfolding stands_after edit_call
  edit_stands w =
      let tests = edit_tests St e uRoom vRoom plan_room in
      let s : Solution = solution_from (edited St.sheet e) (edit_from St e) in
      by_option (refusal tests)
      (λ n. let is = unless-given tests s n in rw is (from_nothing St e uRoom vRoom plan_room s is).stands)
      (λ k h. rw (unless-refused tests s k h) w)

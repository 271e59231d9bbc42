-- Run, case by case: the answers of the call.
use Rattle.std.specs.Prelude.{◌≡◌, Ok, Err}
use Rattle.prelude.specs.Words.{refl, ℕ, Bool, true, false, none, some, List}
use Rattle.transport.specs.declared.Refusal.{Refusal}
use Rattle.transport.specs.declared.RunOutcome.TheVariants as RunOutcome
use Rattle.transport.specs.declared.Cell.{Cell}
use Rattle.transport.specs.declared.Tableau.{Tableau}
use Rattle.transport.specs.Sheet.{Sheet, refusal}
use Rattle.transport.specs.Extended.{extended}
use Rattle.transport.specs.Parties.{problem_of}
use Rattle.transport.specs.OwnNumbers.{own}
use Rattle.transport.specs.Tableau.{tableau_of}
use Rattle.transport.specs.Round.{run}
use Rattle.transport.specs.Calls.{refused, given, tableau_tests, inside, run_from, run_call}
use Rattle.transport.specs.Laws.CallLaws.{unless-given, unless-refused}
use Rattle.transport.specs.Answers.{result_of, run_shown, run_outcome, run_answer}

pub answer-finished : (T : List Cell) (made : ℕ) {t : Tableau} → t ≡ tableau_of T
    → Ok (record { outcome = RunOutcome.Finished made; tableau = t })
    ≡ run_answer (given (record { finished = true; tableau = T; rounds = made }))
unfolding run_answer result_of run_shown run_outcome
answer-finished T made e = rw e

pub answer-spent : (T : List Cell) (made : ℕ) {t : Tableau} → t ≡ tableau_of T
    → Ok (record { outcome = RunOutcome.Spent made; tableau = t })
    ≡ run_answer (given (record { finished = false; tableau = T; rounds = made }))
unfolding run_answer result_of run_shown run_outcome
answer-spent T made e = rw e

-- The run is what its parts say, under the parties' own numbers.
pub run_is : (S : Sheet) (allowance : ℕ) (T : List Cell) {done : Bool} {made : ℕ}
    → let r = run (problem_of S) allowance T in
    r.finished ≡ done → r.rounds ≡ made
    → record { finished = done; tableau = own (extended S) r.tableau; rounds = made } ≡ run_from S allowance T
unfolding run_from
run_is S allowance T d k = rw (← d, ← k)

pub run-refused : (r : Refusal) → Err r ≡ run_answer (refused r)
unfolding run_answer result_of
run-refused r = refl

module _ (S : Sheet) (t : Tableau) (allowance : ℕ) where
  -- What the tests refuse, the call refuses.
  pub run-refuses : (r : Refusal) → refusal (tableau_tests S t) ≡ some r → run_call S t allowance ≡ refused r
  unfolding run_call
  run-refuses r e = unless-refused (tableau_tests S t) (run_from S allowance (inside S t)) r e

  pub call-refused : (r : Refusal) → refusal (tableau_tests S t) ≡ some r → Err r ≡ run_answer (run_call S t allowance)
  call-refused r e = rw (run-refuses r e) (run-refused r)

  -- Else it gives the run, ..
  pub run-given : refusal (tableau_tests S t) ≡ none → run_call S t allowance ≡ given (run_from S allowance (inside S t))
  unfolding run_call
  run-given e = unless-given (tableau_tests S t) (run_from S allowance (inside S t)) e

  -- .. as its parts say, under the parties' own numbers.
  pub call-given : refusal (tableau_tests S t) ≡ none → {within : ℕ} → within ≡ allowance → {done : Bool} {made : ℕ}
      → let r = run (problem_of S) within (inside S t) in
      r.finished ≡ done → r.rounds ≡ made
      → Ok (run_shown (record { finished = done; tableau = own (extended S) r.tableau; rounds = made }))
      ≡ run_answer (run_call S t allowance)
  unfolding run_answer result_of run_from
  call-given e w d k = rw (← d, ← k, w, run-given e)

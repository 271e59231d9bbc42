-- The edited sheet, solved from some tableau on, or refused.
use Rattle.std.specs.Prelude.{Ok, Err, IfOk, ◌≡◌, ◌<◌}
use Rattle.std.specs.declared.result.Result.{Result}
use Rattle.prelude.specs.Words.{List, none, some, ℕ, ℤ, length}
use Rattle.transport.specs.declared.Cell.{Cell}
use Rattle.transport.specs.declared.Refusal.{Refusal}
use Rattle.transport.specs.declared.SolveAnswer.{SolveAnswer}
use Rattle.transport.specs.Sheet.{Sheet, sheet_tests, refusal}
use Rattle.transport.specs.Calls.{unless, solution_from, solve_tests}
use Rattle.transport.specs.Standing.{last_tableau_of}
use Rattle.solving.specs.Rooms.{lacks, tests_early, tests-short}
use Rattle.solving.specs.Told.{Told, told-refused}
use Rattle.editing.specs.declared.solve.Edited.{Edited}

-- The answer beside the tableau.
abbrev pub answer_of : Result Edited Refusal → Result SolveAnswer Refusal
answer_of (Ok done) = Ok done.answer
answer_of (Err k) = Err k

-- The edited sheet S is solved from T on, or refused as solve refuses it: the answer, what the lent
-- lists then hold, and the last tableau.
pub record SolvedAs (S : Sheet) (T : List Cell) (r : Result Edited Refusal) (u u' v v' : List ℤ)
    (plan plan' : List ℕ) : Type 0 where
  pub told : Told (unless (solve_tests S (length u) (length v) (length plan)) (solution_from S T)) (answer_of r)
      u u' v v' plan plan'
  pub tableau : IfOk r (λ done. done.tableau ≡ last_tableau_of S T)

pub sheet-refused : (S : Sheet) (T : List Cell) (k : Refusal) (u v : List ℤ) (plan : List ℕ)
    → refusal (sheet_tests S) ≡ some k → SolvedAs S T (Err k) u u v v plan plan
sheet-refused S T k u v plan e = record { told = told-refused (tests_early S _ _ _ _ k e); tableau = tt }

pub room-refused : (S : Sheet) (T : List Cell) (u v : List ℤ) (plan : List ℕ)
    → refusal (sheet_tests S) ≡ none → 0 < lacks S (length u) (length v) (length plan)
    → SolvedAs S T (Err Refusal.TooShort) u u v v plan plan
room-refused S T u v plan e short = record { told = told-refused (tests-short S _ _ _ _ e short); tableau = tt }

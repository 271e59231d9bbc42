-- Start, case by case.
use Rattle.std.specs.Prelude.{◌≡◌, Ok, Err}
use Rattle.prelude.specs.Words.{none, some}
use Rattle.transport.specs.declared.Refusal.{Refusal}
use Rattle.transport.specs.Sheet.{Sheet, refusal, sheet_tests}
use Rattle.transport.specs.Extended.{extended}
use Rattle.transport.specs.Parties.{problem_of}
use Rattle.transport.specs.OwnNumbers.{own}
use Rattle.transport.specs.Tableau.{start, tableau_of}
use Rattle.transport.specs.Calls.{start_call}
use Rattle.transport.specs.Laws.CallLaws.{unless-given, unless-refused}
use Rattle.transport.specs.Answers.{result_of, start_answer}

module _ (S : Sheet) where
  pub start-refused : (r : Refusal) → refusal (sheet_tests S) ≡ some r → Err r ≡ start_answer (start_call S)
  unfolding start_answer result_of start_call
  start-refused r e = rw (unless-refused (sheet_tests S) (own (extended S) (start (problem_of S))) r e)

  pub start-given : refusal (sheet_tests S) ≡ none
      → Ok (tableau_of (own (extended S) (start (problem_of S)))) ≡ start_answer (start_call S)
  unfolding start_answer result_of start_call
  start-given e = rw (unless-given (sheet_tests S) (own (extended S) (start (problem_of S))) e)

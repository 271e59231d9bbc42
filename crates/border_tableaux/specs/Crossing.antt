-- The answers of round, run and settle cross the border as Border says.
use Rattle.std.specs.Prelude.{◌≡◌, Ok, Err, ⊤}
use Rattle.std.specs.declared.result.Result.{Result}
use Rattle.prelude.specs.Words.{refl, true, false, List, ℕ, by_test}
use Rattle.transport.specs.declared.Refusal.{Refusal}
use Rattle.transport.specs.declared.RoundAnswer.{RoundAnswer}
use Rattle.transport.specs.declared.RunAnswer.{RunAnswer}
use Rattle.transport.specs.declared.RunOutcome.{RunOutcome}
use Rattle.transport.specs.Refusals.{number}
use Rattle.transport.specs.Tableau.{no_tableau}
use Rattle.transport.specs.Round.{Run}
use Rattle.transport.specs.Calls.{Answer, refused, given, Round, finished, moved}
use Rattle.transport.specs.Answers.{result_of, no_prices, round_shown, round_answer, run_outcome, run_shown}
use Rattle.transport.specs.Answers.{run_answer, settle_answer}
use Rattle.border.specs.Border.{round_out, run_out, number_of}
use Rattle.border.specs.declared.RoundOut.{RoundOut}
use Rattle.border.specs.declared.RunOut.{RunOut}

abbrev pub rounded : Result RoundAnswer Refusal → RoundOut
rounded (Ok (RoundAnswer.Moved t)) = record { refusal = 0; finished = false; tableau = t; u = no_prices; v = no_prices }
rounded (Ok (RoundAnswer.Finished u v)) = record { refusal = 0; finished = true; tableau = no_tableau; u = u; v = v }
rounded (Err r) = record { refusal = number r; finished = false; tableau = no_tableau; u = no_prices; v = no_prices }

pub rounded-is : (a : Answer Round) → rounded (round_answer a) ≡ round_out a
unfolding round_answer result_of round_shown round_out
rounded-is (refused r) = refl
rounded-is (given (finished u v)) = refl
rounded-is (given (moved T)) = refl

abbrev pub ran : Result RunAnswer Refusal → RunOut
ran (Ok a) = elim a.outcome [
  | RunOutcome.Finished k ↦ record { refusal = 0; finished = true; rounds = k; tableau = a.tableau }
  | RunOutcome.Spent k ↦ record { refusal = 0; finished = false; rounds = k; tableau = a.tableau }
]
ran (Err r) = record { refusal = number r; finished = false; rounds = 0; tableau = no_tableau }

pub ran-is : (a : Answer Run) → ran (run_answer a) ≡ run_out a
unfolding run_answer result_of run_shown run_out run_outcome
ran-is (refused r) = refl
ran-is (given r) = by_test r.finished (λ e. rw (e, run_outcome)) (λ e. rw (e, run_outcome))

abbrev pub settled_as : Result ⊤ Refusal → ℕ
settled_as (Ok x) = 0
settled_as (Err r) = number r

pub settled_is : (a : Answer (List ℕ)) → settled_as (settle_answer a) ≡ number_of a
unfolding settle_answer result_of number_of
settled_is (refused r) = refl
settled_is (given x) = refl

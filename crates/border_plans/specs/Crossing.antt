-- The declared answer of solve crosses the border as Border says.
use Rattle.std.specs.Prelude.{◌≡◌, Ok, Err}
use Rattle.std.specs.declared.result.Result.{Result}
use Rattle.prelude.specs.Words.{refl, pos}
use Rattle.transport.specs.declared.Refusal.{Refusal}
use Rattle.transport.specs.declared.SolveAnswer.{SolveAnswer}
use Rattle.transport.specs.Refusals.{number}
use Rattle.transport.specs.Calls.{Answer, refused, given, Solution}
use Rattle.transport.specs.Answers.{result_of, solve_shown, solve_answer}
use Rattle.border.specs.declared.SolveOut.{SolveOut}
use Rattle.border.specs.Border.{solve_out_of}

abbrev pub solved_as : Result SolveAnswer Refusal → SolveOut
solved_as (Ok s) = record { refusal = 0; cost = s.cost; rounds = s.rounds }
solved_as (Err r) = record { refusal = number r; cost = pos 0; rounds = 0 }

pub solved-is : (a : Answer Solution) → solved_as (solve_answer a) ≡ solve_out_of a
unfolding solve_answer result_of solve_shown solve_out_of
solved-is (refused r) = refl
solved-is (given s) = refl

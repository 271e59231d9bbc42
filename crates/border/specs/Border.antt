-- What a program in C or Rust sees of each call's answer: the number of the refusal or 0, and the values that were given; where there are none, zeros.
use Rattle.std.specs.Prelude.{Some, None, true, false, List, ℕ, pos, length}
pub use Rattle.border.specs.declared.StartOut.{StartOut}
pub use Rattle.border.specs.declared.RoundOut.{RoundOut}
pub use Rattle.border.specs.declared.RunOut.{RunOut}
pub use Rattle.border.specs.declared.SolveOut.{SolveOut}
pub use Rattle.border.specs.declared.ReadOut.{ReadOut}
pub use Rattle.border.specs.declared.WriteOut.{WriteOut}
use Rattle.transport.specs.Refusals.{number, place_of}
use Rattle.transport.specs.Sheet.{Sheet, roasteries, cafes}
use Rattle.transport.specs.Tableau.{tableau_of, no_tableau}
use Rattle.transport.specs.Round.{Run}
use Rattle.transport.specs.Calls.{Answer, refused, given, Solution, Round, finished, moved}
use Rattle.transport.specs.Answers.{prices, no_prices}
use Rattle.transport.specs.declared.Cell.{Cell}

unfoldable pub start_out_of : Answer (List Cell) → StartOut
start_out_of (refused r) = record { refusal = number r; tableau = no_tableau }
start_out_of (given T) = record { refusal = 0; tableau = tableau_of T }

unfoldable pub round_out : Answer Round → RoundOut
round_out (refused r) = record { refusal = number r; finished = false; tableau = no_tableau; u = no_prices; v = no_prices }
round_out (given (moved T)) = record { refusal = 0; finished = false; tableau = tableau_of T; u = no_prices; v = no_prices }
round_out (given (finished u v)) = record { refusal = 0; finished = true; tableau = no_tableau; u = prices u; v = prices v }

unfoldable pub run_out : Answer Run → RunOut
run_out (refused r) = record { refusal = number r; finished = false; rounds = 0; tableau = no_tableau }
run_out (given r) = record { refusal = 0; finished = r.finished; rounds = r.rounds; tableau = tableau_of r.tableau }

-- The number of the refusal, or 0.
unfoldable pub number_of : {A : Type 0} → Answer A → ℕ
number_of (refused r) = number r
number_of (given x) = 0

unfoldable pub solve_out_of : Answer Solution → SolveOut
solve_out_of (refused r) = record { refusal = number r; cost = pos 0; rounds = 0 }
solve_out_of (given s) = record { refusal = 0; cost = s.cost; rounds = s.rounds }

unfoldable pub read_out_of : Answer Sheet → ReadOut
read_out_of (refused r) = elim (place_of r) [
  | None ↦ record { refusal = number r; sources = 0; sinks = 0; place = 0 }
  | Some p ↦ record { refusal = number r; sources = 0; sinks = 0; place = p }
]
read_out_of (given S) = record { refusal = 0; sources = roasteries S; sinks = cafes S; place = 0 }

unfoldable pub write_out_of : Answer (List ℕ) → WriteOut
write_out_of (refused r) = record { refusal = number r; length = 0 }
write_out_of (given text) = record { refusal = 0; length = length text }

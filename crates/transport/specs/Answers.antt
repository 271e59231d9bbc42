-- The declared answers of the calls: which one stands for the answer of a definition (`.._answer`),
-- and what one says in its terms, given what the lent lists then hold (`.._says`). A call answers by a
-- `Result`. Fields without a meaning hold zeros.
use Rattle.std.specs.Prelude.{true, false, List, [], ℕ, ◌*◌, ℤ, pos, length, take, Ok, Err, ⊤}
use Rattle.std.specs.declared.result.Result.{Result}
use Rattle.std.proofs.Math.Option.{none, some}
pub use Rattle.transport.specs.declared.RoundAnswer.{RoundAnswer}
pub use Rattle.transport.specs.declared.RunAnswer.{RunAnswer}
pub use Rattle.transport.specs.declared.RunOutcome.{RunOutcome}
pub use Rattle.transport.specs.declared.SolveAnswer.{SolveAnswer}
pub use Rattle.transport.specs.declared.SetUpAnswer.{SetUpAnswer}
pub use Rattle.transport.specs.declared.EditAnswer.{EditAnswer}
use Rattle.transport.specs.declared.Standing as Declared
pub use Rattle.transport.specs.declared.Counts.{Counts}
use Rattle.transport.specs.Refusals.{Refusal, number}
use Rattle.transport.specs.Lists.{padded}
use Rattle.transport.specs.Limits.{max_side}
use Rattle.transport.specs.Sheet.{Sheet, sheet_of, roasteries, cafes}
use Rattle.transport.specs.Tableau.{Cell, Tableau, tableau_of, cells_of, no_tableau}
use Rattle.transport.specs.Round.{Run}
use Rattle.transport.specs.Calls.{Answer, refused, given, Round, finished, moved, Solution}
use Rattle.transport.specs.Standing.{Standing, struct_of}

-- A refusal is an error; what a call gives is shown as `show` says.
unfoldable pub result_of : {A B : Type 0} → (A → B) → Answer A → Result B Refusal
result_of show (refused r) = Err r
result_of show (given x) = Ok (show x)

-- And back.
unfoldable pub said : {A B : Type 0} → (B → A) → Result B Refusal → Answer A
said read (Err r) = refused r
said read (Ok x) = given (read x)

-- ---- start

unfoldable pub start_answer : Answer (List Cell) → Result Tableau Refusal
start_answer = result_of tableau_of

unfoldable pub start_says : Result Tableau Refusal → Answer (List Cell)
start_says = said cells_of

-- ---- round: m and n say how many of the potentials have a meaning

-- The prices as an answer holds them, and those of an answer that gives none.
unfoldable pub prices : List ℤ → List ℤ
prices = padded max_side (pos 0)

unfoldable pub no_prices : List ℤ
no_prices = prices []

unfoldable pub round_shown : Round → RoundAnswer
round_shown (finished u v) = RoundAnswer.Finished (prices u) (prices v)
round_shown (moved T) = RoundAnswer.Moved (tableau_of T)

unfoldable pub round_answer : Answer Round → Result RoundAnswer Refusal
round_answer = result_of round_shown

unfoldable pub round_read : ℕ → ℕ → RoundAnswer → Round
round_read m n (RoundAnswer.Moved t) = moved (cells_of t)
round_read m n (RoundAnswer.Finished u v) = finished (take m u) (take n v)

unfoldable pub round_says : ℕ → ℕ → Result RoundAnswer Refusal → Answer Round
round_says m n = said (round_read m n)

-- ---- run

unfoldable pub run_outcome : Run → RunOutcome
run_outcome r = elim r.finished [
  | true ↦ RunOutcome.Finished r.rounds
  | false ↦ RunOutcome.Spent r.rounds
]

unfoldable pub run_shown : Run → RunAnswer
run_shown r = record { outcome = run_outcome r; tableau = tableau_of r.tableau }

unfoldable pub run_answer : Answer Run → Result RunAnswer Refusal
run_answer = result_of run_shown

unfoldable pub run_read : RunAnswer → Run
run_read a = elim a.outcome [
  | RunOutcome.Finished k ↦ record { finished = true; tableau = cells_of a.tableau; rounds = k }
  | RunOutcome.Spent k ↦ record { finished = false; tableau = cells_of a.tableau; rounds = k }
]

unfoldable pub run_says : Result RunAnswer Refusal → Answer Run
run_says = said run_read

-- ---- settle, for m × n lanes

unfoldable pub settle_answer : Answer (List ℕ) → Result ⊤ Refusal
settle_answer = result_of (λ plan. tt)

unfoldable pub settle_says : ℕ → Result ⊤ Refusal → List ℕ → Answer (List ℕ)
settle_says lanes a plan = said (λ x. take lanes plan) a

-- ---- solve, for m sources and n sinks

unfoldable pub solve_shown : Solution → SolveAnswer
solve_shown s = record { cost = s.cost; rounds = s.rounds }

unfoldable pub solve_answer : Answer Solution → Result SolveAnswer Refusal
solve_answer = result_of solve_shown

unfoldable pub solve_says : ℕ → ℕ → Result SolveAnswer Refusal → List ℤ → List ℤ → List ℕ → Answer Solution
solve_says m n a u v plan =
    said (λ s. record { cost = s.cost; rounds = s.rounds; u = take m u; v = take n v; plan = take (m * n) plan }) a

-- ---- set up and edit: the answers cross to C as they are, so `refusal` is 0 or the number

unfoldable pub set_up_answer : Answer Standing → SetUpAnswer
set_up_answer (refused r) = record {
  refusal = number r;
  standing = record { sheet = struct_of (sheet_of [] [] []); tableau = no_tableau; counter = 0 };
}
set_up_answer (given St) = record {
  refusal = 0;
  standing = record { sheet = struct_of St.sheet; tableau = St.tableau; counter = St.counter };
}

-- A refusal gives the standing sheet back as it was.
unfoldable pub edit_answer : Answer Solution → Declared.Standing → Declared.Standing → EditAnswer
edit_answer (refused r) old new = record { refusal = number r; cost = pos 0; rounds = 0; after = old }
edit_answer (given s) old new = record { refusal = 0; cost = s.cost; rounds = s.rounds; after = new }

-- ---- read sheet

unfoldable pub counts_of : Sheet → Counts
counts_of S = record { sources = roasteries S; sinks = cafes S }

unfoldable pub read_answer : Answer Sheet → Result Counts Refusal
read_answer = result_of counts_of

unfoldable pub read_says : Result Counts Refusal → List ℕ → List ℕ → List ℤ → Answer Sheet
read_says a supply demand cost =
    said (λ c. record { supply = take c.sources supply; demand = take c.sinks demand; cost = take (c.sources * c.sinks) cost }) a

-- ---- write sheet and write plan

unfoldable pub write_answer : Answer (List ℕ) → Result ℕ Refusal
write_answer = result_of length

unfoldable pub write_says : Result ℕ Refusal → List ℕ → Answer (List ℕ)
write_says a out = said (λ k. take k out) a

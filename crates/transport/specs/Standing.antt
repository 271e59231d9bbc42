-- Phone orders (paper 02, Five): a standing sheet is a sheet that is kept with its finished
-- tableau, and edits change it.
use Rattle.std.specs.Prelude.{◌≡◌, Bool, not, ◌&&◌, ◌||◌, List, ◌∷◌, ◌++◌, ℕ, suc, ◌*◌, ◌-◌, ◌^◌, eqb, ltb, ℤ, pos, set, drop}
use Rattle.std.proofs.Math.Option.{none}
pub use Rattle.transport.specs.declared.Change.{Change}
pub use Rattle.transport.specs.declared.Edit.{Edit}
use Rattle.transport.specs.declared.KeptSheet.{KeptSheet}
use Rattle.transport.specs.declared.Standing as Declared
use Rattle.transport.specs.Lists.{first_of, padded}
use Rattle.transport.specs.Limits.{max_sources, max_sinks}
use Rattle.transport.specs.Problem.{place}
use Rattle.transport.specs.Refusals.{Refusal}
use Rattle.transport.specs.Sheet.{Sheet, sheet_of, roasteries, cafes, sheet_tests, refusal}
use Rattle.transport.specs.Parties.{problem_of}
use Rattle.transport.specs.Tableau.{Cell, Tableau, tableau_of, start}
use Rattle.transport.specs.Round.{round_bound}
use Rattle.transport.specs.Calls.{Answer, refused, given, unless, inside, finished_tests, run_from}
use Rattle.transport.specs.Calls.{Solution, solution_from, solve_tests}

-- ---- edits

-- One edit sets the cost of one lane, or one supply and one demand together. It names one roastery
-- and one café.
unfoldable pub edited : Sheet → Edit → Sheet
edited S e = elim e.change [
  | Change.Cost c ↦ sheet_of S.supply S.demand (set S.cost (place (cafes S) e.row e.col) c)
  | Change.Amounts s d ↦ sheet_of (set S.supply e.row s) (set S.demand e.col d) S.cost
]

-- ---- the standing sheet

-- The tableau is kept under the parties' own numbers. The counter counts accepted edits.
pub record Standing : Type 0 where
  pub sheet : Sheet
  pub tableau : Tableau
  pub counter : ℕ

-- The finished tableau to which the rounds from T lead, under own numbers. T has the parties left.
unfoldable pub last_tableau_of : Sheet → List Cell → Tableau
last_tableau_of S T = tableau_of (run_from S (round_bound (problem_of S)) T).tableau

-- The set-up: from a sheet that solve accepts, refused as solve would refuse it. There are no lists
-- to be too short.
unfoldable pub set_up_call : Sheet → Answer Standing
set_up_call S = unless (sheet_tests S) (record { sheet = S; tableau = last_tableau_of S (start (problem_of S)); counter = 0 })

-- The first check of a standing sheet: as settle checks sheet and tableau, without 8.
unfoldable pub standing_tests : Standing → List (Bool × Refusal)
standing_tests St = finished_tests St.sheet St.tableau

abbrev pub Passes : Standing → Type 0
Passes St = refusal (standing_tests St) ≡ none

-- ---- the call

-- The largest value of the counter: it has 64 bits.
unfoldable pub max_counter : ℕ
max_counter = 2 ^ 64 - 1

-- 12: the edit names a roastery or café not on the sheet, or the counter is at its largest value.
unfoldable pub bad_edit : Standing → Edit → Bool × Refusal
bad_edit St e =
    let S = St.sheet in
    (not (ltb e.row (roasteries S) && ltb e.col (cafes S)) || eqb St.counter max_counter, Refusal.BadEdit)

-- The first check, then 12, then solve's refusals for the edited sheet, of which 8 is the last.
unfoldable pub edit_tests : Standing → Edit → ℕ → ℕ → ℕ → List (Bool × Refusal)
edit_tests St e uRoom vRoom plan_room =
    standing_tests St ++ (bad_edit St e ∷ solve_tests (edited St.sheet e) uRoom vRoom plan_room)

-- An edit of a cost goes on from the kept tableau, and one of amounts begins afresh.
unfoldable pub edit_from : Standing → Edit → List Cell
edit_from St e = elim e.change [
  | Change.Cost c ↦ inside St.sheet St.tableau
  | Change.Amounts s d ↦ start (problem_of (edited St.sheet e))
]

-- An accepted edit gives what solve gives, with the rounds made by this edit ..
unfoldable pub edit_call : Standing → Edit → ℕ → ℕ → ℕ → Answer Solution
edit_call St e uRoom vRoom plan_room =
    unless (edit_tests St e uRoom vRoom plan_room) (solution_from (edited St.sheet e) (edit_from St e))

-- .. and the sheet then stands edited, with the tableau of the last round, and the edit is counted.
unfoldable pub carried_out : Standing → Edit → Standing
carried_out St e = record {
  sheet = edited St.sheet e;
  tableau = last_tableau_of (edited St.sheet e) (edit_from St e);
  counter = suc St.counter;
}

-- How the sheet stands after a call: a refusal alters nothing.
unfoldable pub stands_after : {A : Type 0} → Answer A → Standing → Standing → Standing
stands_after (refused r) old new = old
stands_after (given a) old new = new

-- ---- the structs that calls take and give

-- The sheet of a struct: it has m roasteries and n cafés, even if the arrays have not so many
-- places.
unfoldable pub kept_sheet : KeptSheet → Sheet
kept_sheet k =
    sheet_of (first_of 0 k.m k.supply) (first_of 0 k.n k.demand) (first_of (pos 0) (k.m * k.n) k.cost)

-- The places of the arrays behind the sheet.
unfoldable pub spare : KeptSheet → List ℕ × List ℕ × List ℤ
spare k = (drop k.m k.supply, drop k.n k.demand, drop (k.m * k.n) k.cost)

-- The struct of a sheet: zeros stand behind its lists.
unfoldable pub struct_of : Sheet → KeptSheet
struct_of S = record {
  m = roasteries S;
  n = cafes S;
  supply = padded max_sources 0 S.supply;
  demand = padded max_sinks 0 S.demand;
  cost = padded (max_sources * max_sinks) (pos 0) S.cost;
}

-- A standing sheet from its struct.
unfoldable pub standing_of : Declared.Standing → Standing
standing_of s = record { sheet = kept_sheet s.sheet; tableau = s.tableau; counter = s.counter }

-- The samples of paper 01, P1 to P9, its text samples and its worked text, those of paper 02, One to Five, and a sample for each trap that these leave open,
-- as one theorem over the definitions.
mod Open
use Rattle.std.specs.Prelude.{◌≡◌, refl, true, false, List, [], ◌∷◌, ◌++◌, map, ℕ, ◌-◌, ℤ, pos, negsuc, neg_ℤ, replicate, Some, None}
use Rattle.std.proofs.Math.Option.{some}
use Prim.Native.String.{String}
use Rattle.transport.specs.Problem.{Problem, Lane, lane_cost}
use Rattle.transport.specs.Sheet.{Sheet}
use Rattle.transport.specs.Extended.{extended}
use Rattle.transport.specs.Tableau.{Cell, tableau_of, start}
use Rattle.transport.specs.Potential.{reduced_cost}
use Rattle.transport.specs.Round.{entering, next}
use Rattle.transport.specs.Plan.{plan_cost_of}
use Rattle.transport.specs.Refusals.{Refusal, number, place_of}
use Rattle.transport.specs.Calls.{Answer, refused, given, unless, start_call, finished, moved, round_call, run_call, settle_call, solve_call}
use Rattle.transport.specs.Standing.{Edit, edited, Standing, set_up_call, standing_tests, max_counter, edit_call, carried_out, stands_after, kept_sheet}
use Rattle.transport.specs.Standing.{spare, struct_of, standing_of}
use Rattle.transport.specs.declared.Change.TheVariants as Change
use Rattle.transport.specs.Text.{bytes, number_line}
use Rattle.transport.specs.SheetText.{read_sheet_call, write_sheet_call}
use Rattle.transport.specs.PlanText.{whole_line, write_plan_call, printed}
use Rattle.transport.specs.Samples.Open.{opened}

-- ---- a list of samples: what the definitions give, and what the paper says

infix 20 ◌is◌
pub data Sample : Type 1 where
  ◌is◌ : {A : Type 0} → A → A → Sample

abbrev pub Hold : List Sample → Type 0
Hold [] = Unit {0}
Hold ((got is expected) ∷ more) = (got ≡ expected) × Hold more

-- Lane and cell of source i and sink j, counted from 1 as in the paper; the cell holds q bags and e marks.
abbrev lane : ℕ → ℕ → Lane
lane i j = record { row = i - 1; col = j - 1 }

abbrev cell : ℕ → ℕ → ℤ → ℤ → Cell
cell i j q e = record { row = i - 1; col = j - 1; amount = record { q = q; e = e } }

-- The sheet of one source and one sink.
abbrev one_lane : ℕ → ℕ → ℤ → Sheet
one_lane s d c = record { supply = s ∷ []; demand = d ∷ []; cost = c ∷ [] }

-- Costs without a minus, and a number with one.
abbrev priced : List ℕ → List ℤ
priced = map pos

abbrev below_zero : ℕ → ℤ
below_zero k = neg_ℤ (pos k)

abbrev sheet1 : Sheet
sheet1 = record { supply = 3 ∷ 4 ∷ []; demand = 5 ∷ 2 ∷ []; cost = priced (4 ∷ 1 ∷ 2 ∷ 6 ∷ []) }

abbrev start1 : List Cell
start1 = cell 1 1 (pos 3) (pos 1) ∷ cell 2 1 (pos 2) (negsuc 0) ∷ cell 2 2 (pos 2) (pos 2) ∷ []

abbrev next1 : List Cell
next1 = cell 1 1 (pos 1) (negsuc 0) ∷ cell 1 2 (pos 2) (pos 2) ∷ cell 2 1 (pos 4) (pos 1) ∷ []

abbrev sheet3 : Sheet
sheet3 = record { supply = 5 ∷ 5 ∷ []; demand = 5 ∷ 5 ∷ []; cost = priced (1 ∷ 1 ∷ 1 ∷ 1 ∷ []) }

abbrev sheet4 : Sheet
sheet4 = record { supply = 1 ∷ 3 ∷ []; demand = 2 ∷ 1 ∷ 1 ∷ []; cost = priced (9 ∷ 0 ∷ 0 ∷ 0 ∷ 0 ∷ 0 ∷ []) }

abbrev problem4 : Problem
problem4 = extended sheet4

abbrev tableau5 : List Cell
tableau5 = cell 1 3 (pos 1) (pos 1) ∷ cell 2 1 (pos 2) (pos 0) ∷ cell 2 2 (pos 1) (pos 0) ∷ cell 2 3 (pos 0) (pos 1) ∷ []

abbrev text1 : List ℕ
text1 = bytes "supply 2\n3\n4\ndemand 2\n5\n2\ncost 2\n4 1\n2 6\n"

-- At its start both (1,2), at −1, and (1,3), at −5, could enter.
abbrev sheet10 : Sheet
sheet10 = record { supply = 1 ∷ 3 ∷ []; demand = 2 ∷ 1 ∷ 1 ∷ []; cost = priced (9 ∷ 8 ∷ 4 ∷ 0 ∷ 0 ∷ 0 ∷ []) }

-- One: the dear first roastery keeps what is not wanted ..
abbrev sheet_dear : Sheet
sheet_dear = record { supply = 3 ∷ 3 ∷ []; demand = 4 ∷ []; cost = priced (5 ∷ 1 ∷ []) }

abbrev start_dear : List Cell
start_dear = cell 1 1 (pos 3) (pos 1) ∷ cell 2 1 (pos 1) (negsuc 0) ∷ cell 2 2 (pos 2) (pos 2) ∷ []

abbrev last_dear : List Cell
last_dear = cell 1 1 (pos 1) (negsuc 0) ∷ cell 1 2 (pos 2) (pos 2) ∷ cell 2 1 (pos 3) (pos 1) ∷ []

-- .. each keeps a bag ..
abbrev sheet_split : Sheet
sheet_split = record { supply = 3 ∷ 3 ∷ []; demand = 2 ∷ 2 ∷ []; cost = priced (1 ∷ 9 ∷ 9 ∷ 1 ∷ []) }

-- .. both are as dear ..
abbrev sheet_even : Sheet
sheet_even = record { supply = 3 ∷ 3 ∷ []; demand = 4 ∷ []; cost = priced (1 ∷ 1 ∷ []) }

-- .. at the start the extra café's lane in row 1 and (2,1) could enter, both at −2 ..
abbrev sheet_extra_first : Sheet
sheet_extra_first = record { supply = 1 ∷ 2 ∷ []; demand = 1 ∷ 1 ∷ []; cost = priced (2 ∷ 2 ∷ 0 ∷ 1 ∷ []) }

-- .. at the start (1,2) and the extra café's lane in row 1 could, both at −1 ..
abbrev sheet_extra_later : Sheet
sheet_extra_later = record { supply = 1 ∷ 3 ∷ []; demand = 2 ∷ 1 ∷ []; cost = priced (3 ∷ 0 ∷ 2 ∷ 0 ∷ []) }

-- .. and one roastery with so many bags serves n cafés with one bag each, at 1 cent.
abbrev sheet_wide : ℕ → ℕ → Sheet
sheet_wide s n = record { supply = s ∷ []; demand = replicate n 1; cost = replicate n (pos 1) }

-- Two: the lane that earns more goes full, though there is more than is wanted ..
abbrev sheet_earns : Sheet
sheet_earns = record { supply = 3 ∷ 3 ∷ []; demand = 4 ∷ []; cost = pos 1 ∷ below_zero 5 ∷ [] }

-- .. costs of both signs, by which the rounds go from 3 to 0 and from 0 to −3 ..
abbrev sheet_both : Sheet
sheet_both = record { supply = 2 ∷ 3 ∷ []; demand = 1 ∷ 2 ∷ 2 ∷ []; cost = below_zero 1 ∷ pos 0 ∷ below_zero 1 ∷ below_zero 1 ∷ pos 0 ∷ pos 2 ∷ [] }

abbrev start_both : List Cell
start_both = cell 1 1 (pos 1) (pos 0) ∷ cell 1 2 (pos 1) (pos 1) ∷ cell 2 2 (pos 1) (negsuc 0) ∷ cell 2 3 (pos 2) (pos 2) ∷ []

abbrev middle_both : List Cell
middle_both = cell 1 1 (pos 1) (pos 0) ∷ cell 1 3 (pos 1) (pos 1) ∷ cell 2 2 (pos 2) (pos 0) ∷ cell 2 3 (pos 1) (pos 1) ∷ []

abbrev last_both : List Cell
last_both = cell 1 3 (pos 2) (pos 1) ∷ cell 2 1 (pos 1) (pos 0) ∷ cell 2 2 (pos 2) (pos 0) ∷ cell 2 3 (pos 0) (pos 1) ∷ []

-- .. and a text whose one cost is written so. The cost begins at byte 29.
abbrev with_cost : String → List ℕ
with_cost c = bytes "supply 1\n2\ndemand 1\n2\ncost 1\n" ++ bytes c

-- What read sheet says of it.
abbrev read_cost : String → Answer Sheet
read_cost c = read_sheet_call (with_cost c) 32 32 1024

abbrev stuck_at : ℕ → Answer Sheet
stuck_at p = refused (Refusal.NotSheetText p)

-- Four: P1's sheet with a closed café between its two ..
abbrev sheet_closed : Sheet
sheet_closed = record { supply = 3 ∷ 4 ∷ []; demand = 5 ∷ 0 ∷ 2 ∷ []; cost = priced (4 ∷ 7 ∷ 1 ∷ 2 ∷ 3 ∷ 6 ∷ []) }

abbrev start_closed : List Cell
start_closed = cell 1 1 (pos 3) (pos 1) ∷ cell 2 1 (pos 2) (negsuc 0) ∷ cell 2 3 (pos 2) (pos 2) ∷ []

abbrev next_closed : List Cell
next_closed = cell 1 1 (pos 1) (negsuc 0) ∷ cell 1 3 (pos 2) (pos 2) ∷ cell 2 1 (pos 4) (pos 1) ∷ []

-- .. with an empty first roastery too, from which the closed café would be the cheapest ..
abbrev sheet_empty : Sheet
sheet_empty = record { supply = 0 ∷ 3 ∷ 4 ∷ []; demand = 5 ∷ 0 ∷ 2 ∷ []; cost = priced (9 ∷ 1 ∷ 9 ∷ 4 ∷ 7 ∷ 1 ∷ 2 ∷ 3 ∷ 6 ∷ []) }

-- .. with the last café closed ..
abbrev sheet_last_closed : Sheet
sheet_last_closed = record { supply = 3 ∷ 4 ∷ []; demand = 5 ∷ 2 ∷ 0 ∷ []; cost = priced (4 ∷ 1 ∷ 5 ∷ 2 ∷ 6 ∷ 8 ∷ []) }

-- .. sheet_dear with its last café closed, and with its first roastery empty ..
abbrev sheet_dear_closed : Sheet
sheet_dear_closed = record { supply = 3 ∷ 3 ∷ []; demand = 4 ∷ 0 ∷ []; cost = priced (5 ∷ 2 ∷ 1 ∷ 2 ∷ []) }

abbrev sheet_dear_empty : Sheet
sheet_dear_empty = record { supply = 0 ∷ 3 ∷ 3 ∷ []; demand = 4 ∷ []; cost = priced (9 ∷ 5 ∷ 1 ∷ []) }

-- .. all closed but one lane ..
abbrev sheet_one_left : Sheet
sheet_one_left = record { supply = 0 ∷ 2 ∷ 0 ∷ []; demand = 0 ∷ 2 ∷ []; cost = priced (1 ∷ 2 ∷ 3 ∷ 4 ∷ 5 ∷ 6 ∷ []) }

-- .. and one roastery with so many bags, 31 cafés with one bag each, and a closed one.
abbrev sheet_wide_closed : ℕ → Sheet
sheet_wide_closed s = record { supply = s ∷ []; demand = replicate 31 1 ++ (0 ∷ []); cost = replicate 32 (pos 1) }

-- Five: P1's sheet stands with its finished tableau, after k accepted edits ..
abbrev stands1 : ℕ → Standing
stands1 k = record { sheet = sheet1; tableau = tableau_of next1; counter = k }

-- .. and sheet_dear_closed, which has an extra café and a closed one.
abbrev stands_closed : Standing
stands_closed = record {
  sheet = sheet_dear_closed;
  tableau = tableau_of (cell 1 1 (pos 1) (negsuc 0) ∷ cell 1 3 (pos 2) (pos 2) ∷ cell 2 1 (pos 3) (pos 1) ∷ []);
  counter = 0;
}

-- Edits of the lane, or the amounts, of roastery i and café j, counted from 1.
abbrev set_cost : ℕ → ℕ → ℤ → Edit
set_cost i j c = record { row = i - 1; col = j - 1; change = Change.Cost c }

abbrev set_amounts : ℕ → ℕ → ℕ → ℕ → Edit
set_amounts i j s d = record { row = i - 1; col = j - 1; change = Change.Amounts s d }

-- The refusals in the order of their numbers, the ninth at place 7.
abbrev refusals : List Refusal
refusals =
    Refusal.Sides ∷ Refusal.CostCount ∷ Refusal.Amount ∷ Refusal.Cost
    ∷ Refusal.Lacking ∷ Refusal.NotBelonging ∷ Refusal.Unfinished ∷ Refusal.TooShort
    ∷ Refusal.NotSheetText 7 ∷ Refusal.Crowded ∷ Refusal.Idle ∷ Refusal.BadEdit ∷ []

abbrev samples : List Sample
samples =
    -- the numbers by which all know the refusals, and the place that comes with 9 alone
    (map number refusals is 1 ∷ 2 ∷ 3 ∷ 4 ∷ 5 ∷ 6 ∷ 7 ∷ 8 ∷ 9 ∷ 10 ∷ 11 ∷ 12 ∷ [])
    ∷ (map place_of refusals is replicate 8 None ++ (Some 7 ∷ replicate 3 None))
    -- P1
    ∷ (start_call sheet1 is given start1)
    ∷ (entering (extended sheet1) start1 is lane 1 2)
    ∷ (reduced_cost (extended sheet1) start1 (lane 1 2) is negsuc 6)
    ∷ (round_call sheet1 (tableau_of start1) is given (moved next1))
    ∷ (solve_call sheet1 2 2 4 is given (record { cost = pos 14; rounds = 1; u = pos 0 ∷ negsuc 1 ∷ []; v = pos 4 ∷ pos 1 ∷ []; plan = 1 ∷ 2 ∷ 4 ∷ 0 ∷ [] }))
    -- P2
    ∷ (run_call sheet1 (tableau_of start1) 0 is given (record { finished = false; tableau = start1; rounds = 0 }))
    ∷ (run_call sheet1 (tableau_of start1) 1 is given (record { finished = true; tableau = next1; rounds = 1 }))
    -- P3
    ∷ (start_call sheet3 is given (cell 1 1 (pos 5) (pos 0) ∷ cell 1 2 (pos 0) (pos 1) ∷ cell 2 2 (pos 5) (pos 1) ∷ []))
    ∷ (solve_call sheet3 2 2 4 is given (record { cost = pos 10; rounds = 0; u = pos 0 ∷ pos 0 ∷ []; v = pos 1 ∷ pos 1 ∷ []; plan = 5 ∷ 0 ∷ 0 ∷ 5 ∷ [] }))
    -- P4: the lane that enters second, (1,3), holds the step (0, 1) afterwards
    ∷ (next problem4 (next problem4 (start problem4)) is (cell 1 2 (pos 1) (pos 0) ∷ cell 1 3 (pos 0) (pos 1) ∷ cell 2 1 (pos 2) (pos 0) ∷ cell 2 3 (pos 1) (pos 1) ∷ []))
    ∷ (solve_call sheet4 2 3 6 is given (record { cost = pos 0; rounds = 2; u = pos 0 ∷ pos 0 ∷ []; v = pos 0 ∷ pos 0 ∷ pos 0 ∷ []; plan = 0 ∷ 1 ∷ 0 ∷ 2 ∷ 0 ∷ 1 ∷ [] }))
    -- P5
    ∷ (round_call sheet4 (tableau_of tableau5) is given (finished (pos 0 ∷ pos 0 ∷ []) (pos 0 ∷ pos 0 ∷ pos 0 ∷ [])))
    ∷ (settle_call sheet4 (tableau_of tableau5) 6 is given (0 ∷ 1 ∷ 0 ∷ 2 ∷ 0 ∷ 1 ∷ []))
    -- P6
    ∷ (solve_call (one_lane 1 1 (pos 0)) 1 1 1 is given (record { cost = pos 0; rounds = 0; u = pos 0 ∷ []; v = pos 0 ∷ []; plan = 1 ∷ [] }))
    -- P7
    ∷ (solve_call (one_lane 1_000_000 1_000_000 (pos 1_000_000)) 1 1 1 is given (record { cost = pos 1_000_000_000_000; rounds = 0; u = pos 0 ∷ []; v = pos 1_000_000 ∷ []; plan = 1_000_000 ∷ [] }))
    ∷ (solve_call (one_lane 1_000_000 1_000_000 (pos 1_000_001)) 1 1 1 is refused Refusal.Cost)
    -- P8: the first sheet is accepted since One, and the second lacks bags since Four
    ∷ (solve_call (one_lane 3 2 (pos 0)) 1 1 1 is given (record { cost = pos 0; rounds = 0; u = pos 0 ∷ []; v = pos 0 ∷ []; plan = 2 ∷ [] }))
    ∷ (solve_call (one_lane 0 2 (pos 0)) 1 1 1 is refused Refusal.Lacking)
    -- P9
    ∷ (round_call sheet3 (tableau_of (cell 1 1 (pos 5) (pos 0) ∷ cell 1 2 (pos 0) (pos 0) ∷ cell 2 2 (pos 5) (pos 1) ∷ [])) is refused Refusal.NotBelonging)
    ∷ (settle_call sheet1 (tableau_of start1) 4 is refused Refusal.Unfinished)
    -- the texts with 9, and the worked text
    ∷ (read_sheet_call [] 32 32 1024 is stuck_at 0)
    ∷ (read_sheet_call (bytes "supply 33") 32 32 1024 is stuck_at 8)
    ∷ (read_sheet_call (bytes "supply 01") 32 32 1024 is stuck_at 7)
    ∷ (read_sheet_call text1 2 2 4 is given sheet1)
    ∷ (write_sheet_call sheet1 42 is given text1)
    ∷ (printed text1 is bytes "total 1\n14\nrounds 1\n1\nroasteries 2\n0\n-2\ncafes 2\n4\n1\nlanes 3\n1 1 1\n1 2 2\n2 1 4\n")
    ∷ (printed (bytes "supply 33") is bytes "refused 9 8\n")
    ∷ (printed (bytes "supply 1\n3\ndemand 1\n2\ncost 1\n0\n") is bytes "total 1\n0\nrounds 1\n0\nroasteries 1\n0\ncafes 1\n0\nlanes 1\n1 1 2\n")
    ∷ (printed (bytes "supply 1\n2\ndemand 1\n3\ncost 1\n0\n") is bytes "refused 5\n")
    -- too short a list or output: 8
    ∷ (solve_call sheet1 2 2 3 is refused Refusal.TooShort)
    ∷ (write_plan_call sheet1 70 is refused Refusal.TooShort)
    -- One: the tableau has the extra café as its last column, and prices and plan do not
    ∷ (lane_cost (extended sheet_dear) (lane 1 1) is pos 5)
    ∷ (lane_cost (extended sheet_dear) (lane 1 2) is pos 0)
    ∷ (start_call sheet_dear is given start_dear)
    ∷ (round_call sheet_dear (tableau_of start_dear) is given (moved last_dear))
    ∷ (round_call sheet_dear (tableau_of last_dear) is given (finished (pos 0 ∷ negsuc 3 ∷ []) (pos 5 ∷ [])))
    ∷ (run_call sheet_dear (tableau_of start_dear) 9 is given (record { finished = true; tableau = last_dear; rounds = 1 }))
    ∷ (settle_call sheet_dear (tableau_of last_dear) 2 is given (1 ∷ 3 ∷ []))
    ∷ (solve_call sheet_dear 2 1 2 is given (record { cost = pos 8; rounds = 1; u = pos 0 ∷ negsuc 3 ∷ []; v = pos 5 ∷ []; plan = 1 ∷ 3 ∷ [] }))
    ∷ (solve_call sheet_split 2 2 4 is given (record { cost = pos 4; rounds = 1; u = pos 0 ∷ pos 0 ∷ []; v = pos 1 ∷ pos 1 ∷ []; plan = 2 ∷ 0 ∷ 0 ∷ 2 ∷ [] }))
    -- ties: the first lane gets all it can; of the lanes that could enter the first in sheet order does, be it the extra café's or not
    ∷ (solve_call sheet_even 2 1 2 is given (record { cost = pos 4; rounds = 0; u = pos 0 ∷ pos 0 ∷ []; v = pos 1 ∷ []; plan = 3 ∷ 1 ∷ [] }))
    ∷ (entering (extended sheet_extra_first) (start (extended sheet_extra_first)) is lane 1 3)
    ∷ (solve_call sheet_extra_first 2 2 4 is given (record { cost = pos 1; rounds = 2; u = pos 0 ∷ pos 0 ∷ []; v = pos 0 ∷ pos 1 ∷ []; plan = 0 ∷ 0 ∷ 1 ∷ 1 ∷ [] }))
    ∷ (entering (extended sheet_extra_later) (start (extended sheet_extra_later)) is lane 1 2)
    ∷ (solve_call sheet_extra_later 2 2 4 is given (record { cost = pos 4; rounds = 2; u = pos 0 ∷ pos 0 ∷ []; v = pos 2 ∷ pos 0 ∷ []; plan = 0 ∷ 1 ∷ 2 ∷ 0 ∷ [] }))
    -- 31 cafés leave room for the extra one, 32 do not; more wanted than there is: 5, with 32 cafés too
    ∷ (solve_call (sheet_wide 40 31) 1 31 31 is given (record { cost = pos 31; rounds = 0; u = pos 0 ∷ []; v = replicate 31 (pos 1); plan = replicate 31 1 }))
    ∷ (solve_call (sheet_wide 40 32) 1 32 32 is refused Refusal.Crowded)
    ∷ (write_sheet_call (sheet_wide 40 32) 1000 is refused Refusal.Crowded)
    ∷ (solve_call (sheet_wide 31 32) 1 32 32 is refused Refusal.Lacking)
    -- Two: negative costs, prices and totals
    ∷ (solve_call sheet_earns 2 1 2 is given (record { cost = below_zero 14; rounds = 1; u = pos 0 ∷ below_zero 6 ∷ []; v = pos 1 ∷ []; plan = 1 ∷ 3 ∷ [] }))
    ∷ (start_call sheet_both is given start_both)
    ∷ (round_call sheet_both (tableau_of start_both) is given (moved middle_both))
    ∷ (round_call sheet_both (tableau_of middle_both) is given (moved last_both))
    ∷ (plan_cost_of sheet_both (1 ∷ 1 ∷ 0 ∷ 0 ∷ 1 ∷ 2 ∷ []) is pos 3)
    ∷ (plan_cost_of sheet_both (1 ∷ 0 ∷ 1 ∷ 0 ∷ 2 ∷ 1 ∷ []) is pos 0)
    ∷ (solve_call sheet_both 2 3 6 is given (record { cost = below_zero 3; rounds = 2; u = pos 0 ∷ pos 3 ∷ []; v = below_zero 4 ∷ below_zero 3 ∷ below_zero 1 ∷ []; plan = 0 ∷ 0 ∷ 2 ∷ 1 ∷ 2 ∷ 0 ∷ [] }))
    -- the extremes, and one beyond; the greatest and the least total on their lines (reduction/Totals has that no total is beyond them)
    ∷ (solve_call (one_lane 1_000_000 1_000_000 (below_zero 1_000_000)) 1 1 1 is given (record { cost = below_zero 1_000_000_000_000; rounds = 0; u = pos 0 ∷ []; v = below_zero 1_000_000 ∷ []; plan = 1_000_000 ∷ [] }))
    ∷ (solve_call (one_lane 1_000_000 1_000_000 (below_zero 1_000_001)) 1 1 1 is refused Refusal.Cost)
    ∷ (whole_line (pos 32_000_000_000_000) is bytes "32000000000000\n")
    ∷ (whole_line (below_zero 32_000_000_000_000) is bytes "-32000000000000\n")
    -- texts with a minus: a cost may have one, never before 0, and no amount and no count does
    ∷ (read_cost "-3\n" is given (one_lane 2 2 (below_zero 3)))
    ∷ (write_sheet_call (one_lane 2 2 (below_zero 3)) 32 is given (with_cost "-3\n"))
    ∷ (printed (with_cost "-3\n") is bytes "total 1\n-6\nrounds 1\n0\nroasteries 1\n0\ncafes 1\n-3\nlanes 1\n1 1 2\n")
    ∷ (read_cost "-1000000\n" is given (one_lane 2 2 (below_zero 1_000_000)))
    ∷ (read_cost "-1000001\n" is refused Refusal.Cost)
    ∷ (read_cost "1000001\n" is refused Refusal.Cost)
    ∷ (read_cost "-9999999\n" is refused Refusal.Cost)
    ∷ (read_cost "-10000000\n" is stuck_at 37)
    ∷ (read_cost "-0\n" is stuck_at 30)
    ∷ (read_cost "-01\n" is stuck_at 30)
    ∷ (read_cost "-" is stuck_at 30)
    ∷ (read_cost "-\n" is stuck_at 30)
    ∷ (read_cost "--1\n" is stuck_at 30)
    ∷ (read_cost "1-\n" is stuck_at 30)
    ∷ (read_cost "+1\n" is stuck_at 29)
    ∷ (read_sheet_call (bytes "supply -1\n") 32 32 1024 is stuck_at 7)
    ∷ (read_sheet_call (bytes "supply 1\n-2\n") 32 32 1024 is stuck_at 9)
    ∷ (read_sheet_call (bytes "supply 1\n2\ndemand 1\n-2\n") 32 32 1024 is stuck_at 20)
    -- Three: any number of 64 bits
    ∷ (whole_line (below_zero 9_223_372_036_854_775_808) is bytes "-9223372036854775808\n")
    ∷ (whole_line (pos 9_223_372_036_854_775_807) is bytes "9223372036854775807\n")
    ∷ (number_line 18_446_744_073_709_551_615 is bytes "18446744073709551615\n")
    -- Four: tableaux have the parties' own numbers, and a closed café its price: 7 − 0 or 3 + 2
    ∷ (start_call sheet_closed is given start_closed)
    ∷ (round_call sheet_closed (tableau_of start_closed) is given (moved next_closed))
    ∷ (round_call sheet_closed (tableau_of next_closed) is given (finished (pos 0 ∷ negsuc 1 ∷ []) (pos 4 ∷ pos 5 ∷ pos 1 ∷ [])))
    ∷ (run_call sheet_closed (tableau_of start_closed) 1 is given (record { finished = true; tableau = next_closed; rounds = 1 }))
    ∷ (settle_call sheet_closed (tableau_of next_closed) 6 is given (1 ∷ 0 ∷ 2 ∷ 4 ∷ 0 ∷ 0 ∷ []))
    ∷ (solve_call sheet_closed 2 3 6 is given (record { cost = pos 14; rounds = 1; u = pos 0 ∷ negsuc 1 ∷ []; v = pos 4 ∷ pos 5 ∷ pos 1 ∷ []; plan = 1 ∷ 0 ∷ 2 ∷ 4 ∷ 0 ∷ 0 ∷ [] }))
    ∷ (printed (bytes "supply 2\n3\n4\ndemand 3\n5\n0\n2\ncost 2\n4 7 1\n2 3 6\n") is bytes "total 1\n14\nrounds 1\n1\nroasteries 2\n0\n-2\ncafes 3\n4\n5\n1\nlanes 3\n1 1 1\n1 3 2\n2 1 4\n")
    -- a cell at a closed café, P1's numbers, or a cell more: 6
    ∷ (round_call sheet_closed (tableau_of (cell 1 1 (pos 3) (pos 1) ∷ cell 2 1 (pos 2) (negsuc 0) ∷ cell 2 2 (pos 2) (pos 2) ∷ [])) is refused Refusal.NotBelonging)
    ∷ (round_call sheet_closed (tableau_of (start_closed ++ (cell 3 3 (pos 1) (pos 0) ∷ []))) is refused Refusal.NotBelonging)
    -- the first roastery left has price 0; the empty one's is the least over all cafés: 9 − 4, 1 − 5 at the closed one, or 9 − 1
    ∷ (start_call sheet_empty is given (cell 2 1 (pos 3) (pos 1) ∷ cell 3 1 (pos 2) (negsuc 0) ∷ cell 3 3 (pos 2) (pos 2) ∷ []))
    ∷ (solve_call sheet_empty 3 3 9 is given (record { cost = pos 14; rounds = 1; u = below_zero 4 ∷ pos 0 ∷ below_zero 2 ∷ []; v = pos 4 ∷ pos 5 ∷ pos 1 ∷ []; plan = 0 ∷ 0 ∷ 0 ∷ 1 ∷ 0 ∷ 2 ∷ 4 ∷ 0 ∷ 0 ∷ [] }))
    -- the marks of the last café left; those of the extra café, which stays the last column; its price in the empty roastery's: 9 − 5, or 0 − 0
    ∷ (start_call sheet_last_closed is given start1)
    ∷ (solve_call sheet_last_closed 2 3 6 is given (record { cost = pos 14; rounds = 1; u = pos 0 ∷ negsuc 1 ∷ []; v = pos 4 ∷ pos 1 ∷ pos 5 ∷ []; plan = 1 ∷ 2 ∷ 0 ∷ 4 ∷ 0 ∷ 0 ∷ [] }))
    ∷ (start_call sheet_dear_closed is given (cell 1 1 (pos 3) (pos 1) ∷ cell 2 1 (pos 1) (negsuc 0) ∷ cell 2 3 (pos 2) (pos 2) ∷ []))
    ∷ (solve_call sheet_dear_closed 2 2 4 is given (record { cost = pos 8; rounds = 1; u = pos 0 ∷ negsuc 3 ∷ []; v = pos 5 ∷ pos 2 ∷ []; plan = 1 ∷ 0 ∷ 3 ∷ 0 ∷ [] }))
    ∷ (solve_call sheet_dear_empty 3 1 3 is given (record { cost = pos 8; rounds = 1; u = pos 0 ∷ pos 0 ∷ negsuc 3 ∷ []; v = pos 5 ∷ []; plan = 0 ∷ 1 ∷ 3 ∷ [] }))
    -- one lane left, and nobody
    ∷ (start_call sheet_one_left is given (cell 2 2 (pos 2) (pos 1) ∷ []))
    ∷ (solve_call sheet_one_left 3 2 6 is given (record { cost = pos 8; rounds = 0; u = below_zero 2 ∷ pos 0 ∷ pos 2 ∷ []; v = pos 3 ∷ pos 4 ∷ []; plan = 0 ∷ 0 ∷ 0 ∷ 2 ∷ 0 ∷ 0 ∷ [] }))
    ∷ (solve_call (one_lane 0 0 (pos 0)) 1 1 1 is refused Refusal.Idle)
    ∷ (solve_call (one_lane 3 0 (pos 0)) 1 1 1 is refused Refusal.Idle)
    ∷ (read_sheet_call (bytes "supply 1\n3\ndemand 1\n0\ncost 1\n7\n") 1 1 1 is refused Refusal.Idle)
    ∷ (printed (bytes "supply 1\n0\ndemand 1\n0\ncost 1\n7\n") is bytes "refused 11\n")
    ∷ (solve_call (one_lane 1_000_001 0 (pos 0)) 1 1 1 is refused Refusal.Amount)
    -- 10 counts closed cafés, and comes before 11
    ∷ (solve_call (sheet_wide_closed 40) 1 32 32 is refused Refusal.Crowded)
    ∷ (solve_call (record { supply = 1 ∷ []; demand = replicate 32 0; cost = replicate 32 (pos 0) }) 1 32 32 is refused Refusal.Crowded)
    -- Five: what is set up, and its struct and back
    ∷ (set_up_call sheet1 is given (stands1 0))
    ∷ (set_up_call sheet_dear_closed is given stands_closed)
    ∷ (set_up_call (one_lane 2 3 (pos 0)) is refused Refusal.Lacking)
    ∷ (set_up_call (one_lane 3 0 (pos 0)) is refused Refusal.Idle)
    ∷ (kept_sheet (struct_of sheet1) is sheet1)
    ∷ ((spare (struct_of sheet1)).0 is replicate 30 0)
    -- a cost edit goes on from the kept tableau: one round, where the edited sheet from nothing takes none, and all else is the same
    ∷ (edit_call (stands1 0) (set_cost 1 2 (pos 9)) 2 2 4 is given (record { cost = pos 28; rounds = 1; u = pos 0 ∷ negsuc 1 ∷ []; v = pos 4 ∷ pos 8 ∷ []; plan = 3 ∷ 0 ∷ 2 ∷ 2 ∷ [] }))
    ∷ (solve_call (edited sheet1 (set_cost 1 2 (pos 9))) 2 2 4 is given (record { cost = pos 28; rounds = 0; u = pos 0 ∷ negsuc 1 ∷ []; v = pos 4 ∷ pos 8 ∷ []; plan = 3 ∷ 0 ∷ 2 ∷ 2 ∷ [] }))
    ∷ (carried_out (stands1 0) (set_cost 1 2 (pos 9)) is record { sheet = edited sheet1 (set_cost 1 2 (pos 9)); tableau = tableau_of start1; counter = 1 })
    -- a cost edit that changes nothing is counted
    ∷ (edit_call (stands1 7) (set_cost 1 2 (pos 1)) 2 2 4 is given (record { cost = pos 14; rounds = 0; u = pos 0 ∷ negsuc 1 ∷ []; v = pos 4 ∷ pos 1 ∷ []; plan = 1 ∷ 2 ∷ 4 ∷ 0 ∷ [] }))
    ∷ (carried_out (stands1 7) (set_cost 1 2 (pos 1)) is stands1 8)
    -- an amount edit begins afresh: with one that makes a surplus, and one that closes a café
    ∷ (edit_call (stands1 0) (set_amounts 1 1 4 6) 2 2 4 is given (record { cost = pos 18; rounds = 1; u = pos 0 ∷ negsuc 1 ∷ []; v = pos 4 ∷ pos 1 ∷ []; plan = 2 ∷ 2 ∷ 4 ∷ 0 ∷ [] }))
    ∷ (edit_call (stands1 0) (set_amounts 2 2 5 2) 2 2 4 is given (record { cost = pos 12; rounds = 2; u = pos 0 ∷ pos 0 ∷ []; v = pos 2 ∷ pos 1 ∷ []; plan = 0 ∷ 2 ∷ 5 ∷ 0 ∷ [] }))
    ∷ ((carried_out (stands1 0) (set_amounts 2 2 5 2)).tableau is tableau_of (cell 1 2 (pos 2) (pos 0) ∷ cell 1 3 (pos 1) (pos 1) ∷ cell 2 1 (pos 5) (pos 0) ∷ cell 2 3 (pos 0) (pos 1) ∷ []))
    ∷ (edit_call (stands1 0) (set_amounts 1 2 1 0) 2 2 4 is given (record { cost = pos 12; rounds = 0; u = pos 0 ∷ negsuc 1 ∷ []; v = pos 4 ∷ pos 1 ∷ []; plan = 1 ∷ 0 ∷ 4 ∷ 0 ∷ [] }))
    -- with an extra café and a closed one: a lane of the parties left, one of the closed café, which moves its price alone, and the café opened
    ∷ (edit_call stands_closed (set_cost 1 1 (pos 0)) 2 2 4 is given (record { cost = pos 1; rounds = 1; u = pos 0 ∷ pos 1 ∷ []; v = pos 0 ∷ pos 1 ∷ []; plan = 3 ∷ 0 ∷ 1 ∷ 0 ∷ [] }))
    ∷ (edit_call stands_closed (set_cost 1 2 (below_zero 9)) 2 2 4 is given (record { cost = pos 8; rounds = 0; u = pos 0 ∷ below_zero 4 ∷ []; v = pos 5 ∷ below_zero 9 ∷ []; plan = 1 ∷ 0 ∷ 3 ∷ 0 ∷ [] }))
    ∷ (edit_call stands_closed (set_amounts 2 2 3 2) 2 2 4 is given (record { cost = pos 12; rounds = 1; u = pos 0 ∷ below_zero 4 ∷ []; v = pos 5 ∷ pos 2 ∷ []; plan = 1 ∷ 2 ∷ 3 ∷ 0 ∷ [] }))
    -- as solve refuses the edited sheet: 3, 4, 5, 11, and 8 last; a refusal alters nothing
    ∷ (edit_call (stands1 0) (set_amounts 1 1 1_000_001 9) 2 2 3 is refused Refusal.Amount)
    ∷ (edit_call (stands1 0) (set_cost 1 1 (pos 1_000_001)) 2 2 3 is refused Refusal.Cost)
    ∷ (edit_call (stands1 0) (set_amounts 1 1 3 6) 2 2 3 is refused Refusal.Lacking)
    ∷ (edit_call (record { sheet = one_lane 1 1 (pos 0); tableau = tableau_of (cell 1 1 (pos 1) (pos 1) ∷ []); counter = 0 }) (set_amounts 1 1 1 0) 1 1 1 is refused Refusal.Idle)
    ∷ (edit_call (stands1 0) (set_cost 1 1 (pos 1)) 2 2 3 is refused Refusal.TooShort)
    ∷ (stands_after (edit_call (stands1 0) (set_cost 1 1 (pos 1)) 2 2 3) (stands1 0) (carried_out (stands1 0) (set_cost 1 1 (pos 1))) is stands1 0)
    -- 12 before these: a party not on the sheet, the extra café, the counter at its largest value
    ∷ (edit_call (stands1 0) (set_cost 3 1 (pos 1_000_001)) 2 2 4 is refused Refusal.BadEdit)
    ∷ (edit_call (stands1 0) (set_amounts 1 3 1 9) 2 2 4 is refused Refusal.BadEdit)
    ∷ (edit_call stands_closed (set_cost 1 3 (pos 1)) 2 2 4 is refused Refusal.BadEdit)
    ∷ (edit_call (stands1 max_counter) (set_cost 1 1 (pos 1_000_001)) 2 2 4 is refused Refusal.BadEdit)
    ∷ (carried_out (stands1 (max_counter - 1)) (set_cost 1 2 (pos 1)) is stands1 max_counter)
    -- and before that the first check: 7, 6, and 1 for more parties than the arrays have room for
    ∷ (edit_call (record { sheet = sheet1; tableau = tableau_of start1; counter = max_counter }) (set_cost 3 1 (pos 1)) 2 2 4 is refused Refusal.Unfinished)
    ∷ (edit_call (record { sheet = sheet1; tableau = record { cells = (tableau_of next1).cells; count = 64 }; counter = 0 }) (set_cost 3 1 (pos 1)) 2 2 4 is refused Refusal.NotBelonging)
    ∷ (unless {A = ℕ} (standing_tests (standing_of (record { sheet = record { m = 33; n = 2; supply = replicate 32 1; demand = replicate 32 1; cost = [] }; tableau = tableau_of next1; counter = 0 }))) 0 is refused Refusal.Sides)
    -- traps: the least reduced cost enters, and not the first negative one; a count beyond the array does not belong
    ∷ (entering (extended sheet10) (start (extended sheet10)) is lane 1 3)
    ∷ (round_call sheet1 (record { cells = (tableau_of start1).cells; count = 64 }) is refused Refusal.NotBelonging)
    ∷ []

pub samples-hold : Hold samples
unfolding opened
samples-hold = (refl, (refl, (refl, (refl, (refl, (refl, (refl, (refl, (refl, (refl, (refl, (refl, (refl, (refl, (refl, (refl, (refl, (refl, (refl, (refl, (refl, (refl, (refl, (refl, (refl, (refl, (refl, (refl, (refl, (refl, (refl, (refl, (refl, (refl, (refl, (refl, (refl, (refl, (refl, (refl, (refl, (refl, (refl, (refl, (refl, (refl, (refl, (refl, (refl, (refl, (refl, (refl, (refl, (refl, (refl, (refl, (refl, (refl, (refl, (refl, (refl, (refl, (refl, (refl, (refl, (refl, (refl, (refl, (refl, (refl, (refl, (refl, (refl, (refl, (refl, (refl, (refl, (refl, (refl, (refl, (refl, (refl, (refl, (refl, (refl, (refl, (refl, (refl, (refl, (refl, (refl, (refl, (refl, (refl, (refl, (refl, (refl, (refl, (refl, (refl, (refl, (refl, (refl, (refl, (refl, (refl, (refl, (refl, (refl, (refl, (refl, (refl, (refl, (refl, (refl, (refl, (refl, (refl, (refl, (refl, (refl, (refl, (refl, (refl, (refl, (refl, (refl, (refl, (refl, (refl, (refl, (refl, (refl, (refl, (refl, (refl, (refl, (refl, (refl, (refl, (refl, (refl, tt))))))))))))))))))))))))))))))))))))))))))))))))))))))))))))))))))))))))))))))))))))))))))))))))))))))))))))))))))))))))))))))))))))))))))))))

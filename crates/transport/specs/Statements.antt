-- What the paper and the demands say, in their own words: the types that the theorems and contracts inhabit. Of the algorithm they cite no more than what a
-- sentence speaks of, as the signs, the cell that leaves and the next tableau.
--
-- In the paper's order, with the theorem that proves each (CRATE/MODULE.NAME, in specs/). Problems are those of accepted sheets (Laws.Sound), tableaux are
-- any that belong, and an entering lane is any that is not basic, as the definition's is (tableaux/Entering.entering-inside, entering-new).
--   Accepted                 exactly the sheets that pass the sheet check: transport/Laws.SheetLaws.accepted, passes
--   Meets                    exactly the plans that the definition lists: plans/Plans.plans-sound, plans-complete
--   MeetsExactly             on a balanced sheet exactly the plans that meet it: reduction/Balanced.meets_exactly
--   Belongs                  exactly the cells that the test lets pass: tableaux/Belonging.belongs_iff
--                            the start, and the next tableau: tableaux/Starting.start-belongs, tableaux/Ending.next-belongs
--   BelongsTo                exactly the cells under own numbers that the test of the calls lets pass: reduction/OwnBelonging.belongs_to_iff
--                            the start and the next tableau as calls give them: reduction/OwnBelonging.start-belongs_to, next-belongs_to
--   OnlyPrices               the definition's potentials, and the prices that calls give: tableaux/Prices.only-prices, listed-prices
--   OneLoop                  the definition's signs: tableaux/Loop.one-loop
--   OneStep                  the definition's leaving cell: tableaux/Pivoting.one-step
--   FirstFinished            there is one, from the start on: tableaux/Ending.start-ends
--   Best                     the definition's solution: demands/Demand3.solution-best
--   Certified                the definition's solution, by the prices that calls give: demands/Certificate.solution_certified
--   PricesWithin             the prices that calls give, of any tableau that belongs: demands/GivenPrices.given-within
--   RunOf                    the definition's run: tableaux/Running.run_of
--   FromFirstFinished        the definition's solution: demands/Demand3.solution-finished
--   Bought                   stands in the contract of solve; by demands/Bought.bought
--   BestExactly              the plan bought for a balanced sheet: demands/Bought.bought-balanced
--   EqualPrices              of any two finished tableaux: demands/EqualPrices.equal-prices
--   FromNothing              an accepted edit: demands/FromNothing.from_nothing
--   Passes (Standing)        what is set up, and what stands after any edit:
--                            demands/FromNothing.set-up-stands, edit_stands
--   SheetTextOf              exactly the texts that the definition reads: grammar/Place.reader_iff
--   Place                    the place that read sheet gives with 9: grammar/Place.place
--   Undo                     write sheet and read sheet: grammar/SheetCalls.undo
use Rattle.std.specs.Prelude.{◌≡◌, ◌↔◌, ◌⊎◌, Bool, true, false, cond, ℕ, zero, suc, ◌+◌, ◌*◌, ◌^◌, ◌≤◌, ◌<◌, ℤ, pos, negsuc, nat_abs, neg_ℤ, ◌+ℤ◌}
use Rattle.std.specs.Prelude.{◌*ℤ◌, ◌≤ℤ◌, length, take, drop, get_or, Ok, Err}
use Rattle.std.specs.declared.result.Result.{Result}
use mathlib.Core.List.{List, [], ◌∷◌, map, Memᴰ}
use Rattle.transport.specs.declared.SolveAnswer.{SolveAnswer}
use Rattle.transport.specs.Refusals.{Refusal, number}
use Rattle.transport.specs.Lists.{sum_to, at, at_z, total, within}
use Rattle.transport.specs.Limits.{max_sources, max_sinks, max_side, max_amount, max_cost, max_digits}
use Rattle.transport.specs.Problem.{Problem, sources, sinks, Lane, place, lane_cost}
use Rattle.transport.specs.Sheet.{Sheet, roasteries, cafes}
use Rattle.transport.specs.Extended.{extended}
use Rattle.transport.specs.Parties.{rows_left_of, columns_left, problem_of}
use Rattle.transport.specs.Amount.{less, nothing, paired_supply_of, paired_demand_of}
use Rattle.transport.specs.Tableau.{Cell, no_cell, basis_size, lane_of, basis_for, same_lane, start}
use Rattle.transport.specs.Leaf.{strikes}
use Rattle.transport.specs.Belonging.{row_total, column_total}
use Rattle.transport.specs.Potential.{is_finished_of}
use Rattle.transport.specs.OwnNumbers.{renumbered, roastery_prices, cafe_prices}
use Rattle.transport.specs.Round.{sign, leaving, next, Run}
use Rattle.transport.specs.Plan.{plan_cost_of}
use Rattle.transport.specs.Calls.{Answer, given, Solution, solution, solve_call}
use Rattle.transport.specs.Standing.{Edit, edited, Standing, Passes, edit_from, carried_out}
use Rattle.transport.specs.SheetText.{sheet_text}

-- ---- sheets

-- The sheet is within the limits: all numbers of roasteries, cafés, supplies, demands and costs are, and there is a cost for each lane.
pub record WithinLimits (S : Sheet) : Type 0 where
  pub roasteries_low : 1 ≤ roasteries S
  pub roasteries_high : roasteries S ≤ max_sources
  pub cafes_low : 1 ≤ cafes S
  pub cafes_high : cafes S ≤ max_sinks
  pub cost_length : length S.cost ≡ roasteries S * cafes S
  pub supply_high : (i : ℕ) → at S.supply i ≤ max_amount
  pub demand_high : (j : ℕ) → at S.demand j ≤ max_amount
  pub cost_low : (l : ℕ) → neg_ℤ (pos max_cost) ≤ℤ at_z S.cost l
  pub cost_high : (l : ℕ) → at_z S.cost l ≤ℤ pos max_cost

-- The sheet is balanced: total supply is total demand.
abbrev pub Balanced : Sheet → Type 0
Balanced S = total S.supply ≡ total S.demand

-- More is wanted than there is (the sheets of 5) ..
abbrev pub Lacking : Sheet → Type 0
Lacking S = total S.supply < total S.demand

-- .. and there is more than is wanted, with 32 cafés (the sheets of 10).
abbrev pub Crowded : Sheet → Type 0
Crowded S = (total S.demand < total S.supply) × (cafes S ≡ max_side)

-- Nothing is wanted (the sheets of 11, but for those that are crowded too).
abbrev pub Idle : Sheet → Type 0
Idle S = total S.demand ≡ 0

-- The sheet passes the sheet check.
pub record Accepted (S : Sheet) : Type 0 where
  pub limits : WithinLimits S
  pub enough : ¬ Lacking S
  pub room : ¬ Crowded S
  pub wanting : ¬ Idle S

-- ---- plans (01, "The sheet"; 02, One)

-- A plan in k-ths of a bag meets the sheet: each lane has a whole number of them, each roastery's add up to at most k times its supply, and each café's to k
-- times its demand.
pub record Meets (S : Sheet) (k : ℕ) (Q : List ℕ) : Type 0 where
  pub quantities : length Q ≡ roasteries S * cafes S
  pub rows : (i : ℕ) → i < roasteries S → sum_to (cafes S) (λ j. at Q (place (cafes S) i j)) ≤ k * at S.supply i
  pub columns : (j : ℕ) → j < cafes S → sum_to (roasteries S) (λ i. at Q (place (cafes S) i j)) ≡ k * at S.demand j

-- 01's own words, of balanced sheets: each roastery's add up to k times its supply.
pub record MeetsExactly (S : Sheet) (k : ℕ) (Q : List ℕ) : Type 0 where
  pub quantities : length Q ≡ roasteries S * cafes S
  pub rows : (i : ℕ) → i < roasteries S → sum_to (cafes S) (λ j. at Q (place (cafes S) i j)) ≡ k * at S.supply i
  pub columns : (j : ℕ) → j < cafes S → sum_to (roasteries S) (λ i. at Q (place (cafes S) i j)) ≡ k * at S.demand j

-- A plan in whole bags, taken k times to be compared with one in k-ths.
unfoldable pub scaled : ℕ → List ℕ → List ℕ
scaled k x = map (λ q. k * q) x

-- The first lane where two plans differ.
pub record FirstDifference (P Q : List ℕ) (l : ℕ) : Type 0 where
  pub lane : l < length P
  pub differ : at P l ≡ at Q l → ⊥
  pub before : (h : ℕ) → h < l → at P h ≡ at Q h

-- ---- belonging (01, "Tableau and start")

-- No cell lies across the split of the nodes into two sides: A says which rows, and B which columns, are on the one side.
abbrev pub Closed : ℕ → ℕ → (ℕ → ℕ → Type 0) → (ℕ → Bool) → (ℕ → Bool) → Type 0
Closed m n T A B = (i j : ℕ) → i < m → j < n → T i j → A i ≡ B j

-- The cells, as links between rows and columns, join them all: a split with no cell across leaves one side empty.
pub record Joined (m n : ℕ) (T : ℕ → ℕ → Type 0) : Type 1 where
  pub rows : (A B : ℕ → Bool) → A 0 ≡ true → Closed m n T A B → (i : ℕ) → i < m → A i ≡ true
  pub cols : (A B : ℕ → Bool) → A 0 ≡ true → Closed m n T A B → (j : ℕ) → j < n → B j ≡ true

-- Some cell of the list stands at row i and column j.
pub record Basic (cells : List Cell) (i j : ℕ) : Type 0 where
  pub index : ℕ
  pub below : index < length cells
  pub row : (get_or cells index no_cell).row ≡ i
  pub column : (get_or cells index no_cell).col ≡ j

-- The tableau belongs to the problem, in the paper's own words. With m + n − 1 cells, to join all is to join all without a loop.
pub record Belongs (P : Problem) (cells : List Cell) : Type 1 where
  pub count : length cells ≡ basis_size (sources P) (sinks P)
  pub on_sheet : (k : ℕ) → k < length cells → ((get_or cells k no_cell).row < sources P) × ((get_or cells k no_cell).col < sinks P)
  pub order : (k : ℕ) → suc k < length cells
      → place (sinks P) (get_or cells k no_cell).row (get_or cells k no_cell).col
      < place (sinks P) (get_or cells (suc k) no_cell).row (get_or cells (suc k) no_cell).col
  pub joined : Joined (sources P) (sinks P) (Basic cells)
  pub above : (k : ℕ) → k < length cells → less nothing (get_or cells k no_cell).amount ≡ true
  pub rows : (i : ℕ) → i < sources P → row_total cells i ≡ paired_supply_of P i
  pub columns : (j : ℕ) → j < sinks P → column_total cells j ≡ paired_demand_of P j

-- ---- belonging with struck parties (02, Four)

-- The party with this own number is left: it is on its side, and its amount is not 0.
abbrev pub Left : List ℕ → ℕ → Type 0
Left amounts k = (k < length amounts) × ¬ (at amounts k ≡ 0)

-- The cells join all parties left: a split of these with no cell across leaves one side empty.
abbrev pub JoinedLeft : Problem → List Cell → Type 0
JoinedLeft E cells = (A B : ℕ → Bool) → ((i j : ℕ) → Basic cells i j → A i ≡ B j) → (p : ℕ) → Left E.supply p → A p ≡ true
    → ((i : ℕ) → Left E.supply i → A i ≡ true) × ((j : ℕ) → Left E.demand j → B j ≡ true)

-- The last column left: the extra café where there is one, and else the last café left.
pub record LastLeft (E : Problem) (j : ℕ) : Type 0 where
  pub left : Left E.demand j
  pub last : (h : ℕ) → Left E.demand h → h ≤ j

-- The cells belong to the extended problem of a sheet, under the parties' own numbers: one cell fewer than parties left, each between two of these; they join
-- all parties left, and the marks of the last demand count the roasteries left.
pub record BelongsTo (E : Problem) (cells : List Cell) : Type 0 where
  pub count : suc (length cells) ≡ length (rows_left_of E) + length (columns_left E)
  pub covered : (k : ℕ) → k < length cells → Left E.supply (get_or cells k no_cell).row × Left E.demand (get_or cells k no_cell).col
  pub order : (k : ℕ) → suc k < length cells
      → place (sinks E) (get_or cells k no_cell).row (get_or cells k no_cell).col
      < place (sinks E) (get_or cells (suc k) no_cell).row (get_or cells (suc k) no_cell).col
  pub joined : JoinedLeft E cells
  pub above : (k : ℕ) → k < length cells → less nothing (get_or cells k no_cell).amount ≡ true
  pub rows : (i : ℕ) → Left E.supply i → row_total cells i ≡ record { q = pos (at E.supply i); e = pos 1 }
  pub columns : (j : ℕ) → Left E.demand j → ¬ LastLeft E j → column_total cells j ≡ record { q = pos (at E.demand j); e = pos 0 }
  pub last_column : (j : ℕ) → LastLeft E j → column_total cells j ≡ record { q = pos (at E.demand j); e = pos (length (rows_left_of E)) }

-- ---- prices (01, "Prices and rounds")

-- Prices: u by row and v by column, nothing for the first row, and together the lane's cost wherever a cell is basic.
pub record PricesOf (P : Problem) (cells : List Cell) (u v : ℕ → ℤ) : Type 0 where
  pub root : u 0 ≡ pos 0
  pub tight : (i j : ℕ) → Basic cells i j → u i +ℤ v j ≡ lane_cost P (record { row = i; col = j })

-- u and v are prices of the tableau, and the only ones.
pub record OnlyPrices (P : Problem) (cells : List Cell) (u v : ℕ → ℤ) : Type 0 where
  pub are : PricesOf P cells u v
  pub only : (x y : ℕ → ℤ) → PricesOf P cells x y → ((i : ℕ) → i < sources P → x i ≡ u i) × ((j : ℕ) → j < sinks P → y j ≡ v j)

-- ---- the loop (01, "Prices and rounds")

-- The entering lane and basic cells form exactly one loop; its signs change at each corner and begin with plus at the entering lane.

-- The way round, from lane k on: a lane in its row, then a lane in that one's column, and so on, until a lane stands in the column of the entering lane.
pub data Way (enter : Lane) : Lane → List Lane → Type 0 where
  closes : {k l : Lane} → l.row ≡ k.row → l.col ≡ enter.col → Way enter k (l ∷ [])
  goes : {k l p : Lane} {ls : List Lane} → l.row ≡ k.row → p.col ≡ l.col → Way enter p ls → Way enter k (l ∷ p ∷ ls)

-- No lane stands twice in the list.
pub data Apart : List Lane → Type 0 where
  empty : Apart []
  fresh : {l : Lane} {ls : List Lane} → (Memᴰ l ls → ⊥) → Apart ls → Apart (l ∷ ls)

-- The entering lane and the others, all of them basic, are a loop: round from the entering lane back to it, and no lane twice.
pub record Loop (cells : List Cell) (enter : Lane) (others : List Lane) : Type 0 where
  pub way : Way enter enter others
  pub apart : Apart (enter ∷ others)
  pub basic : (l : Lane) → Memᴰ l others → Basic cells l.row l.col

-- Plus, minus, plus, minus and so on.
pub data Alternate (sign_of : Lane → ℤ) : List Lane → Type 0 where
  none : Alternate sign_of []
  pair : {l p : Lane} {ls : List Lane} → sign_of l ≡ pos 1 → sign_of p ≡ negsuc 0 → Alternate sign_of ls → Alternate sign_of (l ∷ p ∷ ls)

-- The signs that the definition gives to the basic cells ..
abbrev pub basic_sign : Problem → List Cell → Lane → Lane → ℤ
basic_sign P cells enter = sign (sources P) (strikes (sources P) (sinks P) (basis_for cells)) enter

-- .. with the plus at the entering lane.
unfoldable pub loop_sign : Problem → List Cell → Lane → Lane → ℤ
loop_sign P cells enter l = cond (same_lane l enter) (pos 1) (basic_sign P cells enter l)

-- The entering lane closes one loop, round which the signs alternate, and no lane off it has a sign.
pub record OneLoop (P : Problem) (cells : List Cell) (enter : Lane) : Type 0 where
  pub others : List Lane
  pub loop : Loop cells enter others
  pub one : (lanes : List Lane) → Loop cells enter lanes → (l : Lane) → Memᴰ l lanes ↔ Memᴰ l others
  pub alternate : Alternate (loop_sign P cells enter) (enter ∷ others)
  pub off : (l : Lane) → ¬ Memᴰ l (enter ∷ others) → loop_sign P cells enter l ≡ pos 0

-- ---- the step (01, "Prices and rounds")

-- The least pair among minus cells is the step, and only one of them has it.

-- A basic cell with a minus.
pub record MinusCell (P : Problem) (cells : List Cell) (enter : Lane) (c : Cell) : Type 0 where
  pub basic : Memᴰ c cells
  pub minus : basic_sign P cells enter (lane_of c) ≡ negsuc 0

-- A minus cell that holds the step: on none is the pair smaller.
pub record HoldsStep (P : Problem) (cells : List Cell) (enter : Lane) (c : Cell) : Type 0 where
  pub cell : MinusCell P cells enter c
  pub smallest : (d : Cell) → MinusCell P cells enter d → less d.amount c.amount ≡ false

-- The cell that leaves holds the step, and no other does.
pub record OneStep (P : Problem) (cells : List Cell) (enter : Lane) : Type 0 where
  pub holds : HoldsStep P cells enter (leaving (basic_sign P cells enter) cells)
  pub no_tie_of : (c d : Cell) → HoldsStep P cells enter c → HoldsStep P cells enter d → c ≡ d

-- ---- rounds (01, "Prices and rounds" and "Calls and their refusals")

-- The tableau after k rounds.
unfoldable pub after : Problem → ℕ → List Cell → List Cell
after P zero cells = cells
after P (suc k) cells = after P k (next P cells)

-- It takes k rounds to come to a finished tableau, and no fewer.
pub record FirstFinished (P : Problem) (cells : List Cell) (k : ℕ) : Type 0 where
  pub finished : is_finished_of P (after P k cells) ≡ true
  pub before : (h : ℕ) → h < k → is_finished_of P (after P h cells) ≡ false

-- ---- the best plan (01, "Settling"; demand 3; 02, One and Two)

-- Demand 3: the plan, in whole bags, meets the sheet; the cost shown is its cost; any plan Q in k-ths costs no less; and at equal cost this plan carries more
-- on the first lane where they differ.
pub record Best (S : Sheet) (plan : List ℕ) (cost : ℤ) : Type 0 where
  pub meets : Meets S 1 plan
  pub shown : cost ≡ plan_cost_of S plan
  pub least : (k : ℕ) (Q : List ℕ) → 1 ≤ k → Meets S k Q → (pos k *ℤ cost) ≤ℤ plan_cost_of S Q
  pub first : (k : ℕ) (Q : List ℕ) → 1 ≤ k → Meets S k Q → plan_cost_of S Q ≡ (pos k *ℤ cost)
      → (l : ℕ) → FirstDifference (scaled k plan) Q l → at Q l < at (scaled k plan) l

-- The same in 01's own words, of balanced sheets: ours and Q meet every supply exactly.
pub record BestExactly (S : Sheet) (plan : List ℕ) (cost : ℤ) : Type 0 where
  pub meets : MeetsExactly S 1 plan
  pub shown : cost ≡ plan_cost_of S plan
  pub least : (k : ℕ) (Q : List ℕ) → 1 ≤ k → MeetsExactly S k Q → (pos k *ℤ cost) ≤ℤ plan_cost_of S Q
  pub first : (k : ℕ) (Q : List ℕ) → 1 ≤ k → MeetsExactly S k Q → plan_cost_of S Q ≡ (pos k *ℤ cost)
      → (l : ℕ) → FirstDifference (scaled k plan) Q l → at Q l < at (scaled k plan) l

-- ---- prices that prove a plan (02, One and Four)

-- Prices by roastery and by café, struck ones among them, from which anyone can tell that no plan costs less: no lane costs less than the two of its ends, a
-- lane that carries bags costs just them, and where a roastery keeps bags no other has a greater price.
pub record Certified (S : Sheet) (u v : ℕ → ℤ) (plan : List ℕ) : Type 0 where
  pub lanes : (i j : ℕ) → i < roasteries S → j < cafes S → (u i +ℤ v j) ≤ℤ at_z S.cost (place (cafes S) i j)
  pub used : (i j : ℕ) → i < roasteries S → j < cafes S → 1 ≤ at plan (place (cafes S) i j) → u i +ℤ v j ≡ at_z S.cost (place (cafes S) i j)
  pub kept : (i : ℕ) → i < roasteries S → sum_to (cafes S) (λ j. at plan (place (cafes S) i j)) < at S.supply i
      → (h : ℕ) → h < roasteries S → u h ≤ℤ u i

-- No price passes 63,000,000 in size (01, "Prices and rounds"), no struck party's either.
pub record PricesWithin (S : Sheet) (u v : ℕ → ℤ) : Type 0 where
  pub rows : (i : ℕ) → i < roasteries S → nat_abs (u i) ≤ 63_000_000
  pub columns : (j : ℕ) → j < cafes S → nat_abs (v j) ≤ 63_000_000

-- ---- run and solve (01, "Calls and their refusals")

-- None of the tableaux after 0 to k rounds is finished.
abbrev pub Unfinished : Problem → List Cell → ℕ → Type 0
Unfinished P cells k = (h : ℕ) → h ≤ k → is_finished_of P (after P h cells) ≡ false

-- Run: finished, where the first finished tableau is within the allowance, with that tableau and its rounds; spent, where it is not, with the tableau after all
-- rounds that were allowed.
pub record RunOf (P : Problem) (allowance : ℕ) (cells : List Cell) (r : Run) : Type 0 where
  pub done : (k : ℕ) → k ≤ allowance → FirstFinished P cells k → r ≡ record { finished = true; tableau = after P k cells; rounds = k }
  pub spent : Unfinished P cells allowance → r ≡ record { finished = false; tableau = after P allowance cells; rounds = allowance }

-- Solve counts its rounds from the start, and shows the prices of the first finished tableau, with those of struck parties and without the extra café's. That
-- tableau belongs to the problem of the parties left.
pub record FromFirstFinished (S : Sheet) (s : Solution) : Type 1 where
  pub reached : FirstFinished (problem_of S) (start (problem_of S)) s.rounds
  pub belongs : Belongs (problem_of S) (after (problem_of S) s.rounds (start (problem_of S)))
  pub u : s.u ≡ roastery_prices S (after (problem_of S) s.rounds (start (problem_of S)))
  pub v : s.v ≡ cafe_prices S (after (problem_of S) s.rounds (start (problem_of S)))

-- The lists lent to solve are long enough for m and n prices and m × n quantities.
pub record LongEnough (S : Sheet) (uRoom vRoom plan_room : ℕ) : Type 0 where
  pub u : roasteries S ≤ uRoom
  pub v : cafes S ≤ vRoom
  pub plan : roasteries S * cafes S ≤ plan_room

-- What is bought of each call of solve: r is its answer; the lent lists hold u, v and plan before it, and uAfter, vAfter and planAfter after it.
pub record Bought (S : Sheet) (r : Result SolveAnswer Refusal) (u v : List ℤ) (plan : List ℕ) (uAfter vAfter : List ℤ) (planAfter : List ℕ) : Type 0 where
  -- Demand 3 (02, One and Four): for every sheet within the limits that is neither lacking nor crowded nor idle, with lists long enough, solve gives a plan,
  -- and it is best at the cost shown.
  pub solved : WithinLimits S → LongEnough S (length u) (length v) (length plan) → ¬ Lacking S → ¬ Crowded S → ¬ Idle S
      → (cost : ℤ) × (rounds : ℕ) × (r ≡ Ok (record { cost = cost; rounds = rounds })) × Best S (take (roasteries S * cafes S) planAfter) cost
  -- Demand 3 (02, One and Four): of sheets within the limits, with lists long enough, solve refuses exactly the lacking, the crowded and the idle ones, by 5,
  -- by 10 and by 11, of which a sheet that is both crowded and idle gets 10.
  pub refuses : WithinLimits S → LongEnough S (length u) (length v) (length plan)
      → (k : Refusal)
      → (r ≡ Err k) ↔ ((k ≡ Refusal.Lacking) × Lacking S) ⊎ ((k ≡ Refusal.Crowded) × Crowded S) ⊎ ((k ≡ Refusal.Idle) × Idle S × ¬ Crowded S)
  pub numbers : (number Refusal.Lacking ≡ 5) × (number Refusal.Crowded ≡ 10) × (number Refusal.Idle ≡ 11)
  -- Demand 1: a refusal alters no byte of lent memory.
  pub unchanged : (k : Refusal) → r ≡ Err k → (uAfter ≡ u) × (vAfter ≡ v) × (planAfter ≡ plan)
  -- Paper 01: on success a lent list changes only in the places that the result fills.
  pub rest : (cost : ℤ) (rounds : ℕ) → r ≡ Ok (record { cost = cost; rounds = rounds })
      → (drop (roasteries S) uAfter ≡ drop (roasteries S) u)
      × (drop (cafes S) vAfter ≡ drop (cafes S) v)
      × (drop (roasteries S * cafes S) planAfter ≡ drop (roasteries S * cafes S) plan)

-- ---- phone orders (02, Five; of equal prices also Fourteen)

-- Any two finished tableaux that belong to the sheet have the same prices, however they were
-- reached. The tableaux are under own numbers, and the prices are those of all parties, struck ones
-- too.
pub record EqualPrices (S : Sheet) : Type 0 where
  pub same : (T U : List Cell) → BelongsTo (extended S) T → BelongsTo (extended S) U
      → is_finished_of (problem_of S) (renumbered (extended S) T) ≡ true
      → is_finished_of (problem_of S) (renumbered (extended S) U) ≡ true
      → (roastery_prices S (renumbered (extended S) T) ≡ roastery_prices S (renumbered (extended S) U))
      × (cafe_prices S (renumbered (extended S) T) ≡ cafe_prices S (renumbered (extended S) U))

-- An accepted edit gave s. Solve accepts the edited sheet, and cost, prices and settled plan equal
-- those of solving it from nothing. The plan is best for the edited sheet. The rounds are those
-- made by the edit, from where it began to the first finished tableau. What then stands passes the
-- first check.
pub record FromNothing (St : Standing) (e : Edit) (uRoom vRoom plan_room : ℕ) (s : Solution) : Type 0 where
  pub solved : solve_call (edited St.sheet e) uRoom vRoom plan_room ≡ given (solution (edited St.sheet e))
  pub cost : s.cost ≡ (solution (edited St.sheet e)).cost
  pub u : s.u ≡ (solution (edited St.sheet e)).u
  pub v : s.v ≡ (solution (edited St.sheet e)).v
  pub plan : s.plan ≡ (solution (edited St.sheet e)).plan
  pub best : Best (edited St.sheet e) s.plan s.cost
  pub rounds : FirstFinished (problem_of (edited St.sheet e)) (edit_from St e) s.rounds
  pub stands : Passes (carried_out St e)

-- ---- texts (01, "Texts")

-- A sheet that has a text: m and n are 1 to 32, there is a cost for each lane, and no number has more than seven digits, a minus aside.
pub record HasText (S : Sheet) : Type 0 where
  pub sides : (within 1 max_sources (roasteries S) ≡ true) × (within 1 max_sinks (cafes S) ≡ true)
  pub lengths : length S.cost ≡ roasteries S * cafes S
  pub numbers : (k : ℕ) → (at S.supply k < 10 ^ max_digits) × (at S.demand k < 10 ^ max_digits) × (nat_abs (at_z S.cost k) < 10 ^ max_digits)

-- The text is a sheet text, that of S.
pub record SheetTextOf (S : Sheet) (text : List ℕ) : Type 0 where
  pub sheet : HasText S
  pub written : text ≡ sheet_text S

-- Some sheet text begins with the first p bytes of the text.
pub record Shared (text : List ℕ) (p : ℕ) : Type 0 where
  pub sheet : Sheet
  pub has : HasText sheet
  pub in_text : p ≤ length text
  pub in_other : p ≤ length (sheet_text sheet)
  pub same : take p text ≡ take p (sheet_text sheet)

-- The place: how many bytes the text has, at most, in common with the beginning of a sheet text.
pub record Place (text : List ℕ) (p : ℕ) : Type 0 where
  pub shared : Shared text p
  pub longest : (q : ℕ) → Shared text q → q ≤ p

-- Writing and reading undo each other, both ways. `write` gives the text of a sheet, and `read` the sheet of a text.
pub record Undo (write : Sheet → Answer (List ℕ)) (read : List ℕ → Answer Sheet) : Type 0 where
  pub read_written : (S : Sheet) (text : List ℕ) → write S ≡ given text → read text ≡ given S
  pub write_read : (text : List ℕ) (S : Sheet) → read text ≡ given S → write S ≡ given text

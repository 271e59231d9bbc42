-- No plan text is longer than 1,604 bytes, and nothing that the program prints is.
use Rattle.std.specs.Prelude.{◌≡◌, ◌++◌, ◌+◌, ◌*◌, ◌-◌, ◌^◌, ◌≤◌, ◌<◌}
use Rattle.prelude.specs.Words.{refl, ap, Option, none, some, List, flat_map, Memᴰ, ℕ, suc, arith}
use Rattle.prelude.specs.Words.{mul-le-mul_right, eq-eqb, ℤ, nat_abs, length, take, length-append, length-take}
use Prim.Native.String.{String}
use Rattle.transport.specs.declared.Refusal.{Refusal}
use Rattle.transport.specs.Refusals.{number}
use Rattle.transport.specs.Lists.{table, below, grid}
use Rattle.transport.specs.Laws.ListLaws.{length-table, table-member, flat_map-member, keep-member}
use Rattle.transport.specs.Limits.{max_side, max_amount, max_cells, max_text, max_plan_text, cost_above}
use Rattle.transport.specs.Sheet.{Sheet, roasteries, cafes, number_tests, sheet_tests, refusal}
use Rattle.transport.specs.Extended.{extended}
use Rattle.transport.specs.Parties.{problem_of}
use Rattle.transport.specs.OwnNumbers.{roastery_prices, cafe_prices}
use Rattle.transport.specs.Problem.{Lane, lanes, place, sinks}
use Rattle.transport.specs.Laws.SheetLaws.{accepted}
use Rattle.transport.proofs.ExtendedLaws.{width_low}
use Rattle.transport.specs.Laws.Sound.{sources-room, sinks-room}
use Rattle.transport.proofs.Sound.{sound}
use Rattle.transport.specs.Statements.{Accepted, HasText}
use Rattle.transport.specs.Calls.{solution_from, solution}
use Rattle.transport.specs.Laws.ProblemLaws.{lane, place-below}
use Rattle.transport.specs.Tableau.{start}
use Rattle.transport.specs.Round.{round_bound}
use Rattle.transport.specs.Text.{bytes, digits, head_line, row_line}
use Rattle.transport.specs.SheetText.{Reading, stuck, got, sheet_reader}
use Rattle.transport.specs.PlanText.{whole_line, carried, used, lane_line, plan_text, printed}
use Rattle.sheet.specs.Refusals.{sheet-numbers}
use Rattle.grammar.specs.Every.{every_members}
use Rattle.grammar.specs.Digits.{digits-length}
use Rattle.grammar.specs.Longest.{line-length, lines_length, side-length, whole_length}
use Rattle.grammar.specs.Place.{reader_iff}
use Rattle.sections.specs.Lines.{ended, length-ended}
use Rattle.tableaux.specs.Potentials.{price_limit}
use Rattle.tableaux.specs.Running.{run-rounds}
use Rattle.tableaux.specs.Ending.{round_bound-most}
use Rattle.reduction.specs.Totals.{total_size, total_limit}
use Rattle.demands.specs.Demand3.{solution-finished, solution-best}
use Rattle.demands.specs.FewLanes.{few-lanes}
use Rattle.demands.specs.GivenPrices.{roastery_size, cafe-size}
use Rattle.solving.specs.Cost.{meets-small}
use Rattle.display.specs.Shown.{sheet_shown, shown-plan, shown-refusal, check-number, printed-place, printed-sheet}

-- ---- lines

-- A head: its name, a space, the digits of its count and LF.
head-length : (name : String) (k count : ℕ) → count < 10 ^ suc k → length (head_line name count) ≤ length (bytes name) + 3 + k
unfolding head_line bytes
head-length name k count h = simp length-append (omega (arith, (digits-length k count).1 h))

-- A whole number of at most k + 1 digits: its minus and LF are two bytes more.
whole-line-length : (k : ℕ) (z : ℤ) → nat_abs z < 10 ^ suc k → length (whole_line z) ≤ suc (suc (suc k))
unfolding whole_line bytes
whole-line-length k z h = simp length-append (omega (arith, whole_length k z h))

-- At most `count` lines, of at most `most` bytes each.
members_length : {A : Type 0} (write : A → List ℕ) (most count : ℕ) (xs : List A) → length xs ≤ count
    → ((x : A) → Memᴰ x xs → length (write x) ≤ most) → length (flat_map write xs) ≤ count * most
members_length write most count xs few each =
    let every = every_members (λ x. Memᴰ x xs) xs (λ x member. member) in
    omega (arith, mul-le-mul_right most few, lines_length (λ x. Memᴰ x xs) write most each xs every)

-- A lane in sheet order is on the sheet.
lane_inside : (m n : ℕ) {l : Lane} → Memᴰ l (lanes m n) → (l.row < m) × (l.col < n)
unfolding lanes grid below
lane_inside m n member =
    let (i, row, cell) = flat_map-member (λ i. table n (lane i)) (table m (λ k. k)) member in
    let (k, p, e) = table-member m (λ k. k) row in
    let (j, q, f) = table-member n (lane i) cell in
    (omega (arith, ap (λ (l : Lane). l.row) f), omega (arith, ap (λ (l : Lane). l.col) f))

-- ---- the figures

module _ {S : Sheet} (ok : Accepted S) where
  -- 32,000,000 bags at 1,000,000 each have 14 digits.
  cost-most : nat_abs (solution S).cost < 10 ^ 14
  cost-most = let best = solution-best S (sound ok) in omega (arith, ap nat_abs best.shown, total_size ok best.meets, total_limit)

  -- No more rounds are made than solve allows, whose bound has 16 digits.
  rounds-most : (solution S).rounds < 10 ^ 16
  unfolding solution solution_from
  rounds-most = let P = problem_of S in omega (arith, run-rounds P (round_bound P) (start P), round_bound-most (sound ok))

  -- ---- the prices

  -- A minus, at most 8 digits and LF.
  prices-length : (count : ℕ) → count ≤ max_side → (price : ℕ → ℤ) → ((k : ℕ) → k < count → nat_abs (price k) ≤ max_cells * cost_above)
      → length (flat_map whole_line (table count price)) ≤ max_side * 10
  prices-length count few price small =
      let line : (z : ℤ) → Memᴰ z (table count price) → length (whole_line z) ≤ 10 =
      λ z m. let (k, p, e) = table-member count price m in rw e (whole-line-length 7 (price k) (omega (arith, small k p, price_limit)))
      in
      members_length whole_line 10 max_side (table count price) (omega (arith, length-table price count)) line

  u-length : length (flat_map whole_line (solution S).u) ≤ max_side * 10
  unfolding roastery_prices
  u-length =
      let last = solution-finished S (sound ok) in
      rw last.u (prices-length (roasteries S) (omega (arith, ok.limits.roasteries_high, sources-room)) _ (roastery_size ok last.belongs))

  v-length : length (flat_map whole_line (solution S).v) ≤ max_side * 10
  unfolding cafe_prices extended sinks
  v-length =
      let last = solution-finished S (sound ok) in
      rw last.v
      (prices-length (cafes S) (omega (arith, ok.limits.cafes_high, sinks-room)) _ (λ j l. cafe-size ok last.belongs j (omega (arith, width_low S))))

  -- ---- the lanes

  abbrev used_lanes : List Lane
  used_lanes = used (roasteries S) (cafes S) (solution S).plan

  -- No more than a tableau has cells.
  lanes_count : length used_lanes ≤ max_cells
  unfolding max_cells
  lanes_count = omega (
    arith,
    few-lanes ok.limits.cafes_low (solution-best S (sound ok)),
    ok.limits.roasteries_high,
    sources-room,
    ok.limits.cafes_high,
    sinks-room,
  )

  -- A lane carries at most 1,000,000 bags, which has 7 digits.
  carried-most : (l : Lane) → l.row < roasteries S → l.col < cafes S → carried (cafes S) (solution S).plan l < 10 ^ 7
  unfolding carried max_amount
  carried-most l p q =
      let inside = place-below (roasteries S) (cafes S) l.row l.col p q in
      omega (arith, meets-small ok (solution-best S (sound ok)).meets (place (cafes S) l.row l.col) inside)

  -- A source and a sink of at most 2 digits, at most 7 digits of bags, two spaces and LF.
  lane-line : (l : Lane) → Memᴰ l used_lanes → length (lane_line (cafes S) (solution S).plan l) ≤ 14
  unfolding used lane_line row_line bytes
  lane-line l member =
      let n : ℕ = cafes S in
      let inside = lane_inside (roasteries S) n (keep-member _ (lanes (roasteries S) n) member).0 in
      let bags : carried n (solution S).plan l < 10 ^ 7 = carried-most l inside.0 inside.1 in
      simp length-append (omega (
        arith,
        side-length (suc l.row) (omega (arith, ok.limits.roasteries_high, sources-room)),
        side-length (suc l.col) (omega (arith, ok.limits.cafes_high, sinks-room)),
        (digits-length 6 (carried n (solution S).plan l)).1 bags,
      ))

  lanes-length : length (flat_map (lane_line (cafes S) (solution S).plan) used_lanes) ≤ max_cells * 14
  lanes-length = members_length (lane_line (cafes S) (solution S).plan) 14 max_cells used_lanes lanes_count lane-line

-- ---- the plan text

-- `total 1`, LF, a minus, at most 14 digits and LF are 24 bytes; `rounds 1`, LF, at most 16 digits and LF are 26. The heads `roasteries` and `cafes`, with
-- counts of at most two digits, are 14 and 9 bytes, and their lines, at most 64, have at most 10 bytes each. The head `lanes`, with a count of at most two
-- digits, is 9 bytes, and its lines, at most 63, have at most 14 bytes each. In all that is 1,604.
plan-length : (S : Sheet) → refusal (sheet_tests S) ≡ none → length (plan_text S) ≤ max_plan_text
unfolding plan_text bytes max_side max_cells max_plan_text
plan-length S e =
    let ok = accepted S e in
    let a = solution S in
    simp length-append (omega (
      arith,
      head-length "total" 0 1 (omega arith),
      whole-line-length 13 a.cost (cost-most ok),
      head-length "rounds" 0 1 (omega arith),
      line-length 15 a.rounds (rounds-most ok),
      head-length "roasteries" 1 (roasteries S) (omega (arith, ok.limits.roasteries_high, sources-room)),
      u-length ok,
      head-length "cafes" 1 (cafes S) (omega (arith, ok.limits.cafes_high, sinks-room)),
      v-length ok,
      head-length "lanes" 1 (length (used_lanes ok)) (omega (arith, lanes_count ok)),
      lanes-length ok,
    ))

-- ---- what the program prints

-- A sheet that has a text is only tested for its numbers.
text-numbers : (S : Sheet) → HasText S → refusal (sheet_tests S) ≡ refusal (number_tests S)
unfolding roasteries cafes
text-numbers S h = sheet-numbers S h.sides.0 h.sides.1 (eq-eqb _ _ h.lengths)

-- `refused `, a number of at most two digits and LF.
refused-length : (k : ℕ) → k ≤ 11 → length (bytes "refused " ++ ended digits k 10) ≤ 11
unfolding bytes
refused-length k p = omega (arith, length-append (bytes "refused ") (ended digits k 10), length-ended digits k 10, (digits-length 1 k).1 (omega arith))

-- .. and with a place, which is at most one more than the longest sheet text.
place-length : (k : ℕ) → k ≤ suc max_text → length (bytes "refused 9 " ++ ended digits k 10) ≤ 15
unfolding bytes max_text
place-length k p = omega (arith, length-append (bytes "refused 9 ") (ended digits k 10), length-ended digits k 10, (digits-length 3 k).1 (omega arith))

-- A text that is no sheet text is refused in one line; of a sheet text either the sheet check refuses the sheet, in one line too, or its plan text is printed.
pub printed-length : (input : List ℕ) → length (printed input) ≤ max_plan_text
unfolding max_plan_text
printed-length input = go (sheet_reader text) refl
  where
    text : List ℕ
    text = take (suc max_text) input

    of_sheet : (S : Sheet) → (o : Option Refusal) → refusal (sheet_tests S) ≡ o → length (sheet_shown S) ≤ max_plan_text
    of_sheet S none e = rw (shown-plan S e) (plan-length S e)
    of_sheet S (some r) e = rw (shown-refusal S r e) (omega (arith, refused-length (number r) (check-number S r e).0))

    go : (o : Reading Sheet) → sheet_reader text ≡ o → length (printed input) ≤ max_plan_text
    go (stuck rest) e =
        let inside : length text - length rest ≤ suc max_text = omega (arith, length-take (suc max_text) input) in
        rw (printed-place input rest e) (omega (arith, place-length (length text - length rest) inside))
    go (got S rest) e =
        let (ended, ofSheet) = (reader_iff text S rest).0 e in
        rw (printed-sheet input S rest e (text-numbers S ofSheet.sheet)) (of_sheet S (refusal (sheet_tests S)) refl)

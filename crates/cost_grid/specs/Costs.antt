-- The costs of a sheet's lanes between parties left, spread by column with the stride of the arrays: while they are filled in, and for a problem.
use Rattle.std.specs.Prelude.{◌+◌, ◌*◌, ◌/◌, ◌%◌, ◌<◌, ◌≤◌, ◌≡◌, ◌∷◌, ◌++◌}
use Rattle.prelude.specs.Words.{ℕ, arith, Dec-and, length-replicate, mul-le-mul, dec_lt, sym, ap, ◌∙◌, by_cases, List, []}
use Rattle.prelude.specs.Words.{ℤ, pos, nat_abs, length, get_or, replicate, length-append, get_or-append, get_or_at}
use Rattle.transport.specs.Limits.{max_cost, cost_above}
use Rattle.transport.specs.Lists.{at, at_z}
use Rattle.transport.specs.Problem.{Problem, sources, sinks, place, lane_cost}
use Rattle.transport.specs.Sheet.{Sheet, roasteries, cafes}
use Rattle.transport.specs.Extended.{wanted, cost_at, extended}
use Rattle.transport.specs.Parties.{left, rows_left_of, columns_left, problem_of}
use Rattle.transport.specs.Laws.ProblemLaws.{lane, place-below}
use Rattle.transport.proofs.ExtendedLaws.{Extra, without, with, extra, cost-cafe, cost-extra, lane_cost-at}
use Rattle.transport.specs.Laws.PartiesLaws.{left_at, length-left, left-append, left-whole, struck-sources, struck-sinks, struck-lane}
use Rattle.transport.specs.Laws.RangeLaws.{abs_between}
use Rattle.transport.specs.Laws.Sound.{sources-room, sinks-room}
use Rattle.transport.specs.Statements.{Accepted}
use Rattle.tree.specs.Layout.{stride, stride-is, lane_room, get_or-all}
use Rattle.tree.specs.Grid.{GridFilled}

-- ---- what is filled in

-- The own numbers of the roasteries left, the rows, and of the cafés left, the columns, lead to costs of the list, of so many cafés; where these are all left,
-- each is its own number; and all fit.
pub record Spreadable (cost : List ℤ) (cafes : ℕ) (rows cols : List ℕ) : Type 0 where
  pub rows_few_of : length rows ≤ stride
  pub cols_few : length cols ≤ stride
  pub firsts : (i : ℕ) → i < length rows → at rows i * cafes ≤ lane_room
  pub inside : (i j : ℕ) → i < length rows → j < length cols → place cafes (at rows i) (at cols j) < length cost
  pub whole : length cols ≡ cafes → (j : ℕ) → j < length cols → at cols j ≡ j
  pub small : (k : ℕ) → nat_abs (at_z cost k) ≤ max_cost

-- The costs of these rows and columns lie by column, the columns after them are all 0, and no number in the array is greater in size than a cost can be.
pub record Spread (cost : List ℤ) (cafes : ℕ) (rows cols : List ℕ) (out : List ℤ) : Type 0 where
  pub long : length out ≡ lane_room
  pub lanes : (i j : ℕ) → i < length rows → j < length cols → get_or out (j * stride + i) (pos 0) ≡ at_z cost (place cafes (at rows i) (at cols j))
  pub beyond : (i j : ℕ) → i < stride → length cols ≤ j → get_or out (j * stride + i) (pos 0) ≡ pos 0
  pub small : (l : ℕ) → nat_abs (get_or out l (pos 0)) ≤ max_cost

-- ---- filled in, row by row

-- The cost of the lane between row i and column j, under their own numbers.
abbrev pub own_cost : List ℤ → ℕ → List ℕ → List ℕ → ℕ → ℕ → ℤ
own_cost cost cafes rows cols i j = at_z cost (place cafes (at rows i) (at cols j))

-- Where it lies: by column.
abbrev pub by_column : ℕ → ℕ → ℕ
by_column i j = j * stride + i

-- No two lanes lie at the same place.
pub by_column-once : (h k i j : ℕ) → h < stride → i < stride → h * stride + k < i * stride + j → ¬ (by_column h k ≡ by_column i j)
by_column-once h k i j p q l e = omega arith

-- All rows are filled in, over zeros.
pub all-spread : {cost : List ℤ} {cafes : ℕ} {rows cols : List ℕ} {i : ℕ} {out : List ℤ} → Spreadable cost cafes rows cols → i ≡ length rows
    → GridFilled by_column (own_cost cost cafes rows cols) (pos 0) (length cols) (replicate lane_room (pos 0)) i 0 out → Spread cost cafes rows cols out
all-spread {cost} {cafes} {rows} {cols} {i} {out} s all w = record {
  long = w.long ∙ length-replicate lane_room (pos 0);
  lanes = λ h k l r. w.on h k (omega (arith, s.cols_few)) r;
  beyond = λ h k l r. zero (k * stride + h) (λ h' k' u t e. omega (arith, s.rows_few_of));
  small = λ l. by_cases (Dec-and (dec_lt (l % stride) i) (dec_lt (l / stride) (length cols)))
      (λ (row, col).
      let here : by_column (l % stride) (l / stride) ≡ l = omega arith in
      rw (← ap (λ (l : ℕ). get_or out l (pos 0)) here, w.on (l % stride) (l / stride) (omega (arith, s.cols_few)) col) (s.small _))
      (λ none. rw (zero l (λ h k u t e. none (omega (arith, s.rows_few_of), omega (arith, s.rows_few_of)))) (omega arith));
}
  where
    zero : (l : ℕ) → ((h k : ℕ) → h * stride + k < i * stride + 0 → k < length cols → ¬ (by_column h k ≡ l)) → get_or out l (pos 0) ≡ pos 0
    zero l f = w.off l f ∙ get_or-all lane_room l (pos 0)

-- ---- for a problem

-- The costs of the problem P lie by column, and no number in the array is greater in size than a cost can be.
pub record Costed (P : Problem) (cost : List ℤ) : Type 0 where
  pub lanes : (i j : ℕ) → i < sources P → j < sinks P → get_or cost (j * stride + i) (pos 0) ≡ lane_cost P (lane i j)
  pub small : (l : ℕ) → nat_abs (get_or cost l (pos 0)) ≤ cost_above

-- The costs of an accepted sheet can be spread.
pub spreadable : {S : Sheet} → Accepted S → Spreadable S.cost (cafes S) (rows_left_of (extended S)) (left S.demand)
unfolding roasteries cafes rows_left_of extended
spreadable {S} ok =
    let w = ok.limits in
    let row : (i : ℕ) → i < length (left S.supply) → at (left S.supply) i < length S.supply = λ i l. (left_at S.supply i l).0 in
    record {
      rows_few_of = omega (arith, length-left S.supply, w.roasteries_high, sources-room, stride-is);
      cols_few = omega (arith, length-left S.demand, w.cafes_high, sinks-room, stride-is);
      firsts = λ i l.
          let low : at (left S.supply) i ≤ stride = omega (arith, row i l, w.roasteries_high, sources-room, stride-is) in
          let few : length S.demand ≤ stride = omega (arith, w.cafes_high, sinks-room, stride-is) in
          mul-le-mul low few;
      inside = λ i j l h. omega (
        arith,
        w.cost_length,
        place-below (length S.supply) (length S.demand) (at (left S.supply) i) (at (left S.demand) j) (row i l) (left_at S.demand j h).0,
      );
      whole = left-whole S.demand;
      small = λ k. abs_between (w.cost_low k) (w.cost_high k);
    }

module _ (S : Sheet) where
  -- The columns left are the cafés left, and after them the extra café, where there is one.
  data Column (j : ℕ) : Type 0 where
    cafe : j < length (left S.demand) → at (left (wanted S)) j ≡ at (left S.demand) j → Column j
    home : length (left S.demand) ≤ j → at (left (wanted S)) j ≡ cafes S → Column j

  column : (j : ℕ) → j < length (left (wanted S)) → Column j
  unfolding at cafes
  column j l = go (extra S)
    where
      go : Extra S → Column j
      go (without z e) = cafe (rw e at l) (rw e)
      go (with z e) =
          let more : left (wanted S) ≡ left S.demand ++ (length S.demand ∷ []) = ap left e ∙ left-append S.demand _ z in
          let here : at (left (wanted S)) j ≡ get_or (left S.demand ++ (length S.demand ∷ [])) j 0 = ap (λ (t : List ℕ). get_or t j 0) more in
          by_cases (dec_lt j (length (left S.demand)))
          (λ h. cafe h (here ∙ get_or-append (left S.demand) (length S.demand ∷ []) 0 j h))
          (λ h.
          let last : length (left S.demand) ≡ j = omega (arith, ap length more, length-append (left S.demand) (length S.demand ∷ [])) in
          home (omega arith) (here ∙ get_or_at (left S.demand) (length S.demand) [] 0 j last))

  -- What a lane between parties left costs, under their own numbers.
  own_lane : (i j : ℕ) → i < length (left S.supply) → j < length (left (wanted S))
      → lane_cost (problem_of S) (lane i j) ≡ cost_at S (at (left S.supply) i) (at (left (wanted S)) j)
  unfolding problem_of extended rows_left_of columns_left roasteries
  own_lane i j l h = struck-lane (extended S) i j l h ∙ lane_cost-at S _ _ (left_at S.supply i l).0 (left_at (wanted S) j h).0

-- Then they are those of the problem behind the sheet: the extra café's lanes cost nothing.
pub spread_costed : {S : Sheet} → Accepted S → {out : List ℤ} → Spread S.cost (cafes S) (rows_left_of (extended S)) (left S.demand) out
    → Costed (problem_of S) out
unfolding problem_of extended rows_left_of columns_left cost_above cafes
spread_costed {S} ok {out} p = record { lanes = lanes; small = p.small }
  where
    at-column : (i j : ℕ) → i < length (left S.supply) → Column S j
        → get_or out (j * stride + i) (pos 0) ≡ cost_at S (at (left S.supply) i) (at (left (wanted S)) j)
    at-column i j l (cafe h e) = p.lanes i j l h ∙ rw e (sym (cost-cafe S _ _ (left_at S.demand j h).0))
    at-column i j l (home h e) = p.beyond i j (omega (arith, (spreadable ok).rows_few_of)) h ∙ rw e (sym (cost-extra S _ _ (omega arith)))

    lanes : (i j : ℕ) → i < sources (problem_of S) → j < sinks (problem_of S) → get_or out (j * stride + i) (pos 0) ≡ lane_cost (problem_of S) (lane i j)
    lanes i j hi hj =
        let l : i < length (left S.supply) = omega (arith, hi, struck-sources (extended S)) in
        let h : j < length (left (wanted S)) = omega (arith, hj, struck-sinks (extended S)) in
        at-column i j l (column S j h) ∙ sym (own_lane S i j l h)

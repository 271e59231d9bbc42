-- Belonging, as it is computed and as the paper says it; and what it gives to the theory: a basis, a flow of bags and a flow of marks.
use Rattle.std.specs.Prelude.{◌≡◌, ◌↔◌, ◌⊎◌, ◌&&◌, ◌∷◌, ◌+◌, ◌-◌, ◌≤◌, ◌<◌, ◌+ℤ◌}
use Rattle.prelude.specs.Words.{refl, ap, sym, ◌∙◌, inl, inr, ⊎_elim, by_cases, Dec-and, Bool, true, false, false≢true, List, [], ℕ}
use Rattle.prelude.specs.Words.{zero, suc, arith, ℕ_discrete, ltb-true, lt-ltb, ltb, ℤ, pos, length, length-map}
use Rattle.integers.specs.Integer.{◌≈◌, nat, neg}
use Rattle.integers.specs.Bridge.{to_z, z-eq}
use Rattle.integers.specs.Sum.{sum, point}
use Rattle.transport.specs.Lists.{all, at, below}
use Rattle.transport.specs.Laws.ListLaws.{and_left, and_right, all-at, all_of, all-below, all-below-at, map-member, member-place}
use Rattle.transport.specs.Problem.{Problem, sources, sinks, Lane, lane_cost, place}
use Rattle.transport.specs.Laws.Sound.{Sound}
use Rattle.transport.specs.Laws.ProblemLaws.{lane}
use Rattle.transport.specs.Amount.{nothing, add, same, paired_supply_of, paired_demand_of}
use Rattle.transport.specs.Laws.AmountLaws.{same_true, same_self}
use Rattle.transport.specs.Tableau.{no_cell, lane_of, basis_for, basis_size}
use Rattle.transport.specs.Belonging.{on_sheet, in_order, above_zero, row_total, column_total, balanced, spans, cells_belong}
use Rattle.transport.specs.Leaf.{strikes}
use Rattle.transport.specs.Potential.{potential}
use Rattle.transport.specs.Round.{sign}
use Rattle.transport.specs.Statements.{Basic, Belongs}
use Rattle.transport.specs.declared.Pair.{Pair}
use Rattle.transport.specs.declared.Cell.{Cell}
use Rattle.network.specs.Flow.{On, Flow, Tight}
use Rattle.network.specs.FlowLaws.{flow-on}
use Rattle.network.specs.Basis.{In, Basis, distinct}
use Rattle.tableaux.specs.PairLaws.{demand-marks}
use Rattle.tableaux.specs.View.{row_of, col_of, basic_in, Distinct, Inside, basic-later, amount_at, amount-later, row-sum, column-sum}
use Rattle.tableaux.specs.Lanes.{Fits, has-basic}
use Rattle.tableaux.specs.Striking.{spans_iff}
use Rattle.tableaux.specs.Bases.{joined-on}
use Rattle.tableaux.specs.Flows.{signs_of}
use Rattle.tableaux.specs.Potentials.{potential-tight}

-- Belonging looks at amounts alone.
pub belongs-amounts : (P Q : Problem) (T : List Cell) → P.supply ≡ Q.supply → P.demand ≡ Q.demand
    → cells_belong P T ≡ cells_belong Q T
unfolding cells_belong on_sheet balanced sources sinks paired_supply_of paired_demand_of
belongs-amounts P Q T s d = rw (s, d)

-- ---- each test, and what it says

pub order-true : (n : ℕ) (T : List Cell) → in_order n T ≡ true → (k : ℕ) → suc k < length T → place n (row_of T k) (col_of T k)
    < place n (row_of T (suc k)) (col_of T (suc k))
unfolding in_order
order-true n [] e k l = absurd (omega arith)
order-true n (c ∷ []) e k l = absurd (omega arith)
order-true n (c ∷ d ∷ cs) e zero l = ltb-true _ _ (and_left (ltb (place n c.row c.col) (place n d.row d.col)) (in_order n (d ∷ cs)) e)
order-true n (c ∷ d ∷ cs) e (suc k) l =
    order-true n (d ∷ cs) (and_right (ltb (place n c.row c.col) (place n d.row d.col)) (in_order n (d ∷ cs)) e) k (omega arith)

true-order : (n : ℕ) (T : List Cell) → ((k : ℕ) → suc k < length T → place n (row_of T k) (col_of T k) < place n (row_of T (suc k)) (col_of T (suc k)))
    → in_order n T ≡ true
unfolding in_order
true-order n [] h = refl
true-order n (c ∷ []) h = refl
true-order n (c ∷ d ∷ cs) h = rw (
  lt-ltb (place n c.row c.col) (place n d.row d.col) (h 0 (omega arith)),
  true-order n (d ∷ cs) (λ k l. h (suc k) (omega arith)),
)

pub fits-inside : (m n : ℕ) (T : List Cell) → Inside m n T → Fits m n (basis_for T)
unfolding basis_for lane_of
fits-inside m n T h l q = let (c, r, e) = map-member lane_of T q in let (k, b, s) = member-place no_cell r in rw (e, ← s) (h k b)

five : (a b c d e : Bool) → a && b && c && d && e ≡ true → (a ≡ true) × (b ≡ true) × (c ≡ true) × (d ≡ true) × (e ≡ true)
five true true true true e h = (refl, refl, refl, refl, h)
five true true true false e h = absurd (false≢true h)
five true true false d e h = absurd (false≢true h)
five true false c d e h = absurd (false≢true h)
five false b c d e h = absurd (false≢true h)

on-sheet : (P : Problem) (T : List Cell) → all (on_sheet P) T ≡ true → Inside (sources P) (sinks P) T
unfolding on_sheet
on-sheet P T e k l =
    let row = ltb (row_of T k) (sources P) in
    let col = ltb (col_of T k) (sinks P) in
    let both : row && col ≡ true = all-at (on_sheet P) T no_cell k e l in
    (ltb-true (row_of T k) (sources P) (and_left row col both), ltb-true (col_of T k) (sinks P) (and_right row col both))

-- ---- belonging

-- The tests of belonging say what the paper says; that the cells join all, by `spans_iff`.
pub belongs_iff : (P : Problem) (T : List Cell) → 1 ≤ sources P → 1 ≤ sinks P → (cells_belong P T ≡ true) ↔ Belongs P T
unfolding cells_belong balanced on_sheet above_zero basis_for
belongs_iff P T p q =
    let m : ℕ = sources P in
    let n : ℕ = sinks P in
    let sheet : Bool = all (on_sheet P) T in
    let order : Bool = in_order n T in
    let tree : Bool = spans m n (basis_for T) in
    let above : Bool = all above_zero T in
    let row : ℕ → Bool = λ i. same (row_total T i) (paired_supply_of P i) in
    let column : ℕ → Bool = λ j. same (column_total T j) (paired_demand_of P j) in
    let rows : Bool = all row (below m) in
    let columns : Bool = all column (below n) in (
      (λ e. let (a, o, t, v, r) = five sheet order tree above (rows && columns) e in
          let inside = on-sheet P T a in
          let (size, join) = (spans_iff p (fits-inside m n T inside)).0 t in
          record {
            count = sym (length-map T lane_of) ∙ size;
            on_sheet = inside;
            order = order-true n T o;
            joined = joined-on (λ i j w. (has-basic T i j).0 w) join;
            above = λ k l. all-at above_zero T no_cell k v l;
            rows = λ i l. same_true (row_total T i) (paired_supply_of P i) (all-below-at row m i (and_left rows columns r) l);
            columns = λ j l. same_true (column_total T j) (paired_demand_of P j) (all-below-at column n j (and_right rows columns r) l);
          }),
      (λ b.
          let join = joined-on (λ i j w. (has-basic T i j).1 w) b.joined in
          let a : sheet ≡ true = all_of (on_sheet P) T no_cell (λ k l. let (x, y) = b.on_sheet k l in rw (lt-ltb (row_of T k) m x, lt-ltb (col_of T k) n y)) in
          let t : tree ≡ true = (spans_iff p (fits-inside m n T b.on_sheet)).1 (length-map T lane_of ∙ b.count, join) in
          let r : rows ≡ true = all-below row m (λ i l. rw (b.rows i l) (same_self (paired_supply_of P i))) in
          let c : columns ≡ true = all-below column n (λ j l. rw (b.columns j l) (same_self (paired_demand_of P j))) in
          rw (a, true-order n T b.order, t, all_of above_zero T no_cell b.above, r, c)),
    )

-- ---- what it gives

basic-or : (T : List Cell) (i j : ℕ) → Basic T i j ⊎ (amount_at T i j ≡ nothing)
unfolding amount_at
basic-or [] i j = inr refl
basic-or (c ∷ cs) i j = by_cases (Dec-and (ℕ_discrete c.row i) (ℕ_discrete c.col j))
    (λ e. inl (record { index = 0; below = omega arith; row = e.0; column = e.1 }))
    (λ e. ⊎_elim (λ b. inl (basic-later c cs i j b)) (λ z. inr (amount-later c cs i j e ∙ z)) (basic-or cs i j))

module _ {P : Problem} {T : List Cell} (c : Sound P) (b : Belongs P T) where
  pub inside_of : Inside (sources P) (sinks P) T
  inside_of = b.on_sheet

  on-cells : (i j : ℕ) → Basic T i j → In (row_of T) (col_of T) (suc (sources P + sinks P - 2)) i j
  unfolding basis_size
  on-cells i j = (basic_in T (suc (sources P + sinks P - 2)) i j (omega (arith, b.count, c.sources_low, c.sinks_low))).0

  pub basis_of : Basis (sources P) (sinks P) (sources P + sinks P - 2) (row_of T) (col_of T)
  unfolding basis_size
  basis_of = record {
    size = omega (arith, c.sources_low, c.sinks_low);
    rows = λ k l. (b.on_sheet k (omega (arith, b.count))).0;
    cols = λ k l. (b.on_sheet k (omega (arith, b.count))).1;
    joined = joined-on on-cells b.joined;
  }

  pub distinct_of : Distinct T
  unfolding basis_size
  distinct_of k l hk hl = distinct basis_of k l (omega (arith, b.count)) (omega (arith, b.count))

  -- What the amounts of a row, or of a column, add up to.
  module _ (part : Pair → ℤ) (part-zero : part nothing ≡ pos 0) (part-add : (a b : Pair) → part (add a b) ≡ part a +ℤ part b) where
    row_for : (i : ℕ) → i < sources P → sum (sinks P) (λ j. to_z (part (amount_at T i j))) ≈ to_z (part (paired_supply_of P i))
    unfolding row_total
    row_for i l = rw (← b.rows i l) (row-sum part part-zero part-add (sources P) (sinks P) T distinct_of inside_of i)

    column_of : (j : ℕ) → j < sinks P → sum (sources P) (λ i. to_z (part (amount_at T i j))) ≈ to_z (part (paired_demand_of P j))
    unfolding column_total
    column_of j l = rw (← b.columns j l) (column-sum part part-zero part-add (sources P) (sinks P) T distinct_of inside_of j)

    on-basis : On (sources P) (sinks P) (In (row_of T) (col_of T) (suc (sources P + sinks P - 2))) (λ i j. to_z (part (amount_at T i j)))
    on-basis i j hi hj e = ⊎_elim (on-cells i j) (λ z. absurd (e (z-eq (ap part z ∙ part-zero)))) (basic-or T i j)

  -- The bags are the flow of the supplies and demands ..
  pub bags-flow : Flow (sources P) (sinks P) (In (row_of T) (col_of T) (suc (sources P + sinks P - 2))) (λ i j. to_z (amount_at T i j).q)
      (λ i. nat (at P.supply i)) (λ j. nat (at P.demand j))
  unfolding nothing add paired_supply_of paired_demand_of
  bags-flow = record {
    on = on-basis (λ a. a.q) refl (λ a b. refl);
    rows = row_for (λ a. a.q) refl (λ a b. refl);
    cols = column_of (λ a. a.q) refl (λ a b. refl);
  }

  -- .. and the marks that of one mark from each row to the last column.
  pub marks-flow : Flow (sources P) (sinks P) (In (row_of T) (col_of T) (suc (sources P + sinks P - 2))) (λ i j. to_z (amount_at T i j).e)
      (λ i. nat 1) (point (sinks P - 1) (nat (sources P)))
  unfolding nothing add paired_supply_of paired_demand_of
  marks-flow = record {
    on = on-basis (λ a. a.e) refl (λ a b. refl);
    rows = row_for (λ a. a.e) refl (λ a b. refl);
    cols = λ j l. omega (arith, column_of (λ a. a.e) refl (λ a b. refl) j l, demand-marks P j);
  }

  -- The lanes of the cells are inside the sheet and span.
  pub fits_of : Fits (sources P) (sinks P) (basis_for T)
  fits_of = fits-inside (sources P) (sinks P) T inside_of

  pub spans_of : spans (sources P) (sinks P) (basis_for T) ≡ true
  unfolding basis_for
  spans_of = (spans_iff c.sources_low fits_of).1 (length-map T lane_of ∙ b.count, joined-on (λ i j w. (has-basic T i j).1 w) b.joined)

  -- The signs of the loop that an entering lane closes are the flow of −1 at its row and −1 at its column.
  pub signs-flow : (enter : Lane) → enter.row < sources P → enter.col < sinks P
      → Flow (sources P) (sinks P) (In (row_of T) (col_of T) (suc (sources P + sinks P - 2)))
      (λ i j. to_z (sign (sources P) (strikes (sources P) (sinks P) (basis_for T)) enter (lane i j))) (point enter.row (neg (nat 1)))
      (point enter.col (neg (nat 1)))
  signs-flow enter hr hc = flow-on (λ i j hi hj w. on-cells i j ((has-basic T i j).0 w)) (signs_of c.sources_low fits_of spans_of enter hr hc)

  -- The prices add up to the cost on every basic cell.
  pub prices-tight : (i j : ℕ) → Basic T i j
      → Tight (λ i j. to_z (lane_cost P (lane i j))) (λ i. to_z (potential P T i)) (λ j. to_z (potential P T (sources P + j))) i j
  unfolding potential
  prices-tight i j w = potential-tight c.sources_low fits_of spans_of (lane_cost P) (lane i j) ((has-basic T i j).1 w)

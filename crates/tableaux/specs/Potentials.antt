-- Potentials through the strikes: tight on every lane, 0 at the root, the only such numbers, and bounded.
use Rattle.std.specs.Prelude.{◌≡◌, ◌≢◌, ◌∷◌, ◌+◌, ◌*◌, ◌-◌, ◌≤◌, ◌<◌, ◌-ℤ◌}
use Rattle.prelude.specs.Words.{refl, ap, sym, ◌∙◌, by_cases, true, List, [], Memᴰ, Memᴰ-head, Memᴰ-tail, inl, inr}
use Rattle.prelude.specs.Words.{Memᴰ-not_nil, Memᴰ-cases_cons, ℕ, arith, mul-le-mul_right, ℕ_discrete, dec_lt, eq-eqb, ne_eqb}
use Rattle.prelude.specs.Words.{ℤ, pos, neg_ℤ, nat_abs, length}
use Rattle.integers.specs.Integer.{◌≈◌, ◌⊕◌}
use Rattle.integers.specs.Bridge.{to_z, z-add, z-neg, z-eq, eq-z}
use Rattle.transport.specs.Limits.{max_side, max_cost, cost_below, cost_above, max_cells}
use Rattle.transport.specs.Lists.{at_z}
use Rattle.transport.specs.Problem.{Problem, sources, sinks, Lane, place, lane_cost}
use Rattle.transport.specs.Laws.RangeLaws.{abs_diff, abs_between}
use Rattle.transport.specs.Laws.Sound.{Sound}
use Rattle.transport.specs.Laws.ProblemLaws.{lane}
use Rattle.transport.specs.Tableau.{basis_size, basis_for}
use Rattle.transport.specs.Leaf.{Strike, strikes}
use Rattle.transport.specs.Belonging.{spans}
use Rattle.transport.specs.Potential.{potential_by, potential}
use Rattle.transport.specs.declared.Cell.{Cell}
use Rattle.network.specs.Joined.{potentials_unique}
use Rattle.tableaux.specs.Lanes.{Fits}
use Rattle.tableaux.specs.Leaves.{row-struck, column-struck, ends-differ}
use Rattle.tableaux.specs.Striking.{Peeled, bare, peel, Struck, struck_of, step_of, root_no_leaf, spans_iff}

-- ---- potentials, strike by strike

module _ (cost : Lane → ℤ) where
  potential-leaf : (s : Strike) (ss : List Strike) → potential_by cost (s ∷ ss) s.leaf ≡ cost s.lane -ℤ potential_by cost ss s.other
  unfolding potential_by
  potential-leaf s ss = rw (eq-eqb s.leaf s.leaf refl, potential_by)

  potential-later : (s : Strike) (ss : List Strike) (k : ℕ) → k ≢ s.leaf → potential_by cost (s ∷ ss) k ≡ potential_by cost ss k
  unfolding potential_by
  potential-later s ss k e = rw (ne_eqb k s.leaf e, potential_by)

  -- A node that is no leaf has potential 0.
  pub potential-off : (ss : List Strike) (k : ℕ) → ((s : Strike) → Memᴰ s ss → s.leaf ≢ k) → potential_by cost ss k ≡ pos 0
  unfolding potential_by
  potential-off [] k d = refl
  potential-off (s ∷ ss) k d = potential-later s ss k (λ e. d s (Memᴰ-head refl) (sym e)) ∙ potential-off ss k (λ t h. d t (Memᴰ-tail h))

  -- On the lane of each strike the two potentials add up to the cost: so they do when the leaf gets its own, and no earlier strike changes either.
  strike-tight : {m n : ℕ} {ss : List Strike} → Peeled m n ss → (s : Strike) → Memᴰ s ss
      → to_z (potential_by cost ss s.leaf) ⊕ to_z (potential_by cost ss s.other) ≈ to_z (cost s.lane)
  strike-tight bare s h = absurd (Memᴰ-not_nil h)
  strike-tight {m} {n} (peel {s} {later} st rest) t h =
      let here : to_z (potential_by cost (s ∷ later) s.leaf) ⊕ to_z (potential_by cost (s ∷ later) s.other) ≈ to_z (cost s.lane) =
      rw (potential-leaf s later, potential-later s later s.other (λ e. ends-differ st.ends st.row (sym e)))
      (omega (arith, z-add (cost s.lane) (neg_ℤ (potential_by cost later s.other)), z-neg (potential_by cost later s.other))) in
      elim (Memᴰ-cases_cons h) [
        | inl e ↦ rw e here
        | inr q ↦ let (a, b) = st.clear t q in rw (potential-later s later t.leaf a, potential-later s later t.other b) (strike-tight rest t q)
      ]

  -- Each assignment adds at most one cost.
  potential_bound : (C : ℕ) (ss : List Strike) → ((s : Strike) → Memᴰ s ss → nat_abs (cost s.lane) ≤ C) → (k : ℕ) → nat_abs (potential_by cost ss k)
      ≤ length ss * C
  unfolding potential_by
  potential_bound C [] h k = omega arith
  potential_bound C (s ∷ ss) h k =
      let rest = potential_bound C ss (λ t q. h t (Memᴰ-tail q)) in
      by_cases (ℕ_discrete k s.leaf)
      (λ e. rw (e, potential-leaf s ss)
      (omega (arith, abs_diff (cost s.lane) (potential_by cost ss s.other), h s (Memᴰ-head refl), rest s.other)))
      (λ e. rw (potential-later s ss k e) (omega (arith, rest k)))

-- In whatever order the lanes are struck off, the potentials are tight on each of them.
struck-tight : {m n : ℕ} {B : List Lane} {ss : List Strike} → Struck m n B ss → (cost : Lane → ℤ) (l : Lane) → Memᴰ l B
    → to_z (potential_by cost ss l.row) ⊕ to_z (potential_by cost ss (m + l.col)) ≈ to_z (cost l)
struck-tight {m} {n} {B} {ss} w cost l q =
    let (s, r, c) = w.struck l q in
    let (later, st) = step_of w.peels s r in
    let both = strike-tight cost w.peels s r in
    let by : ℕ → ℤ = potential_by cost ss in
    rw (← c) (elim st.ends [
      | row-struck a b ↦ omega (arith, z-eq (ap by a), z-eq (ap by b))
      | column-struck a b ↦ omega (arith, z-eq (ap by a), z-eq (ap by b))
    ])

module _ {m n : ℕ} {B : List Lane} (p : 1 ≤ m) (h : Fits m n B) (e : spans m n B ≡ true) (cost : Lane → ℤ) where
  abbrev solution : ℕ → ℤ
  solution = potential_by cost (strikes m n B)

  pub potential-root : solution 0 ≡ pos 0
  potential-root = potential-off cost (strikes m n B) 0 (root_no_leaf (struck_of p h e).peels)

  pub potential-tight : (l : Lane) → Memᴰ l B → to_z (solution l.row) ⊕ to_z (solution (m + l.col)) ≈ to_z (cost l)
  potential-tight = struck-tight (struck_of p h e) cost

  -- They are the only numbers that are 0 at the root and tight on every lane.
  pub potential-only : (q : ℕ → ℤ) → q 0 ≡ pos 0 → ((l : Lane) → Memᴰ l B → to_z (q l.row) ⊕ to_z (q (m + l.col)) ≈ to_z (cost l))
      → (k : ℕ) → k < m + n → q k ≡ solution k
  potential-only q z tight k l =
      let (rows, columns) = potentials_unique ((spans_iff p h).0 e).1 (λ i j. to_z (cost (lane i j)))
      (λ i. to_z (q i)) (λ j. to_z (q (m + j))) (λ i. to_z (solution i)) (λ j. to_z (solution (m + j)))
      (λ i j hi hj s. tight (lane i j) s) (λ i j hi hj s. potential-tight (lane i j) s) (z-eq (z ∙ sym potential-root)) in
      by_cases (dec_lt k m)
      (λ r. eq-z (q k) (solution k) (rows k r))
      (λ r.
      let place : m + (k - m) ≡ k = omega arith in
      eq-z (q k) (solution k) (omega (arith, columns (k - m) (omega arith), z-eq (ap q place), z-eq (ap solution place))))

  -- So every order of striking gives the same.
  pub potential_any : {ss : List Strike} → Struck m n B ss → (k : ℕ) → k < m + n → potential_by cost ss k ≡ solution k
  potential_any {ss} w = potential-only (potential_by cost ss) (potential-off cost ss 0 (root_no_leaf w.peels)) (struck-tight w cost)

  -- After m + n − 1 assignments none passes m + n − 1 times the greatest cost.
  pub potential-size : (C : ℕ) → ((l : Lane) → Memᴰ l B → nat_abs (cost l) ≤ C) → (k : ℕ) → nat_abs (solution k) ≤ basis_size m n * C
  unfolding basis_size
  potential-size C c k =
      let count : length (strikes m n B) ≡ m + n - 1 = omega (arith, (struck_of p h e).size) in
      rw (← count) (potential_bound cost C (strikes m n B) (λ s q. c s.lane ((struck_of p h e).lanes s q)) k)

-- A cost of a problem, in size: it is as far below 0 as above it.
pub cost-size : {P : Problem} → Sound P → (k : ℕ) → nat_abs (at_z P.cost k) ≤ cost_above
unfolding cost_below cost_above
cost-size {P} ok k = abs_between (ok.cost_low k) (ok.cost_high k)

-- No price of a tableau passes 63,000,000 in size.
pub price_size : (P : Problem) → Sound P → (T : List Cell) → Fits (sources P) (sinks P) (basis_for T) → spans (sources P) (sinks P) (basis_for T) ≡ true
    → (k : ℕ) → nat_abs (potential P T k) ≤ max_cells * cost_above
unfolding potential lane_cost max_cells basis_size
price_size P c T h e k =
    let nodes = mul-le-mul_right {m = sources P + sinks P - 1} {n = 2 * max_side - 1} cost_above (omega (arith, c.sources_high, c.sinks_high)) in
    omega (arith, potential-size c.sources_low h e (lane_cost P) cost_above (λ l q. cost-size c (place (sinks P) l.row l.col)) k)

pub price_limit : max_cells * cost_above ≡ 63_000_000
unfolding max_cells max_side cost_above max_cost
price_limit = refl

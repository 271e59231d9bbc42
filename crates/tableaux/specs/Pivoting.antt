-- The pivot of a tableau that belongs to a sheet belongs to it: the abstract round, read off the lists.
use Rattle.std.specs.Prelude.{◌≡◌, ◌+◌, ◌*◌, ◌-◌, ◌<◌}
use Rattle.prelude.specs.Words.{refl, ap, sym, ◌∙◌, subst, inl, inr, Dec-and, true, true≢false, List, Memᴰ, ℕ, zero, suc, arith}
use Rattle.prelude.specs.Words.{by_cases, ℕ_discrete, ℤ, pos, negsuc, lt_z, length, get_or}
use Rattle.integers.specs.Integer.{Z, ◌≈◌, ◌≼◌, ◌≺◌, ◌⊕◌, ◌⊖◌, ◌⊗◌, neg, nat, Within}
use Rattle.integers.specs.IntegerLaws.{⊗_cong}
use Rattle.integers.specs.Bridge.{to_z, z-eq, eq-z}
use Rattle.integers.specs.Sum.{point}
use Rattle.integers.specs.SumLaws.{sum₂_cong}
use Rattle.integers.specs.Tests.{lt_yes, yes_lt}
use Rattle.network.specs.Flow.{Flow, Tight, cost}
use Rattle.network.specs.FlowLaws.{on-zero}
use Rattle.network.specs.Basis.{In, in_cells, Replaces, unit}
use Rattle.network.specs.Pivot.{loop, loop-at, loop-off, lowers, value, valued}
use Rattle.network.specs.Round.{Tableau, Choice, after, some-minus, tableau_cong, value-above, round-cost, round, no_tie}
use Rattle.transport.specs.Laws.ListLaws.{member-at, member-place}
use Rattle.transport.specs.Problem.{Problem, sources, sinks, Lane}
use Rattle.transport.specs.Laws.Sound.{Sound}
use Rattle.transport.specs.Laws.ProblemLaws.{lane}
use Rattle.transport.specs.Amount.{nothing, less}
use Rattle.transport.specs.Tableau.{no_cell, lane_of, basis_size}
use Rattle.transport.specs.Round.{gain, pivot}
use Rattle.transport.specs.Statements.{Basic, Belongs, MinusCell, HoldsStep, OneStep}
use Rattle.transport.specs.declared.Pair.{Pair}
use Rattle.transport.specs.declared.Cell.{Cell}
use Rattle.tableaux.specs.View.{row_of, col_of, basic_in, amount_at, amount-at, amount-none}
use Rattle.tableaux.specs.PairLaws.{bags, marks, nothing-parts, add_parts, subtract-parts, true-less, less_tie}
use Rattle.tableaux.specs.PlanView.{supplies, demands}
use Rattle.tableaux.specs.Belonging.{distinct_of, signs-flow}
use Rattle.tableaux.specs.Order.{Ordered, ordered_by, basic-member, basic_dec, amount-member}
use Rattle.tableaux.specs.TableauView.{bags_at, marks_at, Seen, cells-many, seen_belongs, belongs_seen}
use Rattle.tableaux.specs.PivotView.{stands_dec, Leaves, leaving-is, signs, leaver, step, pivot-basic, pivot_ordered, length-pivot, pivot-inside}
use Rattle.tableaux.specs.PivotView.{amount-enters, amount-stays, amount-leaves, amount_elsewhere}

-- The loop's signs as integers of the theory.
abbrev sign_at : ℕ → ℕ → List Cell → Lane → ℕ → ℕ → Z
sign_at m n T e i j = to_z (signs m n T e (lane i j))

-- The measure of rounds: the valued cost of the tableau.
abbrev pub measure : Problem → (ℕ → ℕ → Z) → List Cell → Z
measure P c T = cost (sources P) (sinks P) c (valued (sources P) (bags_at T) (marks_at T))

measure_cong : (m n : ℕ) (c q e q₂ e₂ : ℕ → ℕ → Z) → ((i j : ℕ) → i < m → j < n → q i j ≈ q₂ i j) → ((i j : ℕ) → i < m → j < n → e i j ≈ e₂ i j)
    → cost m n c (valued m q e) ≈ cost m n c (valued m q₂ e₂)
measure_cong m n c q e q₂ e₂ h h' = sum₂_cong m n (λ i j. valued m q e i j ⊗ c i j) (λ i j. valued m q₂ e₂ i j ⊗ c i j) (λ i j hi hj.
    let bags = ⊗_cong (nat (2 * m + 1)) (q i j) (q₂ i j) (h i j hi hj) in
    omega (arith, ⊗_cong (c i j) (valued m q e i j) (valued m q₂ e₂ i j) (omega (arith, h' i j hi hj))))

-- The value of the step.
abbrev step_value : ℕ → ℕ → List Cell → Lane → Z
step_value m n T e = value m (bags (step m n T e)) (marks (step m n T e))

-- The pair y comes of x by the step θ, taken d times.
abbrev Moves : Pair → Pair → Pair → Z → Type 0
Moves y x θ d = (bags y ≈ bags x ⊕ bags θ ⊗ d) × (marks y ≈ marks x ⊕ marks θ ⊗ d)

-- The step, taken as often as d says, or as s.
step-times : (θ : Pair) (d s : Z) → d ≈ s → (bags θ ⊗ d ≈ bags θ ⊗ s) × (marks θ ⊗ d ≈ marks θ ⊗ s)
step-times θ d s e = (⊗_cong (bags θ) d s e, ⊗_cong (marks θ) d s e)

-- The step, added or taken away, is the step times the sign.
gain-moves : (s : ℤ) (θ x : Pair) (d : Z) → Within 1 (to_z s) → d ≈ to_z s → Moves (gain s θ x) x θ d
unfolding gain
gain-moves (pos zero) θ x d h e = omega (arith, step-times θ d (nat 0) e)
gain-moves (pos (suc zero)) θ x d h e = omega (arith, step-times θ d (nat 1) e, add_parts x θ)
gain-moves (pos (suc (suc k))) θ x d h e = absurd (omega arith)
gain-moves (negsuc zero) θ x d h e = omega (arith, step-times θ d (neg (nat 1)) e, subtract-parts x θ)
gain-moves (negsuc (suc k)) θ x d h e = absurd (omega arith)

module _ {P : Problem} (ok : Sound P) {T : List Cell} (w : Belongs P T) {e : Lane} (row : e.row < sources P) (col : e.col < sinks P)
    (new : ¬ Basic T e.row e.col) where
  -- m rows and n columns; the basic cells 0 to K; the signs; the leaving cell; the tableau after the pivot
  abbrev m : ℕ
  m = sources P

  abbrev n : ℕ
  n = sinks P

  abbrev K : ℕ
  K = sources P + sinks P - 2

  abbrev σ : ℕ → ℕ → Z
  σ = sign_at (sources P) (sinks P) T e

  abbrev out : Cell
  out = leaver (sources P) (sinks P) T e

  abbrev T' : List Cell
  T' = pivot (sources P) (sinks P) T e

  t : Seen P T
  t = belongs_seen ok w

  f : Flow m n (In (row_of T) (col_of T) (suc K)) σ (point e.row (neg (nat 1))) (point e.col (neg (nat 1)))
  f = signs-flow ok w e row col

  many : suc K ≡ length T
  many = cells-many ok T w.count

  order : Ordered n T
  order = ordered_by n T w.order

  -- ---- the leaving cell

  -- There is a minus cell, so there is a smallest one.
  pub pivot-leaves : Leaves (signs (sources P) (sinks P) T e) T (leaver (sources P) (sinks P) T e)
  unfolding lane_of
  pivot-leaves =
      let (k, l, s) = some-minus row f in
      leaving-is (signs m n T e) T (member-at T no_cell k (omega (arith, many))) (yes_lt (signs m n T e (lane (row_of T k) (col_of T k))) (pos 0) s)

  -- It stands at index ℓ.
  indexed : (ℓ : ℕ) × (ℓ < length T) × (get_or T ℓ no_cell ≡ out)
  indexed = member-place no_cell pivot-leaves.member

  abbrev ℓ : ℕ
  ℓ = indexed.0

  at_out : amount_at T (row_of T ℓ) (col_of T ℓ) ≡ out.amount
  at_out = amount-at T (distinct_of ok w) ℓ indexed.1 ∙ ap (λ c. c.amount) indexed.2

  pub step_positive : less nothing (step (sources P) (sinks P) T e) ≡ true
  step_positive = ap (λ c. less nothing c.amount) (sym indexed.2) ∙ w.above ℓ indexed.1

  choice : Choice m n K (row_of T) (col_of T) (bags_at T) (marks_at T) e.row e.col σ ℓ
  unfolding lane_of
  choice = record {
    row = row;
    col = col;
    off = λ i. new ((basic_in T (suc K) e.row e.col many).1 i);
    signs = f;
    leaves = omega (arith, indexed.1, many);
    minus = subst (λ (c : Cell). to_z (signs m n T e (lane c.row c.col)) ≺ nat 0) (sym indexed.2)
        (lt_yes (signs m n T e (lane_of out)) (pos 0) pivot-leaves.minus);
    least = λ k l s p. true≢false
        (sym (true-less (get_or T k no_cell).amount out.amount (rw (amount-at T (distinct_of ok w) k (omega (arith, many)), at_out) at p))
        ∙ pivot-leaves.least (get_or T k no_cell) (member-at T no_cell k (omega (arith, many)))
        (yes_lt (signs m n T e (lane (row_of T k) (col_of T k))) (pos 0) s));
  }

  -- ---- the cells after the pivot

  length-after : length T' ≡ basis_size m n
  length-after = length-pivot order w.on_sheet col new pivot-leaves.member ∙ w.count

  many-after : suc K ≡ length T'
  many-after = cells-many ok T' length-after

  inside-after : (k : ℕ) → k < suc K → (row_of T' k < m) × (col_of T' k < n)
  inside-after k l = pivot-inside order w.on_sheet col new row k (omega (arith, many-after))

  replaces : Replaces m n (In (row_of T) (col_of T) (suc K)) (row_of T ℓ) (col_of T ℓ) (In (row_of T') (col_of T') (suc K)) e.row e.col
  replaces = record {
    keeps = λ i j hi hj s d. (basic_in T' (suc K) i j many-after).0 ((pivot-basic m n T e i j).1
        (inr ((basic_in T (suc K) i j many).1 s, (λ r. d (r.0 ∙ ap (λ c. c.row) (sym indexed.2), r.1 ∙ ap (λ c. c.col) (sym indexed.2))))));
    enters = (basic_in T' (suc K) e.row e.col many-after).0 ((pivot-basic m n T e e.row e.col).1 (inl (refl, refl)));
  }

  -- ---- the amounts after the pivot

  sign-unit : (i j : ℕ) → Basic T i j → Within 1 (σ i j)
  sign-unit i j b = in_cells (λ i j. Within 1 (σ i j)) (unit t.basis row col f) ((basic_in T (suc K) i j many).0 b)

  off-basis : (i j : ℕ) → i < m → j < n → ¬ Basic T i j → σ i j ≈ nat 0
  off-basis i j hi hj d = on-zero σ f.on i j hi hj (λ s. d ((basic_in T (suc K) i j many).1 s))

  abbrev round-loop : ℕ → ℕ → Z
  round-loop = loop (sign_at (sources P) (sinks P) T e) e.row e.col

  out-basic : Basic T out.row out.col
  out-basic = basic-member pivot-leaves.member

  -- The leaving cell has the sign −1.
  out-minus : signs m n T e (lane_of out) ≡ negsuc 0
  unfolding lane_of
  out-minus =
      let unit = sign-unit out.row out.col out-basic in
      eq-z (signs m n T e (lane_of out)) (negsuc 0) (omega (arith, lt_yes (signs m n T e (lane_of out)) (pos 0) pivot-leaves.minus))

  entering-moves : Moves (amount_at T' e.row e.col) (amount_at T e.row e.col) out.amount (round-loop e.row e.col)
  entering-moves =
      let once = step-times out.amount (round-loop e.row e.col) (nat 1) (loop-at σ e.row e.col (off-basis e.row e.col row col new)) in
      rw (amount-enters order w.on_sheet col new, amount-none T e.row e.col new) (omega (arith, nothing-parts))

  leaving-moves : Moves (amount_at T' out.row out.col) (amount_at T out.row out.col) out.amount (round-loop out.row out.col)
  unfolding lane_of
  leaving-moves =
      let off = loop-off σ e.row e.col out.row out.col (λ s. new (rw (s.0, s.1) at out-basic)) in
      let once = step-times out.amount (round-loop out.row out.col) (neg (nat 1)) (omega (arith, z-eq out-minus)) in
      rw (amount-leaves order w.on_sheet col new pivot-leaves.member, amount-member (distinct_of ok w) pivot-leaves.member)
      (omega (arith, nothing-parts))

  -- Every amount changes by the step times the loop.
  pivot-moves : (i j : ℕ) → i < sources P → j < sinks P
      → Moves (amount_at (pivot (sources P) (sinks P) T e) i j) (amount_at T i j) (step (sources P) (sinks P) T e)
      (loop (sign_at (sources P) (sinks P) T e) e.row e.col i j)
  pivot-moves i j hi hj =
      let d = round-loop i j in
      by_cases (Dec-and (ℕ_discrete i e.row) (ℕ_discrete j e.col)) (λ s. rw (s.0, s.1) entering-moves) (λ s.
      let off = loop-off σ e.row e.col i j s in
      by_cases (basic_dec T i j)
      (λ b. by_cases (stands_dec out i j)
      (λ o. rw (o.0, o.1) leaving-moves)
      (λ o. rw (amount-stays order w.on_sheet col new i j b o)
      (gain-moves (signs m n T e (lane i j)) out.amount (amount_at T i j) d (sign-unit i j b) off)))
      (λ b.
      let none = step-times out.amount d (nat 0) (omega (arith, off-basis i j hi hj b)) in
      rw (amount_elsewhere order w.on_sheet col new i j b s, amount-none T i j b) (omega (arith, nothing-parts))))

  -- ---- the tableau after the pivot

  hz : n - 1 < n
  hz = omega (arith, ok.sinks_low)

  wanted : (j : ℕ) → j < n → nat 0 ≺ demands P j
  wanted j l = omega (arith, ok.demand_low j l)

  round-after : Tableau m n K (row_of T') (col_of T') (after (row_of T) (col_of T) ℓ σ e.row e.col (bags_at T))
      (after (row_of T) (col_of T) ℓ σ e.row e.col (marks_at T)) (supplies P) (demands P) (n - 1)
  round-after = round hz wanted t choice (λ k l. (inside-after k l).0) (λ k l. (inside-after k l).1) replaces

  bags-after : (i j : ℕ) → i < m → j < n → bags_at T' i j ≈ after (row_of T) (col_of T) ℓ σ e.row e.col (bags_at T) i j
  bags-after i j hi hj = rw at_out (pivot-moves i j hi hj).0

  marks-after : (i j : ℕ) → i < m → j < n → marks_at T' i j ≈ after (row_of T) (col_of T) ℓ σ e.row e.col (marks_at T) i j
  marks-after i j hi hj = rw at_out (pivot-moves i j hi hj).1

  pivot_seen : Seen P (pivot (sources P) (sinks P) T e)
  pivot_seen = tableau_cong bags-after marks-after round-after

  -- The pivot belongs to the sheet. Every amount changes by the step times the sign of its lane on the loop, so rows and columns add up as before; and a
  -- basis with the step, its smallest minus pair, moved round the loop is a tableau again (network's `round`).
  pub pivot-belongs : Belongs P (pivot (sources P) (sinks P) T e)
  pivot-belongs = seen_belongs ok T' length-after (pivot_ordered order w.on_sheet col new) pivot_seen

  -- Two minus cells never tie for the step: another one with it would be left with (0, 0).
  pub pivot_no_tie : {c : Cell} → Memᴰ c T → lt_z (signs (sources P) (sinks P) T e (lane_of c)) (pos 0) ≡ true → c.amount ≡ step (sources P) (sinks P) T e
      → c ≡ leaver (sources P) (sinks P) T e
  unfolding lane_of
  pivot_no_tie {c} mem minus same =
      let (k, l, s) = member-place no_cell mem in
      let amounts = amount-at T (distinct_of ok w) k l ∙ ap (λ x. x.amount) s ∙ same ∙ sym at_out in
      let below = subst (λ (x : Cell). to_z (signs m n T e (lane x.row x.col)) ≺ nat 0) (sym s) (lt_yes (signs m n T e (lane_of c)) (pos 0) minus) in
      let tie = no_tie hz wanted t choice (λ k l. (inside-after k l).0) (λ k l. (inside-after k l).1) replaces k (omega (arith, many)) below
      (z-eq (ap (λ x. x.q) amounts)) (z-eq (ap (λ x. x.e) amounts)) in
      sym s ∙ ap (λ i. get_or T i no_cell) tie ∙ indexed.2

  minus_test : {c : Cell} → MinusCell P T e c → lt_z (signs (sources P) (sinks P) T e (lane_of c)) (pos 0) ≡ true
  minus_test h = rw h.minus

  -- The leaving cell has a minus, and none with a minus has a smaller pair ..
  out-holds : HoldsStep P T e out
  unfolding lane_of
  out-holds = record {
    cell = record { basic = pivot-leaves.member; minus = out-minus };
    smallest = λ d h. pivot-leaves.least d h.basic (minus_test h);
  }

  -- .. and it alone holds the step.
  pub one-step : OneStep P T e
  one-step =
      let is-out : (c : Cell) → HoldsStep P T e c → c ≡ out = λ c h. pivot_no_tie h.cell.basic (minus_test h.cell)
      (less_tie c.amount out.amount (out-holds.smallest c h.cell) (h.smallest out out-holds.cell)) in
      record { holds = out-holds; no_tie_of = λ c d h k. is-out c h ∙ sym (is-out d k) }

  -- ---- the valued cost

  at-step : valued m (bags_at T) (marks_at T) (row_of T ℓ) (col_of T ℓ) ≡ step_value m n T e
  at-step = ap (λ x. value m (bags x) (marks x)) at_out

  step_value_positive : nat 1 ≼ step_value (sources P) (sinks P) T e
  step_value_positive = let h : nat 0 ≺ step_value m n T e = subst (λ (x : Z). nat 0 ≺ x) at-step (value-above hz t ℓ (omega (arith, many, indexed.1))) in
      omega arith

  -- The valued cost changes by the value of the step times the reduced cost of the entering lane.
  pivot-measure : (c : ℕ → ℕ → Z) (u v : ℕ → Z) → ((i j : ℕ) → Basic T i j → Tight c u v i j)
      → measure P c (pivot (sources P) (sinks P) T e) ≈ measure P c T ⊕ step_value (sources P) (sinks P) T e ⊗ (c e.row e.col ⊖ u e.row ⊖ v e.col)
  pivot-measure c u v tight =
      let q' : ℕ → ℕ → Z = after (row_of T) (col_of T) ℓ σ e.row e.col (bags_at T) in
      let e' : ℕ → ℕ → Z = after (row_of T) (col_of T) ℓ σ e.row e.col (marks_at T) in
      let same : measure P c T' ≈ cost m n c (valued m q' e') = measure_cong m n c (bags_at T') (marks_at T') q' e' bags-after marks-after in
      let change : cost m n c (valued m q' e') ≈ measure P c T ⊕ step_value (sources P) (sinks P) T e ⊗ (c e.row e.col ⊖ u e.row ⊖ v e.col) =
      subst (λ (x : Z). cost m n c (valued m q' e') ≈ measure P c T ⊕ x ⊗ (c e.row e.col ⊖ u e.row ⊖ v e.col)) at-step
      (round-cost hz wanted t choice c u v
      (λ k l. tight (row_of T k) (col_of T k) (record { index = k; below = omega (arith, many); row = refl; column = refl }))) in
      omega (arith, same, change)

  -- So where that reduced cost is negative it falls by 1 or more, for the step's value is positive.
  pub pivot-falls : (c : ℕ → ℕ → Z) (u v : ℕ → Z) → ((i j : ℕ) → Basic T i j → Tight c u v i j) → c e.row e.col ≺ u e.row ⊕ v e.col
      → measure P c (pivot (sources P) (sinks P) T e) ⊕ nat 1 ≼ measure P c T
  pivot-falls c u v tight h = let l : measure P c T' ≺ measure P c T =
      lowers (measure P c T) (measure P c T') (step_value m n T e) (c e.row e.col ⊖ u e.row ⊖ v e.col) (pivot-measure c u v tight)
      (omega (arith, step_value_positive)) (omega arith) in omega arith

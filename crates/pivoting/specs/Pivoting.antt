-- A pivot on the arrays that hold a tableau: its amounts by lane, and its tree. What the loop's slots, the slot with the least pair and the amounts after the
-- step are, in the terms of the specification; and that the arrays then hold the next tableau, with its tree.
use Rattle.std.specs.Prelude.{◌≡◌, ◌&&◌, ◌+◌, ◌-◌, ◌*◌, ◌/◌, ◌%◌, ◌<◌, ◌≤◌, ◌+ℤ◌, ◌-ℤ◌}
use Rattle.prelude.specs.Words.{refl, sym, ap, ◌∙◌, inl, inr, ⊎_elim, by_cases, Dec-and, Bool, true, false, not, cond, xor, List, Memᴰ, ℕ, zero}
use Rattle.prelude.specs.Words.{suc, arith, ℕ_discrete, dec_lt, lt-ltb, le-ltb, ℤ, pos, negsuc, nat_abs, neg_ℤ}
use Rattle.prelude.specs.Words.{+ℤ_idl, lt_z, length, get_or, set, length-set, get_or-set_same, get_or-set_other, by_test, clash}
use Rattle.integers.specs.Integer.{Z, ◌≈◌, ◌⊕◌, ◌⊖◌, neg, nat, Within}
use Rattle.integers.specs.Bridge.{to_z, eq-z, z-add, z-neg}
use Rattle.transport.specs.Limits.{max_side, max_amount, max_bags}
use Rattle.transport.specs.Laws.ListLaws.{and_left}
use Rattle.transport.specs.Problem.{Problem, sources, sinks, Lane, lane_cost}
use Rattle.transport.specs.Laws.ProblemLaws.{lane}
use Rattle.transport.specs.Laws.Sound.{Sound, supply-most}
use Rattle.transport.specs.Amount.{nothing, add, subtract, less, Fit}
use Rattle.transport.specs.Laws.RangeLaws.{abs_add, abs_diff}
use Rattle.transport.specs.Laws.AmountLaws.{less-q, less-e, lt_z_tie, fewer, equal, more, compared}
use Rattle.transport.specs.Tableau.{lane_of, basis_for}
use Rattle.transport.specs.Belonging.{spans}
use Rattle.transport.specs.Potential.{potential, reduced_cost}
use Rattle.transport.specs.Round.{gain, pivot}
use Rattle.transport.specs.Statements.{Basic, Belongs}
use Rattle.transport.specs.declared.Pair.{Pair}
use Rattle.transport.specs.declared.Cell.{Cell}
use Rattle.tableaux.specs.View.{amount_at, amount-none}
use Rattle.tableaux.specs.Lanes.{Fits, has-basic}
use Rattle.tableaux.specs.Flows.{signs_of, sign-off}
use Rattle.tableaux.specs.Potentials.{potential-root, potential-tight, potential-only}
use Rattle.tableaux.specs.Belonging.{belongs_iff, inside_of, distinct_of, fits_of, spans_of}
use Rattle.tableaux.specs.TableauView.{cell_bounded}
use Rattle.tableaux.specs.PairLaws.{subtract_self}
use Rattle.tableaux.specs.Order.{Ordered, ordered_by, cell_at, basic_dec, basic-member, amount-member}
use Rattle.tableaux.specs.PivotView.{Stands, stands_dec, signs, leaver, step, Leaves, inside-member, amount-enters, amount-stays, amount-leaves}
use Rattle.tableaux.specs.PivotView.{amount_elsewhere, pivot-basic}
use Rattle.tableaux.specs.Pivoting.{pivot-leaves, pivot_no_tie, pivot-belongs}
use Rattle.tree.specs.Mask.{has, has-zero}
use Rattle.tree.specs.Bits.{has_xor}
use Rattle.tree.specs.Layout.{stride, node_room, lane_room, lane_at, lane_index, lane_index-at, lane_at-place}
use Rattle.cuts.specs.Cuts.{sign_by, sign-by, slots_apart, Exchanged, Shifted, shifted-root, shifted-tight}
use Rattle.cuts.specs.Cycle.{on_loop, row_far, LoopSlots}
use Rattle.cuts.specs.Exchange.{Regrafted, loop_slot, loop-across, tree-exchanged}
use Rattle.board.specs.declared.Board as declared
use Rattle.board.specs.Arrays.{sound-sides, Amounts, Board}
use Rattle.board.specs.Drawing.{board-belongs}
use Rattle.board.specs.Slots.{pair_at, Slotted, LeastSlot, Added}

-- The lane from row to col is one of the problem, and not basic.
pub record Enters (P : Problem) (T : List Cell) (row col : ℕ) : Type 0 where
  pub in_row : row < sources P
  pub in_col : col < sinks P
  pub new : ¬ Basic T row col

-- The nodes of `far` moved by x from the prices of T, rows up and columns down, so that the lane from row to col becomes tight.
pub record Shifts (P : Problem) (T : List Cell) (m row col far : ℕ) (π : ℕ → ℤ) : Type 0 where
  pub x : Z
  pub by : x ≈ (let r = to_z (reduced_cost P T (lane row col)) in cond (has far row) r (neg r))
  pub rows : (i : ℕ) → i < m → to_z (π i) ≈ to_z (potential P T i) ⊕ cond (has far i) x (nat 0)
  pub cols : (j : ℕ) → j < sinks P → to_z (π (m + j)) ≈ to_z (potential P T (m + j)) ⊖ cond (has far (m + j)) x (nat 0)

-- After the pivot: the arrays hold the next tableau, and the nodes of `far` are those whose price moves.
pub record Pivoted (P : Problem) (T : List Cell) (m n row col : ℕ) (q e : List ℤ) (sub path lanes : List ℕ) (far : ℕ) : Type 0 where
  pub board : Board P (pivot m n T (lane row col)) q e sub path lanes m n
  pub inside : (k : ℕ) → m + n ≤ k → has far k ≡ false
  pub prices : (π : ℕ → ℤ) → Shifts P T m row col far π → (k : ℕ) → k < m + n → π k ≡ potential P (pivot m n T (lane row col)) k

abbrev pub PivotedOn : Problem → List Cell → ℕ → ℕ → ℕ → ℕ → declared.Board → ℕ → Type 0
PivotedOn P T m n row col b far =
    Pivoted P T m n row col b.amounts.q b.amounts.e b.basis.sub b.basis.path b.basis.lane far

-- ---- amounts

-- On a basic lane lie at most as many bags as a row has, and at most as many marks as there are sources.
amount_bound : {P : Problem} {T : List Cell} → Sound P → Belongs P T → (i j : ℕ) → Basic T i j
    → (nat_abs (amount_at T i j).q ≤ max_bags) × (nat_abs (amount_at T i j).e ≤ max_side)
amount_bound {P} {T} ok w i j b = let x = cell_at b in let a = x.cell.amount in
    let here : amount_at T i j ≡ a = (λ k. amount_at T (sym x.row k) (sym x.col k)) ∙ amount-member (distinct_of ok w) x.member in
    let bound = cell_bounded ok w x.member in
    rw here (
      abs_within a.q max_bags (omega (arith, bound.nonneg, bound.supply, supply-most ok x.cell.row)),
      omega (arith, abs_within a.e (sources P) bound.few, ok.sources_high),
    )
  where
    abs_within : (z : ℤ) (H : ℕ) → Within H (to_z z) → nat_abs z ≤ H
    abs_within (pos k) H p = omega arith
    abs_within (negsuc k) H p = omega arith

-- Of two pairs, neither less than the other, both are the same.
less_tie : (a b : Pair) → less a b ≡ false → less b a ≡ false → a ≡ b
less_tie a b p r = elim (compared a.q b.q) [
  | fewer s ↦ clash (less-q a b s) p
  | more s ↦ clash (less-q b a s) r
  | equal s ↦ let t : a.e ≡ b.e = lt_z_tie a.e b.e (sym (less-e a b s) ∙ p) (sym (less-e b a (sym s)) ∙ r) in λ i. record { q = s i; e = t i }
]

-- ---- signs

abbrev is_minus : ℤ → Bool
is_minus z = lt_z z (pos 0)

abbrev is_plus : ℤ → Bool
is_plus z = lt_z (pos 0) z

sign-tests : (a p q : Bool) → (is_minus (sign_by a p q) ≡ xor p q && not (xor a p)) × (is_plus (sign_by a p q) ≡ xor p q && xor a p)
unfolding xor
sign-tests true true true = (refl, refl)
sign-tests true true false = (refl, refl)
sign-tests true false true = (refl, refl)
sign-tests true false false = (refl, refl)
sign-tests false true true = (refl, refl)
sign-tests false true false = (refl, refl)
sign-tests false false true = (refl, refl)
sign-tests false false false = (refl, refl)

-- What one part of an amount becomes where x is taken away, and where it is added.
abbrev moved : Bool → Bool → ℤ → ℤ → ℤ
moved loses gains x a = let left = cond loses (a +ℤ neg_ℤ x) a in cond gains (left +ℤ x) left

gain-part : (part : Pair → ℤ) → ((a b : Pair) → part (add a b) ≡ part a +ℤ part b) → ((a b : Pair) → part (subtract a b) ≡ part a -ℤ part b)
    → (z : ℤ) (s a : Pair) → part (gain z s a) ≡ moved (is_minus z) (is_plus z) (part s) (part a)
unfolding gain
gain-part part f g (pos zero) s a = refl
gain-part part f g (pos (suc k)) s a = rw (le-ltb (suc k) 0 (omega arith), lt-ltb 0 (suc k) (omega arith)) (f a s)
gain-part part f g (negsuc k) s a = g a s

-- ---- before the pivot

module _ {P : Problem} {T : List Cell} {q e : List ℤ} {sub path lanes : List ℕ} (b : Board P T q e sub path lanes (sources P) (sinks P))
    {row col : ℕ} (h : Enters P T row col) where
  abbrev M : ℕ
  M = sources P

  abbrev N : ℕ
  N = sinks P

  abbrev count : ℕ
  count = sources P + sinks P - 1

  abbrev enter : Lane
  enter = lane row col

  abbrev sign_of : Lane → ℤ
  sign_of = signs (sources P) (sinks P) T (lane row col)

  high : (sources P ≤ stride) × (sinks P ≤ stride)
  high = let s = sound-sides b.sound refl refl in (s.rows_high, s.cols_high)

  fits : Fits M N (basis_for T)
  fits = fits_of b.sound (board-belongs b)

  spanned : spans M N (basis_for T) ≡ true
  spanned = spans_of b.sound (board-belongs b)

  -- The lane in slot t ..
  slot_on : (t : ℕ) → t < count → (get_or lanes t 0 / stride < M) × (get_or lanes t 0 % stride < N)
  slot_on t p = fits (lane_at (get_or lanes t 0)) (b.tree.cuts.basic t p)

  slot_basic : (t : ℕ) → t < count → Basic T (get_or lanes t 0 / stride) (get_or lanes t 0 % stride)
  slot_basic t p = (has-basic T _ _).0 (b.tree.cuts.basic t p)

  -- .. and the slot of a basic lane.
  lane_slot : (i j : ℕ) → Basic T i j → (t : ℕ) × (t < count) × (get_or lanes t 0 ≡ i * stride + j)
  lane_slot i j d = let (t, p, s) = b.tree.cuts.listed (lane i j) ((has-basic T i j).1 d) in (t, p, sym (lane_index-at (get_or lanes t 0)) ∙ ap lane_index s)

  slot_pair : (t : ℕ) → t < count → pair_at q e (get_or lanes t 0) ≡ amount_at T (get_or lanes t 0 / stride) (get_or lanes t 0 % stride)
  slot_pair t p = let (hi, hj) = slot_on t p in let l = get_or lanes t 0 in
      let x = ap (λ (k : ℕ). get_or q k (pos 0)) (sym (lane_index-at l)) ∙ b.amounts.bags (l / stride) (l % stride) hi hj in
      let y = ap (λ (k : ℕ). get_or e k (pos 0)) (sym (lane_index-at l)) ∙ b.amounts.marks (l / stride) (l % stride) hi hj in
      λ i. record { q = x i; e = y i }

  -- Little lies on a basic lane.
  slot_light : (t : ℕ) → t < sources P + sinks P - 1
      → (nat_abs (pair_at q e (get_or lanes t 0)).q ≤ max_bags) × (nat_abs (pair_at q e (get_or lanes t 0)).e ≤ max_side)
  slot_light t p = let a = amount_bound b.sound (board-belongs b) _ _ (slot_basic t p) in
      (rw (ap (λ (x : Pair). x.q) (slot_pair t p)) a.0, rw (ap (λ (x : Pair). x.e) (slot_pair t p)) a.1)

  slots_lie : (slots : ℕ) → ((t : ℕ) → has slots t ≡ true → t < sources P + sinks P - 1) → Slotted lanes slots
  slots_lie slots w = record {
    inside = λ t s. omega (arith, high, slot_on t (w t s));
    apart = λ s t hs ht i. slots_apart b.tree.cuts t s (w t ht) (w s hs) (ap lane_at i);
  }

  -- The sign of the lane in slot t, by the cut of the slot.
  slot_sign : (t : ℕ) → t < count → sign_of (lane_at (get_or lanes t 0))
      ≡ sign_by (row_far path lanes t) (has (get_or path row 0) t) (has (get_or path (M + col) 0) t)
  slot_sign t p = eq-z _ _ (sign-by b.tree.cuts fits {enter = enter} h.in_row h.in_col
      (signs_of b.sound.sources_low fits spanned enter h.in_row h.in_col) t p)

  sign-none : (i j : ℕ) → ¬ Basic T i j → sign_of (lane i j) ≡ pos 0
  sign-none i j d = sign-off b.sound.sources_low fits spanned enter (lane i j) (λ s. d ((has-basic T i j).0 s))

  on-loop : (t : ℕ) → has (on_loop path row (sources P + col)) t ≡ true → t < sources P + sinks P - 1
  on-loop t = loop_slot b.tree row (M + col) t (omega (arith, h.in_row)) (omega (arith, h.in_col))

  -- ---- the leaving lane

  abbrev out : Cell
  out = leaver (sources P) (sinks P) T (lane row col)

  leaves : Leaves sign_of T out
  leaves = pivot-leaves b.sound (board-belongs b) h.in_row h.in_col h.new

  module _ {minus plus : ℕ} (g : LoopSlots path lanes row (sources P + col) minus plus) where
    minus_in : (t : ℕ) → has minus t ≡ true → t < sources P + sinks P - 1
    minus_in t s = on-loop t (and_left (has (on_loop path row (M + col)) t) _ (sym (g.losing t) ∙ s))

    plus_in : (t : ℕ) → has plus t ≡ true → t < sources P + sinks P - 1
    plus_in t s = on-loop t (and_left (has (on_loop path row (M + col)) t) _ (sym (g.gaining t) ∙ s))

    minus-sign : (t : ℕ) → t < count → has minus t ≡ is_minus (sign_of (lane_at (get_or lanes t 0)))
    minus-sign t p = g.losing t ∙ (rw (has_xor (get_or path row 0) (get_or path (M + col) 0) t))
        ∙ sym (sign-tests (row_far path lanes t) (has (get_or path row 0) t) (has (get_or path (M + col) 0) t)).0 ∙ ap is_minus (sym (slot_sign t p))

    plus_sign : (t : ℕ) → t < count → has plus t ≡ is_plus (sign_of (lane_at (get_or lanes t 0)))
    plus_sign t p = g.gaining t ∙ (rw (has_xor (get_or path row 0) (get_or path (M + col) 0) t))
        ∙ sym (sign-tests (row_far path lanes t) (has (get_or path row 0) t) (has (get_or path (M + col) 0) t)).1 ∙ ap is_plus (sym (slot_sign t p))

    -- The leaving lane has a slot, which is a minus slot.
    out_slot : (t : ℕ) × (has minus t ≡ true) × (get_or lanes t 0 ≡ out.row * stride + out.col)
    unfolding lane_of
    out_slot = let (t, p, s) = lane_slot out.row out.col (basic-member leaves.member) in
        let (hi, hj) = inside-member (inside_of b.sound (board-belongs b)) leaves.member in
        let is : lane_at (get_or lanes t 0) ≡ lane out.row out.col = ap lane_at s ∙ lane_at-place out.row out.col (omega (arith, high)) in
        (t, minus-sign t p ∙ ap (λ l. is_minus (sign_of l)) is ∙ leaves.minus, s)

    some-minus : 0 < minus
    some-minus = let (t, s, is) = out_slot in by_cases (dec_lt 0 minus) (λ l. l)
        (λ l. let z : minus ≡ 0 = omega arith in clash (ap (λ (x : ℕ). has x t) (sym z) ∙ s) (has-zero t))

    -- The slot with the least pair among the minus slots is the leaving lane's: the leaving cell holds the step, and no other minus cell does.
    module _ {s : ℕ} (f : LeastSlot q e lanes minus 0 s) where
      slot_in : s < sources P + sinks P - 1
      slot_in = minus_in s f.inside

      held_by : {c : Cell} → Memᴰ c T → (t : ℕ) → get_or lanes t 0 ≡ c.row * stride + c.col → pair_at q e (get_or lanes t 0) ≡ c.amount
      held_by {c} mem t is = let (hi, hj) = inside-member (inside_of b.sound (board-belongs b)) mem in
          let x = b.amounts.bags c.row c.col hi hj in let y = b.amounts.marks c.row c.col hi hj in
          ap (pair_at q e) is ∙ (λ i. record { q = x i; e = y i }) ∙ amount-member (distinct_of b.sound (board-belongs b)) mem

      slot_leaves : get_or lanes s 0 ≡ out.row * stride + out.col
      unfolding lane_of
      slot_leaves = let x = cell_at (slot_basic s slot_in) in let c = x.cell in let (t, ht, is) = out_slot in
          let place : get_or lanes s 0 ≡ c.row * stride + c.col = sym (rw (x.row, x.col) (lane_index-at (get_or lanes s 0))) in
          let on : lane_at (get_or lanes s 0) ≡ lane c.row c.col = λ i. lane (sym x.row i) (sym x.col i) in
          let minus-cell : is_minus (sign_of (lane_of c)) ≡ true = ap (λ l. is_minus (sign_of l)) (sym on) ∙ sym (minus-sign s slot_in) ∙ f.inside in
          let above : less out.amount c.amount ≡ false =
          rw (← held_by leaves.member t is, ← held_by x.member s place) (f.least t ht (has-zero t)) in
          let same : c.amount ≡ out.amount = less_tie c.amount out.amount (leaves.least c x.member minus-cell) above in
          place ∙ ap (λ (c : Cell). c.row * stride + c.col)
          (pivot_no_tie b.sound (board-belongs b) h.in_row h.in_col h.new x.member minus-cell same)

      step_is : pair_at q e (get_or lanes s 0) ≡ step (sources P) (sinks P) T (lane row col)
      step_is = held_by leaves.member s slot_leaves

      -- ---- after the step went round

      order : Ordered N T
      order = ordered_by N T (board-belongs b).order

      -- Off the entering lane every amount gains by its sign.
      amount-gains : (i j : ℕ) → ¬ ((i ≡ row) × (j ≡ col)) → amount_at (pivot M N T enter) i j ≡ gain (sign_of (lane i j)) out.amount (amount_at T i j)
      unfolding gain lane_of
      amount-gains i j d = go (basic_dec T i j) (stands_dec out i j)
        where
          gains-minus : (z : ℤ) (a : Pair) → is_minus z ≡ true → gain z a a ≡ nothing
          gains-minus (pos k) a p = clash p (le-ltb k 0 (omega arith))
          gains-minus (negsuc k) a p = subtract_self a

          go : Dec (Basic T i j) → Dec (Stands out i j) → amount_at (pivot M N T enter) i j ≡ gain (sign_of (lane i j)) out.amount (amount_at T i j)
          go (no d') o = amount_elsewhere order (board-belongs b).on_sheet h.in_col h.new i j d' d ∙ rw (sign-none i j d', amount-none T i j d')
          go (yes y) (no o) = amount-stays order (board-belongs b).on_sheet h.in_col h.new i j y o
          go (yes y) (yes o) = rw (o.0, o.1) (amount-leaves order (board-belongs b).on_sheet h.in_col h.new leaves.member
              ∙ sym (ap (gain (sign_of (lane_of out)) out.amount) (amount-member (distinct_of b.sound (board-belongs b)) leaves.member)
              ∙ gains-minus (sign_of (lane_of out)) out.amount leaves.minus))

      -- What an addition on slots does to the lane of any slot.
      added-at : {x : ℤ} {slots : ℕ} {old new : List ℤ} → ((t : ℕ) → has slots t ≡ true → t < count) → Added x lanes slots 0 old new → (t : ℕ) → t < count
          → get_or new (get_or lanes t 0) (pos 0) ≡ cond (has slots t) (get_or old (get_or lanes t 0) (pos 0) +ℤ x) (get_or old (get_or lanes t 0) (pos 0))
      added-at {x} {slots} {old} {new} w a t p = by_test (has slots t)
          (λ s. rw s (a.on t s (has-zero t)))
          (λ s. rw s (a.off (get_or lanes t 0) (λ k r is. clash r (ap (has slots) (slots_apart b.tree.cuts t k p (w k r) (ap lane_at is)) ∙ s))))

      -- One part of the amounts, after the step went round and came to lie on the entering lane, is that of the pivot.
      turned-part : (part : Pair → ℤ) → ((a c : Pair) → part (add a c) ≡ part a +ℤ part c) → ((a c : Pair) → part (subtract a c) ≡ part a -ℤ part c)
          → {xs mid ys : List ℤ} → length ys ≡ lane_room → ((i j : ℕ) → i < M → j < N → get_or xs (i * stride + j) (pos 0) ≡ part (amount_at T i j))
          → Added (neg_ℤ (part out.amount)) lanes minus 0 xs mid → Added (part out.amount) lanes plus 0 mid ys → (i j : ℕ) → i < M → j < N
          → get_or (set ys (row * stride + col) (part out.amount)) (i * stride + j) (pos 0) ≡ part (amount_at (pivot M N T enter) i j)
      turned-part part f₁ f₂ {xs} {mid} {ys} long lie down up i j hi hj = by_cases (Dec-and (ℕ_discrete i row) (ℕ_discrete j col))
          (λ s. rw (s.0, s.1) (get_or-set_same ys (row * stride + col) _ (pos 0) (omega (arith, high, h.in_row, h.in_col))
          ∙ sym (ap part (amount-enters order (board-belongs b).on_sheet h.in_col h.new))))
          (λ d. get_or-set_other ys (row * stride + col) (i * stride + j) _ (pos 0) (λ s. d (omega (arith, high, h.in_col))) ∙ here
          ∙ sym (gain-part part f₁ f₂ (sign_of (lane i j)) out.amount (amount_at T i j)) ∙ sym (ap part (amount-gains i j d)))
        where
          here : get_or ys (i * stride + j) (pos 0) ≡ moved (is_minus (sign_of (lane i j))) (is_plus (sign_of (lane i j))) (part out.amount)
              (part (amount_at T i j))
          here = by_cases (basic_dec T i j)
              (λ y. let (t, p, is) = lane_slot i j y in
              let on : lane_at (get_or lanes t 0) ≡ lane i j = ap lane_at is ∙ lane_at-place i j (omega (arith, high)) in
              rw (← on, ← minus-sign t p, ← plus_sign t p, ← lie i j hi hj, ← is) (added-at plus_in up t p ∙ rw (added-at minus_in down t p)))
              (λ d. rw (sign-none i j d) (up.off (i * stride + j) (λ t r is. d (nowhere t (plus_in t r) is))
              ∙ down.off (i * stride + j) (λ t r is. d (nowhere t (minus_in t r) is)) ∙ lie i j hi hj))
            where
              nowhere : (t : ℕ) → t < count → get_or lanes t 0 ≡ i * stride + j → Basic T i j
              nowhere t p is = let on : lane_at (get_or lanes t 0) ≡ lane i j = ap lane_at is ∙ lane_at-place i j (omega (arith, high)) in
                  (has-basic T i j).0 (rw on at (b.tree.cuts.basic t p))

      -- ---- the tree after it

      slot_is : lane_at (get_or lanes s 0) ≡ lane out.row out.col
      slot_is = let (hi, hj) = inside-member (inside_of b.sound (board-belongs b)) leaves.member in
          ap lane_at slot_leaves ∙ lane_at-place out.row out.col (omega (arith, high))

      slot_on-loop : has (on_loop path row (M + col)) s ≡ true
      slot_on-loop = and_left (has (on_loop path row (M + col)) s) _ (sym (g.losing s) ∙ f.inside)

      abbrev after : List Cell
      after = pivot (sources P) (sinks P) T (lane row col)

      exchanged : Exchanged (basis_for T) (lane_at (get_or lanes s 0)) enter (basis_for after)
      exchanged l = (
        λ x. ⊎_elim
            (λ (u, v). inl (λ i. lane (u i) (v i)))
            (λ (u, v). inr ((has-basic T l.row l.col).1 u, (λ r. v (ap (λ (k : Lane). k.row) (r ∙ slot_is), ap (λ (k : Lane). k.col) (r ∙ slot_is)))))
            ((pivot-basic M N T enter l.row l.col).0 ((has-basic after l.row l.col).0 x)),
        λ x. (has-basic after l.row l.col).1 ((pivot-basic M N T enter l.row l.col).1 (⊎_elim
            (λ r. inl (ap (λ (k : Lane). k.row) r, ap (λ (k : Lane). k.col) r))
            (λ (u, v). inr ((has-basic T l.row l.col).0 u, (λ (r, c). v ((λ i. lane (r i) (c i)) ∙ sym slot_is)))) x)),
      )

      belongs-after : Belongs P after
      belongs-after = pivot-belongs b.sound (board-belongs b) h.in_row h.in_col h.new

      module _ {sub' path' lanes' : List ℕ} {far : ℕ} (w : Regrafted row (sources P + col) s (row * stride + col) sub path lanes sub' path' lanes' far) where
        in_far : (k : ℕ) → k < M + N → has far k ≡ has (get_or path k 0) s
        in_far k l = rw (w.far, b.tree.turns s k slot_in, lt-ltb k (M + N) l)

        -- The prices after it: the nodes that the leaving lane cut off move, and all lanes of the new tree are tight.
        module _ {π : ℕ → ℤ} (m : Shifts P T (sources P) row col far π) where
          shifted : Shifted b.tree.cuts fits slot_in {enter = enter} h.in_row h.in_col
              (loop-across b.tree row (M + col) s slot_on-loop) (lane_cost P) (potential P T) π m.x
          unfolding reduced_cost
          shifted = record {
            by = rw (← in_far row (omega (arith, h.in_row))) (reduced (has far row) m.by);
            rows = λ i l. rw (← in_far i (omega arith)) (m.rows i l);
            cols = λ j l. rw (← in_far (M + j) (omega arith)) (m.cols j l);
          }
            where
              parts : to_z (lane_cost P enter -ℤ potential P T row -ℤ potential P T (M + col))
                  ≈ to_z (lane_cost P enter) ⊖ to_z (potential P T row) ⊖ to_z (potential P T (M + col))
              parts = omega (
                arith,
                z-add (lane_cost P enter -ℤ potential P T row) (neg_ℤ (potential P T (M + col))),
                z-add (lane_cost P enter) (neg_ℤ (potential P T row)),
                z-neg (potential P T row),
                z-neg (potential P T (M + col)),
              )

              reduced : (v : Bool) → m.x ≈ (let r = to_z (lane_cost P enter -ℤ potential P T row -ℤ potential P T (M + col)) in cond v r (neg r))
                  → m.x ≈ (let r = to_z (lane_cost P enter) ⊖ to_z (potential P T row) ⊖ to_z (potential P T (M + col)) in cond v r (neg r))
              reduced true i = omega (arith, parts)
              reduced false i = omega (arith, parts)

          prices-after : (k : ℕ) → k < M + N → π k ≡ potential P after k
          unfolding potential
          prices-after = let across = loop-across b.tree row (M + col) s slot_on-loop in let low = b.sound.sources_low in
              potential-only low (fits_of b.sound belongs-after) (spans_of b.sound belongs-after) (lane_cost P) π
              (shifted-root b.tree.cuts fits slot_in {enter = enter} h.in_row h.in_col across shifted low
              (potential-root low fits spanned (lane_cost P)))
              (shifted-tight b.tree.cuts fits slot_in {enter = enter} h.in_row h.in_col across shifted exchanged
              (potential-tight low fits spanned (lane_cost P)))

        board-after : {q' e' : List ℤ} → Amounts M N after q' e' → Pivoted P T (sources P) (sinks P) row col q' e' sub' path' lanes' far
        board-after a = record {
          board = record {
            sound = b.sound;
            rows = refl;
            columns = refl;
            belongs = (belongs_iff P after b.sound.sources_low b.sound.sinks_low).1 belongs-after;
            amounts = a;
            tree = tree-exchanged b.tree fits h.in_row h.in_col high.0 high.1 refl slot_on-loop w exchanged;
          };
          inside = λ k l. rw (w.far, b.tree.turns s k slot_in, le-ltb k (M + N) l);
          prices = λ π m. prices-after m;
        }

        -- The step went round, in both parts of the amounts, and the tree was grafted anew.
        pivoted_by : {q₁ e₁ q₂ e₂ : List ℤ} → let x = pair_at q e (get_or lanes s 0) in
            Added (neg_ℤ x.q) lanes minus 0 q q₁ → Added (neg_ℤ x.e) lanes minus 0 e e₁
            → Added x.q lanes plus 0 q₁ q₂ → Added x.e lanes plus 0 e₁ e₂
            → Pivoted P T (sources P) (sinks P) row col (set q₂ (row * stride + col) x.q) (set e₂ (row * stride + col) x.e) sub' path' lanes' far
        unfolding add subtract
        pivoted_by {q₂ = q₂} {e₂} qd ed qu eu = let x : (pair_at q e (get_or lanes s 0)).q ≡ out.amount.q = ap (λ (a : Pair). a.q) step_is in
            let y : (pair_at q e (get_or lanes s 0)).e ≡ out.amount.e = ap (λ (a : Pair). a.e) step_is in
            let q_long : length q₂ ≡ lane_room = qu.long ∙ qd.long ∙ b.amounts.q_long in
            let e_long : length e₂ ≡ lane_room = eu.long ∙ ed.long ∙ b.amounts.e_long in
            board-after (record {
              q_long = simp length-set q_long;
              e_long = simp length-set e_long;
              bags = rw x (turned-part (λ a. a.q) (λ a c. refl) (λ a c. refl) q_long b.amounts.bags (rw x at qd) (rw x at qu));
              marks = rw y (turned-part (λ a. a.e) (λ a c. refl) (λ a c. refl) e_long b.amounts.marks (rw y at ed) (rw y at eu));
            })

-- ---- as the code has them

-- Two light pairs can be added and subtracted.
light_fit : {a c : Pair} → nat_abs a.q ≤ 2 * max_bags → nat_abs a.e ≤ 2 * max_side → nat_abs c.q ≤ max_bags → nat_abs c.e ≤ max_side → Fit a c
unfolding max_bags max_amount max_side
light_fit p r s t = record { q = omega arith; e = omega arith }

module _ {P : Problem} {T : List Cell} {q e : List ℤ} {sub path lanes : List ℕ} {m n : ℕ} (b : Board P T q e sub path lanes m n) {row col : ℕ}
    (h : Enters P T row col) where
  whole : Board P T q e sub path lanes (sources P) (sinks P)
  whole = rw (b.rows, b.columns) at b

  pub pivot-room : (row < stride) × (m ≤ stride) × (col < stride)
  pivot-room = omega (arith, high whole h, h.in_row, b.rows, h.in_col)

  pub loop-rows : (t : ℕ) → has (on_loop path row (m + col)) t ≡ true → get_or lanes t 0 / stride < node_room
  loop-rows t s = omega (arith, high whole h, slot_on whole h t (on-loop whole h t (rw b.rows at s)))

  module _ {minus plus : ℕ} (l : LoopSlots path lanes row (m + col) minus plus) where
    g : LoopSlots path lanes row (sources P + col) minus plus
    g = rw b.rows at l

    pub loses_some : 0 < minus
    loses_some = some-minus whole h g

    pub minus-slots : Slotted lanes minus
    minus-slots = slots_lie whole h minus (minus_in whole h g)

    pub plus_slots : Slotted lanes plus
    plus_slots = slots_lie whole h plus (plus_in whole h g)

    module _ {s : ℕ} (f : LeastSlot q e lanes minus 0 s) where
      abbrev held : Pair
      held = pair_at q e (get_or lanes s 0)

      pub slot_room : s < node_room
      slot_room = omega (arith, high whole h, slot_in whole h g f)

      pub held-inside : get_or lanes s 0 < lane_room
      held-inside = minus-slots.inside s f.inside

      held-light : (nat_abs held.q ≤ max_bags) × (nat_abs held.e ≤ max_side)
      held-light = slot_light whole h s (slot_in whole h g f)

      pub back_fits : Fit nothing (pair_at q e (get_or lanes s 0))
      unfolding nothing
      back_fits = light_fit (omega arith) (omega arith) held-light.0 held-light.1

      -- What goes back is as light.
      back-light : (nat_abs (subtract nothing held).q ≤ max_bags) × (nat_abs (subtract nothing held).e ≤ max_side)
      unfolding subtract nothing
      back-light = omega (arith, abs_diff (pos 0) held.q, held-light, abs_diff (pos 0) held.e)

      pub minus-fits : (t : ℕ) → has minus t ≡ true → Fit (pair_at q e (get_or lanes t 0)) (subtract nothing (pair_at q e (get_or lanes s 0)))
      minus-fits t i = let a = slot_light whole h t (minus_in whole h g t i) in
          light_fit (omega (arith, a.0)) (omega (arith, a.1)) back-light.0 back-light.1

      -- x is what the slot holds, and y what goes back.
      module _ {x y : Pair} (is_x : x ≡ pair_at q e (get_or lanes s 0)) (is_y : y ≡ subtract nothing x)
          {q₁ e₁ : List ℤ} (lostBags : Added y.q lanes minus 0 q q₁) (lostMarks : Added y.e lanes minus 0 e e₁) where
        is-back : y ≡ subtract nothing held
        is-back = is_y ∙ ap (subtract nothing) is_x

        bags_lost : Added (subtract nothing held).q lanes minus 0 q q₁
        bags_lost = rw (ap (λ (a : Pair). a.q) is-back) at lostBags

        marks_lost : Added (subtract nothing held).e lanes minus 0 e e₁
        marks_lost = rw (ap (λ (a : Pair). a.e) is-back) at lostMarks

        -- No number grows by more than what is added.
        added-light : {z : ℤ} {H : ℕ} {old new : List ℤ} → Added z lanes minus 0 old new → nat_abs z ≤ H → (t : ℕ) → has plus t ≡ true
            → nat_abs (get_or old (get_or lanes t 0) (pos 0)) ≤ H → nat_abs (get_or new (get_or lanes t 0) (pos 0)) ≤ 2 * H
        added-light {z} {H} {old} a l t i o = rw (added-at whole h g f (minus_in whole h g) a t (plus_in whole h g t i)) (go (has minus t))
          where
            go : (v : Bool) → nat_abs (cond v (get_or old (get_or lanes t 0) (pos 0) +ℤ z) (get_or old (get_or lanes t 0) (pos 0))) ≤ 2 * H
            go true = omega (arith, abs_add (get_or old (get_or lanes t 0) (pos 0)) z)
            go false = omega arith

        pub plus_fits : (t : ℕ) → has plus t ≡ true → Fit (pair_at q₁ e₁ (get_or lanes t 0)) x
        plus_fits t i = let a = slot_light whole h t (plus_in whole h g t i) in
            rw is_x (light_fit (added-light bags_lost back-light.0 t i a.0) (added-light marks_lost back-light.1 t i a.1)
            held-light.0 held-light.1)

        pub pivot-is : {q₂ e₂ : List ℤ} {sub' path' lanes' : List ℕ} {far : ℕ} → Added x.q lanes plus 0 q₁ q₂ → Added x.e lanes plus 0 e₁ e₂
            → Regrafted row (m + col) s (row * stride + col) sub path lanes sub' path' lanes' far
            → Pivoted P T m n row col (set q₂ (row * stride + col) x.q) (set e₂ (row * stride + col) x.e) sub' path' lanes' far
        unfolding subtract nothing
        pivot-is {q₂} {e₂} gainedBags gainedMarks w = let u : x.q ≡ held.q = ap (λ (a : Pair). a.q) is_x in
            let v : x.e ≡ held.e = ap (λ (a : Pair). a.e) is_x in
            rw (b.rows, b.columns, u, v) (pivoted_by whole h g f (rw b.rows at w) (rw +ℤ_idl at bags_lost) (rw +ℤ_idl at marks_lost)
            (rw u at gainedBags) (rw v at gainedMarks))

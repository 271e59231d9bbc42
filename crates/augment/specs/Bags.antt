-- Bags by lane, and the masks that say where there are any.
use Rattle.std.specs.Prelude.{◌≡◌, ◌↔◌, ◌≢◌, ◌&&◌, ◌+◌, ◌-◌, ◌*◌, ◌<◌, ◌≤◌, ◌+ℤ◌}
use Rattle.prelude.specs.Words.{refl, sym, ◌∙◌, by_cases, Dec-and, Bool, true, false, not, cond, List, ℕ}
use Rattle.prelude.specs.Words.{arith, ℕ_discrete, eq-eqb, ne_eqb, eqb, ℤ, pos, nat_abs, neg_ℤ, length, get_or, set, replicate}
use Rattle.prelude.specs.Words.{length-set, get_or-set_same, get_or-set_other, lt_z, by_test}
use Rattle.std.specs.Int.Bits.{bit_and}
use Rattle.std.proofs.lemmas.List.{set-set}
use Rattle.integers.specs.Integer.{Z, ◌≈◌, ◌≺◌, ◌⊕◌, ◌⊖◌, ◌⊗◌, neg, nat}
use Rattle.integers.specs.IntegerLaws.{⊗_cong}
use Rattle.integers.specs.Bridge.{to_z, z-add, z-neg}
use Rattle.integers.specs.Tests.{lt_yes, yes_lt}
use Rattle.network.specs.Circuit.{spot, spot-at, spot-off}
use Rattle.transport.specs.Laws.RangeLaws.{abs_add, abs_neg}
use Rattle.transport.specs.Laws.ListLaws.{and_right}
use Rattle.tree.specs.Layout.{stride, lane_room, get_or-all}
use Rattle.tree.specs.Mask.{has, put, has-put, unset, has-unset, has-zero}
use Rattle.tree.specs.Bits.{Least, has_rest, has-least, Touched}
use Rattle.augment.specs.declared.bags.Bags.{Bags}

-- The bags on lane (i, j).
abbrev pub lane_bags : List ℤ → ℕ → ℕ → Z
lane_bags q i j = to_z (get_or q (i * stride + j) (pos 0))

-- Whether there are any.
abbrev pub carries : List ℤ → ℕ → ℕ → Bool
carries q i j = lt_z (pos 0) (get_or q (i * stride + j) (pos 0))

pub carries-some : (q : List ℤ) (i j : ℕ) → (carries q i j ≡ true) ↔ (nat 0 ≺ lane_bags q i j)
carries-some q i j = (lt_yes (pos 0) (get_or q (i * stride + j) (pos 0)), yes_lt (pos 0) (get_or q (i * stride + j) (pos 0)))

abbrev pub entry : List ℕ → ℕ → ℕ
entry xs k = get_or xs k 0

-- Lane (i, j) is in the masks of the rows.
abbrev pub InMask : List ℕ → ℕ → ℕ → Type 0
InMask masks i j = has (entry masks i) j ≡ true

-- Of m rows and n columns, the mask of each column in `holds` has the rows with bags on it, and the mask of each row in `owns` the columns.
pub record Masked (m n : ℕ) (q : List ℤ) (holds owns : List ℕ) : Type 0 where
  pub rows : m ≤ stride
  pub cols : n ≤ stride
  pub q_long : length q ≡ lane_room
  pub holds_long : length holds ≡ stride
  pub owns_long : length owns ≡ stride
  pub hold : (i j : ℕ) → i < m → j < n → has (entry holds j) i ≡ carries q i j
  pub own : (i j : ℕ) → i < m → j < n → has (entry owns i) j ≡ carries q i j

-- The same of a struct: its bags, and its masks.
abbrev pub bags_on : Bags → ℕ → ℕ → Z
bags_on b = lane_bags b.by_lane.now

abbrev pub MaskedBags : ℕ → ℕ → Bags → Type 0
MaskedBags m n b = Masked m n b.by_lane.now b.holds b.owns

-- After a change: in the same array, and where the masks were right before, they are right after.
pub record Follow (b b' : Bags) : Type 0 where
  pub same_array : b'.by_lane.ghost_name ≡ b.by_lane.ghost_name
  pub masked : {m n : ℕ} → MaskedBags m n b → MaskedBags m n b'

pub follow-both : {b b' b'' : Bags} → Follow b b' → Follow b' b'' → Follow b b''
follow-both f g = record { same_array = g.same_array ∙ f.same_array; masked = λ w. g.masked (f.masked w) }

-- ---- a bit put into a mask, or taken out of it

pub bit-on : (x k h : ℕ) → has (put x k) h ≡ cond (eqb h k) true (has x h)
bit-on x k h = has-put x k h ∙ by_test (eqb h k) (λ e. rw e) (λ e. rw e)

pub bit-off : (x k h : ℕ) → has (unset x k) h ≡ cond (eqb h k) false (has x h)
bit-off x k h = has-unset x k h ∙ by_test (eqb h k) (λ e. rw e) (λ e. rw e)

-- ---- one lane is written

module _ (q : List ℤ) (i j : ℕ) (z : ℤ) (hi : i < stride) (hj : j < stride) (long : length q ≡ lane_room) where
  lane-same : get_or (set q (i * stride + j) z) (i * stride + j) (pos 0) ≡ z
  lane-same = get_or-set_same q (i * stride + j) z (pos 0) (omega arith)

  -- Two lanes lie at one place only if they are one.
  lane-other : (h k : ℕ) → k < stride → ¬ ((h ≡ i) × (k ≡ j)) → get_or (set q (i * stride + j) z) (h * stride + k) (pos 0) ≡ get_or q (h * stride + k) (pos 0)
  lane-other h k hk d = get_or-set_other q (i * stride + j) (h * stride + k) z (pos 0) (λ e. d (omega arith))

  -- The masks of its row and of its column follow.
  pub masked-set : {m n : ℕ} {holds owns : List ℕ} (down along : ℕ) → Masked m n q holds owns
      → ((k : ℕ) → has down k ≡ cond (eqb k i) (lt_z (pos 0) z) (has (entry holds j) k))
      → ((k : ℕ) → has along k ≡ cond (eqb k j) (lt_z (pos 0) z) (has (entry owns i) k))
      → Masked m n (set q (i * stride + j) z) (set holds j down) (set owns i along)
  masked-set {m} {n} {holds} {owns} down along w d a = record {
    rows = w.rows;
    cols = w.cols;
    q_long = simp length-set long;
    holds_long = simp length-set w.holds_long;
    owns_long = simp length-set w.owns_long;
    hold = λ h k hh hk. by_cases (ℕ_discrete k j)
        (λ e. rw (e, get_or-set_same holds j down 0 (omega (arith, w.holds_long))) (d h ∙ in_column h (rw e at hk) hh))
        (λ e. rw (get_or-set_other holds j k down 0 e, lane-other h k (omega (arith, w.cols)) (λ s. e s.1)) (w.hold h k hh hk));
    own = λ h k hh hk. by_cases (ℕ_discrete h i)
        (λ e. rw (e, get_or-set_same owns i along 0 (omega (arith, w.owns_long))) (a k ∙ in_row k (rw e at hh) hk))
        (λ e. rw (get_or-set_other owns i h along 0 e, lane-other h k (omega (arith, w.cols)) (λ s. e s.0)) (w.own h k hh hk));
  }
    where
      in_column : (h : ℕ) → j < n → h < m → cond (eqb h i) (lt_z (pos 0) z) (has (entry holds j) h) ≡ carries (set q (i * stride + j) z) h j
      in_column h hk hh = by_cases (ℕ_discrete h i) (λ e. rw (e, eq-eqb i i refl, lane-same))
          (λ e. rw (ne_eqb h i e, lane-other h j hj (λ s. e s.0)) (w.hold h j hh hk))

      in_row : (k : ℕ) → i < m → k < n → cond (eqb k j) (lt_z (pos 0) z) (has (entry owns i) k) ≡ carries (set q (i * stride + j) z) i k
      in_row k hh hk = by_cases (ℕ_discrete k j) (λ e. rw (e, eq-eqb j j refl, lane-same))
          (λ e. rw (ne_eqb k j e, lane-other i k (omega (arith, w.cols)) (λ s. e s.1)) (w.own i k hh hk))

-- x more on lane (i, j).
abbrev pub added : List ℤ → ℕ → ℕ → ℤ → List ℤ
added q i j x = set q (i * stride + j) (get_or q (i * stride + j) (pos 0) +ℤ x)

module _ (q : List ℤ) (i j : ℕ) (x : ℤ) (hi : i < stride) (hj : j < stride) (long : length q ≡ lane_room) where
  added-bags : (h k : ℕ) → k < stride → lane_bags (added q i j x) h k ≈ lane_bags q h k ⊕ to_z x ⊗ spot i j h k
  added-bags h k hk = by_cases (Dec-and (ℕ_discrete h i) (ℕ_discrete k j))
      (λ e. rw (e.0, e.1, lane-same q i j (get_or q (i * stride + j) (pos 0) +ℤ x) hi hj long, spot-at i j)
      (omega (arith, z-add (get_or q (i * stride + j) (pos 0)) x)))
      (λ e. rw (lane-other q i j (get_or q (i * stride + j) (pos 0) +ℤ x) hi hj long h k hk e, spot-off i j h k e) (omega arith))

  pub added_abs : (l : ℕ) → nat_abs (get_or (added q i j x) l (pos 0)) ≤ nat_abs (get_or q l (pos 0)) + nat_abs x
  added_abs l = by_cases (ℕ_discrete l (i * stride + j))
      (λ e. rw (e, lane-same q i j (get_or q (i * stride + j) (pos 0) +ℤ x) hi hj long) (abs_add (get_or q (i * stride + j) (pos 0)) x))
      (λ e. rw (get_or-set_other q (i * stride + j) l (get_or q (i * stride + j) (pos 0) +ℤ x) (pos 0) e) (omega arith))

-- Whether there are any on the lane then.
carries-added : (q : List ℤ) {q' : List ℤ} (i j : ℕ) (x : ℤ) → i < stride → j < stride → length q ≡ lane_room
    → q' ≡ added q i j x
    → carries q' i j ≡ lt_z (pos 0) (get_or q (i * stride + j) (pos 0) +ℤ x)
carries-added q i j x hi hj long e =
    rw (e, lane-same q i j (get_or q (i * stride + j) (pos 0) +ℤ x) hi hj long)

-- y more on lane (from, j), and then x more on lane (to, j): the masks follow.
pub masked-added : {q q' q'' : List ℤ} (from to j : ℕ) (y x : ℤ) {m n : ℕ} {holds owns : List ℕ}
    (part down along along' : ℕ) → from < stride → to < stride → j < stride
    → q' ≡ added q from j y → q'' ≡ added q' to j x → Masked m n q holds owns
    → ((k : ℕ) → has part k ≡ cond (eqb k from) (carries q' from j) (has (entry holds j) k))
    → ((k : ℕ) → has down k ≡ cond (eqb k to) (carries q'' to j) (has part k))
    → ((k : ℕ) → has along k ≡ cond (eqb k j) (carries q' from j) (has (entry owns from) k))
    → ((k : ℕ) → has along' k ≡ cond (eqb k j) (carries q'' to j) (has (entry (set owns from along) to) k))
    → Masked m n q'' (set holds j down) (set (set owns from along) to along')
masked-added {q} {q'} {q''} from to j y x {m} {n} {holds} {owns} part down along along' hf ht hj e e' w p d a a' =
    let some = carries-added q from j y hf hj w.q_long e in
    let first : Masked m n q' (set holds j part) (set owns from along) =
    rw e (masked-set q from j _ hf hj w.q_long part along w (λ k. rw some at (p k)) (λ k. rw some at (a k))) in
    let some' = carries-added q' to j x ht hj first.q_long e' in
    let same = get_or-set_same holds j part 0 (omega (arith, w.holds_long)) in
    let second : Masked m n q'' (set (set holds j part) j down) (set (set owns from along) to along') =
    rw e' (masked-set q' to j _ ht hj first.q_long down along' first
    (λ k. rw (same, ← some') (d k)) (λ k. rw some' at (a' k))) in
    rw set-set at second

-- x bags of column j have moved from one row to another.
pub record BagsShifted (from to j : ℕ) (x : ℤ) (q q' : List ℤ) : Type 0 where
  pub bags : (h k : ℕ) → k < stride → lane_bags q' h k ≈ lane_bags q h k ⊕ to_z x ⊗ (spot to j h k ⊖ spot from j h k)
  pub most : (l : ℕ) → nat_abs (get_or q' l (pos 0)) ≤ nat_abs (get_or q l (pos 0)) + 2 * nat_abs x

pub shifted_by : (from to j : ℕ) (x : ℤ) (q : List ℤ) → from < stride → to < stride → j < stride → length q ≡ lane_room
    → BagsShifted from to j x q (added (added q from j (neg_ℤ x)) to j x)
shifted_by from to j x q hf ht hj long = let long' : length (added q from j (neg_ℤ x)) ≡ lane_room = simp length-set long in
    record {
      bags = λ h k hk. omega (
        arith,
        added-bags q from j (neg_ℤ x) hf hj long h k hk,
        added-bags (added q from j (neg_ℤ x)) to j x ht hj long' h k hk,
        ⊗_cong (spot from j h k) (to_z (neg_ℤ x)) (neg (to_z x)) (z-neg x),
      );
      most = λ l. omega (arith, added_abs q from j (neg_ℤ x) hf hj long l, added_abs (added q from j (neg_ℤ x)) to j x ht hj long' l, abs_neg x);
    }

-- ---- the masks of bags that lie on basic lanes

-- All bags of m rows and n columns lie on the basic lanes.
pub record OnBasics (m n : ℕ) (basic : List ℕ) (q : List ℤ) : Type 0 where
  pub rows : m ≤ stride
  pub cols : n ≤ stride
  pub q_long : length q ≡ lane_room
  pub inside : (i j : ℕ) → i < m → InMask basic i j → j < n
  pub off : (i j : ℕ) → i < m → j < n → ¬ InMask basic i j → get_or q (i * stride + j) (pos 0) ≡ pos 0

-- The columns of row i with bags, of the basic ones; so far, with `left` still to come.
pub record RowBags (q : List ℤ) (basic i left cols : ℕ) : Type 0 where
  pub part : (j : ℕ) → has left j ≡ true → has basic j ≡ true
  pub each : (j : ℕ) → has cols j ≡ not (has left j) && (has basic j && carries q i j)

pub row-none : (q : List ℤ) (basic i : ℕ) → RowBags q basic i basic 0
row-none q basic i = record { part = λ j h. h; each = λ j. has-zero j ∙ by_test (has basic j) (λ e. rw e) (λ e. rw e) }

module _ {q : List ℤ} {basic i left cols : ℕ} (w : RowBags q basic i left cols) where
  pub row_more : {j : ℕ} (cols' : ℕ) → Least left j → ((k : ℕ) → has cols' k ≡ cond (eqb k j) (carries q i j) (has cols k))
      → RowBags q basic i (bit_and left (left - 1)) cols'
  row_more {j} cols' l e = record {
    part = λ k h. w.part k (and_right (not (eqb k j)) (has left k) (sym (has_rest left j k l) ∙ h));
    each = λ k. e k ∙ rw (has_rest left j k l) (by_cases (ℕ_discrete k j)
        (λ d. rw (d, eq-eqb j j refl, w.part j (has-least l)))
        (λ d. rw (ne_eqb k j d) (w.each k)));
  }

-- The masks of the first k rows.
pub record MaskedTo (k : ℕ) (basic : List ℕ) (q : List ℤ) (holds owns : List ℕ) : Type 0 where
  pub holds_long : length holds ≡ stride
  pub owns_long : length owns ≡ stride
  pub own : (i j : ℕ) → i < k → has (entry owns i) j ≡ has (entry basic i) j && carries q i j
  pub hold : (i j : ℕ) → i < k → has (entry holds j) i ≡ has (entry basic i) j && carries q i j
  pub later : (i j : ℕ) → k ≤ i → has (entry holds j) i ≡ false

pub masked-none : (basic : List ℕ) (q : List ℤ) → MaskedTo 0 basic q (replicate stride 0) (replicate stride 0)
masked-none basic q = record {
  holds_long = refl;
  owns_long = refl;
  own = λ i j l. absurd (omega arith);
  hold = λ i j l. absurd (omega arith);
  later = λ i j l. rw (get_or-all {A = ℕ} stride j 0) (has-zero i);
}

module _ {k : ℕ} {basic : List ℕ} {q : List ℤ} {holds owns : List ℕ} (w : MaskedTo k basic q holds owns) where
  pub masked-more : {cols : ℕ} {holds' : List ℕ} → k < stride → ((j : ℕ) → has cols j ≡ has (entry basic k) j && carries q k j)
      → Touched (λ (y : ℕ). put y k) 0 holds cols holds' → MaskedTo (k + 1) basic q holds' (set owns k cols)
  masked-more {cols} {holds'} hk row t = record {
    holds_long = t.long ∙ w.holds_long;
    owns_long = simp length-set w.owns_long;
    own = λ i j l. by_cases (ℕ_discrete i k)
        (λ e. rw (e, get_or-set_same owns k cols 0 (omega (arith, w.owns_long))) (row j))
        (λ e. rw (get_or-set_other owns k i cols 0 e) (w.own i j (omega arith)));
    hold = λ i j l. rw (t.each j) (by_cases (ℕ_discrete i k)
        (λ e. rw e (by_test (has cols j)
        (λ h. rw h (has-put (entry holds j) k k ∙ rw (eq-eqb k k refl) (sym h ∙ row j)))
        (λ h. rw h (w.later k j (omega arith) ∙ sym h ∙ row j))))
        (λ e. there i j e (has cols j) ∙ w.hold i j (omega arith)));
    later = λ i j l. rw (t.each j) (there i j (omega arith) (has cols j) ∙ w.later i j (omega arith));
  }
    where
      there : (i j : ℕ) → i ≢ k → (b : Bool) → has (cond b (put (entry holds j) k) (entry holds j)) i ≡ has (entry holds j) i
      there i j d true = has-put (entry holds j) k i ∙ rw (ne_eqb i k d)
      there i j d false = refl

-- The bags in the arrays as a plan in sheet order.
use Rattle.std.specs.Prelude.{◌≡◌, ◌+◌, ◌*◌, ◌/◌, ◌%◌, ◌<◌, ◌≤◌, ◌++◌}
use Rattle.prelude.specs.Words.{refl, ◌∙◌, by_cases, List, ℕ, arith, mod-lt, div-add-mod', dec_lt, ℕ_discrete, ℤ}
use Rattle.prelude.specs.Words.{pos, negsuc}
use Rattle.prelude.specs.Words.{nat_abs, length, get_or, set, drop, ext_get_or}
use Rattle.prelude.specs.Words.{length-set, get_or-set_same, get_or-set_other, drop-set-lt}
use Rattle.prelude.specs.Words.{get_or-drop, length-drop, take, replicate, length-replicate, get_or-replicate}
use Rattle.prelude.specs.Words.{length-append, length-take-le, get_or-append}
use Rattle.std.proofs.lemmas.Slice.{drop-append-drop}
use Rattle.integers.specs.Integer.{◌≈◌, ◌≼◌, nat}
use Rattle.integers.specs.Bridge.{to_z}
use Rattle.network.specs.Flow.{Nonneg}
use Rattle.transport.specs.Lists.{at, table}
use Rattle.transport.specs.Laws.ListLaws.{get_or-table}
use Rattle.transport.specs.Problem.{place}
use Rattle.transport.specs.Laws.ProblemLaws.{place_injective, place-below}
use Rattle.transport.specs.Sheet.{Sheet, roasteries, cafes}
use Rattle.transport.specs.Extended.{extended}
use Rattle.transport.specs.Parties.{left, rows_left_of}
use Rattle.transport.specs.Statements.{Accepted}
use Rattle.transport.specs.Laws.PartiesLaws.{left_at, length-left, left-grows, left-whole}
use Rattle.transport.specs.Laws.Sound.{sources-room, sinks-room}
use Rattle.tableaux.specs.PlanView.{carried}
use Rattle.tree.specs.Layout.{stride, stride-is}
use Rattle.tree.specs.Grid.{GridFilled}
use Rattle.augment.specs.Bags.{lane_bags}

-- The bags on the lane at place k in sheet order, among n columns.
unfoldable pub bags_in : ℕ → List ℤ → ℕ → ℕ
bags_in n q k = nat_abs (get_or q (k / n * stride + k % n) (pos 0))

-- No lane of m rows and n columns has fewer than no bags.
abbrev pub NoDebt : ℕ → ℕ → List ℤ → Type 0
NoDebt m n q = (i j : ℕ) → i < m → j < n → get_or q (i * stride + j) (pos 0) ≡ pos (nat_abs (get_or q (i * stride + j) (pos 0)))

pub bags_in-place : (n i j : ℕ) (q : List ℤ) → j < n → bags_in n q (i * n + j) ≡ nat_abs (get_or q (i * stride + j) (pos 0))
unfolding bags_in place
bags_in-place n i j q p =
    let l = i * n + j in
    let s = place_injective n (l / n) (l % n) i j (mod-lt l (omega arith)) p (div-add-mod' l n) in
    rw (s.0, s.1)

-- ---- a plan is stored, under the own numbers of rows and columns

-- The own numbers of the rows grow and are below m, those of the columns below n, and where these are all columns each is its own number; m × n lanes have room
-- in the list, and no lane has fewer than no bags.
pub record Storable (q : List ℤ) (rows cols : List ℕ) (m n : ℕ) (plan : List ℕ) : Type 0 where
  pub rows_few_of : length rows ≤ stride
  pub cols_few : length cols ≤ stride
  pub rows_below : (i : ℕ) → i < length rows → at rows i < m
  pub cols_below : (j : ℕ) → j < length cols → at cols j < n
  pub rows_grow : (h i : ℕ) → h < i → i < length rows → at rows h < at rows i
  pub cols_grow : (k j : ℕ) → k < j → j < length cols → at cols k < at cols j
  pub cols_whole : length cols ≡ n → (j : ℕ) → j < length cols → at cols j ≡ j
  pub sources_few : m ≤ stride
  pub sinks_few : n ≤ stride
  pub room : m * n ≤ length plan
  pub no_debt : NoDebt (length rows) (length cols) q

-- The first m × n places of the list hold the plan: the bags on the lanes of these rows and columns, and nothing on the lanes of a row or a column that is none
-- of them. The rest is as it was.
pub record Stored (q : List ℤ) (rows cols : List ℕ) (m n : ℕ) (old new : List ℕ) : Type 0 where
  pub long : length new ≡ length old
  pub rest : drop (m * n) new ≡ drop (m * n) old
  pub on : (i j : ℕ) → i < length rows → j < length cols → at new (place n (at rows i) (at cols j)) ≡ nat_abs (get_or q (i * stride + j) (pos 0))
  pub off_row : (i j : ℕ) → i < m → j < n → ((h : ℕ) → h < length rows → ¬ (at rows h ≡ i)) → at new (place n i j) ≡ 0
  pub off_column : (i j : ℕ) → i < m → j < n → ((k : ℕ) → k < length cols → ¬ (at cols k ≡ j)) → at new (place n i j) ≡ 0

-- Before: the first l places are cleared.
pub record Emptied (size l : ℕ) (old new : List ℕ) : Type 0 where
  pub long : length new ≡ length old
  pub rest : drop size new ≡ drop size old
  pub clear : (k : ℕ) → k < l → at new k ≡ 0

pub emptied_none : (size : ℕ) (old : List ℕ) → Emptied size 0 old old
emptied_none size old = record { long = refl; rest = refl; clear = λ k h. absurd (omega arith) }

pub emptied_one : {size l : ℕ} {old new : List ℕ} → Emptied size l old new → l < size → size ≤ length old
    → Emptied size (l + 1) old (set new l 0)
unfolding at
emptied_one {size} {l} {old} {new} c h room = record {
  long = simp length-set c.long;
  rest = drop-set-lt size new l 0 h ∙ c.rest;
  clear = λ k b. by_cases (ℕ_discrete k l)
      (λ e. rw e (get_or-set_same new l 0 0 (omega (arith, c.long))))
      (λ d. get_or-set_other new l k 0 0 d ∙ c.clear k (omega arith));
}

-- All of them at once: filled with nothing.
pub emptied_front : {size : ℕ} {old front : List ℕ} → size ≤ length old → front ≡ replicate (length (take size old)) 0
    → Emptied size size old (front ++ drop size old)
unfolding at
emptied_front {size} {old} {front} room e =
    let taken : length (take size old) ≡ size = length-take-le size old room in
    let long : length front ≡ size = rw (e, taken) (length-replicate size 0) in
    record {
      long = simp (length-append, length-drop) (omega arith);
      rest = drop-append-drop size old front size (omega arith) long;
      clear = λ k h. get_or-append front (drop size old) 0 k (omega arith) ∙ rw (e, taken)
          (get_or-replicate size k 0 0 h);
    }

-- Numbers that grow are all different.
growing_once : (xs : List ℕ) → ((h k : ℕ) → h < k → k < length xs → at xs h < at xs k) → (h k : ℕ) → h < length xs → k < length xs → at xs h ≡ at xs k → h ≡ k
growing_once xs grow h k p r e = by_cases (dec_lt h k)
    (λ l. absurd (omega (arith, grow h k l r)))
    (λ l. by_cases (dec_lt k h) (λ g. absurd (omega (arith, grow k h g p))) (λ g. omega arith))

-- ---- row by row

-- The place of the lane of row i and column j, under their own numbers, and the bags on it.
abbrev pub own_place : ℕ → List ℕ → List ℕ → ℕ → ℕ → ℕ
own_place n rows cols i j = place n (at rows i) (at cols j)

abbrev pub bag_count : List ℤ → ℕ → ℕ → ℕ
bag_count q i j = nat_abs (get_or q (i * stride + j) (pos 0))

module _ {q : List ℤ} {rows cols : List ℕ} {m n : ℕ} {old : List ℕ} (s : Storable q rows cols m n old) where
  -- It is one of the plan's places ..
  pub own-inside : {i j : ℕ} → i < length rows → j < length cols → own_place n rows cols i j < m * n
  own-inside {i} {j} l r = place-below m n (at rows i) (at cols j) (s.rows_below i l) (s.cols_below j r)

  -- .. and an earlier lane has another.
  pub own-once : {i j : ℕ} → i < length rows → j < length cols → (h k : ℕ) → h * stride + k < i * stride + j → k < length cols
      → ¬ (own_place n rows cols h k ≡ own_place n rows cols i j)
  own-once {i} {j} l r h k before b e =
      let (row, column) = place_injective n (at rows h) (at cols k) (at rows i) (at cols j) (s.cols_below k b) (s.cols_below j r) e in
      omega (arith, growing_once rows s.rows_grow h i (omega (arith, s.cols_few)) l row, growing_once cols s.cols_grow k j b r column)

  -- All rows are stored, over a list whose places were cleared.
  pub all_stored : {i : ℕ} {mid new : List ℕ} → i ≡ length rows → Emptied (m * n) (m * n) old mid
      → GridFilled (own_place n rows cols) (bag_count q) 0 (length cols) mid i 0 new → Stored q rows cols m n old new
  unfolding at
  all_stored {i} {mid} {new} all c w = record {
    long = w.long ∙ c.long;
    rest = ext_get_or 0 (drop (m * n) new) (drop (m * n) mid) (simp length-drop (rw w.long)) (λ t l.
        rw (get_or-drop, get_or-drop) (w.off (m * n + t) (λ h k u r e. omega (arith, own-inside (row u r) r)))) ∙ c.rest;
    on = λ h k l r. w.on h k (omega (arith, s.cols_few)) r;
    off_row = λ h k l r none. w.off (place n h k) (λ h' k' u t e. none h' (row u t) (own h k h' k' r t e).0) ∙ clear h k l r;
    off_column = λ h k l r none. w.off (place n h k) (λ h' k' u t e. none k' t (own h k h' k' r t e).1) ∙ clear h k l r;
  }
    where
      clear : (h k : ℕ) → h < m → k < n → at mid (place n h k) ≡ 0
      clear h k l r = c.clear (place n h k) (place-below m n h k l r)

      row : {h k : ℕ} → h * stride + k < i * stride + 0 → k < length cols → h < length rows
      row u r = omega (arith, s.cols_few)

      own : (h k h' k' : ℕ) → k < n → k' < length cols → own_place n rows cols h' k' ≡ place n h k → (at rows h' ≡ h) × (at cols k' ≡ k)
      own h k h' k' r t e = place_injective n (at rows h') (at cols k') h k (s.cols_below k' t) r e

-- Of an accepted sheet the parties left have such numbers.
pub storable : {S : Sheet} {q : List ℤ} {plan : List ℕ} → Accepted S → roasteries S * cafes S ≤ length plan
    → NoDebt (length (rows_left_of (extended S))) (length (left S.demand)) q
    → Storable q (rows_left_of (extended S)) (left S.demand) (roasteries S) (cafes S) plan
unfolding rows_left_of extended roasteries cafes
storable {S} ok room no_debt =
    let sources : length S.supply ≤ stride = omega (arith, ok.limits.roasteries_high, sources-room, stride-is) in
    let sinks : length S.demand ≤ stride = omega (arith, ok.limits.cafes_high, sinks-room, stride-is) in
    record {
      rows_few_of = omega (arith, length-left S.supply);
      cols_few = omega (arith, length-left S.demand);
      rows_below = λ i l. (left_at S.supply i l).0;
      cols_below = λ j l. (left_at S.demand j l).0;
      rows_grow = left-grows S.supply;
      cols_grow = left-grows S.demand;
      cols_whole = left-whole S.demand;
      sources_few = sources;
      sinks_few = sinks;
      room = room;
      no_debt = no_debt;
    }

-- ---- bags that are nowhere negative

pub debtless : {m n : ℕ} (q : List ℤ) → Nonneg m n (lane_bags q) → NoDebt m n q
debtless q h i j hi hj = whole (get_or q (i * stride + j) (pos 0)) (h i j hi hj)
  where
    whole : (z : ℤ) → nat 0 ≼ to_z z → z ≡ pos (nat_abs z)
    whole (pos k) p = refl
    whole (negsuc k) p = absurd (omega arith)

-- The plan carries them.
pub plan-carries : {m n : ℕ} (q : List ℤ) → Nonneg m n (lane_bags q) → (i j : ℕ) → i < m → j < n → carried n (table (m * n) (bags_in n q)) i j ≈ lane_bags q i j
unfolding at place
plan-carries {m} {n} q h i j hi hj =
    let e = get_or-table (bags_in n q) (m * n) (i * n + j) 0 (place-below m n i j hi hj) ∙ bags_in-place n i j q hj in
    rw (e, debtless q h i j hi hj) (omega arith)

-- The search by masks and arrays, turn by turn.
use Rattle.std.specs.Prelude.{◌≡◌, ◌↔◌, ◌≢◌, ◌⊎◌, ◌-◌, ◌≤◌, ◌<◌}
use Rattle.prelude.specs.Words.{refl, sym, ap, ◌∙◌, inl, inr, ⊎_elim, by_cases, true, Bool-discrete, List, ℕ, suc, arith}
use Rattle.prelude.specs.Words.{ℕ_discrete, length, set, get_or-set_same, get_or-set_other}
use Rattle.std.specs.Int.Bits.{bit_and, bit_or}
use Rattle.integers.specs.Integer.{Z, ◌≈◌, ◌≺◌, ≈_dec, nat}
use Rattle.network.specs.Flow.{Nonneg}
use Rattle.network.specs.Finite.{once-few}
use Rattle.network.specs.Settling.{NoWayOut, Stuck}
use Rattle.network.specs.Search.{Grown, grown-more, Searched, search-start, search_grow, search-ends}
use Rattle.transport.specs.Laws.ListLaws.{is_false}
use Rattle.tree.specs.Mask.{has, put, unset}
use Rattle.tree.specs.MaskLaws.{minus}
use Rattle.tree.specs.Bits.{Least, Touched}
use Rattle.tree.specs.Layout.{stride}
use Rattle.augment.specs.Sets.{in_bit, in_none, in_some, in_or, in_and, in_minus, in_put, in_unset, in_rest}
use Rattle.augment.specs.Bags.{entry, InMask, bags_on}
use Rattle.augment.specs.declared.bags.Bags.{Bags}
use Rattle.augment.specs.declared.search.Target.{Target}
use Rattle.augment.specs.declared.way.Way.{Way}

-- What a search goes by, with bags x: the target is a tight lane whose column is not dead; `holds` are the rows with bags on each column, `owns` the
-- columns of each row, `later` the rows
-- after the target's, `goal` the columns after its own where its row has bags; the dead columns are closed, and none of them is a goal.
pub record Sought (m n : ℕ) (t : Target) (x : ℕ → ℕ → Z) (tight holds owns : List ℕ) : Type 0 where
  pub rows : m ≤ stride
  pub cols : n ≤ stride
  pub row : t.row < m
  pub col : t.col < n
  pub lane : InMask tight t.row t.col
  pub off : ¬ (has t.dead t.col ≡ true)
  pub clear : (j : ℕ) → t.col < j → j < n → has t.dead j ≡ true → x t.row j ≈ nat 0
  pub nonneg : Nonneg m n x
  pub after : (i : ℕ) → (has t.later i ≡ true) ↔ ((t.row < i) × (i < m))
  pub inside : (i j : ℕ) → i < m → InMask tight i j → j < n
  pub hold : (i j : ℕ) → i < m → j < n → (has (entry holds j) i ≡ true) ↔ (nat 0 ≺ x i j)
  pub own : (i j : ℕ) → i < m → j < n → (has (entry owns i) j ≡ true) ↔ (nat 0 ≺ x i j)
  pub goals : (j : ℕ) → j < n → (has t.goal j ≡ true) ↔ ((t.col < j) × ¬ (x t.row j ≈ nat 0))
  pub closed : NoWayOut m n (InMask tight) x t.row (has t.dead)

-- With the bags that there are.
abbrev pub SoughtIn : ℕ → ℕ → Target → List ℕ → Bags → Type 0
SoughtIn m n t tight b = Sought m n t (bags_on b) tight b.holds b.owns

-- ---- rows gathered

-- The rows with bags on one of the columns.
pub record Gathered (holds : List ℕ) (cols rows : ℕ) : Type 0 where
  pub each : (i : ℕ) → (has rows i ≡ true) ↔ ((j : ℕ) × (has cols j ≡ true) × (has (entry holds j) i ≡ true))

-- Column after column, with `left` still to come.
pub gather_start : (holds : List ℕ) (cols : ℕ) → Gathered holds (minus cols cols) 0
gather_start holds cols = record { each = λ i. ((λ h. absurd (in_none i refl h)), (λ (j, o, h). let (u, v) = (in_minus cols cols j).0 o in absurd (v u))) }

pub gather_step : {holds : List ℕ} {left rows : ℕ} (cols j : ℕ) → Least left j → has cols j ≡ true → Gathered holds (minus cols left) rows
    → Gathered holds (minus cols (bit_and left (left - 1))) (bit_or rows (entry holds j))
gather_step {holds} {left} {rows} cols j l c w = record {
  each = λ i. (
    (λ h. ⊎_elim
        (λ u. let (k, o, v) = (w.each i).0 u in let (a, b) = (in_minus cols left k).0 o in
        (k, (in_minus cols (bit_and left (left - 1)) k).1 (a, λ r. b ((in_rest left j k l).0 r).1), v))
        (λ u. (j, (in_minus cols (bit_and left (left - 1)) j).1 (c, λ r. ((in_rest left j j l).0 r).0 refl), u)) ((in_or rows (entry holds j) i).0 h)),
    (λ (k, o, v). let (a, b) = (in_minus cols (bit_and left (left - 1)) k).0 o in (in_or rows (entry holds j) i).1 (by_cases (ℕ_discrete k j)
        (λ e. inr (rw e at v))
        (λ d. inl ((w.each i).1 (k, (in_minus cols left k).1 (a, λ s. b ((in_rest left j k l).1 (d, s))), v))))),
  );
}

pub gather_end : {holds : List ℕ} {left rows : ℕ} (cols : ℕ) → left ≡ 0 → Gathered holds (minus cols left) rows → Gathered holds cols rows
gather_end {left = left} cols e w = record {
  each = λ i. (
    (λ h. let (k, o, v) = (w.each i).0 h in (k, ((in_minus cols left k).0 o).0, v)),
    (λ (k, o, v). (w.each i).1 (k, (in_minus cols left k).1 (o, in_none k e), v)),
  );
}

-- ---- a turn

-- The search so far: the columns `cols` are reached, beside the dead ones; the rows `left` are not reached, and of these `rows` have bags on such columns.
pub record Seeking (m n : ℕ) (t : Target) (x : ℕ → ℕ → Z) (tight holds : List ℕ) (cols rows left count : ℕ) (row col up from : List ℕ) : Type 0 where
  pub search : Searched m n (InMask tight) x t.row t.col (has t.dead) (has (bit_or cols t.dead)) count
      (entry row) (entry col) (entry up) (entry from)
  pub live : (j : ℕ) → has cols j ≡ true → (j < n) × ¬ (has t.dead j ≡ true)
  pub rows_in : (i : ℕ) → has rows i ≡ true → (has left i ≡ true) × ((j : ℕ) × (has cols j ≡ true) × (has (entry holds j) i ≡ true))
  pub rows_all : (i j : ℕ) → has cols j ≡ true → has (entry holds j) i ≡ true → has left i ≡ true → has rows i ≡ true
  pub left_in : (i : ℕ) → has left i ≡ true → (t.row < i) × (i < m) × ((k : ℕ) → k < count → entry row k ≢ i)
  pub left_all : (i : ℕ) → t.row < i → i < m → ¬ (has left i ≡ true) → (k : ℕ) × (0 < k) × (k < count) × (entry row k ≡ i)

-- At first position 0 is the target's row, and its column is reached.
seeking_start : {m n : ℕ} {t : Target} {x : ℕ → ℕ → Z} {tight holds owns : List ℕ} {col up : List ℕ} (row from : List ℕ) → Sought m n t x tight holds owns
    → 0 < length row → t.col < length from
    → Seeking m n t x tight holds (put 0 t.col) (bit_and (entry holds t.col) t.later) t.later 1 (set row 0 t.row) col up (set from t.col 0)
seeking_start {m} {n} {t} {holds = holds} row from g l l' = record {
  search = search-start root g.lane (get_or-set_same from t.col 0 0 l') g.clear reached;
  live = λ j h. let e : j ≡ t.col = only j h in rw e (g.col, g.off);
  rows_in = λ i h. let (v, u) = (in_and (entry holds t.col) t.later i).0 h in (u, (t.col, (in_put 0 t.col t.col).1 (inr refl), v));
  rows_all = λ i j o v u. let e : j ≡ t.col = only j o in (in_and (entry holds t.col) t.later i).1 (rw e at v, u);
  left_in = λ i u. let (l, h) = (g.after i).0 u in (l, h, λ k v e. let z : k ≡ 0 = omega arith in absurd (omega (arith, l, sym root ∙ rw z at e)));
  left_all = λ i v hi u. absurd (u ((g.after i).1 (v, hi)));
}
  where
    root : entry (set row 0 t.row) 0 ≡ t.row
    root = get_or-set_same row 0 t.row 0 l

    only : (j : ℕ) → has (put 0 t.col) j ≡ true → j ≡ t.col
    only j h = ⊎_elim (λ q. absurd (in_none j refl q)) (λ q. q) ((in_put 0 t.col j).0 h)

    reached : (j : ℕ) → (has (bit_or (put 0 t.col) t.dead) j ≡ true) ↔ ((has t.dead j ≡ true) ⊎ (j ≡ t.col))
    reached j = (
      (λ h. ⊎_elim (λ o. inr (only j o)) inl ((in_or (put 0 t.col) t.dead j).0 h)),
      (λ h. (in_or (put 0 t.col) t.dead j).1 (⊎_elim inr (λ e. inl ((in_put 0 t.col j).1 (inr e))) h)),
    )

module _ {m n : ℕ} {t : Target} {x : ℕ → ℕ → Z} {tight holds owns : List ℕ} {cols rows left count : ℕ} {row col up from : List ℕ}
    (g : Sought m n t x tight holds owns) (s : Seeking m n t x tight holds cols rows left count row col up from) where
  -- A column that is reached and not dead.
  alive_in : (j : ℕ) → has (bit_or cols t.dead) j ≡ true → ¬ (has t.dead j ≡ true) → has cols j ≡ true
  alive_in j o d = ⊎_elim (λ h. h) (λ h. absurd (d h)) ((in_or cols t.dead j).0 o)

  -- No row is left that has bags on a column that is reached: the lane is stuck.
  seeking_ends : rows ≡ 0 → Stuck m n (InMask tight) x t.row t.col (has (bit_or cols t.dead))
  seeking_ends e = search-ends s.search g.closed (λ i j l hi hj o d u.
      s.left_all i l hi (λ v. in_none i e (s.rows_all i j (alive_in j o d) ((g.hold i j hi hj).1 u) v)))

  -- As many rows are reached as there are positions, the target's among them.
  seeking_few : count ≤ m
  seeking_few = once-few m count (entry row)
      (λ k l. by_cases (ℕ_discrete k 0) (λ z. rw (z, s.search.tree.root) g.row) (λ z. s.search.tree.rows k (omega arith) l))
      s.search.tree.once

  -- A row that is left with bags on a column that is reached.
  module _ (i : ℕ) (hi : has rows i ≡ true) where
    open_row : (t.row < i) × (i < m) × ((k : ℕ) → k < count → entry row k ≢ i)
    open_row = s.left_in i (s.rows_in i hi).0

    seeking_some : 0 < bit_and (entry owns i) cols
    seeking_some = let (j, o, h) = (s.rows_in i hi).1 in let hj = (s.live j o).0 in in_some (bit_and (entry owns i) cols) j
        ((in_and (entry owns i) cols j).1 ((g.own i j open_row.1 hj).1 ((g.hold i j open_row.1 hj).0 h), o))

  -- It is reached by such a column j, at position count.
  module _ (i j : ℕ) (hi : has rows i ≡ true) (hj : has (bit_and (entry owns i) cols) j ≡ true)
      (row_long : count < length row) (col_long : count < length col) (up_long : count < length up) where
    abbrev fresh : ℕ
    fresh = minus (entry tight i) (bit_or cols t.dead)

    found : (t.row < i) × (i < m) × ((k : ℕ) → k < count → entry row k ≢ i)
    found = open_row i hi

    open_col : (j < n) × (has cols j ≡ true) × ¬ (has t.dead j ≡ true)
    open_col = let o = ((in_and (entry owns i) cols j).0 hj).1 in ((s.live j o).0, o, (s.live j o).1)

    hangs : (entry from j < count) × InMask tight (entry row (entry from j)) j × (entry from j ≡ 0 → j ≡ t.col)
    hangs = s.search.fresh j open_col.0 ((in_or cols t.dead j).1 (inl open_col.1)) open_col.2

    before : (xs : List ℕ) (v k : ℕ) → k < count → entry (set xs count v) k ≡ entry xs k
    before xs v k l = get_or-set_other xs count k v 0 (λ e. absurd (omega arith))

    new_row : entry (set row count i) count ≡ i
    new_row = get_or-set_same row count i 0 row_long

    new-col : entry (set col count j) count ≡ j
    new-col = get_or-set_same col count j 0 col_long

    new-up : entry (set up count (entry from j)) count ≡ entry from j
    new-up = get_or-set_same up count (entry from j) 0 up_long

    reached-tree : Grown m n (InMask tight) x t.row t.col (suc count) (entry (set row count i)) (entry (set col count j))
        (entry (set up count (entry from j)))
    reached-tree = grown-more s.search.some (λ k l. (before row i k l, before col j k l, before up (entry from j) k l))
        (rw new_row found.1) (rw new_row found.0) (λ k l. rw new_row (found.2 k l)) (rw new-col open_col.0)
        (rw (new_row, new-col) ((g.own i j found.1 open_col.0).0 ((in_and (entry owns i) cols j).0 hj).0))
        (rw new-up hangs.0) (rw (new-col, new-up) hangs.1) (rw (new-col, new-up) hangs.2) s.search.tree

    -- The columns that are then reached: those that were, and the fresh ones.
    wider : (l : ℕ) → (has (bit_or (bit_or cols fresh) t.dead) l ≡ true) ↔ ((has (bit_or cols t.dead) l ≡ true) ⊎ (has fresh l ≡ true))
    wider l = (
      (λ h. ⊎_elim
          (λ o. ⊎_elim (λ u. inl ((in_or cols t.dead l).1 (inl u))) inr ((in_or cols fresh l).0 o))
          (λ d. inl ((in_or cols t.dead l).1 (inr d))) ((in_or (bit_or cols fresh) t.dead l).0 h)),
      (λ h. (in_or (bit_or cols fresh) t.dead l).1 (⊎_elim
          (λ o. ⊎_elim (λ u. inl ((in_or cols fresh l).1 (inl u))) inr ((in_or cols t.dead l).0 o))
          (λ f. inl ((in_or cols fresh l).1 (inr f))) h)),
    )

    -- It has a lane to no fresh column that is a goal: the search goes on. The fresh columns hang on position count, and their rows are gathered.
    module _ {from' : List ℕ} {more : ℕ} (none : bit_and fresh t.goal ≡ 0) (hung : Touched (λ (y : ℕ). count) 0 from fresh from')
        (rest : Gathered holds fresh more) where
      no_goal : (l : ℕ) → l < n → has fresh l ≡ true → t.col < l → x t.row l ≈ nat 0
      no_goal l hl f u = by_cases (≈_dec (x t.row l) (nat 0)) (λ z. z)
          (λ z. absurd (in_none l none ((in_and fresh t.goal l).1 (f, (g.goals l hl).1 (u, z)))))

      hung-new : (l : ℕ) → has fresh l ≡ true → entry from' l ≡ count
      hung-new l f = hung.each l ∙ rw f

      hung-old : (l : ℕ) → has (bit_or cols t.dead) l ≡ true → entry from' l ≡ entry from l
      hung-old l o = hung.each l ∙ rw (is_false (has fresh l) (λ f. ((in_minus (entry tight i) (bit_or cols t.dead) l).0 f).1 o))

      grown : Searched m n (InMask tight) x t.row t.col (has t.dead) (has (bit_or (bit_or cols fresh) t.dead)) (suc count)
          (entry (set row count i)) (entry (set col count j)) (entry (set up count (entry from j))) (entry from')
      grown = search_grow s.search reached-tree (λ k l. (before row i k l, before col j k l)) (rw new-col open_col.2)
          (λ l o. ((wider l).1 (inl o), hung-old l o))
          (λ l hl h. (wider l).1 (by_cases (Bool-discrete (has (bit_or cols t.dead) l) true) inl
          (λ o. inr ((in_minus (entry tight i) (bit_or cols t.dead) l).1 (rw new_row at h, o)))))
          (λ l hl o o'. let f : has fresh l ≡ true = ⊎_elim (λ q. absurd (o' q)) (λ q. q) ((wider l).0 o) in
          (rw new_row ((in_minus (entry tight i) (bit_or cols t.dead) l).0 f).0, hung-new l f, λ u. no_goal l hl f u))

      seeking_on : Seeking m n t x tight holds (bit_or cols fresh) (bit_and (bit_or rows more) (unset left i)) (unset left i) (suc count)
          (set row count i) (set col count j) (set up count (entry from j)) from'
      seeking_on = record {
        search = grown;
        live = λ l h. ⊎_elim (s.live l)
            (λ f. let (lane, off) = (in_minus (entry tight i) (bit_or cols t.dead) l).0 f in
            (g.inside i l found.1 lane, λ d. off ((in_or cols t.dead l).1 (inr d)))) ((in_or cols fresh l).0 h);
        rows_in = λ i' h. let (o, u) = (in_and (bit_or rows more) (unset left i) i').0 h in (
          u,
          ⊎_elim
              (λ r. let (l, c, v) = (s.rows_in i' r).1 in (l, (in_or cols fresh l).1 (inl c), v))
              (λ r. let (l, f, v) = (rest.each i').0 r in (l, (in_or cols fresh l).1 (inr f), v)) ((in_or rows more i').0 o),
        );
        rows_all = λ i' l o v u. (in_and (bit_or rows more) (unset left i) i').1 (
          (in_or rows more i').1 (⊎_elim
              (λ c. inl (s.rows_all i' l c v ((in_unset left i i').0 u).1))
              (λ f. inr ((rest.each i').1 (l, f, v))) ((in_or cols fresh l).0 o)),
          u,
        );
        left_in = λ i' u. let (l, l', new) = s.left_in i' ((in_unset left i i').0 u).1 in (
          l,
          l',
          λ k v. by_cases (ℕ_discrete k count)
              (λ e q. ((in_unset left i i').0 u).0 (sym q ∙ ap (entry (set row count i)) e ∙ new_row))
              (λ e. rw (before row i k (omega arith)) (new k (omega arith))),
        );
        left_all = λ i' l hi' u. by_cases (ℕ_discrete i' i)
            (λ e. (count, s.search.some, omega arith, new_row ∙ sym e))
            (λ e. let (k, v, v', q) = s.left_all i' l hi' (λ u'. u ((in_unset left i i').1 (e, u'))) in (k, v, omega arith, before row i k v' ∙ q));
      }

    -- It has one: a goal is reached.
    seeking_hit : (l : ℕ) → has (bit_and fresh t.goal) l ≡ true
        → (l < n) × (t.col < l) × InMask tight (entry (set row count i) count) l × (nat 0 ≺ x t.row l) × ¬ (has t.dead l ≡ true)
    seeking_hit l h = let (f, o) = (in_and fresh t.goal l).0 h in
        let (lane, off) = (in_minus (entry tight i) (bit_or cols t.dead) l).0 f in
        let hl : l < n = g.inside i l found.1 lane in let (more, some) = (g.goals l hl).0 o in
        (hl, more, rw new_row lane, omega (arith, g.nonneg t.row l g.row hl), λ d. off ((in_or cols t.dead l).1 (inr d)))

-- ---- the loop

-- Position s of the tree has a lane to column l, a goal.
pub record Hits (m n : ℕ) (t : Target) (x : ℕ → ℕ → Z) (tight : List ℕ) (s l : ℕ) (way : Way) : Type 0 where
  pub tree : Grown m n (InMask tight) x t.row t.col (suc s) (entry way.row) (entry way.col) (entry way.up)
  pub some : 0 < s
  pub few : s < stride
  pub alive : (k : ℕ) → 0 < k → k < suc s → ¬ (has t.dead (entry way.col k) ≡ true)
  pub goal : (l < n) × (t.col < l) × InMask tight (entry way.row s) l × (nat 0 ≺ x t.row l) × ¬ (has t.dead l ≡ true)

-- Whatever the bags are, the search has come so far.
pub record Sweeping (m n : ℕ) (t : Target) (tight holds owns : List ℕ) (cols rows left count : ℕ) (way : Way)
    (from : List ℕ) : Type 0 where
  pub each : (x : ℕ → ℕ → Z) → Sought m n t x tight holds owns
      → Seeking m n t x tight holds cols rows left count way.row way.col way.up from

-- The way with one position more, or with another one at `count`.
abbrev pub standing : Way → (count i j k : ℕ) → Way
standing way count i j k = record { row = set way.row count i; col = set way.col count j; up = set way.up count k }

pub sweep_start : {m n : ℕ} {t : Target} {tight holds owns : List ℕ} (way : Way) (from : List ℕ)
    → 0 < length way.row → stride ≤ length from
    → Sweeping m n t tight holds owns (put 0 t.col) (bit_and (entry holds t.col) t.later) t.later 1
    (record { row = set way.row 0 t.row; col = way.col; up = way.up }) (set from t.col 0)
sweep_start way from r f = record { each = λ x g. seeking_start way.row from g r (omega (arith, g.col, g.cols)) }

module _ {m n : ℕ} {t : Target} {tight holds owns : List ℕ} {cols rows left count : ℕ} {way : Way} {from : List ℕ}
    (s : Sweeping m n t tight holds owns cols rows left count way from) where
  module _ {x : ℕ → ℕ → Z} (g : Sought m n t x tight holds owns) where
    pub sweep_few : count ≤ stride
    sweep_few = omega (arith, seeking_few g (s.each x g), g.rows)

    -- No row is left to reach.
    pub sweep_ends : rows ≡ 0 → Stuck m n (InMask tight) x t.row t.col (has (bit_or cols t.dead))
    sweep_ends e = seeking_ends g (s.each x g) e

    -- Row i is the next, ..
    module _ (i : ℕ) (hi : Least rows i) where
      in_rows : has rows i ≡ true
      in_rows = (in_bit rows i).1 hi.on

      low : i < m
      low = ((s.each x g).left_in i ((s.each x g).rows_in i in_rows).0).1

      pub sweep_row : i < stride
      sweep_row = omega (arith, low, g.rows)

      pub sweep_some : 0 < bit_and (entry owns i) cols
      sweep_some = seeking_some g (s.each x g) i in_rows

      pub sweep_col : (j : ℕ) → Least (bit_and (entry owns i) cols) j → j < stride
      sweep_col j hj = let l = (s.each x g).live j ((in_and (entry owns i) cols j).0 ((in_bit (bit_and (entry owns i) cols) j).1 hj.on)).1 in
          omega (arith, l.0, g.cols)

      pub sweep_fresh : (l : ℕ) → has (minus (entry tight i) (bit_or cols t.dead)) l ≡ true → l < stride
      sweep_fresh l f = omega (arith, g.inside i l low ((in_minus (entry tight i) (bit_or cols t.dead) l).0 f).0, g.cols)

  -- .. reached by column j, ..
  module _ (i j : ℕ) (hi : Least rows i) (hj : Least (bit_and (entry owns i) cols) j)
      (row_in : count < length way.row) (col_in : count < length way.col) (up_in : count < length way.up) where
    rows-has : has rows i ≡ true
    rows-has = (in_bit rows i).1 hi.on

    col-has : has (bit_and (entry owns i) cols) j ≡ true
    col-has = (in_bit (bit_and (entry owns i) cols) j).1 hj.on

    -- .. and no goal from it, ..
    pub sweep_on : {from' : List ℕ} {more : ℕ} → let fresh = minus (entry tight i) (bit_or cols t.dead) in
        bit_and fresh t.goal ≡ 0 → Touched (λ (y : ℕ). count) 0 from fresh from' → Gathered holds fresh more
        → Sweeping m n t tight holds owns (bit_or cols fresh) (bit_and (bit_or rows more) (unset left i)) (unset left i) (suc count)
        (standing way count i j (entry from j)) from'
    sweep_on none hung rest = record {
      each = λ x g. seeking_on g (s.each x g) i j rows-has col-has row_in col_in up_in none hung rest;
    }

    -- .. or one.
    pub sweep_hit : (x : ℕ → ℕ → Z) → Sought m n t x tight holds owns → (l : ℕ) → Least (bit_and (minus (entry tight i) (bit_or cols t.dead)) t.goal) l
        → Hits m n t x tight count l (standing way count i j (entry from j))
    sweep_hit x g l h = let e = s.each x g in let few = sweep_few g in
        let tree = reached-tree g e i j rows-has col-has row_in col_in up_in in
        record {
          tree = tree;
          some = e.search.some;
          few = omega (
            arith,
            g.rows,
            once-few m (suc count) (entry (set way.row count i))
                (λ k u. by_cases (ℕ_discrete k 0) (λ z. rw (z, tree.root) g.row) (λ z. tree.rows k (omega arith) u)) tree.once,
          );
          alive = λ k v v'. by_cases (ℕ_discrete k count)
              (λ z. let here = (in_and (entry owns i) cols j).0 col-has in
              rw (z, get_or-set_same way.col count j 0 col_in) (e.live j here.1).1)
              (λ z. rw (get_or-set_other way.col count k j 0 z) (e.search.alive k v (omega arith)));
          goal = seeking_hit g e i j rows-has col-has row_in col_in up_in l
              ((in_bit (bit_and (minus (entry tight i) (bit_or cols t.dead)) t.goal) l).1 h.on);
        }

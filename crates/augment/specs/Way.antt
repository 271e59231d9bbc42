-- The way from a position of a search up to the root: the lanes that it takes bags from, and the bags moved along it.
use Rattle.std.specs.Prelude.{◌≡◌, ◌+◌, ◌*◌, ◌≤◌, ◌<◌, ◌^◌}
use Rattle.prelude.specs.Words.{refl, sym, ap, ◌∙◌, by_cases, true, false, List, ℕ, zero, suc, arith, ℕ_discrete, dec_lt, ℤ, pos}
use Rattle.prelude.specs.Words.{nat_abs, get_or, lt_z}
use Rattle.integers.specs.Integer.{Z, ◌≈◌, ◌≼◌, ◌⊕◌, ◌⊖◌, ◌⊗◌}
use Rattle.integers.specs.Bridge.{to_z}
use Rattle.integers.specs.Tests.{lt_yes, lt_no}
use Rattle.network.specs.Circuit.{spot, moved, moved_more}
use Rattle.network.specs.Search.{above, above-next, Rooted, rooted, way_row, way_col}
use Rattle.transport.specs.Limits.{max_bags, max_side, max_amount}
use Rattle.tree.specs.Layout.{stride, node_room, lane_room}
use Rattle.augment.specs.Bags.{lane_bags, entry, MaskedBags, Follow, follow-both, BagsShifted}
use Rattle.augment.specs.declared.bags.Bags.{Bags}
use Rattle.augment.specs.declared.way.Way.{Way}

-- The row and the column of the lane that it takes from after k steps from position s and column j.
abbrev pub row_of : Way → ℕ → ℕ → ℕ
row_of way s k = way_row (entry way.row) (entry way.up) s k

abbrev pub col_of : Way → ℕ → ℕ → ℕ → ℕ
col_of way s j k = way_col (entry way.col) (entry way.up) s j k

-- A way can be gone from position s and column j: its rows and columns are among m and n, and `up` leads to earlier positions.
pub record Walkable (m n s j : ℕ) (way : Way) : Type 0 where
  pub rows_high : m ≤ stride
  pub cols_high : n ≤ stride
  pub small : s < stride
  pub goal : j < n
  pub rows : (k : ℕ) → k < suc s → entry way.row k < m
  pub cols : (k : ℕ) → 0 < k → k < suc s → entry way.col k < n
  pub below : (k : ℕ) → 0 < k → k < suc s → entry way.up k < k

-- After h steps up from s it stands at position `at`.
pub record Climbed (up : List ℕ) (s h at : ℕ) : Type 0 where
  pub stands : at ≡ above (entry up) s h
  pub fall : at + h ≤ s
  pub before : (g : ℕ) → g < h → 0 < above (entry up) s g

climb_start : (up : List ℕ) (s : ℕ) → Climbed up s 0 s
climb_start up s = record { stands = refl; fall = omega arith; before = λ g l. absurd (omega arith) }

module _ {up : List ℕ} {s h at : ℕ} (w : Climbed up s h at) where
  climb_on : 0 < at → entry up at < at → Climbed up s (suc h) (entry up at)
  climb_on some below = record {
    stands = ap (entry up) w.stands ∙ sym (above-next (entry up) s h);
    fall = omega (arith, w.fall);
    before = λ g l. by_cases (ℕ_discrete g h) (λ e. rw (e, ← w.stands) some) (λ e. w.before g (omega arith));
  }

  -- It has come to the root.
  climb_ends : at ≡ 0 → {d : ℕ} → Rooted (entry up) s d → h ≡ d
  climb_ends e {d} r = by_cases (dec_lt d h)
      (λ l. absurd (omega (arith, w.before d l, r.root)))
      (λ l. by_cases (dec_lt h d) (λ l'. absurd (omega (arith, r.below h l', w.stands))) (λ l'. omega arith))

-- It comes to the root.
pub way-rooted : {m n s j : ℕ} {way : Way} → Walkable m n s j way → (d : ℕ) × Rooted (entry way.up) s d
way-rooted {s = s} {way = way} v = rooted (entry way.up) s s (omega arith) v.below

-- ---- the least bags

-- Of the first d + 1 lanes that the way takes from, the one at place l has the least bags.
pub record LeastOn (d s j : ℕ) (way : Way) (q : List ℤ) (l : ℕ) : Type 0 where
  pub lane : ℕ
  pub inside : lane < suc d
  pub is : l ≡ row_of way s lane * stride + col_of way s j lane
  pub low : (k : ℕ) → k < suc d → to_z (get_or q l (pos 0)) ≼ lane_bags q (row_of way s k) (col_of way s j k)

-- So far, at position `at`.
pub record LeastTo (s j : ℕ) (way : Way) (q : List ℤ) (l at : ℕ) : Type 0 where
  pub steps : ℕ
  pub climbed : Climbed way.up s steps at
  pub in_room_of : l < lane_room
  pub least : LeastOn steps s j way q l

module _ {m n s j : ℕ} {way : Way} (v : Walkable m n s j way) (q : List ℤ) where
  module _ {l at : ℕ} (w : LeastTo s j way q l at) (some : 0 < at) where
    abbrev next : ℕ
    next = entry way.row at * stride + entry way.col at

    pub lowering-inside : (at < suc s) × (entry way.row at < stride) × (entry way.col at < stride)
        × (entry way.up at < at)
    lowering-inside = let few : at < suc s = omega (arith, w.climbed.fall) in
        let r : entry way.row at < m = v.rows at few in let c : entry way.col at < n = v.cols at some few in
        (few, omega (arith, v.rows_high), omega (arith, v.cols_high), v.below at some few)

    on : Climbed way.up s (suc w.steps) (entry way.up at)
    on = climb_on w.climbed some lowering-inside.3

    here : next ≡ row_of way s (suc w.steps) * stride + col_of way s j (suc w.steps)
    here = rw (← w.climbed.stands)

    pub lowering-less : lt_z (get_or q next (pos 0)) (get_or q l (pos 0)) ≡ true
        → LeastTo s j way q next (entry way.up at)
    lowering-less e = record {
      steps = suc w.steps;
      climbed = on;
      in_room_of = omega (arith, lowering-inside);
      least = record {
        lane = suc w.steps;
        inside = omega arith;
        is = here;
        low = λ k u. by_cases (ℕ_discrete k (suc w.steps))
            (λ z. rw (z, ← here) (omega arith))
            (λ z. omega (arith, w.least.low k (omega arith), lt_yes (get_or q next (pos 0)) (get_or q l (pos 0)) e));
      };
    }

    pub lowering-keep : lt_z (get_or q next (pos 0)) (get_or q l (pos 0)) ≡ false
        → LeastTo s j way q l (entry way.up at)
    lowering-keep e = record {
      steps = suc w.steps;
      climbed = on;
      in_room_of = w.in_room_of;
      least = record {
        lane = w.least.lane;
        inside = omega (arith, w.least.inside);
        is = w.least.is;
        low = λ k u. by_cases (ℕ_discrete k (suc w.steps))
            (λ z. rw (z, ← here) (lt_no (get_or q next (pos 0)) (get_or q l (pos 0)) e))
            (λ z. w.least.low k (omega arith));
      };
    }

-- ---- bags moved along it

-- x bags have moved along the first d + 1 lanes of the way.
pub record Brought (d s j : ℕ) (way : Way) (x : ℤ) (q q' : List ℤ) : Type 0 where
  pub bags : (h k : ℕ) → k < stride
      → lane_bags q' h k ≈ moved (row_of way s) (col_of way s j) (suc d) (to_z x) (lane_bags q) h k

-- Bags can be moved along it: the masks are right, and no lane has more bags than there are on a sheet.
pub record Carries (m n s j : ℕ) (way : Way) (b : Bags) : Type 0 where
  pub walkable : Walkable m n s j way
  pub masked : MaskedBags m n b
  pub few : (i k : ℕ) → i < m → k < n → nat_abs (get_or b.by_lane.now (i * stride + k) (pos 0)) ≤ max_bags

-- So far, at position `at`.
pub record Bringing (s j : ℕ) (way : Way) (x : ℤ) (b : Bags) (at : ℕ) (b' : Bags) : Type 0 where
  pub steps : ℕ
  pub climbed : Climbed way.up s steps at
  pub brought : Brought steps s j way x b.by_lane.now b'.by_lane.now
  pub most : (l : ℕ)
      → nat_abs (get_or b'.by_lane.now l (pos 0)) ≤ nat_abs (get_or b.by_lane.now l (pos 0)) + suc steps * 2 ^ 32
  pub follow : Follow b b'

module _ {m n s j : ℕ} {way : Way} {b : Bags} (v : Carries m n s j way b)
    (x : ℤ) (amount : nat_abs x ≤ max_bags) where
  small : nat_abs x < 2 ^ 31
  unfolding max_bags max_side max_amount
  small = omega (arith, amount)

  few-small : (i k : ℕ) → i < m → k < n → nat_abs (get_or b.by_lane.now (i * stride + k) (pos 0)) < 2 ^ 31
  unfolding max_bags max_side max_amount
  few-small i k hi hk = omega (arith, v.few i k hi hk)

  -- The first move, from row `row 0` at the goal.
  pub bring_first : (entry way.row 0 < stride) × (entry way.row s < stride) × (j < stride)
      × (nat_abs (get_or b.by_lane.now (entry way.row 0 * stride + j) (pos 0)) + nat_abs x < 2 ^ 62)
      × (nat_abs (get_or b.by_lane.now (entry way.row s * stride + j) (pos 0)) + nat_abs x < 2 ^ 62)
  bring_first = let w = v.walkable in
      let r : entry way.row 0 < m = w.rows 0 (omega arith) in let r' : entry way.row s < m = w.rows s (omega arith) in
      let few = few-small (entry way.row 0) j r w.goal in let few' = few-small (entry way.row s) j r' w.goal in
      omega (arith, w.rows_high, w.cols_high, w.goal, few, small, few')

  pub bringing_start : {b' : Bags} → BagsShifted (entry way.row 0) (entry way.row s) j x b.by_lane.now b'.by_lane.now
      → Follow b b' → Bringing s j way x b s b'
  bringing_start f g = record {
    steps = 0;
    climbed = climb_start way.up s;
    brought = record { bags = λ h k hk. omega (arith, f.bags h k hk) };
    most = λ l. omega (arith, f.most l, small);
    follow = g;
  }

  module _ {at : ℕ} {b' : Bags} (w : Bringing s j way x b at b') (some : 0 < at) where
    few-steps : at < suc s
    few-steps = omega (arith, w.climbed.fall)

    falls : entry way.up at < at
    falls = v.walkable.below at some few-steps

    pub bringing_inside : (at < node_room) × (entry way.up at < node_room)
    bringing_inside = omega (arith, few-steps, v.walkable.small, falls)

    abbrev from : ℕ
    from = entry way.row at

    abbrev to : ℕ
    to = entry way.row (entry way.up at)

    abbrev across : ℕ
    across = entry way.col at

    pub bringing_next : (from < stride) × (to < stride) × (across < stride)
        × (nat_abs (get_or b'.by_lane.now (from * stride + across) (pos 0)) + nat_abs x < 2 ^ 62)
        × (nat_abs (get_or b'.by_lane.now (to * stride + across) (pos 0)) + nat_abs x < 2 ^ 62)
    bringing_next = let r : from < m = v.walkable.rows at few-steps in
        let r' : to < m = v.walkable.rows (entry way.up at) (omega (arith, falls, few-steps)) in
        let c : across < n = v.walkable.cols at some few-steps in
        let steps : suc w.steps < 64 = omega (arith, w.climbed.fall, v.walkable.small) in
        let a = from * stride + across in let b = to * stride + across in
        omega (arith, v.walkable.rows_high, v.walkable.cols_high, few-small from across r c, few-small to across r' c, small, w.most a, w.most b)

    -- One lane more: what the way has moved is a sum over its lanes.
    pub bringing_on : {b'' : Bags} → BagsShifted from to across x b'.by_lane.now b''.by_lane.now → Follow b' b''
        → Bringing s j way x b (entry way.up at) b''
    bringing_on f g = record {
      steps = suc w.steps;
      climbed = climb_on w.climbed some falls;
      brought = record {
        bags = λ h k hk. joined _ _ _ _ _ _ (f.bags h k hk) (w.brought.bags h k hk) (step h k)
            (moved_more r c (suc w.steps) (to_z x) (lane_bags b.by_lane.now) h k);
      };
      most = λ l. omega (arith, f.most l, w.most l, small);
      follow = follow-both w.follow g;
    }
      where
        r : ℕ → ℕ
        r = row_of way s

        c : ℕ → ℕ
        c = col_of way s j

        joined : (a b e e' o t : Z) → a ≈ b ⊕ e → b ≈ o → e ≈ e' → t ≈ o ⊕ e' → a ≈ t
        joined a b e e' o t h h' h'' g = omega arith

        step : (h k : ℕ) → to_z x ⊗ (spot to across h k ⊖ spot from across h k)
            ≈ to_z x ⊗ (spot (r (suc (suc w.steps))) (c (suc w.steps)) h k ⊖ spot (r (suc w.steps)) (c (suc w.steps)) h k)
        step h k = rw (above-next (entry way.up) s w.steps, ← w.climbed.stands) (omega arith)

-- ---- as many as its lanes have

way-inside : {m n s j : ℕ} {way : Way} → Walkable m n s j way → {d : ℕ} → Rooted (entry way.up) s d
    → (k : ℕ) → k < suc d → (row_of way s k < m) × (col_of way s j k < n)
way-inside v r zero l = (v.rows 0 (omega arith), v.goal)
way-inside {s = s} {way = way} v {d} r (suc k) l =
    let at = above (entry way.up) s k in (v.rows at (low k l), v.cols at (r.below k (omega arith)) (low k l))
  where
    low : (k : ℕ) → suc k < suc d → above (entry way.up) s k < suc s
    low zero l = omega arith
    low (suc k) l = omega (arith, r.falls 0 (suc k) (omega arith) (omega arith))

-- The least bags on it have moved.
pub record BroughtLeast (d s j : ℕ) (way : Way) (q q' : List ℤ) : Type 0 where
  pub place : ℕ
  pub least : LeastOn d s j way q place
  pub brought : Brought d s j way (get_or q place (pos 0)) q q'

module _ {m n s j d place : ℕ} {way : Way} {b : Bags} (v : Carries m n s j way b)
    (r : Rooted (entry way.up) s d) (w : LeastOn d s j way b.by_lane.now place) where
  inside : (row_of way s w.lane < m) × (col_of way s j w.lane < n)
  inside = way-inside v.walkable r w.lane w.inside

  pub least-few : nat_abs (get_or b.by_lane.now place (pos 0)) ≤ max_bags
  least-few = rw w.is (v.few _ _ inside.0 inside.1)

pub bringing_ends : {s j : ℕ} {way : Way} {x : ℤ} {b : Bags} {at : ℕ} {b' : Bags}
    → Bringing s j way x b at b' → at ≡ 0 → {d : ℕ} → Rooted (entry way.up) s d
    → Brought d s j way x b.by_lane.now b'.by_lane.now
bringing_ends w e r = let s = climb_ends w.climbed e r in rw s at w.brought

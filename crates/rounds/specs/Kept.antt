-- What a run keeps from round to round: the board of a tableau with its prices and the least slacks of its rows. What the scan finds on it, and one round.
use Rattle.std.specs.Prelude.{◌+◌, ◌*◌, ◌^◌, ◌<◌, ◌≤◌, ◌≡◌, ◌+ℤ◌, ◌-ℤ◌, Option, Some, None, is_some}
use Rattle.prelude.specs.Words.{ℕ, arith, dec_lt, refl, sym, ◌∙◌, by_cases, Bool, true, false, not, cond}
use Rattle.prelude.specs.Words.{true≢false, List, ℤ}
use Rattle.prelude.specs.Words.{pos, negsuc, nat_abs, neg_ℤ, lt_z, le_z, non_neg, mag, ltb, length, get_or, lt-ltb, le-ltb, le-leb}
use Rattle.prelude.specs.Words.{by_test, clash}
use Rattle.std.specs.Int.{w32}
use mir.Val as bits
use Rattle.integers.specs.Integer.{◌≈◌, ◌⊕◌, ◌⊖◌, neg, nat}
use Rattle.integers.specs.Bridge.{to_z, z-add, z-neg}
use Rattle.integers.specs.Tests.{lt_yes}
use Rattle.transport.specs.Limits.{max_cost, cost_above}
use Rattle.transport.specs.Laws.ListLaws.{by_key, first_least_unique}
use Rattle.transport.specs.Laws.AmountLaws.{lt_z_weak}
use Rattle.transport.specs.Laws.RangeLaws.{abs_diff, back}
use Rattle.transport.specs.Problem.{Problem, sources, sinks, Lane, lanes, place}
use Rattle.transport.specs.Laws.ProblemLaws.{lane, Placed, lane_placed, place-below, length-lanes, get_or-lanes, all_lanes, all-lanes-at}
use Rattle.transport.specs.Tableau.{lane_of, no_cell}
use Rattle.transport.specs.Potential.{potential, reduced_cost, is_finished_of}
use Rattle.transport.specs.Round.{entering, pivot, next}
use Rattle.transport.specs.declared.Cell.{Cell}
use Rattle.tableaux.specs.Potentials.{price_size, price_limit}
use Rattle.transport.specs.Belonging.{cells_belong}
use Rattle.transport.specs.Laws.Sound.{Sound}
use Rattle.transport.specs.Statements.{Belongs}
use Rattle.tableaux.specs.Belonging.{belongs_iff, fits_of, spans_of}
use Rattle.tableaux.specs.Entering.{entering-inside, entering-new}
use Rattle.tree.specs.Layout.{stride, node_room, max_potential, reduced_at}
use Rattle.tree.specs.Mask.{has}
use Rattle.tree.specs.Repriced.{Repriced}
use Rattle.board.specs.Lanes.{place-order}
use Rattle.board.specs.Arrays.{Sides, sound-sides, Board}
use Rattle.board.specs.Drawing.{board-belongs}
use Rattle.pivoting.specs.Pivoting.{Enters, Shifts, Pivoted}
use Rattle.cost_grid.specs.Costs.{Costed}
use Rattle.pricing.specs.Slacks.{InRange, Slacks, Stale}
use Rattle.pricing.specs.declared.scan.PricedLane.{PricedLane}
use Rattle.pricing.specs.Scan.{NoneNegative, Found, Scanned}

-- The prices of T, 0 past the nodes.
pub record Prices (P : Problem) (T : List Cell) (price : List ℤ) (m n : ℕ) : Type 0 where
  pub long : length price ≡ node_room
  pub are : (k : ℕ) → k < m + n → get_or price k (pos 0) ≡ potential P T k
  pub none : (k : ℕ) → m + n ≤ k → k < node_room → get_or price k (pos 0) ≡ pos 0

-- The prices of a tableau T that belongs to P, beside the costs of P by column.
pub record Priced (P : Problem) (T : List Cell) (cost price : List ℤ) (m n : ℕ) : Type 0 where
  pub sound : Sound P
  pub rows : m ≡ sources P
  pub columns : n ≡ sinks P
  pub belongs : cells_belong P T ≡ true
  pub costs : Costed P cost
  pub prices : Prices P T price m n

-- The arrays hold the tableau T of the problem P, whose costs lie by column: its board, its prices and the least slacks of its rows.
pub record Kept (P : Problem) (T : List Cell) (q e cost price slack : List ℤ) (sub path tree : List ℕ) (m n : ℕ) : Type 0 where
  pub board : Board P T q e sub path tree m n
  pub costs : Costed P cost
  pub prices : Prices P T price m n
  pub slacks : Slacks cost price m n slack

-- The round on T: it is finished, and the arrays hold it still; or it is not, and they hold the next tableau.
pub record Advanced (P : Problem) (T : List Cell) (q e cost price slack : List ℤ) (sub path tree : List ℕ) (m n : ℕ) (finished : Bool) : Type 0 where
  pub done : is_finished_of P T ≡ finished
  pub kept : Kept P (cond finished T (next P T)) q e cost price slack sub path tree m n

-- ---- signs of numbers

not_negative : (z : ℤ) → lt_z z (pos 0) ≡ false → non_neg z ≡ true
not_negative (pos k) e = refl
not_negative (negsuc k) e = absurd (true≢false e)

negative : (z : ℤ) → lt_z z (pos 0) ≡ true → non_neg z ≡ false
negative (pos k) e = absurd (omega (arith, lt_yes (pos k) (pos 0) e))
negative (negsuc k) e = refl

-- What a test of the sign says of a number that is read from a struct.
pub sign-is : (z : ℤ) → mag z < 2 ^ 31 → le_z (pos 0) (bits.to_z w32 (bits.of_z w32 z)) ≡ not (lt_z z (pos 0))
sign-is z p = rw (back w32 z p) (go z)
  where
    go : (z : ℤ) → le_z (pos 0) z ≡ not (lt_z z (pos 0))
    go (pos k) = rw (le-leb 0 k (omega arith), le-ltb k 0 (omega arith))
    go (negsuc k) = refl

-- ---- ranges

module _ {P : Problem} {T : List Cell} {cost price : List ℤ} {m n : ℕ} (b : Priced P T cost price m n) where
  own : Belongs P T
  own = (belongs_iff P T b.sound.sources_low b.sound.sinks_low).0 b.belongs

  price_small : (k : ℕ) → k < node_room → nat_abs (get_or price k (pos 0)) ≤ max_potential
  unfolding cost_above max_cost
  price_small k r = by_cases (dec_lt k (m + n))
      (λ l. rw (b.prices.are k l) (omega (
        arith,
        price_limit,
        price_size P b.sound T (fits_of b.sound own) (spans_of b.sound own) k,
      )))
      (λ l. rw (b.prices.none k (omega arith) r) (omega arith))

  priced-sides : Sides m n
  priced-sides = sound-sides b.sound b.rows b.columns

  pub in_range : InRange cost price m n
  in_range = let s = priced-sides in
      record {
        rows = s.rows_high;
        some = s.cols_low;
        columns = s.cols_high;
        costs = b.costs.small;
        prices = price_small;
      }

  reduced-are : (i j : ℕ) → i < m → j < n → reduced_at cost price m i j ≡ reduced_cost P T (lane i j)
  unfolding reduced_cost
  reduced-are i j x y = rw (
    b.costs.lanes i j (omega (arith, b.rows)) (omega (arith, b.columns)),
    b.prices.are i (omega arith),
    b.prices.are (m + j) (omega arith),
    b.rows,
  )

  -- ---- what the scan finds

  -- What holds of the lane at each place.
  at_place : (k : ℕ) → k < length (lanes (sources P) (sinks P)) → (Q : Lane → Type 0)
      → ((i j : ℕ) → i < m → j < n → place (sinks P) i j ≡ k → Q (lane i j)) → Q (get_or (lanes (sources P) (sinks P)) k (lane_of no_cell))
  at_place k l Q f = let t : Placed (sources P) (sinks P) k = lane_placed (sources P) (sinks P) k (omega (arith, length-lanes (sources P) (sinks P))) in
      rw (← t.placed, get_or-lanes (sources P) (sinks P) t.row t.col (lane_of no_cell) t.row_below t.col_below)
      (f t.row t.col (omega (arith, b.rows, t.row_below)) (omega (arith, b.columns, t.col_below)) t.placed)

  module _ {row col : ℕ} {reduced : ℤ} (w : Found cost price m n row col reduced) where
    on-sheet : (row < sources P) × (col < sinks P)
    on-sheet = omega (arith, b.rows, w.row_in, b.columns, w.col_in_of)

    is-reduced : reduced_cost P T (lane row col) ≡ reduced
    is-reduced = sym (reduced-are row col w.row_in w.col_in_of) ∙ w.is

    -- The lane that the scan finds is the specification's entering lane: the first in sheet order of those with the least reduced cost.
    scanned_enters : entering P T ≡ lane row col
    unfolding entering
    scanned_enters = let M = sources P in let N = sinks P in let below = place-below M N row col on-sheet.0 on-sheet.1 in
        first_least_unique (λ k l. lt_z (reduced_cost P T k) (reduced_cost P T l)) (by_key (reduced_cost P T) lt_z_weak) (lane_of no_cell) (lanes M N)
        (lane row col)
        (place N row col) (record {
          inside = omega (arith, below, length-lanes M N);
          stands = get_or-lanes M N row col (lane_of no_cell) on-sheet.0 on-sheet.1;
          least = λ k l. at_place k l (λ t. lt_z (reduced_cost P T t) (reduced_cost P T (lane row col)) ≡ false)
              (λ i j x y r. rw (is-reduced, ← reduced-are i j x y) (w.least i j x y));
          first = λ k l. at_place k (omega (arith, below, length-lanes M N)) (λ t. lt_z (reduced_cost P T (lane row col)) (reduced_cost P T t) ≡ true)
              (λ i j x y r. rw (is-reduced, ← reduced-are i j x y)
              (w.first i j x y (place-order N i j row col (omega (arith, b.columns)) on-sheet.1
              (omega (arith, b.columns, priced-sides.cols_high))
              (omega arith))));
        })

    -- Where its reduced cost is negative, the tableau is not finished.
    scanned_on : lt_z reduced (pos 0) ≡ true → is_finished_of P T ≡ false
    unfolding is_finished_of
    scanned_on s = by_test (is_finished_of P T)
        (λ r.
        let one = all-lanes-at (λ l. non_neg (reduced_cost P T l)) (sources P) (sinks P) row col r on-sheet.0 on-sheet.1 in
        clash one (negative (reduced_cost P T (lane row col)) (rw is-reduced s)))
        (λ r. r)

  pub scanned_none : NoneNegative cost price m n → is_finished_of P T ≡ true
  unfolding is_finished_of
  scanned_none h = all_lanes (λ l. non_neg (reduced_cost P T l)) (sources P) (sinks P)
      (λ i j x y. not_negative (reduced_cost P T (lane i j)) (rw (← reduced-are i j (omega (arith, b.rows)) (omega
      (arith, b.columns)))
      (h i j (omega (arith, b.rows)) (omega (arith, b.columns)))))

  -- So the tableau is finished where the scan finds none.
  pub scanned_done : (x : Option PricedLane) (finished : Bool) → Scanned cost price m n x → is_some x ≡ not finished
      → is_finished_of P T ≡ finished
  scanned_done None true h e = scanned_none h
  scanned_done None false h e = absurd (true≢false (sym e))
  scanned_done (Some l) true w e = absurd (true≢false e)
  scanned_done (Some l) false (t, w) e = scanned_on w t

-- ---- what is kept

module _ {P : Problem} {T : List Cell} {bags marks cost price slack : List ℤ} {sub path tree : List ℕ} {m n : ℕ}
    (h : Kept P T bags marks cost price slack sub path tree m n) where
  b : Board P T bags marks sub path tree m n
  b = h.board

  pub kept-priced : Priced P T cost price m n
  kept-priced = record {
    sound = b.sound;
    rows = b.rows;
    columns = b.columns;
    belongs = b.belongs;
    costs = h.costs;
    prices = h.prices;
  }

  pub kept-range : InRange cost price m n
  kept-range = in_range kept-priced

  pub kept-sides : Sides m n
  kept-sides = priced-sides kept-priced

  pub kept-prices : (k : ℕ) → k < node_room → nat_abs (get_or price k (pos 0)) ≤ 2 ^ 29
  unfolding cost_above max_cost
  kept-prices k l = omega (arith, kept-range.prices k l)

  -- ---- one round

  pub advanced_stays : is_finished_of P T ≡ true → Advanced P T bags marks cost price slack sub path tree m n true
  advanced_stays f = record { done = f; kept = h }

  module _ {row col : ℕ} {reduced : ℤ} (t : lt_z reduced (pos 0) ≡ true)
      (w : Found cost price m n row col reduced) where
    unfinished : is_finished_of P T ≡ false
    unfinished = scanned_on kept-priced w t

    pub lane-enters : Enters P T row col
    lane-enters = let inside = rw (scanned_enters kept-priced w) at (entering-inside b.sound T) in
        let new = entering-new b.sound T unfinished (board-belongs b) in
        record { in_row = inside.0; in_col = inside.1; new = rw (scanned_enters kept-priced w) at new }

    reduced-small : nat_abs reduced ≤ cost_above + 2 * max_potential
    reduced-small = let c = get_or cost (col * stride + row) (pos 0) in
        let u = get_or price row (pos 0) in let v = get_or price (m + col) (pos 0) in
        rw (← w.is) (omega (
          arith,
          abs_diff (c -ℤ u) v,
          abs_diff c u,
          kept-range.costs (col * stride + row),
          kept-range.prices row (omega (arith, w.row_in, kept-sides.rows_high)),
          kept-range.prices (m + col) (omega (arith, w.col_in_of, kept-sides.rows_high, kept-sides.cols_high)),
        ))

    pub reduced-room : nat_abs reduced ≤ 2 ^ 29
    unfolding cost_above max_cost
    reduced-room = omega (arith, reduced-small)

    module _ {bags' marks' price' : List ℤ} {sub' path' tree' : List ℕ} {far : ℕ} (v : Pivoted P T m n row col bags' marks' sub' path' tree' far)
        (r : Repriced m far (cond (has far row) reduced (neg_ℤ reduced)) price price') where
      abbrev x : ℤ
      x = cond (has far row) reduced (neg_ℤ reduced)

      -- The prices move as the theory of cuts asks.
      shifts : Shifts P T m row col far (λ k. get_or price' k (pos 0))
      shifts = record {
        x = to_z x;
        by = toward (has far row);
        rows = λ i l. up i l (has far i) (r.each i);
        cols = λ j l. down j l (has far (m + j)) (r.each (m + j));
      }
        where
          toward : (v : Bool) → to_z (cond v reduced (neg_ℤ reduced)) ≈ (let r = to_z (reduced_cost P T (lane row col)) in cond v r (neg r))
          toward true = rw (is-reduced kept-priced w) (omega arith)
          toward false = rw (is-reduced kept-priced w) (z-neg reduced)

          up : (i : ℕ) → i < m → (v : Bool) → get_or price' i (pos 0) ≡ cond v (get_or price i (pos 0) +ℤ cond (ltb i m) x (neg_ℤ x)) (get_or price i (pos 0))
              → to_z (get_or price' i (pos 0)) ≈ to_z (potential P T i) ⊕ cond v (to_z x) (nat 0)
          up i l true s = rw (← h.prices.are i (omega arith), s, lt-ltb i m l) (z-add (get_or price i (pos 0)) x)
          up i l false s = rw (← h.prices.are i (omega arith), s) (omega arith)

          down : (j : ℕ) → j < sinks P → (v : Bool)
              → get_or price' (m + j) (pos 0) ≡ cond v (get_or price (m + j) (pos 0) +ℤ cond (ltb (m + j) m) x (neg_ℤ x)) (get_or price (m + j) (pos 0))
              → to_z (get_or price' (m + j) (pos 0)) ≈ to_z (potential P T (m + j)) ⊖ cond v (to_z x) (nat 0)
          down j l true s = rw (← h.prices.are (m + j) (omega (arith, b.columns)), s, le-ltb (m + j) m (omega arith))
              (omega (arith, z-add (get_or price (m + j) (pos 0)) (neg_ℤ x), z-neg x))
          down j l false s = rw (← h.prices.are (m + j) (omega (arith, b.columns)), s) (omega arith)

      next-is : pivot m n T (lane row col) ≡ next P T
      unfolding next
      next-is = rw (b.rows, b.columns, scanned_enters kept-priced w)

      board-next : Board P (next P T) bags' marks' sub' path' tree' m n
      board-next = rw (← next-is) v.board

      prices-next : Prices P (next P T) price' m n
      prices-next = record {
        long = r.long ∙ h.prices.long;
        are = λ k l. rw (← next-is) (v.prices (λ k. get_or price' k (pos 0)) shifts k l);
        none = λ k l p. r.each k ∙ (rw (v.inside k l)) ∙ h.prices.none k l p;
      }

      pub range-next : InRange cost price' m n
      range-next = in_range (record {
        sound = board-next.sound;
        rows = board-next.rows;
        columns = board-next.columns;
        belongs = board-next.belongs;
        costs = h.costs;
        prices = prices-next;
      })

      pub slacks_stale : Stale cost price price' m n far row reduced slack
      slacks_stale = record {
        range = kept-range;
        slacks = h.slacks;
        negative = t;
        small = reduced-small;
        moved = r;
        nodes = λ k s. by_cases (dec_lt k (m + n)) (λ l. l)
            (λ l. clash s (v.inside k (omega arith)));
      }

      pub advanced_moves : {slack' : List ℤ} → Slacks cost price' m n slack' → Advanced P T bags' marks' cost price' slack' sub' path' tree' m n false
      advanced_moves s = record { done = unfinished; kept = record { board = board-next; costs = h.costs; prices = prices-next; slacks = s } }

-- What is kept after a round, by its answer.
module _ {P : Problem} {T : List Cell} {q e cost price slack : List ℤ} {sub path tree : List ℕ} {m n : ℕ} {finished : Bool}
    (a : Advanced P T q e cost price slack sub path tree m n finished) where
  pub kept-still : finished ≡ true → Kept P T q e cost price slack sub path tree m n
  kept-still f = rw f at a.kept

  pub kept_next : finished ≡ false → Kept P (next P T) q e cost price slack sub path tree m n
  kept_next f = rw f at a.kept

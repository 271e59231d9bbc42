-- The scan: the lane of least reduced cost, and the first such in the order of rows and columns, from the least slack of each row.
use Rattle.std.specs.Prelude.{◌≡◌, ◌+◌, ◌*◌, ◌<◌, ◌≤◌, ◌-ℤ◌}
use Rattle.prelude.specs.Words.{ap, true, false, by_cases, List, ℕ, arith, dec_lt, ℤ, pos, nat_abs, neg_ℤ}
use Rattle.prelude.specs.Words.{get_or}
use Rattle.prelude.specs.Words.{lt_z}
use Rattle.std.specs.Prelude.{Option, MatchOption}
use Rattle.transport.specs.Limits.{cost_above}
use Rattle.integers.specs.Integer.{◌≈◌, ◌≼◌, ◌≺◌, ◌⊖◌}
use Rattle.integers.specs.Bridge.{to_z, eq-z, z-eq, z-add, z-neg, z-ev, !, ◌-'◌}
use Rattle.integers.specs.Tests.{lt_yes, lt_no, yes_lt, no_lt, abs_z}
use Rattle.tree.specs.Layout.{stride, max_potential, slack_at, reduced_at}
use Rattle.pricing.specs.Lowest.{lowest, Low, lowest-low, FirstAt, FirstLow, first-inside, low_first}
use Rattle.pricing.specs.declared.scan.PricedLane.{PricedLane}
use Rattle.pricing.specs.Slacks.{far, InRange, Slacks, slacks-low, slacks_abs}

-- The least reduced cost of row i, from its least slack.
abbrev pub row_reduced : List ℤ → List ℤ → ℕ → ℤ
row_reduced slack price i = get_or slack i (pos 0) -ℤ get_or price i (pos 0)

-- Row and column have the least reduced cost, and are the first in the order of rows and columns to have it.
pub record Found (cost price : List ℤ) (m n row col : ℕ) (reduced : ℤ) : Type 0 where
  pub row_in : row < m
  pub col_in_of : col < n
  pub is : reduced_at cost price m row col ≡ reduced
  pub least : (i j : ℕ) → i < m → j < n → lt_z (reduced_at cost price m i j) reduced ≡ false
  pub first : (i j : ℕ) → i < m → j < n → i * stride + j < row * stride + col → lt_z reduced (reduced_at cost price m i j) ≡ true

-- No reduced cost is negative.
abbrev pub NoneNegative : List ℤ → List ℤ → ℕ → ℕ → Type 0
NoneNegative cost price m n = (i j : ℕ) → i < m → j < n → lt_z (reduced_at cost price m i j) (pos 0) ≡ false

-- The answer of the scan: the lane with the least reduced cost, which is negative, or none.
abbrev pub Scanned : List ℤ → List ℤ → ℕ → ℕ → Option PricedLane → Type 0
Scanned cost price m n x = MatchOption x (NoneNegative cost price m n)
    (λ lane. (lt_z lane.reduced (pos 0) ≡ true) × Found cost price m n lane.row lane.col lane.reduced)

-- The rows' least reduced costs are in range.
pub record RowsFit (slack price : List ℤ) (m : ℕ) : Type 0 where
  pub rows : m ≤ stride
  pub room : (i : ℕ) → i < m → nat_abs (get_or slack i (pos 0)) + nat_abs (get_or price i (pos 0)) ≤ cost_above + 2 * max_potential

-- A reduced cost is the slack less the source's potential.
reduced-z : (c u v : ℤ) → to_z (c -ℤ u -ℤ v) ≈ to_z (c -ℤ v) ⊖ to_z u
reduced-z c u v = omega (arith, z-ev (! c -' ! u -' ! v), z-ev (! c -' ! v))

-- A slack that is below a potential is below `far`.
near : (s u : ℤ) → nat_abs u ≤ max_potential → to_z (s -ℤ u) ≺ to_z (pos 0) → to_z s ≺ to_z (pos far)
near s u p l = omega (arith, z-add s (neg_ℤ u), z-neg u, abs_z u)

module _ {cost price slack : List ℤ} {m n : ℕ} (w : InRange cost price m n) (s : Slacks cost price m n slack) where
  pub rows_fit : RowsFit slack price m
  rows_fit = record {
    rows = w.rows;
    room = λ i p. omega (arith, w.rows, slacks_abs w s i (omega (arith, w.rows)), w.prices i (omega (arith, w.rows)));
  }

  -- No reduced cost of a row is below the row's least.
  row-least : (i j : ℕ) → i < m → j < n → to_z (row_reduced slack price i) ≼ to_z (reduced_at cost price m i j)
  row-least i j p q = let c = get_or cost (j * stride + i) (pos 0) in let u = get_or price i (pos 0) in let v = get_or price (m + j) (pos 0) in
      let r = get_or slack i (pos 0) in
      omega (arith, (slacks-low w s i (omega (arith, w.rows))).least j q, reduced-z c u v, z-add r (neg_ℤ u), z-neg u)

  -- A column is found, in a row with a negative reduced cost.
  pub scanned_column : {row col : ℕ} → row < m → to_z (row_reduced slack price row) ≺ to_z (pos 0)
      → FirstAt (slack_at cost price m row) (get_or slack row (pos 0)) n col → col < n
  scanned_column {row} l q a = first-inside (slacks-low w s row (omega (arith, w.rows)))
      (near (get_or slack row (pos 0)) (get_or price row (pos 0)) (w.prices row (omega (arith, w.rows))) q)
      (omega arith) a

  module _ (best : ℤ) (e : best ≡ lowest (pos 0) (row_reduced slack price) m) where
    best-low : Low (pos 0) (row_reduced slack price) m best
    best-low = rw e (lowest-low (pos 0) (row_reduced slack price) m)

    pub scanned_no : lt_z best (pos 0) ≡ false → NoneNegative cost price m n
    scanned_no h i j p q = no_lt (reduced_at cost price m i j) (pos 0) (omega (
      arith,
      lt_no best
          (pos 0) h,
      best-low.least i p,
      row-least i j p q,
    ))

    -- A row is found, also for a number above the least.
    pub scanned_row : lt_z best (pos 0) ≡ true → {z : ℤ} {row : ℕ} → to_z best ≼ to_z z → FirstAt (row_reduced slack price) z m row → row < m
    scanned_row h le a = first-inside best-low (lt_yes best (pos 0) h) le a

    module _ (h : lt_z best (pos 0) ≡ true) (row : ℕ) (a : FirstAt (row_reduced slack price) best m row) where
      rows : FirstLow (row_reduced slack price) best m row
      rows = low_first best-low (lt_yes best (pos 0) h) a

      pub scanned_yes : (col : ℕ) → FirstAt (slack_at cost price m row) (get_or slack row (pos 0)) n col
          → Found cost price m n row col best
      scanned_yes col b = found
        where
          u : ℤ
          u = get_or price row (pos 0)

          low : to_z (get_or slack row (pos 0)) ≺ to_z (pos far)
          low = near (get_or slack row (pos 0)) u (w.prices row (omega (arith, w.rows, rows.inside)))
              (omega (arith, z-eq rows.is, lt_yes best (pos 0) h))

          columns : FirstLow (slack_at cost price m row) (get_or slack row (pos 0)) n col
          columns = low_first (slacks-low w s row (omega (arith, w.rows, rows.inside))) low b

          -- The reduced cost in that row.
          own : (j : ℕ) → to_z (reduced_at cost price m row j) ≈ to_z (slack_at cost price m row j) ⊖ to_z u
          own j = reduced-z (get_or cost (j * stride + row) (pos 0)) u (get_or price (m + j) (pos 0))

          best-is : to_z best ≈ to_z (get_or slack row (pos 0)) ⊖ to_z u
          best-is = omega (arith, z-eq rows.is, z-add (get_or slack row (pos 0)) (neg_ℤ u), z-neg u)

          before : (i j : ℕ) → i < m → j < n → i * stride + j < row * stride + col → to_z best ≺ to_z (reduced_at cost price m i j)
          before i j p q l = by_cases (dec_lt i row)
              (λ r. omega (arith, rows.first i r, row-least i j p q))
              (λ r.
              let t : i ≡ row = omega (arith, columns.inside, w.columns) in
              rw t (omega (arith, best-is, own j, columns.first j (omega (arith, ap (λ (k : ℕ). k * stride) t)))))

          found : Found cost price m n row col best
          found = record {
            row_in = rows.inside;
            col_in_of = columns.inside;
            is = eq-z (reduced_at cost price m row col) best (omega (arith, best-is, own col, z-eq columns.is));
            least = λ i j p q. no_lt (reduced_at cost price m i j) best (omega (arith, rows.least i p, row-least i j p q));
            first = λ i j p q l. yes_lt best (reduced_at cost price m i j) (before i j p q l);
          }

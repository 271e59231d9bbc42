-- The lanes of reduced cost 0 as masks of the rows.
use Rattle.std.specs.Prelude.{◌≡◌, ◌+◌, ◌*◌, ◌<◌, ◌≤◌, ◌-ℤ◌}
use Rattle.prelude.specs.Words.{refl, sym, ◌∙◌, by_cases, Bool, true, false, List, ℕ, arith, ℕ_discrete, eq-eqb, ne_eqb, ℤ, pos}
use Rattle.prelude.specs.Words.{nat_abs, length, get_or, set, replicate, length-set, get_or-set_same, get_or-set_other}
use Rattle.integers.specs.Bridge.{eq-z, z-eq, z-ev, !, ◌-'◌}
use Rattle.transport.specs.Laws.ListLaws.{is_false}
use Rattle.transport.specs.Limits.{max_cost, cost_above}
use Rattle.transport.specs.Problem.{Problem, sources, sinks, place, lane_cost}
use Rattle.transport.specs.Laws.Sound.{Sound}
use Rattle.transport.specs.Laws.ProblemLaws.{lane}
use Rattle.transport.specs.Amount.{eq_z}
use Rattle.transport.specs.Laws.AmountLaws.{eq_z-true, eq_z-same}
use Rattle.transport.specs.Belonging.{cells_belong}
use Rattle.transport.specs.Potential.{potential, reduced_cost}
use Rattle.transport.specs.declared.Cell.{Cell}
use Rattle.tableaux.specs.Belonging.{belongs_iff, fits_of, spans_of}
use Rattle.tableaux.specs.Potentials.{cost-size, price_size, price_limit}
use Rattle.optimality.specs.Settling.{tight_lanes_of}
use Rattle.tree.specs.Layout.{stride, stride-is, max_potential, slack_at, reduced_at}
use Rattle.tree.specs.Mask.{has, put, has-put, has-zero}

abbrev is_tight : List ℤ → List ℤ → ℕ → ℕ → ℕ → Bool
is_tight cost price m i j = eq_z (reduced_at cost price m i j) (pos 0)

-- Costs and prices of the sheet are in range.
pub record Ranged (cost price : List ℤ) (m n : ℕ) : Type 0 where
  pub rows : m ≤ stride
  pub cols : n ≤ stride
  pub costs : (i j : ℕ) → i < m → j < n → nat_abs (get_or cost (j * stride + i) (pos 0)) ≤ cost_above
  pub prices : (k : ℕ) → k < m + n → nat_abs (get_or price k (pos 0)) ≤ max_potential

-- Of the first n columns just those are in where row i has reduced cost 0, and no others.
pub record TightRow (cost price : List ℤ) (m i n mask : ℕ) : Type 0 where
  pub here : (j : ℕ) → j < n → has mask j ≡ is_tight cost price m i j
  pub past : (j : ℕ) → n ≤ j → has mask j ≡ false

-- Row by row, of m.
pub record TightLanes (cost price : List ℤ) (m n k : ℕ) (masks : List ℕ) : Type 0 where
  pub long : length masks ≡ stride
  pub rows : (i : ℕ) → i < k → TightRow cost price m i n (get_or masks i 0)

module _ (cost price : List ℤ) (m i j : ℕ) where
  -- The test of the code: what is left of the cost at the sink's end is the source's potential.
  slack-tight : slack_at cost price m i j ≡ get_or price i (pos 0) → is_tight cost price m i j ≡ true
  slack-tight e =
      let c = get_or cost (j * stride + i) (pos 0) in
      let u = get_or price i (pos 0) in
      let v = get_or price (m + j) (pos 0) in
      rw (eq-z (c -ℤ u -ℤ v) (pos 0) (omega (arith, z-ev (! c -' ! u -' ! v), z-ev (! c -' ! v), z-eq e))) (eq_z-same (pos 0))

  tight-slack : is_tight cost price m i j ≡ true → slack_at cost price m i j ≡ get_or price i (pos 0)
  tight-slack e =
      let c = get_or cost (j * stride + i) (pos 0) in
      let u = get_or price i (pos 0) in
      let v = get_or price (m + j) (pos 0) in
      eq-z (c -ℤ v) u (omega (arith, z-ev (! c -' ! u -' ! v), z-ev (! c -' ! v), z-eq (eq_z-true (c -ℤ u -ℤ v) (pos 0) e)))

module _ {cost price : List ℤ} {m i : ℕ} where
  pub tight-none : TightRow cost price m i 0 0
  tight-none = record { here = λ j p. absurd (omega arith); past = λ j p. has-zero j }

  module _ {j mask : ℕ} (h : TightRow cost price m i j mask) where
    pub tight_in : slack_at cost price m i j ≡ get_or price i (pos 0) → TightRow cost price m i (j + 1) (put mask j)
    tight_in e = record {
      here = λ k p. by_cases (ℕ_discrete k j)
          (λ s. rw (s, has-put mask j j, eq-eqb j j refl) (sym (slack-tight cost price m i j e)))
          (λ s. has-put mask j k ∙ rw (ne_eqb k j s) (h.here k (omega arith)));
      past = λ k p. has-put mask j k ∙ rw (ne_eqb k j (omega arith)) (h.past k (omega arith));
    }

    pub tight-out : (slack_at cost price m i j ≡ get_or price i (pos 0) → ⊥) → TightRow cost price m i (j + 1) mask
    tight-out d = record {
      here = λ k p. by_cases (ℕ_discrete k j)
          (λ s. rw s (h.past j (omega arith) ∙ sym (is_false (is_tight cost price m i j) (λ t. d (tight-slack cost price m i j t)))))
          (λ s. h.here k (omega arith));
      past = λ k p. h.past k (omega arith);
    }

module _ {cost price : List ℤ} {m n : ℕ} where
  pub lanes-none : TightLanes cost price m n 0 (replicate stride 0)
  lanes-none = record { long = refl; rows = λ i p. absurd (omega arith) }

  pub tight-more : {k mask : ℕ} {masks : List ℕ} → TightLanes cost price m n k masks → k < stride → TightRow cost price m k n mask
      → TightLanes cost price m n (k + 1) (set masks k mask)
  tight-more {k} {mask} {masks} h p r = record {
    long = simp length-set h.long;
    rows = λ i q. by_cases (ℕ_discrete i k)
        (λ e. rw (e, get_or-set_same masks k mask 0 (omega (arith, h.long))) r)
        (λ e. rw (get_or-set_other masks k i mask 0 e) (h.rows i (omega arith)));
  }

-- With the costs of the sheet and the potentials of the tableau these are the tight lanes.
pub tight-same : (P : Problem) (T : List Cell) {cost price : List ℤ} {masks : List ℕ} → TightLanes cost price (sources P) (sinks P) (sources P) masks
    → ((i j : ℕ) → i < sources P → j < sinks P → get_or cost (j * stride + i) (pos 0) ≡ lane_cost P (lane i j))
    → ((k : ℕ) → k < sources P + sinks P → get_or price k (pos 0) ≡ potential P T k)
    → (i j : ℕ) → i < sources P → j < sinks P → has (get_or masks i 0) j ≡ tight_lanes_of P T i j
unfolding tight_lanes_of reduced_cost
tight-same P T h costs prices i j p q = (h.rows i p).here j q ∙ rw (costs i j p q, prices i (omega arith), prices (sources P + j) (omega arith))

-- And they are in range.
pub tight_ranged : (P : Problem) (T : List Cell) {cost price : List ℤ} → Sound P → cells_belong P T ≡ true
    → ((i j : ℕ) → i < sources P → j < sinks P → get_or cost (j * stride + i) (pos 0) ≡ lane_cost P (lane i j))
    → ((k : ℕ) → k < sources P + sinks P → get_or price k (pos 0) ≡ potential P T k)
    → Ranged cost price (sources P) (sinks P)
unfolding lane_cost cost_above max_cost
tight_ranged P T ok b costs prices =
    let w = (belongs_iff P T ok.sources_low ok.sinks_low).0 b in
    record {
      rows = omega (arith, stride-is, ok.sources_high);
      cols = omega (arith, stride-is, ok.sinks_high);
      costs = λ i j hi hj. rw (costs i j hi hj) (cost-size ok (place (sinks P) i j));
      prices = λ k l. rw (prices k l) (omega (arith, price_limit, price_size P ok T (fits_of ok w) (spans_of ok w) k));
    }

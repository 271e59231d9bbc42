-- Rounds end: the valued cost falls in each of them and stays within bounds.
use Rattle.std.specs.Prelude.{◌≡◌, ◌+◌, ◌*◌, ◌^◌, ◌≤◌, ◌<◌}
use Rattle.prelude.specs.Words.{◌∙◌, ⊎_elim, true, false, List, ℕ, zero, suc, arith, mul-le-mul_left, mul-le-mul_right, pos}
use Rattle.prelude.specs.Words.{by_test}
use Rattle.integers.specs.Integer.{Z, ◌≈◌, ◌≼◌, ◌⊕◌, ◌⊗◌, neg, nat}
use Rattle.integers.specs.Bridge.{z-le, z-neg}
use Rattle.integers.specs.IntegerLaws.{⊗_cong}
use Rattle.integers.specs.Sum.{sum}
use Rattle.network.specs.Measure.{cost-low, cost-high}
use Rattle.transport.specs.Lists.{at, total}
use Rattle.transport.specs.Limits.{max_side, max_amount, max_bags, max_cost, cost_below, cost_above}
use Rattle.transport.specs.Problem.{Problem, sources, sinks, place, lane_cost}
use Rattle.transport.specs.Laws.Sound.{Sound}
use Rattle.transport.specs.Tableau.{start}
use Rattle.transport.specs.Potential.{is_finished_of}
use Rattle.transport.specs.Round.{next, run, round_bound}
use Rattle.transport.specs.Statements.{Belongs, after, FirstFinished}
use Rattle.transport.specs.declared.Cell.{Cell}
use Rattle.tableaux.specs.PlanView.{supplies, costs, sum-sum_to}
use Rattle.tableaux.specs.Starting.{start-belongs}
use Rattle.tableaux.specs.Least.{row_potential, column_potential}
use Rattle.tableaux.specs.Belonging.{prices-tight}
use Rattle.tableaux.specs.Entering.{entering-inside, entering-below, entering-new}
use Rattle.tableaux.specs.TableauView.{belongs_seen}
use Rattle.tableaux.specs.Pivoting.{measure, pivot-belongs, pivot-falls}
use Rattle.tableaux.specs.Running.{reached-now, reached-later, reached-or, run-reached, run-spent, run-done_iff, run-finished, run-rounds}

-- ---- bounds of the measure

-- The value of all amounts of a tableau together.
unfoldable pub all_value : Problem → ℕ
all_value P = (2 * sources P + 1) * total P.supply + sources P

-- No problem's amounts are worth more.
abbrev pub most_value : ℕ
most_value = (2 * max_side + 1) * max_bags + max_side

pub all_value-high : {P : Problem} → Sound P → all_value P ≤ most_value
unfolding all_value
all_value-high {P} ok =
    let sides = mul-le-mul_right {m = 2 * sources P + 1} {n = 2 * max_side + 1} (total P.supply) (omega (arith, ok.sources_high)) in
    omega (arith, ok.sources_high, mul-le-mul_left (2 * max_side + 1) ok.bags)

total-supplies : (P : Problem) → sum (sources P) (supplies P) ≈ nat (total P.supply)
unfolding total sources
total-supplies P = sum-sum_to (sources P) (at P.supply)

all-value : (P : Problem) (bound : Z) → bound ⊗ (nat (2 * sources P + 1) ⊗ sum (sources P) (supplies P) ⊕ nat (sources P)) ≈ bound ⊗ nat (all_value P)
unfolding all_value
all-value P bound =
    ⊗_cong bound (nat (2 * sources P + 1) ⊗ sum (sources P) (supplies P) ⊕ nat (sources P)) (nat (all_value P))
    (omega (arith, ⊗_cong (nat (2 * sources P + 1)) (sum (sources P) (supplies P)) (nat (total P.supply)) (total-supplies P)))

module _ {P : Problem} (ok : Sound P) {T : List Cell} (w : Belongs P T) (c : ℕ → ℕ → Z) (bound : Z) where
  -- A bound on the costs is one on the measure, taken as often as all values add up to.
  measure-low : ((i j : ℕ) → i < sources P → j < sinks P → bound ≼ c i j) → bound ⊗ nat (all_value P) ≼ measure P c T
  measure-low h = omega (arith, all-value P bound, cost-low (omega (arith, ok.sinks_low)) (belongs_seen ok w) c bound h)

  measure-high : ((i j : ℕ) → i < sources P → j < sinks P → c i j ≼ bound) → measure P c T ≼ bound ⊗ nat (all_value P)
  measure-high h = omega (arith, all-value P bound, cost-high (omega (arith, ok.sinks_low)) (belongs_seen ok w) c bound h)

-- ---- rounds of a sheet

module _ {P : Problem} (ok : Sound P) where
  -- A lane costs from −cost_below to cost_above, so the measure, raised by its lower bound, is from 0 to the bound of rounds.
  unfoldable pub raised : List Cell → Z
  raised T = measure P (costs P) T ⊕ nat (cost_below * all_value P)

  pub raised-nonneg : {T : List Cell} → Belongs P T → nat 0 ≼ raised T
  unfolding lane_cost raised
  raised-nonneg w =
      let low : (i j : ℕ) → i < sources P → j < sinks P → neg (nat cost_below) ≼ costs P i j = λ i j hi hj.
      omega (arith, z-le (ok.cost_low (place (sinks P) i j)), z-neg (pos cost_below)) in
      omega (arith, measure-low ok w (costs P) (neg (nat cost_below)) low)

  raised_bound : {T : List Cell} → Belongs P T → raised T ≼ nat (round_bound P)
  unfolding lane_cost round_bound all_value raised
  raised_bound w = omega (arith, measure-high ok w (costs P) (nat cost_above) (λ i j hi hj. omega (arith, z-le (ok.cost_high (place (sinks P) i j)))))

  module _ {T : List Cell} (w : Belongs P T) (unfinished : is_finished_of P T ≡ false) where
    -- A round keeps belonging. Basic lanes have reduced cost 0 and the entering one a negative, so it is not basic, and closes one loop; the pivot round it
    -- belongs.
    pub next-belongs : Belongs P (next P T)
    unfolding next
    next-belongs = let (row, col) = entering-inside ok T in pivot-belongs ok w row col (entering-new ok T unfinished w)

    -- The measure falls. The valued cost changes by the value of the step times the reduced cost of the entering lane. Both are whole; the first is positive,
    -- since no basic cell has the pair (0, 0), and the second negative: so it falls by 1 or more. Without marks a step could be worth nothing, and rounds could
    -- come back to where they were.
    pub next-falls : raised (next P T) ⊕ nat 1 ≼ raised T
    unfolding next raised
    next-falls =
        let (row, col) = entering-inside ok T in
        let falls = pivot-falls ok w row col (entering-new ok T unfinished w) (costs P) (row_potential P T) (column_potential P T) in
        omega (arith, falls (prices-tight ok w) (entering-below ok T unfinished))

  -- Every run ends. The measure is a natural number that falls by 1 or more in each round, so no more rounds than it says are made before a tableau is
  -- finished.
  pub ends : (k : ℕ) (T : List Cell) → Belongs P T → raised T ≼ nat k → (h : ℕ) × (h ≤ k) × FirstFinished P T h
  ends zero T w l = by_test (is_finished_of P T)
      (λ e. (0, omega arith, reached-now P T e))
      (λ e. absurd (omega (arith, next-falls w e, raised-nonneg (next-belongs w e))))
  ends (suc k) T w l = by_test (is_finished_of P T)
      (λ e. (0, omega arith, reached-now P T e))
      (λ e. let (h, q, r) = ends k (next P T) (next-belongs w e) (omega (arith, next-falls w e)) in (suc h, omega arith, reached-later P T h e r))

  -- So from every tableau that belongs, a run of the bound of rounds comes to a finished one.
  bound_reached : (T : List Cell) → Belongs P T → (h : ℕ) × (h ≤ round_bound P) × FirstFinished P T h
  bound_reached T w = ends (round_bound P) T w (raised_bound w)

  pub run_ends : (T : List Cell) → Belongs P T → (run P (round_bound P) T).finished ≡ true
  run_ends T w = (run-done_iff P (round_bound P) T).1 (bound_reached T w)

  -- As long as no tableau is finished, the next one belongs ..
  after-belongs : (k : ℕ) (T : List Cell) → Belongs P T → ((h : ℕ) → h < k → is_finished_of P (after P h T) ≡ false) → Belongs P (after P k T)
  unfolding after
  after-belongs zero T w h = w
  after-belongs (suc k) T w h = after-belongs k (next P T) (next-belongs w (h 0 (omega arith))) (λ g l. h (suc g) (omega arith))

  -- .. and so the last tableau of every run does.
  pub run-belongs : (k : ℕ) (T : List Cell) → Belongs P T → Belongs P (run P k T).tableau
  run-belongs k T w = ⊎_elim
      (λ (h, l, r). rw (run-reached P h k T l r) (after-belongs h T w r.before))
      (λ none. rw (run-spent P k T none) (after-belongs k T w (λ h l. none h (omega arith))))
      (reached-or P k T)

  -- ---- from the start

  pub start-ends : (h : ℕ) × (h ≤ round_bound P) × FirstFinished P (start P) h
  start-ends = bound_reached (start P) (start-belongs P ok)

  -- The count of rounds has at most 16 digits, so it fits 64 bits.
  pub round_bound-most : round_bound P < 10 ^ 16
  unfolding round_bound max_side max_amount max_bags max_cost cost_below cost_above
  round_bound-most =
      let sides : 2 * sources P + 1 ≤ 65 = omega (arith, ok.sources_high) in
      omega (arith, ok.sources_high, ok.bags, mul-le-mul_right (total P.supply) sides)

  pub round_bound-fits : round_bound P < 2 ^ 64
  round_bound-fits = omega (arith, round_bound-most)

  -- So the solution's rounds are those from the start to the first finished tableau, which belongs to the sheet.
  pub start-rounds : (run P (round_bound P) (start P)).rounds < 2 ^ 64
  start-rounds = omega (arith, run-rounds P (round_bound P) (start P), round_bound-fits)

  pub start-finished : is_finished_of P (run P (round_bound P) (start P)).tableau ≡ true
  start-finished = run-finished P (round_bound P) (start P) ∙ run_ends (start P) (start-belongs P ok)

  pub start-last : Belongs P (run P (round_bound P) (start P)).tableau
  start-last = run-belongs (round_bound P) (start P) (start-belongs P ok)

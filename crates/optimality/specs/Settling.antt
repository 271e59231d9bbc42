-- Settling over problems: a plan on the tight lanes of feasible potentials, all of whose lanes are decided, is the optimal plan that carries more on the first
-- lane where it differs from any other; and from every finished tableau there is one.
use Rattle.std.specs.Prelude.{◌≡◌, ◌↔◌, ◌+◌, ◌*◌, ◌-◌, ◌<◌, ◌*ℤ◌}
use Rattle.prelude.specs.Words.{refl, ap, ◌∙◌, Bool, true, List, map, ℕ, suc, arith, pos, length, length-map}
use Rattle.integers.specs.Integer.{Z, ◌≈◌, ≈_dec, ◌⊕◌, ◌⊗◌, nat}
use Rattle.integers.specs.IntegerLaws.{⊗_cong}
use Rattle.integers.specs.Bridge.{to_z, z-mul, z-eq, eq-z, le-z}
use Rattle.network.specs.Flow.{Nonneg, Plan, cost, Feasible, Tight}
use Rattle.network.specs.FlowLaws.{flow-on, flow_cong, plan-on, plan_restrict, plan-whole}
use Rattle.network.specs.Duality.{least, least-tight}
use Rattle.network.specs.Basis.{In}
use Rattle.network.specs.Round.{bags-nonneg}
use Rattle.network.specs.Settling.{DecidedTo, decided-start, decided-other, decided-all, basis-single}
use Rattle.network.specs.Settles.{settles_to}
use Rattle.transport.specs.Lists.{at}
use Rattle.transport.specs.Laws.ListLaws.{get_d_map}
use Rattle.transport.specs.Problem.{Problem, sources, sinks, Lane, lanes, place}
use Rattle.transport.specs.Laws.PlanLaws.{scaled_at}
use Rattle.transport.specs.Laws.Sound.{Sound}
use Rattle.transport.specs.Laws.ProblemLaws.{lane, length-lanes, get_or-lanes, place-below, lane_placed}
use Rattle.transport.specs.Amount.{eq_z}
use Rattle.transport.specs.Laws.AmountLaws.{eq_z-true, eq_z-same}
use Rattle.transport.specs.Potential.{reduced_cost, is_finished_of}
use Rattle.transport.specs.Statements.{Basic, Belongs, FirstDifference, scaled}
use Rattle.transport.specs.declared.Cell.{Cell}
use Rattle.tableaux.specs.View.{row_of, col_of, basic_in}
use Rattle.tableaux.specs.Belonging.{basis_of, prices-tight}
use Rattle.tableaux.specs.TableauView.{bags_at, cells-many, belongs_seen, basic-flow}
use Rattle.tableaux.specs.ProblemPlans.{flow_cost, Fulfils, Optimal}
use Rattle.tableaux.specs.PlanView.{carried, supplies, demands, costs, fulfils-plan, plan-fulfils, cost-flow_cost}
use Rattle.tableaux.specs.Least.{row_potential, column_potential, reduced-parts, finished-feasible}

-- ---- the tight lanes of a tableau

-- The lanes of least cost: those with reduced cost 0.
unfoldable pub tight_lanes_of : Problem → List Cell → ℕ → ℕ → Bool
tight_lanes_of P T i j = eq_z (reduced_cost P T (lane i j)) (pos 0)

pub tight-lanes : (P : Problem) (T : List Cell) (i j : ℕ) → (tight_lanes_of P T i j ≡ true) ↔ Tight (costs P) (row_potential P T) (column_potential P T) i j
unfolding tight_lanes_of
tight-lanes P T i j = (
  (λ e. omega (arith, reduced-parts P T i j, z-eq (eq_z-true (reduced_cost P T (lane i j)) (pos 0) e))),
  (λ h. rw (eq-z (reduced_cost P T (lane i j)) (pos 0) (omega (arith, reduced-parts P T i j))) (eq_z-same (pos 0))),
)

-- Settling starts from the bags of a tableau that belongs: they are a plan on its tight lanes.
pub settling_start : {P : Problem} {T : List Cell} → Sound P → Belongs P T
    → DecidedTo (sources P) (sinks P) (supplies P) (demands P) (Tight (costs P) (row_potential P T) (column_potential P T)) 0 (bags_at T)
settling_start ok belongs =
    decided-start (flow-on (λ i j hi hj b. prices-tight ok belongs i j b) (basic-flow ok belongs)) (bags-nonneg (belongs_seen ok belongs))

-- On its basic lanes there is no other plan.
pub basics-single : {P : Problem} {T : List Cell} → Sound P → Belongs P T → (k : ℕ) (y : ℕ → ℕ → Z)
    → Plan (sources P) (sinks P) (Basic T) k y (supplies P) (demands P) → (i j : ℕ) → i < sources P → j < sinks P → y i j ≈ nat k ⊗ bags_at T i j
basics-single {P} {T} ok belongs k y g = basis-single (basis_of ok belongs) (flow-on cell (basic-flow ok belongs)) (plan-on cell g)
  where
    cell : (i j : ℕ) → i < sources P → j < sinks P → Basic T i j → In (row_of T) (col_of T) (suc (sources P + sinks P - 2)) i j
    cell i j hi hj b = (basic_in T (suc (sources P + sinks P - 2)) i j (cells-many ok T belongs.count)).0 b

-- ---- all lanes are decided

module _ (P : Problem) (u v : ℕ → Z) (feasible : (i j : ℕ) → i < sources P → j < sinks P → Feasible (costs P) u v i j)
    (plan : List ℕ) (long : length plan ≡ sources P * sinks P)
    (d : DecidedTo (sources P) (sinks P) (supplies P) (demands P) (Tight (costs P) u v) (sources P * sinks P) (carried (sinks P) plan)) where
  theirs : (k : ℕ) (Q : List ℕ) → Fulfils P k Q → Plan (sources P) (sinks P) (Feasible (costs P) u v) k (carried (sinks P) Q) (supplies P) (demands P)
  theirs k Q = fulfils-plan (λ i j hi hj e. feasible i j hi hj)

  times : (k : ℕ) → nat k ⊗ cost (sources P) (sinks P) (costs P) (carried (sinks P) plan) ≈ to_z (pos k *ℤ flow_cost P plan)
  times k = omega (
    arith,
    ⊗_cong (nat k) (cost (sources P) (sinks P) (costs P) (carried (sinks P) plan)) (to_z (flow_cost P plan)) (cost-flow_cost P plan),
    z-mul (pos k) (flow_cost P plan),
  )

  -- The plan is on tight lanes, so it costs least, in k-ths too, and the plans of that cost are those on tight lanes. All lanes are decided: so on the first
  -- lane where such a plan differs, it carries less.
  pub decided-optimal : Optimal P plan (flow_cost P plan)
  unfolding place scaled
  decided-optimal = record {
    fulfils = fulfils;
    shown = refl;
    least = λ k Q l q. le-z (pos k *ℤ flow_cost P plan) (flow_cost P Q)
        (omega (arith, times k, cost-flow_cost P Q, least (costs P) u v d.flow (theirs k Q q)));
    first = λ k Q l q e h f.
        let w = lane_placed (sources P) (sinks P) h (omega (arith, f.lane, length-map plan (λ x. k * x), long)) in
        rw (← w.placed) (lane-less k Q q e w.row w.col w.row_below w.col_below (rw w.placed f));
  }
    where
      fulfils : Fulfils P 1 plan
      fulfils = plan-fulfils long (plan-whole d.flow d.nonneg)

      tight : (k : ℕ) (Q : List ℕ) → Fulfils P k Q → flow_cost P Q ≡ (pos k *ℤ flow_cost P plan)
          → Plan (sources P) (sinks P) (Tight (costs P) u v) k (carried (sinks P) Q) (supplies P) (demands P)
      tight k Q q e = plan_restrict
          ((least-tight (costs P) u v d.flow (theirs k Q q)).0 (omega (arith, times k, cost-flow_cost P Q, z-eq e))) (theirs k Q q)

      lane-less : (k : ℕ) (Q : List ℕ) → Fulfils P k Q → flow_cost P Q ≡ (pos k *ℤ flow_cost P plan) → (i j : ℕ) → i < sources P → j < sinks P
          → FirstDifference (scaled k plan) Q (place (sinks P) i j) → at Q (place (sinks P) i j) < at (scaled k plan) (place (sinks P) i j)
      lane-less k Q q e i j hi hj f = omega (
        arith,
        scaled_at k plan (place (sinks P) i j),
        decided-all d (tight k Q q e) i j hi hj
            (λ i j hi hj s. omega (arith, f.before (place (sinks P) i j) s, scaled_at k plan (place (sinks P) i j)))
            (λ z. f.differ (omega (arith, scaled_at k plan (place (sinks P) i j)))),
      )

-- ---- from a finished tableau

-- Amounts as a plan in sheet order.
unfoldable plan_of : Problem → (ℕ → ℕ → Z) → List ℕ
plan_of P x = map (λ (l : Lane). (x l.row l.col).up - (x l.row l.col).dn) (lanes (sources P) (sinks P))

plan_of-long : (P : Problem) (x : ℕ → ℕ → Z) → length (plan_of P x) ≡ sources P * sinks P
unfolding plan_of
plan_of-long P x =
    length-map (lanes (sources P) (sinks P)) (λ (l : Lane). (x l.row l.col).up - (x l.row l.col).dn) ∙ length-lanes (sources P) (sinks P)

plan_of-carries : (P : Problem) (x : ℕ → ℕ → Z) → Nonneg (sources P) (sinks P) x
    → (i j : ℕ) → i < sources P → j < sinks P → carried (sinks P) (plan_of P x) i j ≈ x i j
unfolding plan_of at
plan_of-carries P x nonneg i j hi hj = omega (arith, here, nonneg i j hi hj)
  where
    amount : Lane → ℕ
    amount l = (x l.row l.col).up - (x l.row l.col).dn

    here : at (plan_of P x) (place (sinks P) i j) ≡ (x i j).up - (x i j).dn
    here = get_d_map amount (lanes (sources P) (sinks P)) (place (sinks P) i j) (lane 0 0) 0
        (omega (arith, length-lanes (sources P) (sinks P), place-below (sources P) (sinks P) i j hi hj))
        ∙ ap amount (get_or-lanes (sources P) (sinks P) i j (lane 0 0) hi hj)

-- Settling comes to its end: from every finished tableau all lanes are decided at last.
module _ {P : Problem} (ok : Sound P) (T : List Cell) (belongs : Belongs P T) where
  pub finished-optimal : is_finished_of P T ≡ true → (plan : List ℕ) × Optimal P plan (flow_cost P plan)
  finished-optimal done =
      let (x, d) = settles_to (λ i j. ≈_dec (row_potential P T i ⊕ column_potential P T j) (costs P i j)) (sources P * sinks P) (omega arith)
      (settling_start ok belongs) in
      let same = plan_of-carries P x d.nonneg in
      let e = decided-other (flow_cong same d.flow) (λ i j hi hj. omega arith) (λ i j hi hj l. same i j hi hj) d in
      (plan_of P x, decided-optimal P (row_potential P T) (column_potential P T) (finished-feasible P T done) (plan_of P x) (plan_of-long P x) e)

-- The bags of a finished tableau are a plan of least cost, and the plans of least cost are exactly those on lanes with reduced cost 0.
use Rattle.std.specs.Prelude.{◌+◌, ◌*◌, ◌<◌, ◌≡◌, ◌↔◌, ◌∷◌, ◌*ℤ◌, ◌≤ℤ◌}
use Rattle.prelude.specs.Words.{ℕ, suc, arith, ℕ_discrete, ap, ◌∙◌, by_cases, Dec-and, ⊎_elim, true, false≢true, List, [], map, ℤ}
use Rattle.prelude.specs.Words.{pos, negsuc, nat_abs, non_neg, length, get_or, length-map}
use Rattle.integers.specs.Integer.{Z, ◌≈◌, ◌≼◌, ≈_dec, ◌⊖◌, ◌⊗◌, nat}
use Rattle.integers.specs.IntegerLaws.{⊗_cong}
use Rattle.integers.specs.Bridge.{to_z, z-mul, z-eq, eq-z, le-z, z-ev, !, ◌-'◌}
use Rattle.network.specs.Flow.{Flow, Plan, cost, Feasible, Tight}
use Rattle.network.specs.FlowLaws.{flow-on, flow_cong, plan-whole}
use Rattle.network.specs.Duality.{least, least-tight}
use Rattle.transport.specs.Lists.{at}
use Rattle.transport.specs.Laws.ListLaws.{get_d_map}
use Rattle.transport.specs.Problem.{Problem, sources, sinks, Lane, lanes, place, lane_cost}
use Rattle.transport.specs.Laws.Sound.{Sound}
use Rattle.transport.specs.Laws.ProblemLaws.{lane, length-lanes, get_or-lanes, place-below, all-lanes-at}
use Rattle.transport.specs.Amount.{nothing, less}
use Rattle.transport.specs.Tableau.{no_cell}
use Rattle.transport.specs.Potential.{potential, reduced_cost, is_finished_of}
use Rattle.tableaux.specs.ProblemPlans.{flow_cost, Fulfils}
use Rattle.transport.specs.Statements.{Basic, Belongs}
use Rattle.transport.specs.declared.Cell.{Cell}
use Rattle.tableaux.specs.View.{amount_at, amount-here, amount-later}
use Rattle.tableaux.specs.PairLaws.{bags, nothing-parts, less-true}
use Rattle.tableaux.specs.PlanView.{carried, supplies, demands, costs, fulfils-plan, plan-fulfils, cost-flow_cost}

-- ---- the bags of a tableau, as a plan

-- The bags on a lane, none where no cell stands.
unfoldable pub bags_on : List Cell → Lane → ℕ
bags_on T l = nat_abs (amount_at T l.row l.col).q

-- The bags of the tableau, in sheet order.
unfoldable pub bags_for : Problem → List Cell → List ℕ
bags_for P T = map (bags_on T) (lanes (sources P) (sinks P))

length-bags_of : (P : Problem) (T : List Cell) → length (bags_for P T) ≡ sources P * sinks P
unfolding bags_for
length-bags_of P T = length-map (lanes (sources P) (sinks P)) (bags_on T) ∙ length-lanes (sources P) (sinks P)

bags_of-at : (P : Problem) (T : List Cell) (i j : ℕ) → i < sources P → j < sinks P → at (bags_for P T) (place (sinks P) i j) ≡ bags_on T (lane i j)
unfolding bags_for at
bags_of-at P T i j k l =
    get_d_map (bags_on T) (lanes (sources P) (sinks P)) (place (sinks P) i j) (lane 0 0) 0
    (omega (arith, length-lanes (sources P) (sinks P), place-below (sources P) (sinks P) i j k l))
    ∙ ap (bags_on T) (get_or-lanes (sources P) (sinks P) i j (lane 0 0) k l)

nat_nat_abs : (x : ℤ) → nat 0 ≼ to_z x → nat (nat_abs x) ≈ to_z x
nat_nat_abs (pos n) h = omega arith
nat_nat_abs (negsuc n) h = absurd (omega arith)

-- Pairs above (0, 0) have no negative bags.
amount-nonneg : (T : List Cell) → ((k : ℕ) → k < length T → less nothing (get_or T k no_cell).amount ≡ true) → (i j : ℕ) → nat 0 ≼ bags (amount_at T i j)
unfolding amount_at
amount-nonneg [] h i j = omega (arith, nothing-parts)
amount-nonneg (c ∷ cs) h i j = by_cases (Dec-and (ℕ_discrete c.row i) (ℕ_discrete c.col j))
    (λ e. rw (amount-here c cs i j e.0 e.1)
    (⊎_elim (λ s. omega (arith, nothing-parts)) (λ s. omega (arith, nothing-parts)) (less-true nothing c.amount (h 0 (omega arith)))))
    (λ e. rw (amount-later c cs i j e) (amount-nonneg cs (λ k l. h (suc k) (omega arith)) i j))

bags-carried : (P : Problem) (T : List Cell) → Belongs P T → (i j : ℕ) → i < sources P → j < sinks P
    → carried (sinks P) (bags_for P T) i j ≈ bags (amount_at T i j)
unfolding bags_on
bags-carried P T belongs i j k l = rw (bags_of-at P T i j k l) (nat_nat_abs (amount_at T i j).q (amount-nonneg T belongs.above i j))

module _ (P : Problem) (T : List Cell) (belongs : Belongs P T)
    (flow : Flow (sources P) (sinks P) (Basic T) (λ i j. bags (amount_at T i j)) (supplies P) (demands P)) where
  bags_of-flow : Flow (sources P) (sinks P) (Basic T) (carried (sinks P) (bags_for P T)) (supplies P) (demands P)
  bags_of-flow = flow_cong (bags-carried P T belongs) flow

  -- The tableau's bags are a plan in whole bags that meets the sheet.
  pub bags_fulfil : Fulfils P 1 (bags_for P T)
  bags_fulfil = plan-fulfils (length-bags_of P T) (plan-whole bags_of-flow (λ i j k l. omega arith))

-- ---- least cost

non_neg_true : (x : ℤ) → non_neg x ≡ true → nat 0 ≼ to_z x
non_neg_true (pos n) e = omega arith
non_neg_true (negsuc n) e = absurd (false≢true e)

-- The potentials of rows and of columns.
abbrev pub row_potential : Problem → List Cell → ℕ → Z
row_potential P T i = to_z (potential P T i)

abbrev pub column_potential : Problem → List Cell → ℕ → Z
column_potential P T j = to_z (potential P T (sources P + j))

pub reduced-parts : (P : Problem) (T : List Cell) (i j : ℕ) → to_z (reduced_cost P T (lane i j)) ≈ costs P i j ⊖ row_potential P T i ⊖ column_potential P T j
unfolding reduced_cost
reduced-parts P T i j = z-ev (! (lane_cost P (lane i j)) -' ! (potential P T i) -' ! (potential P T (sources P + j)))

-- Where the tableau is finished, no reduced cost is negative.
pub finished-feasible : (P : Problem) (T : List Cell) → is_finished_of P T ≡ true → (i j : ℕ) → i < sources P → j < sinks P
    → Feasible (costs P) (row_potential P T) (column_potential P T) i j
unfolding is_finished_of
finished-feasible P T done i j k l =
    let low = all-lanes-at (λ x. non_neg (reduced_cost P T x)) (sources P) (sinks P) i j done k l in
    omega (arith, reduced-parts P T i j, non_neg_true (reduced_cost P T (lane i j)) low)

-- The plan carries nothing on lanes whose reduced cost is not 0.
abbrev pub OnTight : Problem → List Cell → List ℕ → Type 0
OnTight P T Q = (i j : ℕ) → i < sources P → j < sinks P → ¬ (reduced_cost P T (lane i j) ≡ pos 0) → at Q (place (sinks P) i j) ≡ 0

module _ (P : Problem) (ok : Sound P) (T : List Cell) (belongs : Belongs P T)
    (flow : Flow (sources P) (sinks P) (Basic T) (λ i j. bags (amount_at T i j)) (supplies P) (demands P))
    (tight : (i j : ℕ) → Basic T i j → Tight (costs P) (row_potential P T) (column_potential P T) i j)
    (done : is_finished_of P T ≡ true) where
  ours : Flow (sources P) (sinks P) (Tight (costs P) (row_potential P T) (column_potential P T)) (carried (sinks P) (bags_for P T)) (supplies P) (demands P)
  ours = flow-on (λ i j k l b. tight i j b) (bags_of-flow P T belongs flow)

  module _ (k : ℕ) (Q : List ℕ) (meets : Fulfils P k Q) where
    theirs : Plan (sources P) (sinks P) (Feasible (costs P) (row_potential P T) (column_potential P T)) k (carried (sinks P) Q) (supplies P) (demands P)
    theirs = fulfils-plan (λ i j h l e. finished-feasible P T done i j h l) meets

    our_cost : nat k ⊗ cost (sources P) (sinks P) (costs P) (carried (sinks P) (bags_for P T)) ≈ to_z (pos k *ℤ flow_cost P (bags_for P T))
    our_cost =
        let same = ⊗_cong (nat k) (cost (sources P) (sinks P) (costs P) (carried (sinks P) (bags_for P T))) (to_z (flow_cost P (bags_for P T))) in
        omega (arith, same (cost-flow_cost P (bags_for P T)), z-mul (pos k) (flow_cost P (bags_for P T)))

    -- Optimality. The potentials' worth of the supplies and demands bounds the cost of every plan from below, for no reduced cost is negative; and the
    -- tableau's bags cost just that, for they are on basic cells, where the reduced cost is 0.
    pub bags-least : (pos k *ℤ flow_cost P (bags_for P T)) ≤ℤ flow_cost P Q
    bags-least = le-z (pos k *ℤ flow_cost P (bags_for P T)) (flow_cost P Q)
        (omega (arith, our_cost, cost-flow_cost P Q, least (costs P) (row_potential P T) (column_potential P T) ours theirs))

    -- A plan costs as little exactly if it is on lanes with reduced cost 0.
    pub bags-least_exactly : (flow_cost P Q ≡ (pos k *ℤ flow_cost P (bags_for P T))) ↔ OnTight P T Q
    bags-least_exactly =
        let same = least-tight (costs P) (row_potential P T) (column_potential P T) ours theirs in (
          (λ e i j h l r. by_cases (ℕ_discrete (at Q (place (sinks P) i j)) 0) (λ z. z) (λ z.
              let tight = same.0 (omega (arith, our_cost, cost-flow_cost P Q, z-eq e)) i j h l (omega arith) in
              absurd (r (eq-z (reduced_cost P T (lane i j)) (pos 0) (omega (arith, reduced-parts P T i j)))))),
          (λ t.
              let on = same.1 (λ i j h l e. by_cases (≈_dec (to_z (reduced_cost P T (lane i j))) (nat 0))
              (λ z. omega (arith, reduced-parts P T i j))
              (λ z. absurd (e (omega (arith, t i j h l (λ r. z (z-eq r))))))) in
              eq-z (flow_cost P Q) (pos k *ℤ flow_cost P (bags_for P T)) (omega (arith, our_cost, cost-flow_cost P Q))),
        )

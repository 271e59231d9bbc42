-- The prices that solve shows prove its plan, to whoever does not trust the panel.
use Rattle.std.specs.Prelude.{◌≡◌, ◌+◌, ◌≤◌, ◌<◌, ◌+ℤ◌, ◌*ℤ◌}
use Rattle.prelude.specs.Words.{sym, ap, ◌∙◌, ⊎_elim, by_cases, List, ℕ, arith, one-mul, ℕ_discrete, ℤ, pos}
use Rattle.integers.specs.Integer.{◌≈◌, ≈_dec, ◌≼◌, ◌⊕◌, nat}
use Rattle.integers.specs.Bridge.{to_z, z-eq, eq-z, z-le, le-z, z-add, z-mul}
use Rattle.network.specs.Flow.{Tight}
use Rattle.transport.specs.Lists.{at, at_z, sum_to}
use Rattle.transport.specs.Problem.{Problem, sources, sinks, place}
use Rattle.transport.specs.Sheet.{Sheet, roasteries, cafes}
use Rattle.transport.specs.Extended.{extended}
use Rattle.transport.specs.Parties.{among, rows_left_of, columns_left, problem_of}
use Rattle.transport.specs.Tableau.{start}
use Rattle.transport.specs.declared.Cell.{Cell}
use Rattle.transport.specs.Potential.{reduced_cost}
use Rattle.transport.specs.OwnNumbers.{row_price_of, column_price_of, cafe_price_of, roastery_price_of, roastery_prices, cafe_prices}
use Rattle.transport.specs.Round.{run, round_bound}
use Rattle.transport.specs.Calls.{solution_from, solution}
use Rattle.transport.specs.Statements.{Certified}
use Rattle.transport.specs.Laws.ListLaws.{get_or-table, sum_to_cong, sum_to-one}
use Rattle.transport.specs.Laws.ProblemLaws.{lane}
use Rattle.transport.proofs.ExtendedLaws.{width_low, cost-cafe, cost-extra, lane_cost-at}
use Rattle.transport.specs.Laws.PartiesLaws.{left_yes, among-left, struck-sources, struck-sinks}
use Rattle.transport.specs.Laws.Sound.{Sound}
use Rattle.tableaux.specs.PlanView.{costs}
use Rattle.tableaux.specs.ProblemPlans.{flow_cost, Optimal}
use Rattle.tableaux.specs.Least.{bags_for, row_potential, column_potential, reduced-parts, OnTight}
use Rattle.tableaux.specs.Ending.{start-finished, start-last}
use Rattle.optimality.specs.Finished.{finished-fulfils, finished-least, finished-least_exactly}
use Rattle.optimality.specs.Settling.{finished-optimal}
use Rattle.reduction.specs.SheetLanes.{width_of, width_is}
use Rattle.reduction.specs.StruckPlans.{same_at, own_plan, own_plan-same, struck-optimal}
use Rattle.reduction.specs.Reduction.{sheet_plan-same, own_sheet_plan, problem-settled}
use Rattle.demands.specs.GivenPrices.{cafe-left, roastery_left, costs-left, prices-feasible}

module _ (S : Sheet) (ok : Sound (problem_of S)) where
  abbrev P : Problem
  P = problem_of S

  abbrev E : Problem
  E = extended S

  -- The finished tableau to which the rounds lead.
  abbrev last : List Cell
  last = (run P (round_bound P) (start P)).tableau

  abbrev u : ℕ → ℤ
  u = roastery_price_of E last

  abbrev v : ℕ → ℤ
  v = cafe_price_of E last

  -- No lane of the extended problem costs less than its prices, also where a party is struck.
  feasible : (i j : ℕ) → j < sinks E → to_z (u i) ⊕ to_z (v j) ≼ costs E i j
  unfolding problem_of
  feasible i j l = omega (arith, z-add (u i) (v j), z-le (prices-feasible E last (start-finished ok) i j l))

  module _ (x : List ℕ) (b : Optimal P x (flow_cost P x)) where
    -- An optimal plan costs what the tableau's own bags do, so it lies on lanes of reduced cost 0.
    on-tight : OnTight P last x
    on-tight =
        let ours = z-le (b.least 1 (bags_for P last) (omega arith) (finished-fulfils P ok last (start-last ok))) in
        let theirs = z-le (finished-least P ok last (start-last ok) (start-finished ok) 1 x b.fulfils) in
        let same : flow_cost P x ≡ (pos 1 *ℤ flow_cost P (bags_for P last)) = eq-z (flow_cost P x) (pos 1 *ℤ flow_cost P (bags_for P last))
        (omega (arith, z-mul (pos 1) (flow_cost P (bags_for P last)), z-mul (pos 1) (flow_cost P x))) in
        (finished-least_exactly P ok last (start-last ok) (start-finished ok) 1 x b.fulfils).0 same

    left-tight : (i j : ℕ) → i < sources P → j < sinks P → 1 ≤ at x (place (sinks P) i j) → Tight (costs P) (row_potential P last) (column_potential P last) i j
    left-tight i j l h some = by_cases (≈_dec (to_z (reduced_cost P last (lane i j))) (nat 0))
        (λ e. omega (arith, e, reduced-parts P last i j))
        (λ e. absurd (omega (arith, on-tight i j l h (λ z. e (z-eq z)))))

    -- What the plan carries under own numbers ..
    abbrev bags : ℕ → ℕ → ℕ
    bags i j = at (own_plan E x) (place (sinks E) i j)

    -- .. goes between parties left ..
    ends-left : (i j : ℕ) → i < sources E → j < sinks E → 1 ≤ bags i j → (1 ≤ at E.supply i) × (1 ≤ at E.demand j)
    ends-left i j l h some = (
      by_cases (ℕ_discrete (at E.supply i) 0) (λ e. absurd (omega (arith, (own_plan-same E x).row i j l h e))) (λ e. omega arith),
      by_cases (ℕ_discrete (at E.demand j) 0) (λ e. absurd (omega (arith, (own_plan-same E x).column i j l h e))) (λ e. omega arith),
    )

    -- .. over lanes that cost just their prices.
    tight : (i j : ℕ) → i < sources E → j < sinks E → 1 ≤ bags i j → to_z (u i) ⊕ to_z (v j) ≈ costs E i j
    unfolding problem_of row_price_of column_price_of rows_left_of columns_left
    tight i j l h some =
        let (supply, demand) = ends-left i j l h some in
        let row : among E.supply i < sources P = omega (arith, (among-left E.supply i supply).inside, struck-sources E) in
        let col : among E.demand j < sinks P = omega (arith, (among-left E.demand j demand).inside, struck-sinks E) in
        let carried : 1 ≤ at x (place (sinks P) (among E.supply i) (among E.demand j)) =
        rw (struck-sinks E) (omega (arith, same_at E (own_plan-same E x) i j supply demand)) in
        let price = z-eq (roastery_left E last i (left_yes E.supply i supply)) in
        let left = left-tight (among E.supply i) (among E.demand j) row col carried in
        omega (arith, z-eq (cafe-left E last j (left_yes E.demand j demand)), costs-left E i j supply demand)

    -- What lanes of the sheet, and the extra café's, cost in the tableau.
    on-sheet : (i j : ℕ) → i < roasteries S → j < cafes S → costs E i j ≈ to_z (at_z S.cost (place (cafes S) i j))
    on-sheet i j l h = z-eq (lane_cost-at S i j l (omega (arith, width_low S)) ∙ cost-cafe S i j h)

    at-extra : width_of S ≡ cafes S + 1 → (i : ℕ) → i < roasteries S → costs E i (cafes S) ≈ nat 0
    at-extra e i l = z-eq (lane_cost-at S i (cafes S) l (omega arith) ∙ cost-extra S i (cafes S) (omega arith))

    -- On the sheet's lanes the settled plan carries what x does, under own numbers. A roastery that keeps bags sends them, in x, to the extra café, so it is
    -- left, and so is that café. On the lanes of that café u and its own price together are never above 0, a struck roastery's u among them, and are 0 where
    -- there are bags.
    plan_certified : Certified S u v (own_sheet_plan S x)
    unfolding problem_of extended sources sinks roasteries own_sheet_plan
    plan_certified =
        -- In x a roastery sends all that it has, and to the cafés what the settled plan has.
        let all : (i : ℕ) → i < roasteries S → sum_to (width_of S) (bags i) ≡ at S.supply i = λ i l.
        (struck-optimal E x (flow_cost P x) b).fulfils.rows i l ∙ one-mul (at S.supply i) in
        let sent : (i : ℕ) → i < roasteries S → sum_to (cafes S) (bags i) ≡ sum_to (cafes S) (λ j. at (own_sheet_plan S x) (place (cafes S) i j)) = λ i l.
        sum_to_cong (cafes S) (bags i) (λ j. at (own_sheet_plan S x) (place (cafes S) i j)) (λ j h. sym (sheet_plan-same S (own_plan E x) i j l h)) in
        record {
          lanes = λ i j l h. le-z (u i +ℤ v j) (at_z S.cost (place (cafes S) i j))
              (omega (arith, z-add (u i) (v j), feasible i j (omega (arith, width_low S)), on-sheet i j l h));
          used = λ i j l h some.
              let full = tight i j l (omega (arith, width_low S)) (omega (arith, sheet_plan-same S (own_plan E x) i j l h)) in
              eq-z (u i +ℤ v j) (at_z S.cost (place (cafes S) i j)) (omega (arith, z-add (u i) (v j), on-sheet i j l h));
          kept = λ i l less h g.
              let whole : (t : ℕ) → width_of S ≡ t → sum_to t (bags i) ≡ at S.supply i = λ t e. ap (λ (t : ℕ). sum_to t (bags i)) (sym e) ∙ all i l in
              let wide : width_of S ≡ cafes S + 1 = ⊎_elim (λ (z, e). absurd (omega (arith, sent i l, whole (cafes S) e))) (λ e. e) (width_is S) in
              let some : 1 ≤ bags i (cafes S) = omega (arith, sent i l, whole (cafes S + 1) wide, sum_to-one (cafes S) (bags i)) in
              le-z (u h) (u i)
              (omega (arith, tight i (cafes S) l (omega arith) some, feasible h (cafes S) (omega arith), at-extra wide i l, at-extra wide h g));
        }

  -- ---- as solve shows them

  shown-u : (i : ℕ) → i < roasteries S → at_z (solution S).u i ≡ u i
  unfolding solution solution_from roastery_prices at_z
  shown-u i l = get_or-table u (roasteries S) i (pos 0) l

  shown-v : (j : ℕ) → j < cafes S → at_z (solution S).v j ≡ v j
  unfolding solution solution_from cafe_prices at_z
  shown-v j h = get_or-table v (cafes S) j (pos 0) h

  pub solution_certified : Certified S (at_z (solution S).u) (at_z (solution S).v) (solution S).plan
  unfolding solution solution_from
  solution_certified =
      let (x, b) = finished-optimal ok last (start-last ok) (start-finished ok) in
      let c = plan_certified x b in
      rw (problem-settled S x (flow_cost P x) ok b) (record {
        lanes = λ i j l h. rw (shown-u i l, shown-v j h) (c.lanes i j l h);
        used = λ i j l h some. rw (shown-u i l, shown-v j h) (c.used i j l h some);
        kept = λ i l less h g. rw (shown-u i l, shown-u h g) (c.kept i l less h g);
      })

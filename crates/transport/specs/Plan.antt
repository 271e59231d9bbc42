-- Plans in whole bags, their cost, and the settled plan (paper 01, "The sheet" and "Settling"; paper 02, One). A plan is the list of its
-- quantities in sheet order, and knows no extra café: what a roastery does not send stays at home.
use Rattle.std.specs.Prelude.{cond, ℕ, ◌*◌, ◌-◌, min, eqb, ℤ, pos, ◌*ℤ◌}
use mathlib.Core.List.{List, [], ◌∷◌, ◌++◌, map, flat_map, zip_with}
use Rattle.std.specs.Int.Signed.{lt_z}
use Rattle.transport.specs.Lists.{all, first_least, down_to, sum_z, at, at_z, total}
use Rattle.transport.specs.Sheet.{Sheet, roasteries, cafes}

-- The sum of quantity times cost.
unfoldable pub plan_cost_of : Sheet → List ℕ → ℤ
plan_cost_of S x = sum_z (roasteries S * cafes S) (λ l. pos (at x l) *ℤ at_z S.cost l)

-- All ways to send at least `low` and at most `left` over lanes to cafés that still want ds, more on an earlier lane first: a lane takes at most what its café
-- wants, and at least what the later cafés have no room for.
unfoldable pub row_plans : ℕ → ℕ → List ℕ → List (List ℕ)
row_plans low left [] = cond (eqb low 0) ([] ∷ []) []
row_plans low left (d ∷ ds) = flat_map (λ x. map (λ xs. x ∷ xs) (row_plans (low - x) (left - x) ds)) (down_to (low - total ds) (min left d))

-- All plans for roasteries with these supplies and cafés that still want ds: the first roastery sends at most its supply, and at least what the others lack.
unfoldable pub plans_for : List ℕ → List ℕ → List (List ℕ)
plans_for [] ds = cond (all (eqb 0) ds) ([] ∷ []) []
plans_for (s ∷ ss) ds = flat_map (λ xs. map (λ p. xs ++ p) (plans_for ss (zip_with (◌-◌) ds xs))) (row_plans (total ds - total ss) s ds)

-- All plans that meet the sheet. Of two, the one that carries more on the first lane where they differ comes first.
unfoldable pub plans : Sheet → List (List ℕ)
plans S = plans_for S.supply S.demand

-- The settled plan: least in cost, and of these ahead of every other on the first lane that tells two apart; the first of the least, by the order of `plans`.
unfoldable pub settled : Sheet → List ℕ
settled S = first_least (λ x y. lt_z (plan_cost_of S x) (plan_cost_of S y)) [] (plans S)

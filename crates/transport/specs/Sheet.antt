-- The sheet and the sheet check (paper 01, "The sheet", and the second paragraph of "Calls and their refusals"; paper 02, One, Two and Four).
use Rattle.std.specs.Prelude.{Bool, true, false, not, ◌&&◌, List, [], ◌∷◌, ℕ, ◌*◌, eqb, ltb, ℤ, pos, neg_ℤ, length}
use Rattle.std.proofs.Math.Option.{Option, none, some}
use Rattle.transport.specs.Refusals.{Refusal}
use Rattle.transport.specs.Lists.{all, total, at_most, within, within_z}
use Rattle.transport.specs.Limits.{max_sources, max_sinks, max_side, max_amount, max_cost}

-- What a customer hands in: a supply for each roastery, a demand for each café, both in bags, and a cost for each lane, in cents a bag and in sheet order.
-- A lane that earns money has a negative cost (02, Two), and whoever has or wants nothing an amount of 0 (02, Four).
pub record Sheet : Type 0 where
  pub supply : List ℕ
  pub demand : List ℕ
  pub cost : List ℤ

-- The sheet that the three lists of a call are.
abbrev pub sheet_of : List ℕ → List ℕ → List ℤ → Sheet
sheet_of supply demand cost = record { supply = supply; demand = demand; cost = cost }

-- m, the number of roasteries.
unfoldable pub roasteries : Sheet → ℕ
roasteries S = length S.supply

-- n, the number of cafés.
unfoldable pub cafes : Sheet → ℕ
cafes S = length S.demand

-- ---- the sheet check: each test that refuses, with its refusal

-- 1: m or n is outside 1 to 32.
unfoldable pub bad_sides : Sheet → Bool × Refusal
bad_sides S = (not (within 1 max_sources (roasteries S) && within 1 max_sinks (cafes S)), Refusal.Sides)

-- 2: the cost list's length isn't m × n.
unfoldable pub bad_length : Sheet → Bool × Refusal
bad_length S = (not (eqb (length S.cost) (roasteries S * cafes S)), Refusal.CostCount)

-- 3 (02, Four): some supply or demand is above 1,000,000.
unfoldable pub bad_amount : Sheet → Bool × Refusal
bad_amount S = (not (all (at_most max_amount) S.supply && all (at_most max_amount) S.demand), Refusal.Amount)

-- 4 (02, Two): some cost is outside −1,000,000 to 1,000,000.
unfoldable pub bad_cost : Sheet → Bool × Refusal
bad_cost S = (not (all (within_z (neg_ℤ (pos max_cost)) (pos max_cost)) S.cost), Refusal.Cost)

-- 5 (02, One): total demand is greater than total supply.
unfoldable pub lacking : Sheet → Bool × Refusal
lacking S = (ltb (total S.supply) (total S.demand), Refusal.Lacking)

-- 10 (02, One): total supply is greater than total demand, and there are 32 cafés, so that a tableau has no room for the extra one.
unfoldable pub crowded : Sheet → Bool × Refusal
crowded S = (ltb (total S.demand) (total S.supply) && eqb (cafes S) max_side, Refusal.Crowded)

-- 11 (02, Four): total demand is 0.
unfoldable pub idle : Sheet → Bool × Refusal
idle S = (eqb (total S.demand) 0, Refusal.Idle)

-- 3, 4, 5, 10 and 11, which a sheet read from a text is still tested for.
unfoldable pub number_tests : Sheet → List (Bool × Refusal)
number_tests S = bad_amount S ∷ bad_cost S ∷ lacking S ∷ crowded S ∷ idle S ∷ []

unfoldable pub sheet_tests : Sheet → List (Bool × Refusal)
sheet_tests S = bad_sides S ∷ bad_length S ∷ number_tests S

-- Of several refusals the first: the one beside the first test that holds.
unfoldable pub refusal : List (Bool × Refusal) → Option Refusal
refusal [] = none
refusal (t ∷ ts) = elim t.0 [
  | true ↦ some t.1
  | false ↦ refusal ts
]

-- The extended problem of a sheet (paper 02, One): in a tableau an extra last café takes what supply is above demand, at cost 0, and stands at the end of
-- each row. A sheet of equal totals has no extra café.
use Rattle.std.specs.Prelude.{cond, List, [], ◌∷◌, ◌++◌, ℕ, ◌-◌, eqb, ltb, ℤ, pos, length}
use Rattle.transport.specs.Lists.{at_z, grid, total}
use Rattle.transport.specs.Problem.{Problem, place}
use Rattle.transport.specs.Sheet.{Sheet, roasteries, cafes}

-- The bags that stay at home.
unfoldable pub surplus : Sheet → ℕ
surplus S = total S.supply - total S.demand

-- What each column of a tableau wants: the demands, and after them what the extra café takes, where there is one.
unfoldable pub wanted : Sheet → List ℕ
wanted S = S.demand ++ cond (eqb (surplus S) 0) [] (surplus S ∷ [])

-- What the lane of row i and column j costs: nothing in the extra café's column.
unfoldable pub cost_at : Sheet → ℕ → ℕ → ℤ
cost_at S i j = cond (ltb j (cafes S)) (at_z S.cost (place (cafes S) i j)) (pos 0)

-- Roasteries are sources, cafés sinks, and the extra café is the last sink.
unfoldable pub extended : Sheet → Problem
extended S = record { supply = S.supply; demand = wanted S; cost = grid (roasteries S) (length (wanted S)) (cost_at S) }

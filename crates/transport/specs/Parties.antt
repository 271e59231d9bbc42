-- The parties left (paper 02, Four): parties at 0 are struck before the start, and the balanced problem behind a sheet is the one of those left.
use Rattle.std.specs.Prelude.{Bool, not, List, map, ℕ, eqb, ltb, length}
use Rattle.transport.specs.Lists.{keep, at, below, grid}
use Rattle.transport.specs.Problem.{Problem, lane_cost}
use Rattle.transport.specs.Sheet.{Sheet}
use Rattle.transport.specs.Extended.{extended}

-- Of one side, by its amounts: the party with the own number k, counted from 0, is left. (One that is not on the side has no amount, and is none.)
unfoldable pub is_left : List ℕ → ℕ → Bool
is_left amounts k = not (eqb (at amounts k) 0)

-- The own numbers of those left, in their order.
unfoldable pub left : List ℕ → List ℕ
left amounts = keep (is_left amounts) (below (length amounts))

-- The number among those left of the one with the own number k: so many of them come before it.
unfoldable pub among : List ℕ → ℕ → ℕ
among amounts k = length (keep (λ h. ltb h k) (left amounts))

-- The rows and the columns of a problem that are left. A struck café of the sheet is a struck column; the extra café, where there is one, is never struck.
unfoldable pub rows_left_of : Problem → List ℕ
rows_left_of E = left E.supply

unfoldable pub columns_left : Problem → List ℕ
columns_left E = left E.demand

-- The problem of the parties left, numbered among themselves. So m in the marks counts the roasteries left, and the last sink is the extra café where there is
-- one, and else the last café left.
unfoldable pub struck : Problem → Problem
struck E = record {
  supply = map (at E.supply) (rows_left_of E);
  demand = map (at E.demand) (columns_left E);
  cost = grid (length (rows_left_of E)) (length (columns_left E)) (λ i j. lane_cost E (record { row = at (rows_left_of E) i; col = at (columns_left E) j }));
}

-- The balanced problem behind a sheet.
unfoldable pub problem_of : Sheet → Problem
problem_of S = struck (extended S)

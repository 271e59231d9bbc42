-- Tableaux and prices under the parties' own numbers (paper 02, Four). E is an extended problem, in which amounts may be 0. Tableaux of the problem of the
-- parties left number these among themselves; what a call takes and gives has their own numbers.
use Rattle.std.specs.Prelude.{Bool, ◌&&◌, cond, List, map, ℕ, ◌+◌, eqb, ℤ, ◌-ℤ◌}
use Rattle.transport.specs.Lists.{all, at, table, least_for}
use Rattle.transport.specs.Problem.{Problem, sources, sinks, lane_cost}
use Rattle.transport.specs.Sheet.{Sheet, roasteries, cafes}
use Rattle.transport.specs.Extended.{extended}
use Rattle.transport.specs.Parties.{is_left, among, rows_left_of, columns_left, struck}
use Rattle.transport.specs.Tableau.{Cell, Tableau, cells_of, basis_size}
use Rattle.transport.specs.Belonging.{cells_belong}
use Rattle.transport.specs.Potential.{potential}

-- ---- tableaux

-- A tableau of the parties left, under their own numbers ..
unfoldable pub own : Problem → List Cell → List Cell
own E T = map (λ c. record { row = at (rows_left_of E) c.row; col = at (columns_left E) c.col; amount = c.amount }) T

-- .. and back.
unfoldable pub renumbered : Problem → List Cell → List Cell
renumbered E T = map (λ c. record { row = among E.supply c.row; col = among E.demand c.col; amount = c.amount }) T

-- The cell stands between two parties left.
unfoldable pub covers : Problem → Cell → Bool
covers E c = is_left E.supply c.row && is_left E.demand c.col

-- The tableau that a caller hands over belongs to the sheet: one cell fewer than parties left, each between two of these, and renumbered they belong to the
-- problem of these. (That this is the paper's sentence, under own numbers, is a theorem: Statements.BelongsTo.)
unfoldable pub belongs_to : Problem → Tableau → Bool
belongs_to E t =
    eqb t.count (basis_size (sources (struck E)) (sinks (struck E)))
    && all (covers E) (cells_of t)
    && cells_belong (struck E) (renumbered E (cells_of t))

-- ---- the prices that are given, those of struck parties too

-- T is a tableau of the parties left.
module _ (E : Problem) (T : List Cell) where
  -- The prices of roastery i and of café j, both left. The first roastery left has 0.
  unfoldable pub row_price_of : ℕ → ℤ
  row_price_of i = potential (struck E) T (among E.supply i)

  unfoldable pub column_price_of : ℕ → ℤ
  column_price_of j = potential (struck E) T (sources (struck E) + among E.demand j)

  -- A struck café's price is the least cost − u over the roasteries left ..
  unfoldable pub cafe_price_of : ℕ → ℤ
  cafe_price_of j = cond (is_left E.demand j) (column_price_of j)
      (least_for (map (λ i. lane_cost E (record { row = i; col = j }) -ℤ row_price_of i) (rows_left_of E)))

  -- .. and then a struck roastery's price is the least cost − v over all cafés, the extra one included where present.
  unfoldable pub roastery_price_of : ℕ → ℤ
  roastery_price_of i = cond (is_left E.supply i) (row_price_of i)
      (least_for (table (sinks E) (λ j. lane_cost E (record { row = i; col = j }) -ℤ cafe_price_of j)))

-- The prices u and v of a sheet. That of the extra café is not given (02, One).
unfoldable pub roastery_prices : Sheet → List Cell → List ℤ
roastery_prices S T = table (roasteries S) (roastery_price_of (extended S) T)

unfoldable pub cafe_prices : Sheet → List Cell → List ℤ
cafe_prices S T = table (cafes S) (cafe_price_of (extended S) T)

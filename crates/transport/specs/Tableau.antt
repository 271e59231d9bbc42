-- Tableaux and the start (paper 01, "Tableau and start"). Inside a call a tableau is the list of its basic cells.
use Rattle.std.specs.Prelude.{Bool, true, false, ◌&&◌, List, [], ◌∷◌, map, ℕ, zero, suc, ◌+◌, ◌-◌, eqb, length, take}
pub use Rattle.transport.specs.declared.Cell.{Cell}
pub use Rattle.transport.specs.declared.Tableau.{Tableau}
use Rattle.transport.specs.Lists.{padded}
use Rattle.transport.specs.Limits.{max_cells}
use Rattle.transport.specs.Problem.{Problem, sources, sinks, Lane}
use Rattle.transport.specs.Amount.{Pair, nothing, subtract, same, smaller, paired_supply_of, paired_demand_of}

-- m + n − 1, the basic cells of a tableau.
unfoldable pub basis_size : ℕ → ℕ → ℕ
basis_size m n = m + n - 1

unfoldable pub lane_of : Cell → Lane
lane_of c = record { row = c.row; col = c.col }

unfoldable pub with_amount : Lane → Pair → Cell
with_amount l x = record { row = l.row; col = l.col; amount = x }

-- The lanes of a tableau's cells.
unfoldable pub basis_for : List Cell → List Lane
basis_for T = map lane_of T

unfoldable pub same_lane : Lane → Lane → Bool
same_lane k l = eqb k.row l.row && eqb k.col l.col

-- ---- the struct that calls take and give

-- A cell that has no meaning, in the rest of the array.
unfoldable pub no_cell : Cell
no_cell = record { row = 0; col = 0; amount = nothing }

unfoldable pub cells_of : Tableau → List Cell
cells_of t = take t.count t.cells

unfoldable pub tableau_of : List Cell → Tableau
tableau_of T = record { cells = padded max_cells no_cell T; count = length T }

-- The tableau that a lent list of cells is: all are counted, and as many as the array has room for are in it.
unfoldable pub lent_tableau_of : List Cell → Tableau
lent_tableau_of T = record { cells = padded max_cells no_cell (take max_cells T); count = length T }

-- The tableau of an answer that gives none.
unfoldable pub no_tableau : Tableau
no_tableau = tableau_of []

-- ---- the start: the north-west corner rule (000, 003)

-- `left` cells more from row i and column j on, whose remaining pairs are s and d: the cell takes the smaller of the two, which is taken from both;
-- if the row is then empty, on to the next row, else to the next column.
unfoldable pub corner : Problem → ℕ → ℕ → ℕ → Pair → Pair → List Cell
corner P zero i j s d = []
corner P (suc left) i j s d =
    let x = smaller s d in
    record { row = i; col = j; amount = x }
    ∷ (elim (same (subtract s x) nothing) [
      | true ↦ corner P left (suc i) j (paired_supply_of P (suc i)) (subtract d x)
      | false ↦ corner P left i (suc j) (subtract s x) (paired_demand_of P (suc j))
    ])

unfoldable pub start : Problem → List Cell
start P = corner P (basis_size (sources P) (sinks P)) 0 0 (paired_supply_of P 0) (paired_demand_of P 0)

-- Belonging (paper 01, "Tableau and start"): which cells are a tableau of a problem.
use Rattle.std.specs.Prelude.{Bool, true, ◌&&◌, List, [], ◌∷◌, map, ℕ, eqb, ltb, length}
use Rattle.transport.specs.Lists.{all, keep, below}
use Rattle.transport.specs.Problem.{Problem, sources, sinks, Lane, place}
use Rattle.transport.specs.Amount.{Pair, nothing, less, same, add_up, paired_supply_of, paired_demand_of}
use Rattle.transport.specs.Tableau.{Cell, Tableau, cells_of, basis_for, basis_size}
use Rattle.transport.specs.Leaf.{strikes}

-- No cell is off the sheet.
unfoldable pub on_sheet : Problem → Cell → Bool
on_sheet P c = ltb c.row (sources P) && ltb c.col (sinks P)

-- Distinct cells in sheet order: each stands at a later place than the one before it.
unfoldable pub in_order : ℕ → List Cell → Bool
in_order n [] = true
in_order n (c ∷ []) = true
in_order n (c ∷ d ∷ cs) = ltb (place n c.row c.col) (place n d.row d.col) && in_order n (d ∷ cs)

-- The pair is above (0, 0).
unfoldable pub above_zero : Cell → Bool
above_zero c = less nothing c.amount

-- What the cells of row i, and those of column j, add up to.
unfoldable pub row_total : List Cell → ℕ → Pair
row_total T i = add_up (map (λ c. c.amount) (keep (λ c. eqb c.row i) T))

unfoldable pub column_total : List Cell → ℕ → Pair
column_total T j = add_up (map (λ c. c.amount) (keep (λ c. eqb c.col j) T))

-- Rows and columns add up to the paired supplies and demands.
unfoldable pub balanced : Problem → List Cell → Bool
balanced P T =
    all (λ i. same (row_total T i) (paired_supply_of P i)) (below (sources P))
    && all (λ j. same (column_total T j) (paired_demand_of P j)) (below (sinks P))

-- The lanes join all nodes without a loop: m + n − 1 of them, and all are struck off. (That this is so exactly if they are joined is a theorem.)
unfoldable pub spans : ℕ → ℕ → List Lane → Bool
spans m n B = eqb (length B) (basis_size m n) && eqb (length (strikes m n B)) (basis_size m n)

-- The cells belong to the problem.
unfoldable pub cells_belong : Problem → List Cell → Bool
cells_belong P T =
    all (on_sheet P) T
    && in_order (sinks P) T
    && spans (sources P) (sinks P) (basis_for T)
    && all above_zero T
    && balanced P T

-- The tableau that a caller hands over belongs to the problem. Its count is tested first: it may say more cells than the array has.
unfoldable pub belongs : Problem → Tableau → Bool
belongs P t = eqb t.count (basis_size (sources P) (sinks P)) && cells_belong P (cells_of t)

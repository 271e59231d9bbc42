-- The balanced problem (001 to 003) that tableaux are about: amounts in bags with equal totals, and what each lane counts. Behind every sheet stands one
-- (Extended.extended).
use Rattle.std.specs.Prelude.{List, ℕ, ◌+◌, ◌*◌, ℤ, length}
use Rattle.transport.specs.Lists.{at_z, grid}

-- A supply for each source, a demand for each sink, both in bags, and a cost for each lane, in cents a bag and in sheet order.
pub record Problem : Type 0 where
  pub supply : List ℕ
  pub demand : List ℕ
  pub cost : List ℤ

-- m, the number of sources.
unfoldable pub sources : Problem → ℕ
sources P = length P.supply

-- n, the number of sinks.
unfoldable pub sinks : Problem → ℕ
sinks P = length P.demand

-- A lane, from a source (its row) to a sink (its column), both counted from 0.
pub record Lane : Type 0 where
  pub row : ℕ
  pub col : ℕ

-- Sheet order: the lanes of source 1 to sinks 1, 2, .., n, then those of source 2, and so on.
unfoldable pub lanes : ℕ → ℕ → List Lane
lanes m n = grid m n (λ i j. record { row = i; col = j })

-- The place of row i and column j in sheet order, among n columns.
unfoldable pub place : ℕ → ℕ → ℕ → ℕ
place n i j = i * n + j

-- The cost of a lane.
unfoldable pub lane_cost : Problem → Lane → ℤ
lane_cost P l = at_z P.cost (place (sinks P) l.row l.col)

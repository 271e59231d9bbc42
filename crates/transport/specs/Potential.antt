-- Potentials and reduced costs (paper 01, "Prices and rounds": a price is the potential of its node; 000, 002).
use Rattle.std.specs.Prelude.{Bool, true, false, List, [], ◌∷◌, ℕ, ◌+◌, eqb, ℤ, pos, ◌-ℤ◌}
use Rattle.std.specs.Int.Signed.{non_neg}
use Rattle.transport.specs.Lists.{all, table}
use Rattle.transport.specs.Problem.{Problem, sources, sinks, Lane, lanes, lane_cost}
use Rattle.transport.specs.Tableau.{Cell, basis_for}
use Rattle.transport.specs.Leaf.{Strike, strikes}

-- The potential of each node, back through the strikes: 0 at the root, and a leaf's is its lane's cost less the potential at the other end.
unfoldable pub potential_by : (Lane → ℤ) → List Strike → ℕ → ℤ
potential_by cost [] k = pos 0
potential_by cost (s ∷ ss) k = elim (eqb k s.leaf) [
  | true ↦ cost s.lane -ℤ potential_by cost ss s.other
  | false ↦ potential_by cost ss k
]

unfoldable pub potential : Problem → List Cell → ℕ → ℤ
potential P T = potential_by (lane_cost P) (strikes (sources P) (sinks P) (basis_for T))

-- The prices u of the sources and v of the sinks.
unfoldable pub source_prices_of : Problem → List Cell → List ℤ
source_prices_of P T = table (sources P) (potential P T)

unfoldable pub sink_prices : Problem → List Cell → List ℤ
sink_prices P T = table (sinks P) (λ j. potential P T (sources P + j))

-- cost − u − v
unfoldable pub reduced_cost : Problem → List Cell → Lane → ℤ
reduced_cost P T l = lane_cost P l -ℤ potential P T l.row -ℤ potential P T (sources P + l.col)

-- Finished when no reduced cost is negative.
unfoldable pub is_finished_of : Problem → List Cell → Bool
is_finished_of P T = all (λ l. non_neg (reduced_cost P T l)) (lanes (sources P) (sinks P))

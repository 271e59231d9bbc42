-- Striking leaves (paper 01, "Tableau and start"; 002): nodes with one basic cell left are struck off, one after the other.
-- The cells of a tableau are links between nodes: row i is node i, column j is node m + j.
use Rattle.std.specs.Prelude.{Bool, not, ◌||◌, cond, List, [], ◌∷◌, ℕ, zero, suc, ◌+◌, eqb, length}
use Rattle.std.proofs.Math.Option.{Option, none, some}
use Rattle.transport.specs.Lists.{keep, table}
use Rattle.transport.specs.Problem.{Lane}
use Rattle.transport.specs.Tableau.{basis_size}

-- The lane links node k.
unfoldable pub touches : ℕ → ℕ → Lane → Bool
touches m k l = eqb l.row k || eqb (m + l.col) k

-- A leaf struck off with its lane; `other` is the node at the lane's other end.
pub record Strike : Type 0 where
  pub leaf : ℕ
  pub other : ℕ
  pub lane : Lane

unfoldable pub strike_at : ℕ → ℕ → Lane → Strike
strike_at m k l = record { leaf = k; other = cond (eqb l.row k) (m + l.col) l.row; lane = l }

unfoldable pub only_one : List Lane → Option Lane
only_one [] = none
only_one (l ∷ []) = some l
only_one (l ∷ k ∷ ls) = none

-- The first of the nodes that a single lane links.
unfoldable pub first_leaf : ℕ → List ℕ → List Lane → Option Strike
first_leaf m [] B = none
first_leaf m (k ∷ ks) B = elim (only_one (keep (touches m k) B)) [
  | none ↦ first_leaf m ks B
  | some l ↦ some (strike_at m k l)
]

-- Leaves struck off one after the other, at most `most`.
unfoldable pub strike_off : ℕ → List ℕ → ℕ → List Lane → List Strike
strike_off m nodes zero B = []
strike_off m nodes (suc most) B = elim (first_leaf m nodes B) [
  | none ↦ []
  | some s ↦ s ∷ strike_off m nodes most (keep (λ l. not (touches m s.leaf l)) B)
]

-- Every node but source 1, the root, can be a leaf.
unfoldable pub strikes : ℕ → ℕ → List Lane → List Strike
strikes m n B = strike_off m (table (basis_size m n) suc) (length B) B

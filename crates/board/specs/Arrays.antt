-- What the arrays hold: the amounts of a tableau, the strikes of its basis, and its tree.
use Rattle.std.specs.Prelude.{◌≡◌, ◌+◌, ◌-◌, ◌*◌, ◌<◌, ◌≤◌}
use Rattle.prelude.specs.Words.{true, List, ℕ, arith, ℤ, pos, length, get_or}
use Rattle.transport.specs.Problem.{Problem, sources, sinks}
use Rattle.transport.specs.Laws.Sound.{Sound}
use Rattle.transport.specs.Tableau.{basis_for}
use Rattle.transport.specs.Belonging.{cells_belong}
use Rattle.transport.specs.declared.Cell.{Cell}
use Rattle.tableaux.specs.View.{Distinct, Inside, amount_at}
use Rattle.tableaux.specs.Striking.{Struck}
use Rattle.tableaux.specs.Belonging.{fits-inside}
use Rattle.tree.specs.Layout.{stride, stride-is, node_room, lane_room, strikes_of}
use Rattle.tree.specs.Links.{Links, Masks}
use Rattle.tree.specs.Drawn.{Drawn, drawn-links, drawn_masks}
use Rattle.cuts.specs.Planting.{Tree}
use Rattle.board.specs.Held.{Held, row-lanes, column-lanes, lanes-apart}

-- There are 1 to `stride` rows and 1 to `stride` columns.
pub record Sides (m n : ℕ) : Type 0 where
  pub rows_low : 1 ≤ m
  pub rows_high : m ≤ stride
  pub cols_low : 1 ≤ n
  pub cols_high : n ≤ stride

-- So it is of a sound problem.
pub sound-sides : {P : Problem} {m n : ℕ} → Sound P → m ≡ sources P → n ≡ sinks P → Sides m n
sound-sides ok rows columns = record {
  rows_low = omega (arith, rows, ok.sources_low);
  rows_high = omega (arith, rows, stride-is, ok.sources_high);
  cols_low = omega (arith, columns, ok.sinks_low);
  cols_high = omega (arith, columns, stride-is, ok.sinks_high);
}

-- The amounts of the cells lie on their lanes, (0, 0) on every other.
pub record Amounts (m n : ℕ) (T : List Cell) (q e : List ℤ) : Type 0 where
  pub q_long : length q ≡ lane_room
  pub e_long : length e ≡ lane_room
  pub bags : (i j : ℕ) → i < m → j < n → get_or q (i * stride + j) (pos 0) ≡ (amount_at T i j).q
  pub marks : (i j : ℕ) → i < m → j < n → get_or e (i * stride + j) (pos 0) ≡ (amount_at T i j).e

-- The amounts of T lie on their lanes, and the strikes strike off its basis.
pub record Loaded (m n : ℕ) (T : List Cell) (q e : List ℤ) (leaf other lanes : List ℕ) : Type 0 where
  pub amounts : Amounts m n T q e
  pub long : length lanes ≡ node_room
  pub struck : Struck m n (basis_for T) (strikes_of leaf other lanes (m + n - 1))

-- The arrays hold the tableau T of the problem P, of m sources and n sinks: its amounts and its tree.
pub record Board (P : Problem) (T : List Cell) (q e : List ℤ) (sub path lanes : List ℕ) (m n : ℕ) : Type 0 where
  pub sound : Sound P
  pub rows : m ≡ sources P
  pub columns : n ≡ sinks P
  pub belongs : cells_belong P T ≡ true
  pub amounts : Amounts m n T q e
  pub tree : Tree m n (basis_for T) sub path lanes

-- ---- the masks of a basis

module _ {m n : ℕ} {T : List Cell} {adj : List ℕ} {q e : List ℤ} (sides : Sides m n) (h : Held m n T adj q e) (inside : Inside m n T) where
  drawn : Drawn m n (basis_for T) adj
  drawn = record { rows = row-lanes h; cols = column-lanes h }

  pub basis-links : Links m n adj
  basis-links = drawn-links drawn (fits-inside m n T inside) sides.rows_low sides.rows_high sides.cols_low sides.cols_high

  pub basis_masks : Distinct T → Masks m n (basis_for T) adj
  basis_masks distinct = drawn_masks drawn (fits-inside m n T inside) (lanes-apart T distinct)

pub held-amounts : {m n : ℕ} {T : List Cell} {adj : List ℕ} {q e : List ℤ} → Held m n T adj q e → Amounts m n T q e
held-amounts h = record { q_long = h.q_long; e_long = h.e_long; bags = h.bags; marks = h.marks }

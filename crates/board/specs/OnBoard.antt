-- What a board holds: the records over its arrays, said of the board.
use Rattle.std.specs.Prelude.{ℕ, List}
use Rattle.transport.specs.Problem.{Problem}
use Rattle.transport.specs.declared.Cell.{Cell}
use Rattle.board.specs.declared.Board.{Board}
use Rattle.board.specs.Arrays as arrays

-- The tableau T of the problem P, of m sources and n sinks: its amounts and its tree.
abbrev pub Holds : Problem → List Cell → Board → ℕ → ℕ → Type 0
Holds P T b m n = arrays.Board P T b.amounts.q b.amounts.e b.basis.sub b.basis.path b.basis.lane m n

-- The same, but for the tree: only its lanes are there.
abbrev pub Shows : Problem → List Cell → Board → ℕ → ℕ → Type 0
Shows P T b m n = (sub : List ℕ) × (path : List ℕ) × arrays.Board P T b.amounts.q b.amounts.e sub path b.basis.lane m n

-- The amounts of T, and strikes that strike off its basis.
abbrev pub LoadedOn : ℕ → ℕ → List Cell → Board → Type 0
LoadedOn m n T b = arrays.Loaded m n T b.amounts.q b.amounts.e b.basis.leaf b.basis.other b.basis.lane

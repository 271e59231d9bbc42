-- The records of rounds, said of a board.
use Rattle.std.specs.Prelude.{ℕ, ℤ, Bool, List}
use Rattle.transport.specs.Problem.{Problem}
use Rattle.transport.specs.declared.Cell.{Cell}
use Rattle.board.specs.declared.Board.{Board}
use Rattle.rounds.specs.Kept.{Kept, Advanced}
use Rattle.rounds.specs.Begun.{Begun, Judged, Rounded}

-- The tableau T of the problem P is laid out over the board, beside the costs of P by column.
abbrev pub BegunOn : Problem → List Cell → Board → List ℤ → ℕ → ℕ → Type 0
BegunOn P T b cost m n = Begun P T b.amounts.q b.amounts.e cost b.basis.leaf b.basis.other b.basis.lane m n

-- The board holds T, beside its prices and the least slacks of its rows.
abbrev pub KeptOn : Problem → List Cell → Board → (cost price slack : List ℤ) → ℕ → ℕ → Type 0
KeptOn P T b cost price slack m n =
    Kept P T b.amounts.q b.amounts.e cost price slack b.basis.sub b.basis.path b.basis.lane m n

-- A round on T is made.
abbrev pub AdvancedOn : Problem → List Cell → Board → (cost price slack : List ℤ) → ℕ → ℕ → Bool → Type 0
AdvancedOn P T b cost price slack m n finished =
    Advanced P T b.amounts.q b.amounts.e cost price slack b.basis.sub b.basis.path b.basis.lane m n finished

abbrev pub RoundedOn : Problem → List Cell → Board → List ℤ → ℕ → ℕ → Bool → Type 0
RoundedOn P T b price m n finished = Rounded P T b.amounts.q b.amounts.e price b.basis.lane m n finished

-- The board holds T with its prices, and whether it is finished is told.
abbrev pub JudgedOn : Problem → List Cell → Board → List ℤ → ℕ → ℕ → Bool → Type 0
JudgedOn P T b price m n finished = Judged P T b.amounts.q b.amounts.e price b.basis.lane m n finished

-- The own numbers of a sheet's parties left, as a call lends them: in their order, and those that a tableau of these gets.
use Rattle.std.specs.Prelude.{◌≡◌, ◌≤◌}
use Rattle.prelude.specs.Words.{List, map, arith, length, take}
use Rattle.transport.specs.Limits.{max_side}
use Rattle.transport.specs.Sheet.{Sheet, roasteries}
use Rattle.transport.specs.Extended.{extended}
use Rattle.transport.specs.Parties.{rows_left_of, columns_left, problem_of}
use Rattle.transport.specs.OwnNumbers.{own}
use Rattle.transport.specs.Statements.{Accepted, Belongs}
use Rattle.transport.specs.Laws.Sound.{sources-room}
use Rattle.transport.proofs.Sound.{wanted_room}
use Rattle.transport.specs.declared.Cell.{Cell}
use Rattle.parties.specs.declared.Parties.{Parties}
use Rattle.parties.specs.Parties.{NumbersOf}
use Rattle.numbering.specs.Numbers.{Growing, left_growing, own_cell_of, Within}
use Rattle.numbering.specs.Belonging.{belongs-within}

-- The sides of an accepted sheet's extended problem have room.
pub sides-room : {S : Sheet} → Accepted S → (length (extended S).supply ≤ max_side) × (length (extended S).demand ≤ max_side)
unfolding extended roasteries
sides-room ok = (omega (arith, ok.limits.roasteries_high, sources-room), wanted_room ok)

module _ {S : Sheet} (ok : Accepted S) {p : Parties} (h : NumbersOf S p) where
  pub rows_growing : Growing (take p.rows p.row_numbers)
  unfolding rows_left_of
  rows_growing = rw h.row_numbers (left_growing (extended S).supply (sides-room ok).0)

  pub columns_growing : Growing (take p.columns p.column_numbers)
  unfolding columns_left
  columns_growing = rw h.column_numbers (left_growing (extended S).demand (sides-room ok).1)

  -- A tableau of the parties left stands between those that have own numbers ..
  pub own-within : {T : List Cell} → Belongs (problem_of S) T → Within (take p.rows p.row_numbers) (take p.columns p.column_numbers) T
  unfolding problem_of
  own-within {T} b = rw (h.row_numbers, h.column_numbers) (belongs-within (extended S) (sides-room ok).0 (sides-room ok).1 T b)

  -- .. and gets these.
  pub own-lent : (T : List Cell) → map (own_cell_of (take p.rows p.row_numbers) (take p.columns p.column_numbers)) T ≡ own (extended S) T
  unfolding own own_cell_of
  own-lent T = rw (h.row_numbers, h.column_numbers)

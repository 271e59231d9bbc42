-- The numbers read so far stand in the list, and the others are to be read from the present place
-- on.
use Rattle.std.specs.Prelude.{◌≡◌}
use Rattle.prelude.specs.Words.{length}
use Rattle.line_reader.specs.LinesRead.{ReadSoFar}
use Rattle.line_reader.proofs.read_lines.Given as goal

abbrev pub invariant-loop-slot : goal.invariant-loop-slot
invariant-loop-slot g l = record {
  long : length l.slot-items ≡ length l.fn.list;
  so_far : ReadSoFar g.T.Listed.reader l.text l.at l.width (length l.fn.list) l.slot-items l.next l.left l.slot-index;
}

-- The lanes listed so far, and those of the bits that are left, make up the list.
use Rattle.std.specs.Prelude.{◌+◌, ◌≡◌, ◌++◌}
use Rattle.prelude.specs.Words.{length, take}
use Rattle.board.specs.Lanes.{row_lanes_of}
use Rattle.board.proofs.gather.row_lanes.Given as goal

abbrev pub invariant-loop-bits : goal.invariant-loop-bits
invariant-loop-bits l =
    (l.k + length (row_lanes_of l.first l.bits) ≡ l.count + length (row_lanes_of l.first l.mask))
    × (take l.k l.lanes ++ row_lanes_of l.first l.bits ≡ take l.count l.fn.lanes ++ row_lanes_of l.first l.mask)

abbrev pub decreases-loop-bits : goal.decreases-loop-bits
decreases-loop-bits l = length (row_lanes_of l.first l.bits)

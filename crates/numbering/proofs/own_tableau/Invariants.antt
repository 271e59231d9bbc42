-- The first k cells have own numbers, and the rest is as it was. There are no more than the array
-- has.
use Rattle.std.specs.Prelude.{◌≤◌}
use Rattle.numbering.specs.Numbers.{own_cell_of, ChangedTo}
use Rattle.numbering.proofs.own_tableau.Given as goal

abbrev pub invariant-loop-k : goal.invariant-loop-k
invariant-loop-k l = (l.fn.t.count ≤ 63) × ChangedTo (own_cell_of l.rows l.cols) l.fn.t l.k l.own

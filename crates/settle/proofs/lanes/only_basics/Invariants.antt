-- The first i rows have only basic lanes.
use Rattle.settle.specs.Rows.{OnlyBasics}
use Rattle.settle.proofs.lanes.only_basics.Given as goal

abbrev pub invariant-loop-i : goal.invariant-loop-i
invariant-loop-i l = OnlyBasics l.tight l.basic l.i

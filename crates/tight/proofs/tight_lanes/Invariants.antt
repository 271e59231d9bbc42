-- The rows before i are done.
use Rattle.tight.specs.Tight.{TightLanes}
use Rattle.tight.proofs.tight_lanes.Given as goal

abbrev pub invariant-loop-i : goal.invariant-loop-i
invariant-loop-i l = TightLanes l.cost l.price l.m l.n l.i l.tight

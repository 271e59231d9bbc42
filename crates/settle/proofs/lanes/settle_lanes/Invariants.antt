-- The lanes of the first p rows are decided.
use Rattle.std.specs.Prelude.{◌*◌}
use Rattle.settle.specs.Stage.{Reaches}
use Rattle.settle.proofs.lanes.settle_lanes.Given as goal

abbrev pub invariant-loop-p : goal.invariant-loop-p
invariant-loop-p l = Reaches l.m l.n 0 (l.p * l.n) l.fn.tight l.initial.bags l.bags

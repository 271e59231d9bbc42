-- The sum over the lanes before l.
use Rattle.std.proofs.Common.{◌≡◌}
use Rattle.transport.specs.Lists.{sum_z}
use Rattle.solving.specs.Cost.{lane_total}
use Rattle.solving.proofs.cost.plan_cost.Given as goal

abbrev pub invariant-loop-l : goal.invariant-loop-l
invariant-loop-l l = l.sum ≡ sum_z l.l (lane_total l.plan l.cost)

-- The lanes before the target's are as they were, with bags still to be sought for it at the goals
-- that are left. Each turn brings some, and the measure is what is left of the most that its lane
-- can have.
use Rattle.std.specs.Prelude.{◌+◌, ◌-◌, ◌*◌}
use Rattle.prelude.specs.Words.{pos, nat_abs, get_or}
use Rattle.transport.specs.Limits.{max_bags}
use Rattle.tree.specs.Layout.{stride}
use Rattle.augment.specs.Sought.{SoughtIn}
use Rattle.settle.specs.Stage.{Reaches, aimed}
use Rattle.settle.proofs.lanes.decide.Given as goal

abbrev pub invariant-loop-goal : goal.invariant-loop-goal
invariant-loop-goal l = let t = l.fn.tight in let lane = l.fn.target.row * t.n + l.fn.target.col in record {
  sought : SoughtIn t.m t.n (aimed l.fn.target l.goal) t.rows.now l.bags;
  reaches : Reaches t.m t.n lane lane t.rows.now l.fn.bags l.bags;
}

abbrev pub decreases-loop-goal : goal.decreases-loop-goal
decreases-loop-goal l =
    let t = l.fn.target in max_bags - nat_abs (get_or l.bags.by_lane.now (t.row * stride + t.col) (pos 0))

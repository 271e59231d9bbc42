-- k strikes are made, and no cut has changed.
use Rattle.std.proofs.Common.{◌-◌}
use Rattle.tree.specs.Layout.{node_room}
use Rattle.tree.specs.Basis.{SameCuts}
use Rattle.tree.specs.State.{StrikeState}
use Rattle.tree.proofs.Basis.strike.Given as goal

abbrev pub invariant-loop-k : goal.invariant-loop-k
invariant-loop-k l = record {
  striking : StrikeState l.m l.n l.adj l.live l.self.leaf l.self.other l.self.lane l.k l.tail;
  same_cuts : SameCuts l.fn.self l.self;
}

abbrev pub decreases-loop-k : goal.decreases-loop-k
decreases-loop-k l = node_room - l.k

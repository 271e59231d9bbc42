-- Whatever the bags are, the search has come so far. Each turn reaches a row, and what is left of
-- the positions is the measure.
use Rattle.std.specs.Prelude.{◌-◌, ◌≤◌}
use Rattle.tree.specs.Layout.{stride, node_room}
use Rattle.augment.specs.Sought.{Sweeping}
use Rattle.augment.proofs.search.Search.find_goal.Given as goal

abbrev pub invariant-loop-rows : goal.invariant-loop-rows
invariant-loop-rows l = record {
  few : l.count ≤ stride;
  sweeping : Sweeping l.fn.tight.m l.fn.tight.n l.fn.target l.fn.tight.rows.now l.bags.holds l.bags.owns l.cols l.rows
      l.left l.count l.self.way l.self.from;
}

abbrev pub decreases-loop-rows : goal.decreases-loop-rows
decreases-loop-rows l = node_room - l.count

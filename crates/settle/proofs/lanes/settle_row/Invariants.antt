-- The lanes of the row before some column are decided, and `todo` are its tight columns from there
-- on.
use Rattle.settle.specs.Rows.{Along}
use Rattle.settle.proofs.lanes.settle_row.Given as goal

abbrev pub invariant-loop-todo : goal.invariant-loop-todo
invariant-loop-todo l = let t = l.fn.tight in Along t.m t.n l.p t.rows.now l.fn.bags l.dead l.todo l.bags

abbrev pub decreases-loop-todo : goal.decreases-loop-todo
decreases-loop-todo l = l.todo

use Rattle.std.specs.Prelude.{◌≡◌, ◌+◌, ◌*◌, ◌<◌, ◌^◌, ◌-ℤ◌}
use Rattle.prelude.specs.Words.{arith, rules, get_or, pos, nat_abs}
use mir.Syntax.{w32}
use mir.Val.{to_z, of_z}
use Rattle.transport.specs.Limits.{max_cost, cost_above}
use Rattle.transport.specs.Laws.RangeLaws.{diff_in, diff_back}
use Rattle.tree.specs.Layout.{stride, slack_at}
use Rattle.pricing.specs.Lowest.{above_step, above_stop}
use Rattle.pricing.specs.Slacks.{slack-room}
use Rattle.pricing.proofs.scan.first_column.Goals as goal
use Rattle.pricing.proofs.scan.first_column.Goals.{In-loop-col}

room : (c : In-loop-col) → nat_abs (get_or c.args.cost.now (c.loop-col.col * stride + c.args.row) (pos 0)) + nat_abs
    (get_or c.args.price.now (c.args.m + c.loop-col.col) (pos 0)) < 2 ^ 31
unfolding cost_above max_cost
room c = omega (arith, slack-room c.requires.in_range c.args.row c.loop-col.col (omega arith))

pub overflow_sub-cost : goal.overflow_sub-cost
overflow_sub-cost c = search (rules, diff_in, room (goal.at.overflow_sub-cost c).In-loop-col)

-- The slack in the column, as the code has it.
own : (c : In-loop-col) →
    let a = c.args in
    let x = get_or a.cost.now (c.loop-col.col * stride + a.row) (pos 0) in
    let y = get_or a.price.now (a.m + c.loop-col.col) (pos 0) in
    to_z w32 (of_z w32 (to_z w32 (of_z w32 x) -ℤ to_z w32 (of_z w32 y))) ≡
    slack_at a.cost.now a.price.now a.m a.row c.loop-col.col
own c =
    let a = c.args in
    diff_back w32 (get_or a.cost.now (c.loop-col.col * stride + a.row) (pos 0)) (get_or a.price.now
    (a.m + c.loop-col.col) (pos 0)) (room c)

-- The number that is sought, as the code has it.
sought : (c : In-loop-col) → to_z w32 (of_z w32 c.args.slack) ≡ c.args.slack
sought c = search rules

pub returns-then-cost-col : goal.returns-then-cost-col
returns-then-cost-col c =
    let t = (goal.at.returns-then-cost-col c).In-loop-col in
    rw (sought t) at (above_stop c.loop-col.invariant (omega arith) (rw (own t) at c.if-cost-col.true))

pub loop-col-preserved : goal.loop-col-preserved
loop-col-preserved c =
    above_step c.loop-col.invariant (omega arith) (rw (own (goal.at.loop-col-preserved c).In-loop-col) at
    c.if-cost-col.false)

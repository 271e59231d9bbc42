use Rattle.std.specs.Prelude.{◌≡◌, ◌+◌, ◌<◌, ◌^◌, ◌-ℤ◌}
use Rattle.prelude.specs.Words.{arith, rules, get_or, pos, nat_abs}
use mir.Syntax.{w32}
use mir.Val.{to_z, of_z}
use Rattle.transport.specs.Limits.{max_cost, cost_above}
use Rattle.transport.specs.Laws.RangeLaws.{diff_in, diff_back}
use Rattle.pricing.specs.Lowest.{above_step, above_stop}
use Rattle.pricing.specs.Scan.{row_reduced}
use Rattle.pricing.proofs.scan.first_row.Goals as goal
use Rattle.pricing.proofs.scan.first_row.Goals.{In-loop-row}

room : (c : In-loop-row) → nat_abs (get_or c.args.slack.now c.loop-row.row (pos 0)) + nat_abs
    (get_or c.args.price.now c.loop-row.row (pos 0)) < 2 ^ 31
unfolding cost_above max_cost
room c = omega (arith, c.requires.room c.loop-row.row (omega arith))

-- The number of the row, as the code has it.
own : (c : In-loop-row) →
    let x = get_or c.args.slack.now c.loop-row.row (pos 0) in
    let y = get_or c.args.price.now c.loop-row.row (pos 0) in
    to_z w32 (of_z w32 (to_z w32 (of_z w32 x) -ℤ to_z w32 (of_z w32 y))) ≡
    row_reduced c.args.slack.now c.args.price.now c.loop-row.row
own c = diff_back w32 (get_or c.args.slack.now c.loop-row.row (pos 0)) (get_or c.args.price.now c.loop-row.row
    (pos 0)) (room c)

-- The number that is sought, as the code has it.
sought : (c : In-loop-row) → to_z w32 (of_z w32 c.args.reduced) ≡ c.args.reduced
sought c = search rules

pub overflow_sub-slack : goal.overflow_sub-slack
overflow_sub-slack c = search (rules, diff_in, room (goal.at.overflow_sub-slack c).In-loop-row)

pub returns-then-slack-row : goal.returns-then-slack-row
returns-then-slack-row c =
    rw (sought (goal.at.returns-then-slack-row c).In-loop-row) at (above_stop c.loop-row.invariant (omega arith) (rw
    (own (goal.at.returns-then-slack-row c).In-loop-row) at c.if-slack-row.true))

pub loop-row-preserved : goal.loop-row-preserved
loop-row-preserved c =
    above_step c.loop-row.invariant (omega arith) (rw (own (goal.at.loop-row-preserved c).In-loop-row) at
    c.if-slack-row.false)

use Rattle.std.specs.Prelude.{◌≡◌, ◌+◌, ◌<◌, ◌^◌}
use Rattle.prelude.specs.Words.{sym, ◌∙◌, arith, rules, get_or, pos, nat_abs}
use mir.Syntax.{w32}
use mir.Facts.{to_z-of_z}
use Rattle.transport.specs.Limits.{max_cost, cost_above}
use Rattle.transport.specs.Laws.RangeLaws.{diff_in, diff_back}
use Rattle.pricing.specs.Lowest.{lesser, lowest, lowest-zero, lowest-one}
use Rattle.pricing.specs.Scan.{row_reduced}
use Rattle.pricing.proofs.scan.least_reduced.Goals as goal
use Rattle.pricing.proofs.scan.least_reduced.Goals.{In-loop-i}

pub loop-i-init : goal.loop-i-init
loop-i-init c = sym (lowest-zero (pos 0) (row_reduced c.args.slack.now c.args.price.now))

room : (c : In-loop-i) → nat_abs (get_or c.args.slack.now c.loop-i.i (pos 0)) + nat_abs
    (get_or c.args.price.now c.loop-i.i (pos 0)) < 2 ^ 31
unfolding cost_above max_cost
room c = omega (arith, c.requires.room c.loop-i.i (omega arith))

pub overflow_sub-slack : goal.overflow_sub-slack
overflow_sub-slack c = search (rules, diff_in, room (goal.at.overflow_sub-slack c).In-loop-i)

pub loop-i-preserved : goal.loop-i-preserved
loop-i-preserved c =
    let a = c.args in
    let i = c.loop-i in
    let own = diff_back w32 (get_or a.slack.now i.i (pos 0)) (get_or a.price.now i.i (pos 0)) (room
    (goal.at.loop-i-preserved c).In-loop-i) in
    let f = row_reduced a.slack.now a.price.now in
    let less : c.min-least.result ≡ lesser (f i.i) (lowest (pos 0) f i.i) = c.min-least.ensures.value ∙ rw
    (own, i.invariant) in
    to_z-of_z {w = w32} (search rules) ∙ less ∙ sym (lowest-one (pos 0) f i.i)

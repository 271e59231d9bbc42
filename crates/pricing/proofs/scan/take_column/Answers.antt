use Rattle.std.specs.Prelude.{◌+◌, ◌*◌, ◌<◌, ◌^◌, ◌≡◌, ◌-ℤ◌}
use Rattle.prelude.specs.Words.{◌∙◌, arith, rules, get_or, pos, nat_abs}
use mir.Syntax.{w32}
use mir.Val.{to_z, of_z}
use mir.Facts.{to_z-of_z}
use Rattle.transport.specs.Limits.{max_cost, cost_above}
use Rattle.transport.specs.Laws.RangeLaws.{diff_in, diff_back}
use Rattle.tree.specs.Layout.{stride}
use Rattle.pricing.specs.Lowest.{lesser}
use Rattle.pricing.specs.Slacks.{lowering, changing_step}
use Rattle.pricing.proofs.scan.take_column.Goals as goal
use Rattle.pricing.proofs.scan.take_column.Goals.{In-loop-i}

room : (c : In-loop-i) → nat_abs (get_or c.args.cost.now (c.args.j * stride + c.loop-i.i)
    (pos 0)) + nat_abs c.args.v < 2 ^ 31
unfolding cost_above max_cost
room c = omega (arith, c.requires.2 (c.args.j * stride + c.loop-i.i))

pub overflow_sub-cost : goal.overflow_sub-cost
overflow_sub-cost c = search (rules, diff_in, room (goal.at.overflow_sub-cost c).In-loop-i)

pub loop-i-preserved : goal.loop-i-preserved
loop-i-preserved c =
    let a = c.args in
    let i = c.loop-i in
    let x = get_or a.cost.now (a.j * stride + i.i) (pos 0) in
    let y = get_or i.least i.i (pos 0) in
    let back-v : to_z w32 (of_z w32 a.v) ≡ a.v = search rules in
    let back-y : to_z w32 (of_z w32 y) ≡ y = search rules in
    let own = diff_back w32 x a.v (room (goal.at.loop-i-preserved c).In-loop-i) in
    let taken : to_z w32 (of_z w32 c.min.result) ≡ lesser (x -ℤ a.v) y =
    to_z-of_z {w = w32} (search rules) ∙ c.min.ensures.value ∙ rw (own, back-y) in
    rw (taken, back-v) (changing_step (lowering a.cost.now a.j a.v) a.slack (rw back-v at i.invariant) (omega arith))

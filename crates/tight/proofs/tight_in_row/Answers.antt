use Rattle.std.specs.Prelude.{◌+◌, ◌*◌, ◌<◌, ◌^◌, ◌≡◌, ◌-ℤ◌}
use Rattle.prelude.specs.Words.{arith, rules, sym, ap, ◌∙◌, pos, nat_abs, get_or}
use mir.Syntax.{w32}
use mir.Val.{to_z, of_z}
use mir.Facts.{to_z-of_z}
use Rattle.transport.specs.Limits.{max_cost, cost_above}
use Rattle.transport.specs.Laws.RangeLaws.{diff_in, diff_back}
use Rattle.tree.specs.Layout.{stride, slack_at}
use Rattle.tight.specs.Tight.{tight_in, tight-out}
use Rattle.tight.proofs.tight_in_row.Goals as goal
use Rattle.tight.proofs.tight_in_row.Goals.{In-loop-j, then-cost-j, else-cost-j}

room : (c : In-loop-j) → let j = c.loop-j.j in
    nat_abs (get_or c.args.cost.now (j * stride + c.args.i) (pos 0)) + nat_abs (get_or c.args.price.now
    (c.args.m + j) (pos 0)) < 2 ^ 31
unfolding cost_above max_cost
room c =
    let j = c.loop-j.j in
    let r = c.requires.ranged in
    omega (arith, r.costs c.args.i j (omega arith) (omega arith), r.prices (c.args.m + j) (omega arith))

pub overflow_sub-cost : goal.overflow_sub-cost
overflow_sub-cost c = search (rules, diff_in, room (goal.at.overflow_sub-cost c).In-loop-j)

pub loop-j-preserved : goal.loop-j-preserved
loop-j-preserved c =
    let a = c.args in
    let j = c.loop-j.j in
    let i = c.loop-j.invariant in
    let x = get_or a.cost.now (j * stride + a.i) (pos 0) in
    let y = get_or a.price.now (a.m + j) (pos 0) in
    let slack-is : to_z w32 (of_z w32 (to_z w32 (of_z w32 x) -ℤ to_z w32 (of_z w32 y))) ≡
    slack_at a.cost.now a.price.now a.m a.i j =
    diff_back w32 x y (room (goal.at.loop-j-preserved c).In-loop-j) in
    let own : to_z w32 (of_z w32 (get_or a.price.now a.i (pos 0))) ≡ get_or a.price.now a.i (pos 0) = search rules in
    elim c.if-cost-j.branch [
      | then-cost-j w ↦ rw (w.tight-is, w.set_bit-tight.ensures) (tight_in i (sym slack-is ∙ ap
          (to_z w32) w.if-cost-j.true ∙ own))
      | else-cost-j w ↦ rw w.tight-is (tight-out i (λ e.
          w.if-cost-j.false (ap (of_z w32) (sym (to_z-of_z {w = w32} (diff_in w32 x y (room
          (goal.at.loop-j-preserved c).In-loop-j))) ∙ slack-is ∙ e))))
    ]

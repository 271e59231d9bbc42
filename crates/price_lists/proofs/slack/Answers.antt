-- The cost is that of the lane, and the difference is in range.
use Rattle.std.specs.Prelude.{◌+◌, ◌<◌, ◌^◌, ◌≡◌}
use Rattle.prelude.specs.Words.{arith, ◌∙◌, lt-ltb, le-ltb, nat_abs}
use mir.Syntax.{w64}
use mir.Val.{of_z, to_z}
use Rattle.transport.specs.Limits.{max_cost, cost_above}
use Rattle.transport.specs.Lists.{at_z}
use Rattle.transport.specs.Problem.{place}
use Rattle.transport.specs.Laws.RangeLaws.{diff_in, diff_back}
use Rattle.price_lists.specs.PriceLists.{cost_in, cost_in-small}
use Rattle.price_lists.proofs.slack.Goals as goal
use Rattle.price_lists.proofs.slack.Goals.{then-j-cafes, else-j-cafes}

-- The cost of the lane, as it was read, or 0.
lane-is : (c : goal.Joined-j-cafes)
    → to_z w64 c.if-j-cafes.lane-bits ≡ to_z w64 (of_z w64 (cost_in c.args.cost.now c.args.cafes c.args.i c.args.j))
unfolding at_z place
lane-is c =
    elim c.if-j-cafes.branch [
      | then-j-cafes w ↦ w.lane-is ∙ rw (lt-ltb _ _ w.if-j-cafes.true)
      | else-j-cafes w ↦ w.lane-is ∙ rw (le-ltb _ _ w.if-j-cafes.false)
    ]

small : (c : goal.Joined-j-cafes)
    → nat_abs (cost_in c.args.cost.now c.args.cafes c.args.i c.args.j) + nat_abs c.args.price < 2 ^ 63
unfolding max_cost cost_above
small c = omega (arith, cost_in-small c.requires.0.1 c.args.i c.args.j, c.requires.1)

pub overflow_sub-result : goal.overflow_sub-result
overflow_sub-result c =
    rw (lane-is c) (diff_in w64 (cost_in c.args.cost.now c.args.cafes c.args.i c.args.j) c.args.price (small c))

pub returns : goal.returns
returns c = rw (lane-is c)
    (diff_back w64 (cost_in c.args.cost.now c.args.cafes c.args.i c.args.j) c.args.price (small c))

-- The prices of the columns are read as they are.
use Rattle.std.specs.Prelude.{◌≡◌, ◌-ℤ◌}
use Rattle.std.proofs.Common.{rules, ◌∙◌, ℤ, pos, get_or}
use mir.Syntax.{w64}
use mir.Val.{to_z, of_z}
use Rattle.transport.specs.Limits.{max_side}
use Rattle.transport.specs.Lists.{at_z}
use Rattle.transport.specs.Laws.RangeLaws.{back}
use Rattle.price_lists.specs.PriceLists.{price_back, price-small, column_slack, cost_in}
use Rattle.price_lists.proofs.roastery_price.Goals as goal

pub least-requires-clause-callable : goal.least-requires-clause-callable
unfolding at_z max_side
least-requires-clause-callable c j below =
    let small = price-small (get_or c.args.v.now j (pos 0)) (c.requires.1.small j) in
    search rules

pub returns : goal.returns
unfolding at_z
returns c =
    let a = c.args in
    back w64 c.least.result (search rules)
    ∙ c.least.ensures (column_slack a.cost.now a.cafes a.v.now a.i) (λ j z below e.
    let price : ℤ = get_or a.v.now j (pos 0) in
    let is : z ≡ cost_in a.cost.now a.cafes a.i j -ℤ to_z w64 (of_z w64 price) = search rules in
    is ∙ rw (price_back price (c.requires.1.small j)))

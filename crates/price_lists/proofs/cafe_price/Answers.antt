-- The prices of the roasteries left are read as they are.
use Rattle.std.specs.Prelude.{◌≡◌, ◌-ℤ◌, ◌<◌}
use Rattle.std.proofs.Common.{rules, arith, ◌∙◌, ℤ, pos, get_or, length}
use mir.Syntax.{w64}
use mir.Val.{to_z, of_z}
use Rattle.transport.specs.Lists.{at, at_z}
use Rattle.transport.specs.Laws.RangeLaws.{back}
use Rattle.price_lists.specs.PriceLists.{price_back, price-small, row_slack, cost_in}
use Rattle.price_lists.proofs.cafe_price.Goals as goal

pub least-requires-clause-callable : goal.least-requires-clause-callable
unfolding at at_z
least-requires-clause-callable c k below =
    let (m, costs, w) = c.requires in
    let i = get_or c.args.rows.now k 0 in
    let on_sheet : i < m = w.inside k below in
    let inside : i < length c.args.u.now = omega (arith, w.room) in
    let small = price-small (get_or c.args.u.now i (pos 0)) (omega (arith, w.small k below)) in
    search rules

pub returns : goal.returns
unfolding at at_z
returns c =
    let a = c.args in
    let (m, costs, w) = c.requires in
    back w64 c.least.result (search rules)
    ∙ c.least.ensures (row_slack a.cost.now a.cafes a.rows.now a.u.now a.j) (λ k z below e.
    let i = get_or a.rows.now k 0 in
    let price : ℤ = get_or a.u.now i (pos 0) in
    let is : z ≡ cost_in a.cost.now a.cafes i a.j -ℤ to_z w64 (of_z w64 price) = search rules in
    is ∙ rw (price_back price (omega (arith, w.small k below))))

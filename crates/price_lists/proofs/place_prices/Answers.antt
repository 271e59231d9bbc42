-- The price of a node is small, so it is read and written as it is.
use Rattle.std.specs.Prelude.{◌+◌, ◌≡◌, ◌<◌, ◌^◌}
use Rattle.prelude.specs.Words.{arith, ℤ, pos, nat_abs, get_or}
use mir.Syntax.{w32, w64}
use mir.Val.{to_z, of_z}
use Rattle.transport.specs.Limits.{max_cost, cost_above}
use Rattle.transport.specs.Lists.{at}
use Rattle.transport.specs.Laws.RangeLaws.{mag_abs, back}
use Rattle.price_lists.specs.PriceLists.{placed_one}
use Rattle.price_lists.proofs.place_prices.Goals as goal

pub offset_bounds-out-x : goal.offset_bounds-out-x
unfolding at
offset_bounds-out-x c = omega (arith, c.requires.inside c.loop-k.k)

pub bounds-out-x : goal.bounds-out-x
unfolding at
bounds-out-x c = omega (arith, c.loop-k.invariant.long, c.requires.inside c.loop-k.k)

pub loop-k-preserved : goal.loop-k-preserved
unfolding at max_cost cost_above
loop-k-preserved c =
    let z : ℤ = get_or c.args.price.now (c.args.from + c.loop-k.k) (pos 0) in
    let small : nat_abs z < 2 ^ 31 = omega (arith, c.requires.small c.loop-k.k) in
    let narrow : to_z w32 (of_z w32 z) ≡ z = back w32 z (omega (arith, mag_abs z)) in
    placed_one c.requires c.loop-k.invariant (omega arith) _ (rw narrow (back w64 z (omega (arith, mag_abs z))))

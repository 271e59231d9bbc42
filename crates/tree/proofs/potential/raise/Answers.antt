use Rattle.std.specs.Prelude.{◌≡◌, ◌+◌, ◌+ℤ◌, ◌<◌, ◌^◌}
use Rattle.prelude.specs.Words.{arith, rules, pos, nat_abs, get_or}
use mir.Syntax.{w32}
use mir.Val.{to_z, of_z}
use Rattle.transport.specs.Laws.RangeLaws.{sum_back}
use Rattle.tree.specs.Bits.{Least, has-least, Touching, touch-still, touch_step}
use Rattle.tree.proofs.potential.raise.Goals as goal

pub loop-bits-preserved : goal.loop-bits-preserved
loop-bits-preserved c =
    let a = c.args in
    let i = c.loop-bits in
    let k = c.first_bit-k.result in
    let f = c.first_bit-k.ensures in
    let r : Least i.bits k = record { on = f.1; off = f.2 } in
    let back : to_z w32 (of_z w32 a.x) ≡ a.x = search rules in
    let g : Touching (λ z. z +ℤ a.x) (pos 0) a.price.now a.at i.bits i.price = rw back at i.invariant in
    let room : nat_abs (get_or i.price k (pos 0)) + nat_abs a.x < 2 ^ 31 =
    rw (touch-still g r) (c.requires.by_index k f.0 (g.part k (has-least r))) in
    rw (c.rest-bits.ensures, sum_back w32 (get_or i.price k (pos 0)) a.x room, back, touch-still g r)
    (touch_step g r (omega arith))

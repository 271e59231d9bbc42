use Rattle.std.specs.Prelude.{◌≡◌}
use Rattle.prelude.specs.Words.{arith, pos, get_or}
use mir.Syntax.{w64}
use mir.Val.{to_z}
use mir.Facts.{to_z_pos}
use Rattle.transport.specs.Lists.{at}
use Rattle.transport.specs.Limits.{max_amount, max_bags, max_side}
use Rattle.belonging.specs.Weighing.{put-none, put-more}
use Rattle.belonging.proofs.weights.put_from.Goals as goal

pub loop-k-init : goal.loop-k-init
loop-k-init c = put-none _ _ _ (omega arith)

pub overflow_cast-weight : goal.overflow_cast-weight
unfolding at max_bags max_side max_amount
overflow_cast-weight c = omega (arith, c.requires.modest.high c.loop-k.k)

pub loop-k-preserved : goal.loop-k-preserved
unfolding at max_bags max_side max_amount
loop-k-preserved c =
    let x = get_or c.args.amounts.now c.loop-k.k 0 in
    let whole : to_z w64 x ≡ pos x = to_z_pos w64 {n = x} (omega (arith, c.requires.modest.high c.loop-k.k)) in
    rw whole (put-more (omega arith) c.loop-k.invariant)

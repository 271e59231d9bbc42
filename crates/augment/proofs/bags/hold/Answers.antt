use Rattle.prelude.specs.Words.{arith}
use Rattle.tree.specs.Bits.{Least, has-least, touch-still, touch_step}
use Rattle.augment.specs.Sets.{least_of}
use Rattle.augment.proofs.bags.hold.Goals as goal

pub loop-left-preserved : goal.loop-left-preserved
loop-left-preserved c =
    let w = c.loop-left.invariant in
    let l : Least c.loop-left.left c.first_bit-j.result = least_of c.first_bit-j.ensures in
    let inside = c.requires.cols_inside c.first_bit-j.result (w.part c.first_bit-j.result (has-least l)) in
    rw (c.rest-left.ensures, c.set_bit.ensures, touch-still w l) (touch_step w l (omega arith))

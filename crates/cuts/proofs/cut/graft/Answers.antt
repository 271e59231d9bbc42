use Rattle.prelude.specs.Words.{arith}
use Rattle.tree.specs.Bits.{Least, touch-still, touch_step}
use Rattle.cuts.proofs.cut.graft.Goals as goal

pub loop-bits-preserved : goal.loop-bits-preserved
loop-bits-preserved c =
    let f = c.first_bit-k.ensures in
    let i = c.loop-bits.invariant in
    let r : Least _ _ = record { on = f.1; off = f.2 } in
    rw (c.rest-bits.ensures, touch-still i r) (touch_step i r (omega arith))

use Rattle.std.specs.Prelude.{◌≡◌}
use Rattle.prelude.specs.Words.{arith}
use Rattle.tree.specs.Bits.{Least}
use Rattle.cuts.specs.Cycle.{far-step, loop-slots}
use Rattle.cuts.proofs.cut.loop_slots.Goals as goal

pub loop-bits-preserved : goal.loop-bits-preserved
loop-bits-preserved c =
    let f = c.first_bit-t.ensures in
    let r : Least _ _ = record { on = f.1; off = f.2 } in
    rw (c.rest-bits.ensures, c.set_bit.ensures) (far-step c.loop-bits.invariant r)

pub returns : goal.returns
returns c =
    let e : c.loop-bits.bits ≡ 0 = omega arith in
    loop-slots _ _ _ _ _ (rw e at c.loop-bits.invariant)

use Rattle.std.specs.Prelude.{◌≡◌, ◌+◌}
use Rattle.prelude.specs.Words.{rules, get_or, pos}
use mir.Syntax.{w32}
use mir.Val.{to_z, of_z}
use Rattle.tree.specs.Bits.{Least}
use Rattle.pricing.specs.Slacks.{relaxing_step}
use Rattle.pricing.proofs.scan.relax_slacks.Goals as goal

pub loop-bits-preserved : goal.loop-bits-preserved
loop-bits-preserved c =
    let i = c.loop-bits in
    let (low, on, off) = c.first_bit-j.ensures in
    let r : Least i.bits c.first_bit-j.result = record { on = on; off = off } in
    let v = get_or c.args.price.now (c.args.m + c.first_bit-j.result) (pos 0) in
    let back : to_z w32 (of_z w32 v) ≡ v = search rules in
    relaxing_step i.invariant r c.rest-bits.ensures (rw back at c.take_column-lower.ensures)

use Rattle.std.specs.Prelude.{◌≡◌, ◌+◌, ◌<◌, ◌^◌}
use Rattle.prelude.specs.Words.{arith, rules, get_or, pos, nat_abs}
use mir.Syntax.{w32}
use mir.Val.{to_z, of_z}
use Rattle.transport.specs.Laws.RangeLaws.{sum_back}
use Rattle.pricing.specs.Slacks.{raising, changing_step}
use Rattle.pricing.proofs.scan.raised.Goals as goal

pub loop-i-preserved : goal.loop-i-preserved
loop-i-preserved c =
    let i = c.loop-i in
    let back : to_z w32 (of_z w32 c.args.x) ≡ c.args.x = search rules in
    let room : nat_abs (get_or i.higher i.i (pos 0)) + nat_abs c.args.x < 2 ^ 31 =
    rw (i.invariant.still i.i (omega arith)) (c.requires i.i (omega arith)) in
    rw (sum_back w32 (get_or i.higher i.i (pos 0)) c.args.x room, back)
    (changing_step (raising c.args.x) c.args.slack (rw back at i.invariant) (omega arith))

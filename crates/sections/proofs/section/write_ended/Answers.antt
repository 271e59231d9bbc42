-- The number, and one byte more.
use Rattle.std.proofs.Common.{◌<◌, length, arith}
use Rattle.decimals.specs.Front.{front-byte}
use Rattle.sections.specs.Lines.{ended, length-ended}
use Rattle.sections.proofs.section.write_ended.Goals as goal

pub returns : goal.returns
unfolding ended
returns g c =
    let text = g.T.Decimal.text c.args.number in
    let put = c.write_text-at.ensures in
    let len = length-ended g.T.Decimal.text c.args.number c.args.end in
    let room : length text < length c.args.out.now = omega (arith, len) in
    (omega (arith, len), rw put.1 (front-byte text c.args.out.now c.write_text-at.result c.args.end put.0 room))

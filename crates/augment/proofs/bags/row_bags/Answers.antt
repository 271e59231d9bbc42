use Rattle.std.specs.Prelude.{◌≡◌, ◌+◌, ◌*◌}
use Rattle.prelude.specs.Words.{rules, pos, get_or}
use mir.Syntax.{w64}
use mir.Val.{to_z, of_z}
use Rattle.tree.specs.Layout.{stride}
use Rattle.augment.specs.Bags.{row_more}
use Rattle.augment.specs.Sets.{least_of}
use Rattle.augment.proofs.bags.row_bags.Goals as goal

pub loop-left-preserved : goal.loop-left-preserved
loop-left-preserved c =
    let bags = get_or c.args.q.now (c.args.i * stride + c.first_bit-j.result) (pos 0) in
    let same : to_z w64 (of_z w64 bags) ≡ bags = search rules in
    rw c.rest-left.ensures (row_more c.loop-left.invariant c.with_bit-cols.result
    (least_of c.first_bit-j.ensures) (rw same at c.with_bit-cols.ensures))

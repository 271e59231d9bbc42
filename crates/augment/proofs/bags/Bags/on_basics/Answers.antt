use Rattle.prelude.specs.Words.{arith}
use Rattle.augment.specs.Bags.{masked-none, masked-more}
use Rattle.augment.proofs.bags.Bags.on_basics.Goals as goal

pub loop-i-init : goal.loop-i-init
loop-i-init c = masked-none c.args.basic.now c.args.q.now

pub loop-i-preserved : goal.loop-i-preserved
loop-i-preserved c =
    masked-more c.loop-i.invariant (omega (arith, c.requires.1.rows)) c.row_bags-cols.ensures c.hold.ensures

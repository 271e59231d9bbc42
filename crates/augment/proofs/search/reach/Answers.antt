use Rattle.prelude.specs.Words.{arith}
use Rattle.tree.specs.Bits.{Least, has-least, touch-start, touch_step}
use Rattle.augment.specs.Sought.{gather_start, gather_step, gather_end}
use Rattle.augment.specs.Sets.{least_of}
use Rattle.augment.proofs.search.reach.Goals as goal

pub loop-left-init : goal.loop-left-init
loop-left-init c = (touch-start _ 0 c.args.from.now c.args.cols, gather_start c.args.holds.now c.args.cols)

pub loop-left-preserved : goal.loop-left-preserved
loop-left-preserved c =
    let (t, g) = c.loop-left.invariant in
    let l = c.first_bit-l.result in
    let least : Least c.loop-left.left l = least_of c.first_bit-l.ensures in
    let on = t.part l (has-least least) in
    let inside = c.requires l on in
    rw c.rest-left.ensures (touch_step t least (omega arith), gather_step c.args.cols l least on g)

pub returns-clause-gathered : goal.returns-clause-gathered
returns-clause-gathered c = gather_end c.args.cols (omega arith) c.loop-left.invariant.1

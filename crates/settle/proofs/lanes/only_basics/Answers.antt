use Rattle.std.specs.Prelude.{◌<◌}
use Rattle.prelude.specs.Words.{sym, true≢false, arith}
use Rattle.std.proofs.Common.{below_more}
use Rattle.tree.specs.MaskLaws.{minus}
use Rattle.augment.specs.Bags.{entry}
use Rattle.settle.specs.Rows.{row-basics, row-others}
use Rattle.settle.proofs.lanes.only_basics.Goals as goal

pub returns-then-without-gt0 : goal.returns-then-without-gt0
returns-then-without-gt0 c =
    let i = c.loop-i.i in
    let some : 0 < minus (entry c.args.tight.now i) (entry c.args.basic.now i) = omega arith in
    (λ e. absurd (true≢false (sym e)), λ d. absurd (row-others _ _ some (d i (omega arith))))

pub loop-i-preserved : goal.loop-i-preserved
loop-i-preserved c = below_more _ _ c.loop-i.invariant (row-basics _ _ (omega arith))

use Rattle.std.proofs.Common.{arith}
use Rattle.decimals.specs.Front.{second-room, both-length}
use Rattle.sections.specs.LinesWritten.{lines_start, lines_done, lines_begun, lines_more}
use Rattle.sections.proofs.section.write_lines.Goals as goal

pub loop-number-init : goal.loop-number-init
loop-number-init g c = lines_start g.T.Decimal.text c.args.numbers.now c.args.width c.args.out.now c.requires

pub write_ended-at-requires : goal.write_ended-at-requires
write_ended-at-requires g c =
    let x = c.number-item.result in
    second-room (lines_begun c.loop-number.invariant x x _ (omega arith) c.number-item.is c.ending.ensures)

pub overflow_add-at : goal.overflow_add-at
overflow_add-at g c =
    let x = c.number-item.result in
    let b = lines_begun c.loop-number.invariant x x _ (omega arith) c.number-item.is c.ending.ensures in
    omega (arith, b.room, both-length b _ c.write_ended-at.ensures.0)

pub loop-number-preserved : goal.loop-number-preserved
loop-number-preserved g c =
    let x = c.number-item.result in
    let put = c.write_ended-at.ensures in
    let left = c.left_after-left.ensures in
    lines_more c.loop-number.invariant x x _ (omega arith) c.number-item.is c.ending.ensures _ _ _ put.0 put.1 left

pub returns : goal.returns
returns g c = lines_done c.loop-number.invariant (omega arith)

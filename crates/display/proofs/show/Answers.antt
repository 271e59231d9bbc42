-- Each way out is a case of what the reader says of the bytes that are read.
use Rattle.std.proofs.Common.{length, arith}
use Rattle.transport.specs.Limits.{max_sources, max_sinks, max_text}
use Rattle.transport.specs.Text.{bytes}
use Rattle.decimals.specs.Front.{front}
use Rattle.sheet_reader.specs.SheetAnswer.{sheet_in}
use Rattle.display.specs.Shown.{shown-is, printed-stuck, printed-plan, text-read}
use Rattle.display.proofs.show.Goals as goal

pub returns-in-Ok : goal.returns-in-Ok
unfolding front max_sources max_sinks max_text
returns-in-Ok c =
    let input = c.args.input.now in
    let e = c.in-Ok.ensures in
    let s = sheet_in e.reads e.fits (omega arith) (omega arith) (omega arith) in
    let plan = printed-plan s input (text-read input _ c.min-end.ensures) in
    rw (shown-is input (length c.args.out.now) _ plan) c.show_plan.ensures

pub returns-in-Err : goal.returns-in-Err
unfolding front bytes max_text
returns-in-Err c =
    let input = c.args.input.now in
    let e = c.in-Err.ensures in
    let stuck = printed-stuck input _ _ (text-read input _ c.min-end.ensures) e.reads e.fits in
    rw (shown-is input (length c.args.out.now) _ stuck) c.show_refusal.ensures

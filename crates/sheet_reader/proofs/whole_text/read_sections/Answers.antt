-- Each way out is a reader that is stuck, or the whole.
use Rattle.prelude.specs.Words.{arith, drop-cons, drop_of_length-le}
use Rattle.transport.specs.Limits.{max_sources, max_sinks}
use Rattle.transport.specs.Text.{bytes}
use Rattle.line_reader.specs.SheetRead.{sheet-stuck, sheet-undemanded, sheet-unended, sheet-ended}
use Rattle.line_reader.specs.SheetRead.{costs-stuck, costs-more, costs-end}
use Rattle.sheet_reader.specs.SheetAnswer.{handed_off}
use Rattle.sheet_reader.proofs.whole_text.read_sections.Goals as goal

pub returns-in_err-supplies-clause-reads : goal.returns-in_err-supplies-clause-reads
unfolding bytes max_sources
returns-in_err-supplies-clause-reads c =
    handed_off _ _ _ _ _ _ c.from_residual.ensures.1 (sheet-stuck _ _ c.in_err-supplies.ensures.reads)

pub returns-in_err-demands-clause-reads : goal.returns-in_err-demands-clause-reads
unfolding bytes max_sources max_sinks
returns-in_err-demands-clause-reads c =
    let s = c.in_ok-supplies.ensures in
    handed_off _ _ _ _ _ _ c.from_residual-in_err-demands.ensures.1
    (sheet-undemanded _ _ _ _ (omega (arith, s.fits)) s.reads _ c.in_err-demands.ensures.reads)

pub returns-in_err-next-clause-reads : goal.returns-in_err-next-clause-reads
unfolding bytes max_sources max_sinks
returns-in_err-next-clause-reads c =
    let s = c.in_ok-supplies.ensures in
    let d = c.in_ok-demands.ensures in
    handed_off _ _ _ _ _ _ c.from_residual-in_err-next.ensures.1
    (sheet-unended _ _ _ _ (omega (arith, s.fits)) s.reads _ _ _ (omega (arith, d.fits)) d.reads _
    (costs-stuck _ _ _ _ c.in_err-next.ensures.reads))

pub returns-then-next-text-clause-reads : goal.returns-then-next-text-clause-reads
unfolding bytes max_sources max_sinks
returns-then-next-text-clause-reads c =
    let s = c.in_ok-supplies.ensures in
    let d = c.in_ok-demands.ensures in
    sheet-unended _ _ _ _ (omega (arith, s.fits)) s.reads _ _ _ (omega (arith, d.fits)) d.reads _
    (costs-more _ _ _ _ _ c.in_ok-next.ensures.reads _ _ (drop-cons _ _ 0 c.if-next-text.true))

pub returns-clause-reads : goal.returns-clause-reads
unfolding bytes max_sources max_sinks
returns-clause-reads c =
    let s = c.in_ok-supplies.ensures in
    let d = c.in_ok-demands.ensures in
    sheet-ended _ _ _ _ (omega (arith, s.fits)) s.reads _ _ _ (omega (arith, d.fits)) d.reads _ _
    (costs-end _ _ _ _ _ c.in_ok-next.ensures.reads (drop_of_length-le _ {i = c.in_ok-next.next} c.if-next-text.false))

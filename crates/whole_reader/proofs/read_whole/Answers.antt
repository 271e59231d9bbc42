-- The minus, and then the number that comes after it.
use Rattle.prelude.specs.Words.{sym, ap, ◌∙◌, arith, rules}
use Rattle.std.specs.Int.{w64}
use Rattle.transport.specs.Limits.{max_digits}
use Rattle.transport.specs.Laws.RangeLaws.{back}
use Rattle.sections.specs.Lines.{ending}
use Rattle.tokens.specs.Reading.{handed_on, end_reading, end-stuck}
use Rattle.whole_reader.specs.Wholes.{minus-fits, whole_stuck, whole_got}
use Rattle.whole_reader.proofs.read_whole.Goals as goal

pub read_number-requires : goal.read_number-requires
read_number-requires c = minus-fits c.args.text.now c.args.at _ c.requires (sym c.byte_at-negative.ensures)

pub returns-in_err-number-clause-reads : goal.returns-in_err-number-clause-reads
returns-in_err-number-clause-reads c =
    handed_on _ _ _ _ c.from_residual.ensures.1
    (ap (end_reading (ending c.args.left))
    (whole_stuck c.args.text.now c.args.at _ (sym c.byte_at-negative.ensures) _ c.in_err-number.ensures.reads)
    ∙ end-stuck _ _)

pub signed-value-requires : goal.signed-value-requires
unfolding max_digits
signed-value-requires c = omega (arith, c.in_ok-number.ensures.small)

pub returns-clause-reads : goal.returns-clause-reads
returns-clause-reads c =
    let minus = sym c.byte_at-negative.ensures in
    let read = whole_got c.args.text.now c.args.at _ minus _ _ c.in_ok-number.ensures.reads in
    let value = back w64 c.signed-value.result (search rules) in
    ap (end_reading (ending c.args.left)) read
    ∙ (rw (value, c.signed-value.ensures) at c.read_end.ensures.reads)

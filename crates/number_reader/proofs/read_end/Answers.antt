-- What comes next decides, where a number was read.
use Rattle.prelude.specs.Words.{sym, ◌∙◌, ap, arith}
use Rattle.tokens.specs.Reading.{byte_inside, drop-next, end-stuck, end_no, end_yes}
use Rattle.transport.specs.SheetText.{got}
use Rattle.number_reader.proofs.read_end.Goals as goal

pub returns-in-Err-clause-reads : goal.returns-in-Err-clause-reads
returns-in-Err-clause-reads g c = rw c.in-Err.is (end-stuck _ _)

pub returns-then-not-end_at-clause-reads : goal.returns-then-not-end_at-clause-reads
returns-then-not-end_at-clause-reads g c = rw c.in-Ok.is (end_no _ _ _ (sym c.if-not-end_at.ensures))

pub returns-clause-reads : goal.returns-clause-reads
returns-clause-reads g c =
    let number = c.in-Ok.number in
    rw c.in-Ok.is
    (end_yes _ _ _ (sym c.if-not-end_at.ensures) ∙ ap (got number.value) (drop-next c.args.text.now number.next))

pub returns-clause-inside : goal.returns-clause-inside
returns-clause-inside g c = omega (arith, byte_inside _ c.in-Ok.number.next _ (sym c.if-not-end_at.ensures))

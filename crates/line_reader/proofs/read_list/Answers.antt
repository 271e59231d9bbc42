-- The word, the count and the lines, each from the place where the one before it ended.
use Rattle.std.specs.Prelude.{◌≡◌, ◌≤◌}
use Rattle.prelude.specs.Words.{sym, ap, ◌∙◌, List, ℕ, arith, drop, length-take-le}
use Rattle.transport.specs.SheetText.{got, side, line}
use Rattle.transport.specs.Laws.SheetLaws.{within-true}
use Rattle.tokens.specs.Reading.{handed_on, line-side-within}
use Rattle.line_reader.specs.LinesRead.{front_is}
use Rattle.line_reader.specs.SheetRead.{side_line, list_unnamed, list_uncounted, list_counted}
use Rattle.line_reader.proofs.read_list.Goals as goal

-- A side that was read is within its limit.
within : (most : ℕ) (u : List ℕ) {m : ℕ} {rest : List ℕ} → line (side most) u ≡ got m rest → (1 ≤ m) × (m ≤ most)
within most u {m} {rest} e = within-true 1 most m (line-side-within most m rest u e)

pub returns-in_err-next-clause-reads : goal.returns-in_err-next-clause-reads
returns-in_err-next-clause-reads c =
    handed_on _ _ _ _ c.from_residual.ensures.1 (list_unnamed _ _ _ _ c.in_err-next.ensures.reads)

pub returns-in_err-count-clause-reads : goal.returns-in_err-count-clause-reads
returns-in_err-count-clause-reads c =
    let counted = side_line _ _ c.read_side.ensures.reads c.in_err-count.ensures.reads in
    handed_on _ _ _ _ c.from_residual-in_err-count.ensures.1
    (list_uncounted _ _ _ _ c.in_ok-next.ensures.reads _ counted)

pub slice_bounds-read_lines-end : goal.slice_bounds-read_lines-end
slice_bounds-read_lines-end c =
    omega (arith, within _ _ (side_line _ _ c.read_side.ensures.reads c.in_ok-count.ensures.reads))

pub slice_bounds-read_lines-end-2 : goal.slice_bounds-read_lines-end-2
slice_bounds-read_lines-end-2 c =
    let counted = side_line _ _ c.read_side.ensures.reads c.in_ok-count.ensures.reads in
    sym (length-take-le _ _ (omega (arith, within _ _ counted)))

pub returns-in_err-next-2-clause-reads : goal.returns-in_err-next-2-clause-reads
returns-in_err-next-2-clause-reads c =
    let k = c.in_ok-count.count.value in
    let counted = side_line _ _ c.read_side.ensures.reads c.in_ok-count.ensures.reads in
    let size = length-take-le k c.args.list.now (omega (arith, within _ _ counted)) in
    handed_on _ _ _ _ c.from_residual-in_err-next-2.ensures.1
    (list_counted _ _ _ _ c.in_ok-next.ensures.reads k _ counted ∙ (rw size at c.in_err-next-2.ensures.reads))

pub returns-clause-reads : goal.returns-clause-reads
returns-clause-reads c =
    let k = c.in_ok-count.count.value in
    let counted = side_line _ _ c.read_side.ensures.reads c.in_ok-count.ensures.reads in
    let size = length-take-le k c.args.list.now (omega (arith, within _ _ counted)) in
    list_counted _ _ _ _ c.in_ok-next.ensures.reads k _ counted
    ∙ (rw size at c.in_ok-next-2.ensures.reads)
    ∙ ap (λ xs. got xs (drop c.in_ok-next-2.next c.args.text.now))
    (sym (front_is k c.read_lines.new.list _ (sym (c.read_lines.auto.list ∙ size))))

pub returns-clause-fits : goal.returns-clause-fits
returns-clause-fits c = within _ _ (side_line _ _ c.read_side.ensures.reads c.in_ok-count.ensures.reads)

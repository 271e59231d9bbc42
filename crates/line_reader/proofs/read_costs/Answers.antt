-- The head line that must come is written first; then it is read as a word, and the lines after it.
-- The head of either count has room: a program that writes the other one
-- (must-fail/other_row_count) fails only where the line is read.
use Rattle.std.specs.Prelude.{◌≤◌}
use Rattle.prelude.specs.Words.{sym, ap, ◌∙◌, ℕ, arith, length, length-take-le}
use Rattle.transport.specs.Limits.{max_sources, max_sinks}
use Rattle.transport.specs.Text.{bytes, digits}
use Rattle.grammar.specs.Digits.{digits-length}
use Rattle.decimals.specs.Front.{length_front}
use Rattle.sections.specs.Lines.{ended, length-ended}
use Rattle.tokens.specs.Reading.{handed_to, read_to}
use Rattle.line_reader.specs.LinesRead.{front_is}
use Rattle.line_reader.specs.SheetRead.{head_read, cost_unnamed, cost_named}
use Rattle.line_reader.proofs.read_costs.Goals as goal

heads : (m n : ℕ) → m ≤ max_sources → n ≤ max_sinks
    → (length (ended digits m 10) ≤ 3) × (length (ended digits n 10) ≤ 3)
unfolding max_sources max_sinks
heads m n p q = (short m p, short n q)
  where
    short : (k : ℕ) → k ≤ 32 → length (ended digits k 10) ≤ 3
    short k p = omega (arith, length-ended digits k 10, (digits-length 1 k).1 (omega arith))

pub write_head-len-requires : goal.write_head-len-requires
write_head-len-requires c = omega (arith, heads _ _ c.requires.1 c.requires.3)

pub slice_bounds-line-end : goal.slice_bounds-line-end
slice_bounds-line-end c =
    let e = c.write_head-len.ensures in
    let h = heads _ _ c.requires.1 c.requires.3 in
    omega (arith, e.0, ap length e.1 ∙ length_front _ _ (omega (arith, h)), h)

pub slice_bounds-read_word-end : goal.slice_bounds-read_word-end
slice_bounds-read_word-end c =
    let e = c.write_head-len.ensures in
    let h = heads _ _ c.requires.1 c.requires.3 in
    sym (length-take-le _ _ (omega (arith, e.0, ap length e.1 ∙ length_front _ _ (omega (arith, h)), h)))

pub returns-in_err-next-clause-reads : goal.returns-in_err-next-clause-reads
unfolding bytes
returns-in_err-next-clause-reads c =
    let h = c.write_head-len.ensures in
    handed_to _ _ _ _ c.from_residual.ensures.1
    (cost_unnamed _ c.args.n _ _ (head_read c.args.m _ _ _ _ h.0 h.1 c.in_err-next.ensures.reads))

pub returns-clause-reads : goal.returns-clause-reads
unfolding bytes
returns-clause-reads c =
    let h = c.write_head-len.ensures in
    let named = head_read c.args.m _ _ _ _ h.0 h.1 c.in_ok-next.ensures.reads in
    let size = length-take-le _ c.args.list.now c.requires.4 in
    cost_named c.args.m c.args.n _ _ c.requires.2 named ∙ (rw size at c.read_lines.ensures.reads)
    ∙ ap (λ xs. read_to c.args.text.now xs c.read_lines.result)
    (sym (front_is _ c.read_lines.new.list _ (sym (c.read_lines.auto.list ∙ size))))

-- The length so far and that of the numbers left make up the whole; no number has more than 20
-- bytes.
use Rattle.std.proofs.Common.{◌+◌, ◌*◌, ◌≡◌, ◌≤◌, drop}
use Rattle.sections.specs.Lines.{numbers_length}
use Rattle.sections.proofs.section.numbers_len.Given as goal

abbrev pub invariant-loop-number : goal.invariant-loop-number
invariant-loop-number g l = let text = g.T.Decimal.text in
    (l.len ≤ l.number-index * 21)
    × (l.len + numbers_length text (drop l.number-index l.numbers) ≡ numbers_length text l.numbers)

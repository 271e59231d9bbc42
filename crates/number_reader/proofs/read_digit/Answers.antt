-- Where a digit comes next, the text goes on with a byte from `0` to `9`.
use Rattle.prelude.specs.Words.{refl, sym}
use Rattle.tokens.specs.Reading.{digit_at}
use Rattle.number_reader.proofs.read_digit.Goals as goal

pub bounds-text-at : goal.bounds-text-at
bounds-text-at c = (digit_at _ _ (sym c.if-digit_at.ensures)).inside

pub overflow_sub-result : goal.overflow_sub-result
overflow_sub-result c = (digit_at c.args.text.now c.args.at (sym c.if-digit_at.ensures)).low

pub returns-then-digit_at : goal.returns-then-digit_at
returns-then-digit_at c = record { here = digit_at _ _ (sym c.if-digit_at.ensures); value = refl }

-- The first digit is read here, and the others by more_digits.
use Rattle.prelude.specs.Words.{◌∙◌, arith}
use Rattle.transport.specs.Limits.{max_digits}
use Rattle.tokens.specs.Reading.{handed_on, number-stuck, number-low, number-zero, number_more}
use Rattle.number_reader.proofs.read_number.Goals as goal

pub returns-in_err-leading-clause-reads : goal.returns-in_err-leading-clause-reads
returns-in_err-leading-clause-reads c =
    let k = c.in_err-leading.ensures in
    handed_on _ _ _ _ c.from_residual.ensures.1 (rw k.1 (number-stuck _ _ k.0))

pub returns-then-leading-low-clause-reads : goal.returns-then-leading-low-clause-reads
returns-then-leading-low-clause-reads c = number-low _ c.in_ok-leading.ensures (omega arith)

pub returns-then-leading-eq0-clause-reads : goal.returns-then-leading-eq0-clause-reads
returns-then-leading-eq0-clause-reads c = number-zero _ c.in_ok-leading.ensures (omega arith) (omega arith)

pub returns-then-leading-eq0-clause-small : goal.returns-then-leading-eq0-clause-small
unfolding max_digits
returns-then-leading-eq0-clause-small c = omega arith

pub returns-clause-reads : goal.returns-clause-reads
unfolding max_digits
returns-clause-reads c =
    number_more _ c.in_ok-leading.ensures (omega arith) (λ e. omega arith) ∙ c.more_digits.ensures.reads

pub returns-clause-small : goal.returns-clause-small
unfolding max_digits
returns-clause-small c = c.more_digits.ensures.small

-- The kind says whether the byte is a digit.
use Rattle.prelude.specs.Words.{sym, ◌∙◌}
use Rattle.tokens.specs.Reading.{digit-told, not_digit}
use Rattle.tokens.proofs.bytes.digit_at.Goals as goal

pub returns-in-Digit : goal.returns-in-Digit
returns-in-Digit c = sym (digit-told _ _ (sym c.in-Digit.ensures))

pub returns-in_default : goal.returns-in_default
returns-in_default c = sym (digit-told _ _ (sym c.kind_at.ensures) ∙ not_digit _ c.in_default.not-Digit)

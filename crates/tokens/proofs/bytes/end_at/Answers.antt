-- The kind says whether the byte ends the number.
use Rattle.prelude.specs.Words.{sym, ◌∙◌}
use Rattle.tokens.specs.Reading.{end-told, not_end}
use Rattle.tokens.proofs.bytes.end_at.Goals as goal

pub returns-in-Space : goal.returns-in-Space
returns-in-Space c = sym (end-told _ _ _ (sym c.in-Space.ensures))

pub returns-in-LineEnd : goal.returns-in-LineEnd
returns-in-LineEnd c = sym (end-told _ _ _ (sym c.in-LineEnd.ensures))

pub returns-in_default : goal.returns-in_default
returns-in_default c =
    let n = c.in_default in
    sym (end-told _ _ _ (sym c.kind_at.ensures) ∙ not_end _ _ n.not-Space n.not-LineEnd)

-- At the end no byte comes next, and before it the byte at the place does.
use Rattle.prelude.specs.Words.{sym, ap, ◌∙◌}
use Rattle.transport.specs.Text.{kind_of}
use Rattle.tokens.specs.Reading.{kind_end, kind_here}
use Rattle.tokens.proofs.bytes.kind_at.Goals as goal

pub returns-in-Some : goal.returns-in-Some
returns-in-Some c =
    let h = c.in-Some.ensures.lookup in
    c.kind_of.ensures ∙ ap kind_of (h.3.1 0) ∙ sym (kind_here _ _ h.3.0)

pub returns-in-None : goal.returns-in-None
returns-in-None c = sym (kind_end _ _ c.in-None.ensures.lookup.3)

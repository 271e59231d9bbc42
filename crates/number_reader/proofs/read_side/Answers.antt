-- The first digit decides whether there is a side, and the second belongs to it as long as the side
-- stays within the limit.
use Rattle.prelude.specs.Words.{◌∙◌, arith}
use Rattle.transport.specs.Laws.SheetLaws.{true-within, within-high}
use Rattle.tokens.specs.Reading.{handed_on, more-none, more_stop, more-step, more_over}
use Rattle.tokens.specs.Reading.{side-stuck, side-zero, side-more}
use Rattle.number_reader.proofs.read_side.Goals as goal

pub returns-in_err-first-clause-reads : goal.returns-in_err-first-clause-reads
returns-in_err-first-clause-reads c =
    let k = c.in_err-first.ensures in
    handed_on _ _ _ _ c.from_residual.ensures.1 (rw k.1 (side-stuck _ _ k.0))

pub returns-then-first-eq0-clause-reads : goal.returns-then-first-eq0-clause-reads
returns-then-first-eq0-clause-reads c = side-zero _ c.in_ok-first.ensures c.if-first-eq0.true

pub returns-in_default-clause-reads : goal.returns-in_default-clause-reads
returns-in_default-clause-reads c =
    side-more _ c.in_ok-first.ensures c.requires.1 c.if-first-eq0.false ∙ more_stop _ _ 1 _ c.in_default.ensures.0

pub returns-then-both-most-clause-reads : goal.returns-then-both-most-clause-reads
returns-then-both-most-clause-reads c =
    side-more _ c.in_ok-first.ensures c.requires.1 c.if-first-eq0.false
    ∙ more_over _ _ 0 c.in-Ok.ensures (within-high 1 _ _ c.if-both-most.true)

pub returns-clause-reads : goal.returns-clause-reads
returns-clause-reads c =
    side-more _ c.in_ok-first.ensures c.requires.1 c.if-first-eq0.false
    ∙ more-step _ _ 0 c.in-Ok.ensures (true-within 1 _ _ (omega arith) c.if-both-most.false) ∙ more-none _ _ _

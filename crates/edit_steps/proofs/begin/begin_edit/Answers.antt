-- The new cost is put among the costs, or the first tableau is laid out.
use Rattle.prelude.specs.Words.{sym, ap, ◌∙◌, rules}
use mir.Syntax.{w64}
use Rattle.transport.specs.Sheet.{cafes}
use Rattle.transport.specs.declared.Change.TheVariants as Change
use Rattle.transport.specs.Laws.RangeLaws.{back}
use Rattle.edit_steps.specs.Beginning.{respreadable, admitted_kept, parties_kept, admitted_afresh}
use Rattle.edit_steps.specs.Respread.{spread-before}
use Rattle.edit_steps.proofs.begin.begin_edit.Goals as goal

pub respread_lane-requires : goal.respread_lane-requires
respread_lane-requires c =
    let (S, T, w, a) = c.requires.edit_of in
    let is = c.in-Cost.is ∙ ap Change.Cost (sym (back w64 c.in-Cost.c (search rules))) in
    let g = respreadable w c.requires.accepted a is in
    rw (c.row_numbers.ensures, c.cafe_numbers.ensures) (g.growing_rows, g.growing_cols, a.spread.long, g.small)

pub returns-in-Cost-clause-admitted : goal.returns-in-Cost-clause-admitted
returns-in-Cost-clause-admitted c = λ S T w a.
    let ok = c.requires.accepted in
    let is = c.in-Cost.is ∙ ap Change.Cost (sym (back w64 c.in-Cost.c (search rules))) in
    let rows = c.row_numbers.ensures in
    let cols = c.cafe_numbers.ensures in
    let put = c.respread_lane.ensures S.cost (cafes S) (rw (rows, cols) (respreadable w ok a is))
    (rw (rows, cols) a.spread) in
    admitted_kept w ok a is (rw (rows, cols) at put)

pub returns-in-Cost-clause-parties : goal.returns-in-Cost-clause-parties
returns-in-Cost-clause-parties c = λ S w h.
    parties_kept w (c.in-Cost.is ∙ ap Change.Cost (sym (back w64 c.in-Cost.c (search rules)))) h

pub returns-in-Amounts-clause-admitted : goal.returns-in-Amounts-clause-admitted
returns-in-Amounts-clause-admitted c = λ S T w a.
    let before = spread-before w c.in-Amounts.is a.parties a.spread in
    admitted_afresh c.args.edit T c.in-Amounts.is (c.begin_afresh.ensures.admitted before)

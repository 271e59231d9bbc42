-- The first tableau is dealt, the costs lie by column for its parties, and it is laid out on a
-- board with no amounts.
use Rattle.prelude.specs.Words.{sym, ◌∙◌}
use Rattle.transport.specs.Sheet.{roasteries, cafes}
use Rattle.transport.specs.Extended.{extended}
use Rattle.transport.specs.Parties.{rows_left_of}
use Rattle.parties.specs.Parties.{parties-numbers}
use Rattle.cost_grid.specs.Costs.{spreadable}
use Rattle.solving.specs.First.{first_fits, first_admitted}
use Rattle.edit_steps.specs.Respread.{cafes-left}
use Rattle.edit_steps.proofs.begin.begin_afresh.Goals as goal

pub deal_sheet-first-requires : goal.deal_sheet-first-requires
deal_sheet-first-requires c = (_, c.requires)

pub respread-requires : goal.respread-requires
unfolding cafes
respread-requires c =
    let h = (c.deal_sheet-first.ensures c.args.cost.now c.requires).parties in
    rw (h.row_numbers, h.cafe_numbers) (spreadable c.requires)

pub lay_out-requires-clause-count_le_cell_room : goal.lay_out-requires-clause-count_le_cell_room
lay_out-requires-clause-count_le_cell_room c =
    first_fits c.requires (c.deal_sheet-first.ensures c.args.cost.now c.requires)

pub returns-clause-admitted : goal.returns-clause-admitted
unfolding roasteries cafes rows_left_of extended
returns-clause-admitted c = λ before.
    let ok = c.requires in
    let dealt = c.deal_sheet-first.ensures c.args.cost.now ok in
    let h = dealt.parties in
    let laid = c.lay_out.ensures in
    let spread = c.respread.ensures (λ all (m, n).
    rw (h.row_numbers, h.cafe_numbers) (before all (sym h.row_count_of ∙ m, sym (cafes-left (parties-numbers h)) ∙ n))) in
    first_admitted ok dealt spread laid.amounts laid.long laid.stripped

pub returns-clause-parties : goal.returns-clause-parties
returns-clause-parties c = (c.deal_sheet-first.ensures c.args.cost.now c.requires).parties

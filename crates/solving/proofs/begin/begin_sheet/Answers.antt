-- The first tableau is dealt, the costs are spread, and the tableau is laid out.
use Rattle.transport.specs.Sheet.{cafes}
use Rattle.cost_grid.specs.Costs.{spreadable}
use Rattle.solving.specs.First.{first_fits, first_admitted}
use Rattle.solving.proofs.begin.begin_sheet.Goals as goal

pub deal_sheet-first-requires : goal.deal_sheet-first-requires
deal_sheet-first-requires c = (_, c.requires.accepted)

pub spread_costs-requires : goal.spread_costs-requires
unfolding cafes
spread_costs-requires c =
    let h = (c.deal_sheet-first.ensures c.args.cost.now c.requires.accepted).parties in
    rw (c.row_numbers.ensures, c.cafe_numbers.ensures, h.row_numbers, h.cafe_numbers) (spreadable c.requires.accepted)

pub lay_out-requires : goal.lay_out-requires
lay_out-requires c =
    let ok = c.requires.accepted in
    record { count_le_cell_room = first_fits ok (c.deal_sheet-first.ensures c.args.cost.now ok); empty = c.requires.empty }

pub returns-clause-admitted : goal.returns-clause-admitted
unfolding cafes
returns-clause-admitted c =
    let ok = c.requires.accepted in
    let spread = rw (c.row_numbers.ensures, c.cafe_numbers.ensures) at c.spread_costs.ensures in
    let laid = c.lay_out.ensures in
    first_admitted ok (c.deal_sheet-first.ensures c.args.cost.now ok) spread laid.amounts laid.long laid.stripped

pub returns-clause-parties : goal.returns-clause-parties
returns-clause-parties c = (c.deal_sheet-first.ensures c.args.cost.now c.requires.accepted).parties

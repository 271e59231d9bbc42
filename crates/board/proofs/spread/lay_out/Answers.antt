-- The arrays hold the cells, so that the masks are those of their lanes.
use Rattle.board.specs.Arrays.{basis-links, basis_masks, held-amounts}
use Rattle.board.proofs.spread.lay_out.Goals as goal

pub strike-requires : goal.strike-requires
strike-requires c =
    let (few, sides, inside, distinct) = c.requires.count_le_cell_room in
    basis-links sides (c.spread.ensures _ sides.cols_high) inside

pub returns-clause-amounts : goal.returns-clause-amounts
returns-clause-amounts c = held-amounts (c.spread.ensures _ c.requires.count_le_cell_room.1.cols_high)

pub returns-clause-stripped : goal.returns-clause-stripped
returns-clause-stripped c =
    let (few, sides, inside, distinct) = c.requires.count_le_cell_room in
    let held = c.spread.ensures _ sides.cols_high in
    c.strike.ensures.stripped _ (basis_masks sides held inside distinct)

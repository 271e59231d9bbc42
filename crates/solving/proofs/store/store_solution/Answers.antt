-- The bags are settled, and prices and plan are written at own numbers.
use Rattle.transport.specs.Sheet.{roasteries, cafes}
use Rattle.solving.specs.Stored.{finished-priced, solve_stored}
use Rattle.solving.specs.Settled.{settled-storable, stored_settled}
use Rattle.solving.proofs.store.store_solution.Goals as goal

pub settle_board-requires : goal.settle_board-requires
settle_board-requires c = let (T, made, e, f) = c.requires.finished in (_, _, e, f.judged, f.costs)

pub write_prices-requires : goal.write_prices-requires
write_prices-requires c =
    let (T, made, e, f) = c.requires.finished in
    let room = c.requires.supply_in_bounds in
    rw (c.row_numbers.ensures, c.column_numbers.ensures) ((_, finished-priced f), room.0, room.1)

pub store_plan-requires : goal.store_plan-requires
unfolding roasteries cafes
store_plan-requires c =
    let (T, made, e, f) = c.requires.finished in
    let bags = c.settle_board.ensures.settled _ _ e f.judged f.costs in
    rw (c.row_numbers-2.ensures, c.cafe_numbers.ensures, f.parties.row_numbers, f.parties.cafe_numbers)
    (settled-storable f.accepted bags c.requires.supply_in_bounds.2)

pub returns-clause-stored : goal.returns-clause-stored
unfolding roasteries cafes
returns-clause-stored c = λ T made e f.
    let bags = c.settle_board.ensures.settled _ _ e f.judged f.costs in
    let written = rw (c.row_numbers.ensures, c.column_numbers.ensures) at c.write_prices.ensures in
    let stored = rw (c.row_numbers-2.ensures, c.cafe_numbers.ensures, f.parties.row_numbers, f.parties.cafe_numbers) at c.store_plan.ensures in
    solve_stored f.accepted f.rounds (written _ (finished-priced f)) (stored_settled f.accepted bags c.requires.supply_in_bounds.2 stored)

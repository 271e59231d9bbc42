-- What each call ensures is handed to the laws of the prices that are given.
use Rattle.std.specs.Prelude.{◌≤◌}
use Rattle.prelude.specs.Words.{refl, arith, rules, ℤ, length, length-take}
use Rattle.transport.specs.Limits.{max_side}
use Rattle.transport.specs.Sheet.{sheet_of, roasteries, cafes}
use Rattle.transport.proofs.ExtendedLaws.{width_low}
use Rattle.transport.proofs.Sound.{wanted_room}
use Rattle.price_lists.specs.PriceLists.{ColumnPrices, rows_least, columns_least}
use Rattle.price_lists.specs.Prices.{costs_of, n_room, cols-some, last_in, width_is, placing_rows, placing_cols}
use Rattle.price_lists.specs.Prices.{row-prices, placed-small, columns-small}
use Rattle.price_lists.specs.Prices.{cafes-front, roasteries-given}
use Rattle.price_lists.proofs.write_prices.Goals as goal

pub place_prices-requires : goal.place_prices-requires
unfolding roasteries
place_prices-requires c = placing_rows c.requires.0.1 _ c.requires.1

pub place_prices-requires-2 : goal.place_prices-requires-2
unfolding max_side
place_prices-requires-2 c = placing_cols c.requires.0.1 _ refl

pub price_struck-requires-clause-callable : goal.price_struck-requires-clause-callable
unfolding roasteries cafes
price_struck-requires-clause-callable c k below =
    let w = c.requires.0.1 in
    let costs = costs_of w in
    let prices = row-prices w c.place_prices.ensures c.requires.1 in
    search rules

pub price_struck-requires-clause-room : goal.price_struck-requires-clause-room
unfolding cafes max_side
price_struck-requires-clause-room c = omega (arith, n_room c.requires.0.1, c.place_prices-2.ensures.long)

pub column_count-width-requires : goal.column_count-width-requires
column_count-width-requires c = (cols-some c.requires.0.1, last_in c.requires.0.1)

-- There is room for the columns, and their prices are small, before struck cafés are priced and
-- after that: a program that hands over the prices before is refused for its prices.
pub price_struck-requires-2-clause-callable : goal.price_struck-requires-2-clause-callable
unfolding roasteries cafes max_side
price_struck-requires-2-clause-callable c k below =
    let w = c.requires.0.1 in
    let costs = costs_of w in
    let width = width_is w c.column_count-width.result c.column_count-width.ensures in
    let some : 1 ≤ c.column_count-width.result =
    omega (
      arith,
      width,
      width_low (sheet_of c.args.supply.now c.args.demand.now c.args.cost.now),
      w.accepted.limits.cafes_low,
    ) in
    let room : c.column_count-width.result ≤ max_side = omega (arith, width, wanted_room w.accepted) in
    let struck = c.price_struck.ensures
    (rows_least c.args.cost.now (length c.args.demand.now) c.args.rows.now c.place_prices.new.out)
    (λ j z l e. search rules) in
    let before : ColumnPrices c.place_prices-2.new.out c.column_count-width.result =
    record { some = some; room = room; small = placed-small w c.place_prices-2.ensures } in
    let after : ColumnPrices c.price_struck.new.price c.column_count-width.result =
    record {
      some = some;
      room = room;
      small =
          columns-small w c.place_prices.ensures c.place_prices-2.ensures struck c.requires.1;
    } in
    search rules

pub slice_bounds-columns-end : goal.slice_bounds-columns-end
unfolding cafes max_side
slice_bounds-columns-end c = omega (arith, n_room c.requires.0.1, c.place_prices-2.ensures.long)

pub slice_bounds-copy_from_slice-end-3 : goal.slice_bounds-copy_from_slice-end-3
unfolding cafes max_side
slice_bounds-copy_from_slice-end-3 c =
    omega (arith, n_room c.requires.0.1, c.place_prices-2.ensures.long, length-take {A = ℤ})

pub copy_from_slice-requires : goal.copy_from_slice-requires
unfolding cafes max_side
copy_from_slice-requires c = omega (arith, n_room c.requires.0.1, c.place_prices-2.ensures.long, length-take {A = ℤ})

pub returns : goal.returns
unfolding roasteries cafes max_side
returns c T w =
    let p = c.place_prices.ensures in
    let q = c.place_prices-2.ensures in
    let struck = c.price_struck.ensures
    (rows_least c.args.cost.now (length c.args.demand.now) c.args.rows.now c.place_prices.new.out)
    (λ j z l e. search rules) in
    let width = width_is w c.column_count-width.result c.column_count-width.ensures in
    let priced = c.price_struck-2.ensures
    (columns_least c.args.cost.now
    (length c.args.demand.now) c.price_struck.new.price c.column_count-width.result)
    (λ i z l e. search rules) in (
      roasteries-given w p q struck width priced c.requires.1,
      rw (c.copy_from_slice.ensures.after, cafes-front w p q struck),
    )

-- The prices of both sides, written in lists of zeros.
use Rattle.prelude.specs.Words.{arith}
use Rattle.transport.specs.Limits.{max_side}
use Rattle.transport.specs.Sheet.{sheet_of, roasteries, cafes}
use Rattle.transport.specs.Laws.Sound.{sources-room, sinks-room}
use Rattle.round_call.specs.Round.{round-prices}
use Rattle.round_call.proofs.finished_round.Goals as goal

pub write_prices-requires : goal.write_prices-requires
unfolding roasteries cafes max_side
write_prices-requires c =
    let limits = c.requires.1.accepted.limits in
    (c.requires, omega (arith, limits.roasteries_high, sources-room), omega (arith, limits.cafes_high, sinks-room))

pub returns : goal.returns
unfolding roasteries cafes max_side
returns c T w =
    let S = sheet_of c.args.supply.now c.args.demand.now c.args.cost.now in
    let (u, v) = c.write_prices.ensures T w in
    round-prices S T u v

-- Both pairs are those of the sheet whose lanes cost nothing.
use Rattle.prelude.specs.Words.{arith, refl}
use Rattle.transport.specs.Laws.Sound.{supply-most, demand-most}
use Rattle.transport.specs.Limits.{max_side, max_amount, max_bags}
use Rattle.transport.specs.Problem.{sources, sinks}
use Rattle.dealing.specs.Corner.{costless}
use Rattle.dealing.proofs.corner.first_corner.Goals as goal

pub paired_supply-requires : goal.paired_supply-requires
unfolding sources
paired_supply-requires c = (c.requires.sources_low, supply-most c.requires 0)

pub paired_demand-requires : goal.paired_demand-requires
unfolding sources sinks max_side max_bags max_amount
paired_demand-requires c = (c.requires.sinks_low, demand-most c.requires 0, omega arith)

pub returns : goal.returns
unfolding sources
returns c =
    let S = costless c.args.supply.now c.args.demand.now in
    rw (c.paired_supply.ensures S refl, c.paired_demand.ensures S refl refl)

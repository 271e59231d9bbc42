-- No column is in at first, and all are taken in.
use Rattle.transport.specs.Limits.{max_cost, cost_above}
use Rattle.pricing.specs.Slacks.{all-inside, slacks_anew}
use Rattle.pricing.proofs.scan.scan_slacks.Goals as goal

pub relax_slacks-requires : goal.relax_slacks-requires
relax_slacks-requires c = (c.args.n, c.requires, all-inside c.args.n c.first_bits.ensures)

pub returns : goal.returns
unfolding cost_above max_cost
returns c = slacks_anew c.args.n c.first_bits.ensures c.requires c.relax_slacks.ensures

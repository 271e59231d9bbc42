-- The arrays are zeros, as those of a sheet of nobody.
use Rattle.transport.specs.Lists.{padded}
use Rattle.transport.specs.Limits.{max_sources, max_sinks}
use Rattle.transport.specs.Sheet.{roasteries, cafes}
use Rattle.transport.specs.Standing.{struct_of}
use Rattle.set_up_call.proofs.no_standing.Goals as goal

pub returns : goal.returns
unfolding struct_of padded roasteries cafes max_sources max_sinks
returns c = rw c.empty_tableau.ensures

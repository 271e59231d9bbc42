use Rattle.prelude.specs.Words.{refl}
use Rattle.transport.specs.Lists.{at}
use Rattle.numbering.specs.Numbers.{own_cell_of}
use Rattle.numbering.proofs.own_cell.Goals as goal

pub returns : goal.returns
unfolding own_cell_of at
returns c = refl

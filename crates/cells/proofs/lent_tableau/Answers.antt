use Rattle.transport.specs.Limits.{max_side, max_cells}
use Rattle.cells.specs.LentLaws.{lent-front}
use Rattle.cells.proofs.lent_tableau.Goals as goal

pub returns : goal.returns
unfolding max_side max_cells
returns c = rw c.empty_tableau.ensures (lent-front c.args.cells.now c.min-held.ensures c.copy_from_slice.ensures.after)

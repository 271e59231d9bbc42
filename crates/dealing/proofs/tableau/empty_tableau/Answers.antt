-- Both sides are the same zeros.
use Rattle.prelude.specs.Words.{refl}
use Rattle.transport.specs.Lists.{padded}
use Rattle.transport.specs.Limits.{max_cells, max_side}
use Rattle.transport.specs.Amount.{nothing}
use Rattle.transport.specs.Tableau.{no_cell, tableau_of, no_tableau}
use Rattle.dealing.proofs.tableau.empty_tableau.Goals as goal

pub returns : goal.returns
unfolding no_tableau tableau_of padded max_cells max_side no_cell nothing
returns c = refl

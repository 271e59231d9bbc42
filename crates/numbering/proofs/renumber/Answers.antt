use Rattle.prelude.specs.Words.{arith}
use Rattle.transport.specs.Amount.{nothing}
use Rattle.transport.specs.Tableau.{no_cell}
use Rattle.numbering.specs.Numbers.{changed-one, changed-cells}
use Rattle.numbering.proofs.renumber.Goals as goal

pub loop-k-preserved : goal.loop-k-preserved
unfolding no_cell nothing
loop-k-preserved c =
    changed-one c.loop-k.invariant (omega arith) _
    (c.cell_among.ensures _ _ c.numbers-row_number.ensures c.numbers-col_number.ensures)

pub returns : goal.returns
returns c = (c.loop-k.invariant.many, changed-cells c.loop-k.invariant (omega arith))

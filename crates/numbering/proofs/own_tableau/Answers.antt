use Rattle.prelude.specs.Words.{arith}
use Rattle.transport.specs.Limits.{max_side, max_cells}
use Rattle.transport.specs.Amount.{nothing}
use Rattle.transport.specs.Tableau.{no_cell}
use Rattle.numbering.specs.Numbers.{changed-none, changed-one, count_room, long-cells, cell-within, changed-tableau}
use Rattle.numbering.proofs.own_tableau.Goals as goal

pub loop-k-init : goal.loop-k-init
unfolding max_cells max_side
loop-k-init c = let (T, is-t, w) = c.requires in (count_room is-t w, changed-none)

pub own_cell-requires : goal.own_cell-requires
unfolding no_cell nothing
own_cell-requires c = let (T, is-t, w) = c.requires in cell-within is-t w c.loop-k.invariant.1 (omega arith)

pub loop-k-preserved : goal.loop-k-preserved
unfolding no_cell nothing max_cells max_side
loop-k-preserved c =
    let (T, is-t, w) = c.requires in
    (c.loop-k.invariant.0, changed-one c.loop-k.invariant.1 (omega (arith, long-cells is-t w)) _ c.own_cell.ensures)

pub returns : goal.returns
returns c T is-t = changed-tableau _ T c.loop-k.invariant.1 (omega arith) is-t

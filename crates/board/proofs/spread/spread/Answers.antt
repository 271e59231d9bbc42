use Rattle.std.specs.Prelude.{◌-◌, ◌≡◌, ◌<◌}
use Rattle.prelude.specs.Words.{suc, arith, drop, get_or, drop_of_length-le}
use Rattle.transport.specs.Amount.{nothing}
use Rattle.transport.specs.Tableau.{no_cell, cells_of}
use Rattle.tree.specs.Layout.{stride}
use Rattle.board.specs.Cells.{length-cells, cells-from, cell-inside}
use Rattle.board.specs.Held.{Held, held-fewer, held_more, held_none}
use Rattle.board.proofs.spread.spread.Goals as goal
use Rattle.board.proofs.spread.spread.Goals.{In-loop-k}

pub loop-k-init : goal.loop-k-init
loop-k-init c =
    let t = c.args.t in
    let past = drop_of_length-le (cells_of t) {i = t.count} (omega (arith, length-cells t (omega arith))) in
    rw past (held_none c.requires.3 c.requires.4)

-- The cell is on the sheet.
inside : (c : In-loop-k) → let d = get_or c.args.t.cells (c.loop-k.k - 1) no_cell in
    (d.row < c.args.m) × (d.col < stride)
inside c = cell-inside c.args.t c.requires.2 (c.loop-k.k - 1) (omega arith) (omega arith)

pub put_cell-requires : goal.put_cell-requires
unfolding no_cell nothing
put_cell-requires c =
    let h = inside (goal.at.put_cell-requires c).In-loop-k in
    (h.0, omega arith, h.1)

pub loop-k-preserved : goal.loop-k-preserved
unfolding no_cell nothing
loop-k-preserved c =
    let i = c.loop-k in
    let t = c.args.t in
    let h = inside (goal.at.loop-k-preserved c).In-loop-k in
    let r : suc (i.k - 1) ≡ i.k = omega arith in
    let p = c.put_cell.ensures in
    let held : Held c.args.m stride (drop (suc (i.k - 1)) (cells_of t)) i.adj i.amounts.q i.amounts.e =
    rw r i.invariant in
    rw (cells-from t (i.k - 1) (omega arith) (omega arith), p.0, p.1, p.2)
    (held_more (get_or t.cells (i.k - 1) no_cell) held (omega arith) (omega arith) h.0 h.1)

pub returns : goal.returns
returns c =
    let e : c.loop-k.k ≡ 0 = omega arith in
    λ n p. held-fewer p (rw e at c.loop-k.invariant)

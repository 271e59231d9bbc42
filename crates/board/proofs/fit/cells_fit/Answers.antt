use Rattle.std.specs.Prelude.{◌*◌, ◌<◌, ◌≤◌, ◌≡◌}
use Rattle.prelude.specs.Words.{ℕ, List, sym, ap, ◌∙◌, true, [], arith, drop, take, drop_of_length-le}
use Rattle.std.proofs.lemmas.List.{drop_more}
use Rattle.transport.specs.Amount.{nothing}
use Rattle.transport.specs.Problem.{place}
use Rattle.transport.specs.Tableau.{no_cell, cells_of}
use Rattle.transport.specs.declared.Cell.{Cell}
use Rattle.tree.specs.Layout.{stride, lane_room}
use Rattle.board.specs.CellTests.{fits_at, fits-row, fits-column, row_small, fits_from, fits_from-nil, fits_from_yes}
use Rattle.board.specs.CellTests.{fits_from_no, fits_all}
use Rattle.board.proofs.fit.cells_fit.Goals as goal

-- A cell that fits is on the board, and its place is small.
small : (m n least : ℕ) (d : Cell) → (m ≤ stride) × (n ≤ stride) → true ≡ fits_at m n least d
    → (d.row * n ≤ lane_room) × (d.col < stride)
small m n least d (p, q) e =
    (row_small d.row n (omega (arith, fits-row m n least d (sym e))) q, omega (arith, fits-column m n least d (sym e)))

pub loop-c-init : goal.loop-c-init
unfolding cells_of
loop-c-init c = sym (fits_all c.args.m c.args.n (cells_of c.args.t.now))

pub returns-then-not-cell_fits : goal.returns-then-not-cell_fits
unfolding no_cell nothing
returns-then-not-cell_fits c =
    let a = c.args in
    let cells : List Cell = take a.t.now.count a.t.now.cells in
    sym (c.loop-c.invariant
    ∙ ap (fits_from a.m a.n c.loop-c.least) (drop_more cells c.loop-c.c-index no_cell (omega arith))
    ∙ fits_from_no a.m a.n c.loop-c.least _ _ (sym c.if-not-cell_fits.ensures))

pub overflow_mul-least : goal.overflow_mul-least
overflow_mul-least c =
    omega (arith, small c.args.m c.args.n c.loop-c.least _ (c.requires.1, c.requires.2) c.if-not-cell_fits.ensures)

pub overflow_add-least : goal.overflow_add-least
overflow_add-least c =
    omega (arith, small c.args.m c.args.n c.loop-c.least _ (c.requires.1, c.requires.2) c.if-not-cell_fits.ensures)

pub overflow_add-least-in-loop-c : goal.overflow_add-least-in-loop-c
overflow_add-least-in-loop-c c =
    omega (arith, small c.args.m c.args.n c.loop-c.least _ (c.requires.1, c.requires.2) c.if-not-cell_fits.ensures)

pub loop-c-preserved : goal.loop-c-preserved
unfolding no_cell nothing place
loop-c-preserved c =
    let a = c.args in
    let cells : List Cell = take a.t.now.count a.t.now.cells in
    c.loop-c.invariant ∙ ap (fits_from a.m a.n c.loop-c.least) (drop_more cells c.loop-c.c-index no_cell (omega arith))
    ∙ fits_from_yes a.m a.n c.loop-c.least _ _ (sym c.if-not-cell_fits.ensures)

pub returns : goal.returns
returns c =
    let a = c.args in
    let none : drop c.loop-c.c-index (take a.t.now.count a.t.now.cells) ≡ [] =
    drop_of_length-le _ {i = c.loop-c.c-index} (omega arith) in
    sym (c.loop-c.invariant ∙ rw none (fits_from-nil a.m a.n c.loop-c.least))

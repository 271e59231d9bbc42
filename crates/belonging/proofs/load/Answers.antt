use Rattle.std.specs.Prelude.{◌≤◌, ◌≡◌}
use Rattle.prelude.specs.Words.{arith, sym, ◌∙◌, length}
use Rattle.transport.specs.Tableau.{cells_of, basis_size}
use Rattle.board.specs.Cells.{cell_room, length-cells}
use Rattle.belonging.specs.Spread.{list_sides, struck-apart, struck-spans, fit_inside, fit_distinct, other-count}
use Rattle.belonging.specs.Spread.{other-cells, belongs-whole, BalancingOn}
use Rattle.belonging.proofs.load.Goals as goal
use Rattle.belonging.proofs.load.Goals.{Start, Else-t-size, After-lay_out, Else-lay_out-size}

pub overflow_sub-size : goal.overflow_sub-size
overflow_sub-size c = omega (arith, (list_sides c.requires.sound.1).rows_low)

pub returns-then-t-size-clause-value : goal.returns-then-t-size-clause-value
unfolding basis_size
returns-then-t-size-clause-value c cost = sym (other-count _ _ cost _ c.if-t-size.true)

-- The count is m + n - 1, and the array has as many cells.
few : (c : Else-t-size) → c.args.t.count ≤ cell_room
few c = let s = list_sides c.requires.sound.1 in omega (arith, s.rows_high, s.cols_high)

pub cells_fit-requires : goal.cells_fit-requires
cells_fit-requires c =
    let s = list_sides c.requires.sound.1 in
    (few (goal.at.cells_fit-requires c).Else-t-size, s.rows_high, s.cols_high)

pub returns-then-not-cells_fit-clause-value : goal.returns-then-not-cells_fit-clause-value
returns-then-not-cells_fit-clause-value c cost = sym (other-cells _ _ cost _ (sym c.if-not-cells_fit.ensures))

pub lay_out-requires-clause-count_le_cell_room : goal.lay_out-requires-clause-count_le_cell_room
lay_out-requires-clause-count_le_cell_room c =
    let f = sym c.if-not-cells_fit.ensures in
    let e = (goal.at.lay_out-requires-clause-count_le_cell_room c).Else-t-size in
    (few e, list_sides c.requires.sound.1, fit_inside _ _ _ f, fit_distinct _ _ _ f)

many : (c : After-lay_out) → let a = c.args in
    length (cells_of a.t) ≡ basis_size (length a.supply.now) (length a.demand.now)
unfolding basis_size
many c =
    let s = list_sides c.requires.sound.1 in
    length-cells c.args.t (omega (arith, s.rows_high, s.cols_high)) ∙ c.if-t-size.false

pub returns-then-lay_out-size-clause-value : goal.returns-then-lay_out-size-clause-value
unfolding basis_size
returns-then-lay_out-size-clause-value c cost =
    let f = sym c.if-not-cells_fit.ensures in
    let m = many (goal.at.returns-then-lay_out-size-clause-value c).After-lay_out in
    let apart = struck-apart _ (list_sides c.requires.sound.1) (fit_inside _ _ _ f) (fit_distinct _ _ _ f) m _ _ _ _
    c.lay_out.ensures.stripped c.if-lay_out-size.true in
    sym (belongs-whole _ _ cost _ c.if-t-size.false f ∙ rw apart)

-- All lanes are struck off, so the cells are a tree.
balancing : (c : Else-lay_out-size) → let a = c.args in
    length (cells_of a.t) ≡ basis_size (length a.supply.now) (length a.demand.now)
    → BalancingOn (length a.supply.now) (length a.demand.now) (cells_of a.t) c.lay_out.new.board
unfolding basis_size
balancing c m =
    let f = sym c.if-not-cells_fit.ensures in
    record {
      amounts = c.lay_out.ensures.amounts;
      long = c.lay_out.ensures.long;
      spanning = struck-spans _ (list_sides c.requires.sound.1) (fit_inside _ _ _ f) (fit_distinct _ _ _ f) m _ _ _ _
          c.lay_out.ensures.stripped c.if-lay_out-size.false;
    }

pub balances-requires-clause-balancing : goal.balances-requires-clause-balancing
balances-requires-clause-balancing c =
    let g = goal.at.balances-requires-clause-balancing c in
    (_, balancing g.Else-lay_out-size (many g.After-lay_out))

pub returns-clause-value : goal.returns-clause-value
unfolding basis_size
returns-clause-value c cost =
    let g = goal.at.returns-clause-value c in
    let b = balancing g.Else-lay_out-size (many g.After-lay_out) in
    let whole = belongs-whole _ _ cost _ c.if-t-size.false (sym c.if-not-cells_fit.ensures) in
    c.balances.ensures cost _ b ∙ sym (whole ∙ rw b.spanning.spans)

pub returns-clause-loaded : goal.returns-clause-loaded
returns-clause-loaded c s =
    let g = goal.at.returns-clause-loaded c in
    let b = balancing g.Else-lay_out-size (many g.After-lay_out) in
    record { amounts = b.amounts; long = b.long; struck = b.spanning.struck }

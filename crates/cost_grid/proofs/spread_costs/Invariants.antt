-- The rows before i are filled in, and of row i the columns before j.
use Rattle.std.proofs.Common.{ℤ, pos, List, length}
use Rattle.tree.specs.Grid.{GridFilled}
use Rattle.cost_grid.specs.Costs.{own_cost, by_column}
use Rattle.cost_grid.proofs.spread_costs.Given as goal

abbrev pub invariant-loop-i : goal.invariant-loop-i
invariant-loop-i l = GridFilled by_column (own_cost l.cost l.cafes l.rows l.cols) (pos 0)
    (length l.cols) l.initial.out l.i 0 l.out

abbrev pub invariant-loop-j : goal.invariant-loop-j
invariant-loop-j l = let c = own_cost l.cost l.cafes l.rows l.cols in let n = length l.cols in
    (before : List ℤ) → GridFilled by_column c (pos 0) n before l.i 0 l.initial.out → GridFilled by_column c
    (pos 0) n before l.i l.j l.out

-- The rows before i are stored, and of row i the columns before j.
use Rattle.std.proofs.Common.{ℕ, List, length}
use Rattle.tree.specs.Grid.{GridFilled}
use Rattle.plan_store.specs.Plan.{own_place, bag_count}
use Rattle.plan_store.proofs.store_plan.Given as goal

abbrev pub invariant-loop-i : goal.invariant-loop-i
invariant-loop-i l = GridFilled (own_place l.n l.rows l.cols) (bag_count l.q) 0
    (length l.cols) l.initial.plan l.i 0 l.plan

abbrev pub invariant-loop-j : goal.invariant-loop-j
invariant-loop-j l = (old : List ℕ) → GridFilled (own_place l.n l.rows l.cols) (bag_count l.q) 0
    (length l.cols) old l.i 0 l.initial.plan
    → GridFilled (own_place l.n l.rows l.cols) (bag_count l.q) 0 (length l.cols) old l.i l.j l.plan

use Rattle.std.specs.Prelude.{◌+◌, ◌*◌, ◌<◌, ◌^◌, ◌≡◌}
use Rattle.prelude.specs.Words.{ℕ, arith, ℤ, pos, nat_abs, length, get_or}
use mir.Syntax.{w32, w64}
use mir.Val.{to_z, of_z}
use mir.Facts.{to_z-of_z}
use Rattle.transport.specs.Lists.{at, at_z}
use Rattle.transport.specs.Limits.{max_cost}
use Rattle.transport.specs.Problem.{place}
use Rattle.transport.specs.Laws.RangeLaws.{mag_abs, abs_fits, back}
use Rattle.cost_grid.specs.Costs.{by_column-once, all-spread}
use Rattle.tree.specs.Layout.{lane_room}
use Rattle.tree.specs.Grid.{grid-lane, grid-row}
use Rattle.cost_grid.proofs.spread_costs.Goals as goal
use Rattle.cost_grid.proofs.spread_costs.Goals.{In-loop-j}

pub overflow_mul-first : goal.overflow_mul-first
unfolding at
overflow_mul-first c = omega (arith, c.requires.firsts c.loop-i.i (omega arith))

-- The lane of row i and column j, under their own numbers: its cost is in the list, and small.
module _ (c : In-loop-j) where
  abbrev lane_here : ℕ
  lane_here = get_or c.args.rows.now c.loop-i.i 0 * c.args.cafes + get_or c.args.cols.now c.loop-j.j 0

  abbrev cost_here : ℤ
  cost_here = get_or c.args.cost.now lane_here (pos 0)

  inside : lane_here < length c.args.cost.now
  unfolding at place
  inside = c.requires.inside c.loop-i.i c.loop-j.j (omega arith) (omega arith)

  small : nat_abs cost_here < 2 ^ 31
  unfolding at_z max_cost
  small = omega (arith, c.requires.small lane_here)

  read_back : to_z w64 (of_z w64 cost_here) ≡ cost_here
  read_back = back w64 cost_here (omega (arith, mag_abs cost_here, small))

pub overflow_add-out : goal.overflow_add-out
unfolding at
overflow_add-out c = omega (arith, c.own_number-col.ensures, inside (goal.at.overflow_add-out c).In-loop-j)

pub offset_bounds-cost-first : goal.offset_bounds-cost-first
unfolding at
offset_bounds-cost-first c = omega (
  arith,
  c.own_number-col.ensures,
  inside
      (goal.at.offset_bounds-cost-first c).In-loop-j,
)

pub bounds-cost-first : goal.bounds-cost-first
unfolding at
bounds-cost-first c = rw c.own_number-col.ensures (inside (goal.at.bounds-cost-first c).In-loop-j)

pub overflow_cast-out : goal.overflow_cast-out
unfolding at
overflow_cast-out c =
    let t = (goal.at.overflow_cast-out c).In-loop-j in
    rw (c.own_number-col.ensures, read_back t) (abs_fits w32 (cost_here t) (small t))

pub loop-j-preserved : goal.loop-j-preserved
unfolding at at_z place
loop-j-preserved c before p =
    let t = (goal.at.loop-j-preserved c).In-loop-j in
    let r = c.requires in
    let long : length c.loop-j.out ≡ lane_room = (c.loop-j.invariant _ c.loop-i.invariant).long in
    rw (c.own_number-col.ensures, read_back t, to_z-of_z {w = w32} (abs_fits w32 (cost_here t) (small t)))
    (grid-lane (c.loop-j.invariant before p) r.cols_few (omega arith) (omega (arith, r.rows_few_of, r.cols_few))
    (λ h k u s. by_column-once h k c.loop-i.i c.loop-j.j (omega (arith, r.rows_few_of, r.cols_few)) (omega
    (arith, r.rows_few_of)) u))

pub loop-i-preserved : goal.loop-i-preserved
loop-i-preserved c = grid-row (c.loop-j.invariant _ c.loop-i.invariant) c.requires.cols_few (omega arith)

pub returns : goal.returns
returns c = all-spread c.requires (omega arith) c.loop-i.invariant

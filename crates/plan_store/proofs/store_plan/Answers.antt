use Rattle.std.specs.Prelude.{◌+◌, ◌*◌, ◌≤◌, ◌<◌, ◌≡◌}
use Rattle.prelude.specs.Words.{arith, mul-le-mul, rules, pos, length, get_or, drop, length-append, length-drop}
use Rattle.prelude.specs.Words.{length-take-le}
use mir.Syntax.{w64}
use mir.Val.{to_z, of_z}
use Rattle.transport.specs.Lists.{at}
use Rattle.transport.specs.Problem.{place}
use Rattle.tree.specs.Layout.{stride, lane_room}
use Rattle.tree.specs.Grid.{grid-lane, grid-row}
use Rattle.plan_store.specs.Plan.{emptied_front, own-inside, own-once, all_stored}
use Rattle.plan_store.proofs.store_plan.Goals as goal
use Rattle.plan_store.proofs.store_plan.Goals.{In-loop-j}

pub overflow_mul-first : goal.overflow_mul-first
unfolding at
overflow_mul-first c =
    let r = c.requires in
    let low : at c.args.rows.now c.loop-i.i ≤ stride = omega (
      arith,
      r.rows_below c.loop-i.i
          (omega arith),
      r.sources_few,
    ) in
    omega (arith, mul-le-mul low r.sinks_few)

-- The place of row i and column j is one of them, and in the list.
inside : (c : In-loop-j) → let a = c.args in
    let l = get_or a.rows.now c.loop-i.i 0 * a.n + get_or a.cols.now c.loop-j.j 0 in
    (l < lane_room) × (l < length c.loop-j.plan)
unfolding at place
inside c =
    let r = c.requires in
    let own = own-inside r {i = c.loop-i.i} {j = c.loop-j.j} (omega arith) (omega arith) in
    let size = c.args.m * c.args.n in (
      omega (arith, own, mul-le-mul r.sources_few r.sinks_few),
      omega (
        arith,
        own,
        r.room,
        c.fill.ensures.len,
        length-append c.fill.new.self (drop size c.args.plan.now),
        length-drop size c.args.plan.now,
        length-take-le size c.args.plan.now r.room,
      ),
    )

pub overflow_add-plan-in-loop-j : goal.overflow_add-plan-in-loop-j
unfolding at
overflow_add-plan-in-loop-j c = omega (
  arith,
  c.own_number-col.ensures,
  inside
      (goal.at.overflow_add-plan-in-loop-j c).In-loop-j,
)

pub offset_bounds-plan-first : goal.offset_bounds-plan-first
unfolding at
offset_bounds-plan-first c = omega (
  arith,
  c.own_number-col.ensures,
  inside
      (goal.at.offset_bounds-plan-first c).In-loop-j,
)

pub bounds-plan-first : goal.bounds-plan-first
unfolding at
bounds-plan-first c = rw c.own_number-col.ensures (inside (goal.at.bounds-plan-first c).In-loop-j).1

pub loop-j-preserved : goal.loop-j-preserved
unfolding at place
loop-j-preserved c old p =
    let r = c.requires in
    let x = get_or c.args.q.now (c.loop-i.i * stride + c.loop-j.j) (pos 0) in
    let back : to_z w64 (of_z w64 x) ≡ x = search rules in
    rw (back, c.own_number-col.ensures)
    (grid-lane (c.loop-j.invariant old p) r.cols_few (omega arith) (inside (goal.at.loop-j-preserved c).In-loop-j).1
    (own-once r (omega arith) (omega arith)))

pub loop-i-preserved : goal.loop-i-preserved
loop-i-preserved c = grid-row (c.loop-j.invariant _ c.loop-i.invariant) c.requires.cols_few (omega arith)

pub returns : goal.returns
returns c = all_stored c.requires (omega arith) (emptied_front c.requires.room (c.fill.ensures.after
    (λ y e. e))) c.loop-i.invariant

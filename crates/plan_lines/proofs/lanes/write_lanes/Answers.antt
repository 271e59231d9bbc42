use Rattle.std.proofs.Common.{◌≤◌, ◌++◌, length, length-append, arith}
use Rattle.transport.specs.Lists.{at}
use Rattle.decimals.specs.Front.{begun, both}
use Rattle.plan_lines.specs.Lanes.{used_text, lane_text, text-next, text-room}
use Rattle.plan_lines.proofs.lanes.write_lanes.Goals as goal

pub loop-place-preserved : goal.loop-place-preserved
unfolding at
loop-place-preserved c =
    let n = c.args.n in
    let plan = c.args.plan.now in
    let k = c.loop-place.place in
    let first = used_text n plan k in
    let next = lane_text n k (at plan k) in
    let room : length (first ++ next) ≤ length c.args.out.now =
    simp length-append (omega (arith, text-room n plan k (omega arith))) in
    rw text-next (both (begun first next room c.loop-place.invariant) _ _ c.write_lane-at.ensures)

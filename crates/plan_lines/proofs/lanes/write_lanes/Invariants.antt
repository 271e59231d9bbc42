-- The output holds the lines of the lanes so far.
use Rattle.std.proofs.Common.{◌≡◌, length}
use Rattle.decimals.specs.Front.{front}
use Rattle.plan_lines.specs.Lanes.{used_text}
use Rattle.plan_lines.proofs.lanes.write_lanes.Given as goal

abbrev pub invariant-loop-place : goal.invariant-loop-place
invariant-loop-place l = let text = used_text l.n l.plan l.place in
    (l.at ≡ length text) × (l.out ≡ front text l.initial.out)

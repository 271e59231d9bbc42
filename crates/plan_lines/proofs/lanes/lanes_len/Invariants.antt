-- The length is that of the lines so far, none of which has more than 63 bytes.
use Rattle.std.proofs.Common.{◌≡◌, ◌≤◌, ◌*◌, length}
use Rattle.plan_lines.specs.Lanes.{used_text}
use Rattle.plan_lines.proofs.lanes.lanes_len.Given as goal

abbrev pub invariant-loop-place : goal.invariant-loop-place
invariant-loop-place l = (l.len ≡ length (used_text l.n l.plan l.place)) × (l.len ≤ l.place * 63)

-- The output holds the first i bytes.
use Rattle.std.proofs.Common.{◌≡◌, take}
use Rattle.decimals.specs.Front.{front}
use Rattle.sections.proofs.section.write_bytes.Given as goal

abbrev pub invariant-loop-i : goal.invariant-loop-i
invariant-loop-i l = l.out ≡ front (take l.i l.bytes) l.initial.out

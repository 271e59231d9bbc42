-- The rows before i are raised.
use Rattle.pricing.specs.Slacks.{Changing, raising}
use Rattle.pricing.proofs.scan.raised.Given as goal

abbrev pub invariant-loop-i : goal.invariant-loop-i
invariant-loop-i l = Changing (raising l.x) l.initial.higher l.i l.higher

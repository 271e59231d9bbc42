-- The masks are right for the first i rows, and the others stand in no column's.
use Rattle.augment.specs.Bags.{MaskedTo}
use Rattle.augment.proofs.bags.Bags.on_basics.Given as goal

abbrev pub invariant-loop-i : goal.invariant-loop-i
invariant-loop-i l = MaskedTo l.i l.basic l.fn.q l.holds l.owns

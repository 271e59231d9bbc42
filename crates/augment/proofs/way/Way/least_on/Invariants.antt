-- `least` is the place of the least of the lanes passed.
use Rattle.augment.specs.Way.{LeastTo}
use Rattle.augment.proofs.way.Way.least_on.Given as goal

abbrev pub invariant-loop-at : goal.invariant-loop-at
invariant-loop-at l = LeastTo l.fn.goal.position l.fn.goal.column l.self l.q l.least l.at

abbrev pub decreases-loop-at : goal.decreases-loop-at
decreases-loop-at l = l.at

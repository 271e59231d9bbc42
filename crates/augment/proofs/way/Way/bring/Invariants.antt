-- The bags have moved along the way up to the position.
use Rattle.augment.specs.Way.{Bringing}
use Rattle.augment.proofs.way.Way.bring.Given as goal

abbrev pub invariant-loop-at : goal.invariant-loop-at
invariant-loop-at l = Bringing l.fn.goal.position l.fn.goal.column l.self l.x l.fn.bags l.at l.bags

abbrev pub decreases-loop-at : goal.decreases-loop-at
decreases-loop-at l = l.at

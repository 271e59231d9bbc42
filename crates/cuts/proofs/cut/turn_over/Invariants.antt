-- The paths of the nodes before p are turned over.
use Rattle.cuts.specs.Planting.{Turning}
use Rattle.cuts.proofs.cut.turn_over.Given as goal

abbrev pub invariant-loop-p : goal.invariant-loop-p
invariant-loop-p l = Turning l.path l.p l.sub

-- The columns of `bits` are still to be taken in.
use Rattle.pricing.specs.Slacks.{Relaxing}
use Rattle.pricing.proofs.scan.relax_slacks.Given as goal

abbrev pub invariant-loop-bits : goal.invariant-loop-bits
invariant-loop-bits l = Relaxing l.cost l.price l.m l.cols l.bits l.initial.least l.least

abbrev pub decreases-loop-bits : goal.decreases-loop-bits
decreases-loop-bits l = l.bits

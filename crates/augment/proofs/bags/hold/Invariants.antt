-- The columns that are not left have the row.
use Rattle.prelude.specs.Words.{ℕ}
use Rattle.tree.specs.Mask.{put}
use Rattle.tree.specs.Bits.{Touching}
use Rattle.augment.proofs.bags.hold.Given as goal

abbrev pub invariant-loop-left : goal.invariant-loop-left
invariant-loop-left l = Touching (λ (y : ℕ). put y l.i) 0 l.fn.holds l.cols l.left l.holds

abbrev pub decreases-loop-left : goal.decreases-loop-left
decreases-loop-left l = l.left

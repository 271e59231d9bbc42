-- The columns that are not left hang on the position, and their rows are gathered.
use Rattle.prelude.specs.Words.{ℕ}
use Rattle.tree.specs.MaskLaws.{minus}
use Rattle.tree.specs.Bits.{Touching}
use Rattle.augment.specs.Sought.{Gathered}
use Rattle.augment.proofs.search.reach.Given as goal

abbrev pub invariant-loop-left : goal.invariant-loop-left
invariant-loop-left l =
    Touching (λ (y : ℕ). l.at) 0 l.fn.from l.cols l.left l.from × Gathered l.holds (minus l.cols l.left) l.rows

abbrev pub decreases-loop-left : goal.decreases-loop-left
decreases-loop-left l = l.left

-- Of the basic columns that are not left, just those with bags are in.
use Rattle.augment.specs.Bags.{RowBags}
use Rattle.augment.proofs.bags.row_bags.Given as goal

abbrev pub invariant-loop-left : goal.invariant-loop-left
invariant-loop-left l = RowBags l.q l.basic l.i l.left l.cols

abbrev pub decreases-loop-left : goal.decreases-loop-left
decreases-loop-left l = l.left

-- The first k cells of the array have the numbers of those left, and the rest is as it was.
use Rattle.numbering.specs.Numbers.{cell_among_of, ChangedTo}
use Rattle.numbering.proofs.renumber.Given as goal

abbrev pub invariant-loop-k : goal.invariant-loop-k
invariant-loop-k l = ChangedTo (cell_among_of l.fn.rows l.fn.cols) l.fn.t l.k l.inner

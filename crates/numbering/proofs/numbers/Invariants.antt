-- The numbers of the first k are in the list, and nobody else's.
use Rattle.numbering.specs.Numbers.{NumberedTo}
use Rattle.numbering.proofs.numbers.Given as goal

abbrev pub invariant-loop-k : goal.invariant-loop-k
invariant-loop-k l = NumberedTo l.own l.k l.among

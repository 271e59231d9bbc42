-- The first k amounts are put.
use Rattle.belonging.specs.Weighing.{PutFrom}
use Rattle.belonging.proofs.weights.put_from.Given as goal

abbrev pub invariant-loop-k : goal.invariant-loop-k
invariant-loop-k l = PutFrom l.amounts l.from l.fn.weight l.weight l.k

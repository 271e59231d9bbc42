-- The leaves struck from number k on hang.
use Rattle.cuts.specs.Planting.{Hanging}
use Rattle.cuts.proofs.cut.hang.Given as goal

abbrev pub invariant-loop-k : goal.invariant-loop-k
invariant-loop-k l = Hanging l.leaf l.other l.count l.path l.k

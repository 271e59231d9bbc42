-- Each node has its potential by the strikes from number k on.
use Rattle.std.proofs.Common.{◌≡◌, length}
use Rattle.tree.specs.Layout.{node_room}
use Rattle.tree.specs.PotentialLaws.{Priced}
use Rattle.tree.proofs.Basis.potentials.Given as goal

abbrev pub invariant-loop-k : goal.invariant-loop-k
invariant-loop-k l =
    (length l.price ≡ node_room) × Priced l.cost l.self.leaf l.self.other l.self.lane l.count l.price l.k

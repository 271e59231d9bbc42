use Rattle.prelude.specs.Words.{refl}
use Rattle.tree.specs.Layout.{node_room, get_or-all}
use Rattle.cuts.specs.Planting.{turning_start, turning_step}
use Rattle.cuts.proofs.cut.turn_over.Goals as goal

pub loop-p-init : goal.loop-p-init
loop-p-init c = turning_start _ _ refl (λ j. get_or-all node_room j 0)

pub loop-p-preserved : goal.loop-p-preserved
loop-p-preserved c = turning_step c.loop-p.invariant (rw c.set_bit.ensures at c.graft.ensures)

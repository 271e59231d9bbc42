use Rattle.prelude.specs.Words.{arith, refl}
use Rattle.cuts.specs.Planting.{struck-order, planted}
use Rattle.cuts.proofs.cut.plant.Goals as goal

pub hang-requires : goal.hang-requires
hang-requires c = let r = c.requires in struck-order _ _ _ _ r.struck.1 r.le_m.1 r.le_m.2

pub returns-clause-tree : goal.returns-clause-tree
returns-clause-tree c B st =
    let order = struck-order _ _ _ _ st c.requires.le_m.1 c.requires.le_m.2 in
    planted _ _ _ _ _ _ refl (omega arith) st order c.hang.ensures c.turn_over.ensures

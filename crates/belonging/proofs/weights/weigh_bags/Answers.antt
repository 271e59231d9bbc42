use Rattle.prelude.specs.Words.{pos}
use Rattle.tree.specs.Layout.{node_room, get_or-all}
use Rattle.belonging.specs.Weighing.{bags-put}
use Rattle.belonging.proofs.weights.weigh_bags.Goals as goal

pub returns : goal.returns
returns c = bags-put c.requires.0 c.requires.1
    (λ j. get_or-all node_room j (pos 0)) c.put_from.ensures c.put_from-2.ensures

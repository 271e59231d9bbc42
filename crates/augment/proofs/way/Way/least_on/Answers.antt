use Rattle.std.specs.Prelude.{◌≡◌, ◌+◌, ◌*◌}
use Rattle.prelude.specs.Words.{arith, rules, pos, get_or}
use mir.Syntax.{w64}
use mir.Val.{to_z, of_z}
use Rattle.tree.specs.Layout.{stride}
use Rattle.augment.specs.Bags.{entry}
use Rattle.augment.specs.Way.{lowering-less, lowering-keep}
use Rattle.augment.proofs.way.Way.least_on.Goals as goal
use Rattle.augment.proofs.way.Way.least_on.Goals.{then-q-lane, else-q-lane}

pub loop-at-preserved : goal.loop-at-preserved
loop-at-preserved c =
    let way = c.args.self.now in
    let q = c.args.q.now in
    let l = c.loop-at in
    let here = get_or q (entry way.row l.at * stride + entry way.col l.at) (pos 0) in
    let same : to_z w64 (of_z w64 here) ≡ here = search rules in
    let same' : to_z w64 (of_z w64 (get_or q l.least (pos 0))) ≡ get_or q l.least (pos 0) = search rules in
    elim c.if-q-lane.branch [
      | then-q-lane w ↦
          rw w.least-is (lowering-less c.requires.2 q l.invariant (omega arith) (rw (same, same') at w.if-q-lane.true))
      | else-q-lane w ↦
          rw w.least-is (lowering-keep c.requires.2 q l.invariant (omega arith) (rw (same, same') at w.if-q-lane.false))
    ]

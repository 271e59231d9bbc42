use Rattle.prelude.specs.Words.{arith}
use Rattle.augment.specs.Bags.{bags_on}
use Rattle.settle.specs.Stage.{reaches-on, hit_loaded, turn-less, turn-sought, turn-reaches}
use Rattle.settle.specs.Stage.{stuck-reaches, goalless_reaches, dead-reached}
use Rattle.settle.proofs.lanes.decide.Goals as goal

-- Nothing is reached: the lane is stuck.
pub returns-in-Err-clause-dead : goal.returns-in-Err-clause-dead
returns-in-Err-clause-dead c = dead-reached (c.in-Err.ensures (bags_on c.loop-goal.bags) c.loop-goal.invariant.sought)

pub returns-in-Err-clause-reaches : goal.returns-in-Err-clause-reaches
returns-in-Err-clause-reaches c =
    let b = c.loop-goal.bags in
    let i = c.loop-goal.invariant in
    reaches-on i.reaches (stuck-reaches b i.sought _ (c.in-Err.ensures (bags_on b) i.sought))

-- A goal is: bags are brought.
pub bring_least-requires : goal.bring_least-requires
bring_least-requires c =
    let i = c.loop-goal.invariant in
    let hit = c.in-Ok.ensures (bags_on c.loop-goal.bags) i.sought in
    (c.args.tight.m, c.args.tight.n, hit_loaded i.sought hit (i.reaches.stage c.requires.stage.2))

pub loop-goal-smaller : goal.loop-goal-smaller
loop-goal-smaller c =
    let b = c.loop-goal.bags in
    let i = c.loop-goal.invariant in
    let moved = c.bring_least.ensures in
    turn-less b i.sought (c.in-Ok.ensures (bags_on b) i.sought) moved.follow moved.brought
    (i.reaches.stage c.requires.stage.2)

pub loop-goal-preserved : goal.loop-goal-preserved
loop-goal-preserved c =
    let b = c.loop-goal.bags in
    let i = c.loop-goal.invariant in
    let hit = c.in-Ok.ensures (bags_on b) i.sought in
    let moved = c.bring_least.ensures in
    let before = i.reaches.stage c.requires.stage.2 in record {
      sought = turn-sought b i.sought hit moved.follow moved.brought before;
      reaches = reaches-on i.reaches (turn-reaches b i.sought hit moved.follow moved.brought before);
    }

-- No goal is left.
pub returns-clause-reaches : goal.returns-clause-reaches
returns-clause-reaches c =
    let i = c.loop-goal.invariant in reaches-on i.reaches (goalless_reaches c.loop-goal.bags i.sought (omega arith))

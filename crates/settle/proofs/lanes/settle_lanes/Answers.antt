use Rattle.std.specs.Prelude.{◌≡◌, ◌+◌, ◌*◌}
use Rattle.prelude.specs.Words.{arith, rules}
use Rattle.settle.specs.Stage.{reaches-on}
use Rattle.settle.specs.Rows.{settleable_done, settleable_stage, settleable_end}
use Rattle.settle.proofs.lanes.settle_lanes.Goals as goal

pub returns-then-only_basics : goal.returns-then-only_basics
returns-then-only_basics c = λ a b s. settleable_done s (c.only_basics.ensures.0 c.if-only_basics.true)

pub settle_row-requires-clause-stage : goal.settle_row-requires-clause-stage
settle_row-requires-clause-stage c =
    let (a, b, s) = c.requires in
    let bags = c.on_basics-bags.ensures in
    (a, b, c.loop-p.invariant.stage (settleable_stage s bags.same_bags (bags.masked c.args.n s.on_basics)))

pub loop-p-preserved : goal.loop-p-preserved
loop-p-preserved c =
    let e : (c.loop-p.p + 1) * c.args.n ≡ c.loop-p.p * c.args.n + c.args.n = omega arith in
    rw e (reaches-on c.loop-p.invariant c.settle_row.ensures)

pub returns : goal.returns
returns c = λ a b s.
    let bags = c.on_basics-bags.ensures in
    let all : c.loop-p.p ≡ c.args.m = omega arith in
    settleable_end s _ (search rules) bags.same_bags (bags.masked c.args.n s.on_basics) (rw all at c.loop-p.invariant)

use Rattle.std.specs.Prelude.{◌≡◌}
use Rattle.prelude.specs.Words.{arith, rules}
use Rattle.std.proofs.lemmas.Int.{ints}
use mir.Syntax.{w64}
use mir.Val.{to_z, of_z}
use Rattle.augment.specs.Way.{bring_first, bringing_start, bringing_next, bringing_on, bringing_ends}
use Rattle.augment.proofs.way.Way.bring.Goals as goal

pub shift-requires-clause-few : goal.shift-requires-clause-few
shift-requires-clause-few c =
    let few = bring_first c.requires.way.2 c.args.x c.requires.few in omega (arith, ints)

pub loop-at-init : goal.loop-at-init
loop-at-init c =
    bringing_start c.requires.way.2 _ (omega (arith, ints)) c.shift.ensures.bags_shifted c.shift.ensures.follow

pub shift-requires-in-loop-at-clause-few : goal.shift-requires-in-loop-at-clause-few
shift-requires-in-loop-at-clause-few c =
    let few = bringing_next c.requires.way.2 _ (omega (arith, ints)) c.loop-at.invariant (omega arith) in (few.3, few.4)

pub loop-at-preserved : goal.loop-at-preserved
loop-at-preserved c =
    bringing_on c.requires.way.2 _ (omega (arith, ints)) c.loop-at.invariant (omega arith)
    c.shift-in-loop-at.ensures.bags_shifted c.shift-in-loop-at.ensures.follow

pub returns-clause-brought : goal.returns-clause-brought
returns-clause-brought c =
    let same : to_z w64 (of_z w64 c.args.x) ≡ c.args.x = search rules in
    λ d r. rw same at (bringing_ends c.loop-at.invariant (omega arith) r)

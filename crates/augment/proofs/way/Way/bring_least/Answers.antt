use Rattle.prelude.specs.Words.{arith}
use Rattle.std.proofs.lemmas.Int.{ints}
use Rattle.augment.specs.Way.{way-rooted, least-few}
use Rattle.augment.proofs.way.Way.bring_least.Goals as goal

pub bring-requires-clause-few : goal.bring-requires-clause-few
bring-requires-clause-few c =
    let v = c.requires.2 in
    let (d, r) = way-rooted v.walkable in
    let few = least-few v r (c.least_on.ensures.least d r) in
    omega (arith, ints)

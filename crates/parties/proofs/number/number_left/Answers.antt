-- A party has an amount and is listed, or it has none.
use Rattle.std.proofs.Common.{arith, rules}
use Rattle.transport.specs.Lists.{at}
use Rattle.transport.specs.Limits.{max_side}
use Rattle.parties.specs.Parties.{listed-none, listed-room, listed_yes, listed_no, listed-all}
use Rattle.parties.proofs.number.number_left.Goals as goal
use Rattle.parties.proofs.number.number_left.Goals.{then-x-gt0, else-x-gt0}

pub loop-k-init : goal.loop-k-init
unfolding max_side
loop-k-init c = listed-none _ _ _ (search rules) (search rules)

pub offset_bounds-left-count : goal.offset_bounds-left-count
unfolding max_side
offset_bounds-left-count c = omega (arith, listed-room _ c.loop-k.k c.loop-k.invariant)

pub bounds-left-count : goal.bounds-left-count
unfolding max_side
bounds-left-count c = omega (arith, listed-room _ c.loop-k.k c.loop-k.invariant)

pub bounds-own-count : goal.bounds-own-count
unfolding max_side
bounds-own-count c = omega (arith, listed-room _ c.loop-k.k c.loop-k.invariant)

pub loop-k-preserved : goal.loop-k-preserved
unfolding at max_side
loop-k-preserved c =
    let k = c.loop-k.k in elim c.if-x-gt0.branch [
      | then-x-gt0 w ↦ rw (w.left-is, w.own-is, w.count-is)
          (listed_yes _ k c.loop-k.invariant (omega arith) (omega arith))
      | else-x-gt0 w ↦ rw (w.left-is, w.own-is, w.count-is) (listed_no _ k c.loop-k.invariant (omega arith))
    ]

pub returns : goal.returns
returns c = listed-all _ c.loop-k.k c.loop-k.invariant (omega arith)

use Rattle.std.specs.Prelude.{◌≡◌}
use Rattle.prelude.specs.Words.{arith, length}
use Rattle.transport.specs.Limits.{max_side}
use Rattle.transport.specs.Lists.{at}
use Rattle.numbering.specs.Numbers.{numbered_none, numbered_one, numbered_all}
use Rattle.numbering.proofs.numbers.Goals as goal

pub loop-k-init : goal.loop-k-init
unfolding max_side
loop-k-init c = numbered_none c.args.own.now

-- An own number has a place in the list.
pub offset_bounds-among-x : goal.offset_bounds-among-x
unfolding at max_side
offset_bounds-among-x c = omega (arith, c.requires.inside c.loop-k.k)

pub bounds-among-x : goal.bounds-among-x
unfolding at max_side
bounds-among-x c = omega (arith, c.requires.inside c.loop-k.k)

pub loop-k-preserved : goal.loop-k-preserved
unfolding at
loop-k-preserved c = numbered_one _ c.loop-k.k _ c.loop-k.invariant (c.requires.inside c.loop-k.k (omega arith))

pub returns : goal.returns
returns c = let e : c.loop-k.k ≡ length c.args.own.now = omega arith in
    numbered_all _ _ c.requires (rw e at c.loop-k.invariant)

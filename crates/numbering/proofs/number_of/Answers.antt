-- On the list its number, and off the list nobody's.
use Rattle.transport.specs.Limits.{max_side}
use Rattle.transport.specs.Lists.{at}
use Rattle.numbering.specs.Numbers.{numbering_off}
use Rattle.numbering.proofs.number_of.Goals as goal

pub returns-then-own-lt-MAX_SIDE : goal.returns-then-own-lt-MAX_SIDE
unfolding at max_side
returns-then-own-lt-MAX_SIDE c ks w = w.numbers c.args.own c.if-own-lt-MAX_SIDE.true

pub returns-else-own-lt-MAX_SIDE : goal.returns-else-own-lt-MAX_SIDE
unfolding max_side
returns-else-own-lt-MAX_SIDE c ks w = numbering_off w c.args.own c.if-own-lt-MAX_SIDE.false

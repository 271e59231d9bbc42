use Rattle.augment.specs.Bags.{bit-on, bit-off}
use Rattle.augment.proofs.bags.with_bit.Goals as goal

pub returns-then-on : goal.returns-then-on
returns-then-on c = λ h. rw (c.set_bit.ensures, c.if-on.true) (bit-on c.args.mask c.args.k h)

pub returns-else-on : goal.returns-else-on
returns-else-on c = λ h. rw (c.clear_bit.ensures, c.if-on.false) (bit-off c.args.mask c.args.k h)

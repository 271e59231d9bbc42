use Rattle.tree.specs.MaskLaws.{minus_is}
use Rattle.tree.proofs.mask.without.Goals as goal

pub returns : goal.returns
returns c = minus_is c.args.a c.args.b

use Rattle.tree.specs.Mask.{unset_shl}
use Rattle.tree.proofs.mask.clear_bit.Goals as goal

pub returns : goal.returns
returns c = unset_shl c.args.mask c.args.k c.requires

use Rattle.tree.specs.MaskLaws.{first_shl}
use Rattle.tree.proofs.mask.first_bits.Goals as goal

pub returns : goal.returns
returns c = first_shl c.args.n c.requires

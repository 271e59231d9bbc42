use Rattle.tree.specs.Mask.{put_shl}
use Rattle.tree.proofs.mask.set_bit.Goals as goal

pub returns : goal.returns
returns c = put_shl c.args.mask c.args.k c.requires

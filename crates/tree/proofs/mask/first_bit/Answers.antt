-- The count of trailing zeros is the least bit.
use Rattle.tree.specs.Mask.{first-lt, first_in, first-least}
use Rattle.tree.proofs.mask.first_bit.Goals as goal

pub returns : goal.returns
returns c =
    let x = c.args.mask in
    let fits = c.ranges.mask.fits in
    (first-lt 64 x c.requires fits, first_in 64 x c.requires fits, first-least 64 x)

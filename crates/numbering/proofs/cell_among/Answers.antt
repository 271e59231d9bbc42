use Rattle.numbering.specs.Numbers.{cell_among_of}
use Rattle.numbering.proofs.cell_among.Goals as goal

pub returns : goal.returns
unfolding cell_among_of
returns c rows cols r s = rw (c.number_of.ensures rows r, c.number_of-2.ensures cols s)

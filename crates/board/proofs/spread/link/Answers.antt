use Rattle.board.specs.Held.{linked}
use Rattle.board.proofs.spread.link.Goals as goal

pub returns : goal.returns
unfolding linked
returns c = rw (c.set_bit-2.ensures, c.set_bit.ensures)

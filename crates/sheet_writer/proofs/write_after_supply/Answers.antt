-- The demands, and then the costs in what is left of the output.
use Rattle.transport.specs.Text.{bytes}
use Rattle.decimals.specs.Front.{begun, both}
use Rattle.sheet_writer.proofs.write_after_supply.Goals as goal

pub returns : goal.returns
unfolding bytes
returns c = both (begun _ _ c.requires.1 c.write_section-at.ensures) _ _ c.write_section.ensures

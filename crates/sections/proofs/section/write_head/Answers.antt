-- The name, and then the count in what is left of the output.
use Rattle.decimals.specs.Front.{begun, both}
use Rattle.sections.proofs.section.write_head.Goals as goal

pub returns : goal.returns
returns c = both (begun _ _ c.requires c.write_bytes-at.ensures) _ _ c.write_ended.ensures

-- The count, and then the lines in what is left of the output.
use Rattle.transport.specs.Text.{bytes}
use Rattle.decimals.specs.Front.{begun, both}
use Rattle.plan_lines.proofs.plan_sections.PlanSections.write_lanes.Goals as goal

pub returns : goal.returns
unfolding bytes
returns c = both (begun _ _ c.requires.2 c.write_head-at.ensures) _ _ c.write_lanes.ensures

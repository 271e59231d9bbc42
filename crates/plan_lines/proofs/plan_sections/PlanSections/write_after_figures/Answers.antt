-- The prices, and then the lanes in what is left of the output.
use Rattle.decimals.specs.Front.{begun, both}
use Rattle.plan_lines.proofs.plan_sections.PlanSections.write_after_figures.Goals as goal

pub returns : goal.returns
returns c = both (begun _ _ c.requires.2 c.write_prices-at.ensures) _ _ c.write_lanes.ensures

-- The prices of the roasteries, and then those of the cafés in what is left of the output.
use Rattle.transport.specs.Text.{bytes}
use Rattle.decimals.specs.Front.{begun, both}
use Rattle.plan_lines.proofs.plan_sections.PlanSections.write_prices.Goals as goal

pub returns : goal.returns
unfolding bytes
returns c = both (begun _ _ c.requires c.write_section-at.ensures) _ _ c.write_section.ensures

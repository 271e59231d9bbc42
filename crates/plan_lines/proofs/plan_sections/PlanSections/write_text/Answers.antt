-- The figures, and then the other sections in what is left of the output.
use Rattle.decimals.specs.Front.{begun, both}
use Rattle.plan_lines.specs.Sections.{plan_sections_of}
use Rattle.plan_lines.proofs.plan_sections.PlanSections.write_text.Goals as goal

pub returns : goal.returns
unfolding plan_sections_of
returns c = both (begun _ _ c.requires.2 c.write_figures-at.ensures) _ _ c.write_after_figures.ensures

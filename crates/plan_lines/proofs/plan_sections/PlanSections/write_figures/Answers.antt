-- The cost, and then the rounds in what is left of the output.
use Rattle.std.proofs.Common.{to_z-of_z, SFits, w64, rules}
use Rattle.transport.specs.Text.{bytes}
use Rattle.decimals.specs.Front.{begun, both}
use Rattle.plan_lines.proofs.plan_sections.PlanSections.write_figures.Goals as goal

pub returns : goal.returns
unfolding bytes
returns c =
    let fits : SFits w64 c.args.self.figures.total = search rules in
    let first = rw (to_z-of_z fits) at c.write_section-at.ensures in
    both (begun _ _ c.requires first) _ _ c.write_section.ensures

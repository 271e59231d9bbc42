-- The lengths of the sections, added up.
use Rattle.std.proofs.Common.{to_z-of_z, SFits, w64, arith, rules}
use Rattle.transport.specs.Text.{bytes}
use Rattle.sections.specs.Lines.{length_section}
use Rattle.plan_lines.specs.Sections.{sections_length}
use Rattle.plan_lines.proofs.plan_sections.PlanSections.text_len.Goals as goal

pub returns : goal.returns
unfolding bytes
returns c =
    let fits : SFits w64 c.args.self.figures.total = search rules in
    let total = rw (to_z-of_z fits) at c.section_len.ensures.0 in
    rw sections_length (simp length_section (omega arith))

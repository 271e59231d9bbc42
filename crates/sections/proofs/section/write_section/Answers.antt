-- The head line, and then the lines in what is left of the output.
use Rattle.decimals.specs.Front.{begun, both}
use Rattle.sections.specs.Lines.{section_text}
use Rattle.sections.proofs.section.write_section.Goals as goal

pub returns : goal.returns
unfolding section_text
returns g c = both (begun _ _ c.requires.1 c.write_head-at.ensures) _ _ c.write_lines.ensures

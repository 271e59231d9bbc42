-- The supplies, and then the other sections in what is left of the output.
use Rattle.transport.specs.Text.{bytes}
use Rattle.decimals.specs.Front.{begun, second-room, both}
use Rattle.sheet.specs.Refusals.{sinks-some}
use Rattle.sheet_writer.specs.SheetSections.{accepted-sections}
use Rattle.sheet_writer.proofs.write_text.Goals as goal

pub write_after_supply-requires : goal.write_after_supply-requires
unfolding bytes
write_after_supply-requires c =
    let room = rw (accepted-sections c.requires.0) at c.requires.1 in
    (sinks-some _ c.requires.0.limits, second-room (begun _ _ room c.write_section-at.ensures))

pub returns : goal.returns
unfolding bytes
returns c =
    let room = rw (accepted-sections c.requires.0) at c.requires.1 in
    rw (accepted-sections c.requires.0)
    (both (begun _ _ room c.write_section-at.ensures) _ _ c.write_after_supply.ensures)

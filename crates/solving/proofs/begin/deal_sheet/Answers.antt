-- The amounts of those left are those of the problem behind the sheet, whatever its costs are.
use Rattle.transport.proofs.Sound.{sound}
use Rattle.solving.specs.First.{first-sound, first_dealt}
use Rattle.solving.proofs.begin.deal_sheet.Goals as goal

pub first_tableau-tableau-requires : goal.first_tableau-tableau-requires
first_tableau-tableau-requires c =
    let h = c.number_parties-parties.ensures c.requires.0 in
    first-sound (sound c.requires.1) (rw c.supplies.ensures h.supplies) (rw c.demands.ensures h.demands)

pub returns : goal.returns
returns c = λ cost ok.
    first_dealt (c.number_parties-parties.ensures cost) c.supplies.ensures c.demands.ensures c.first_tableau-tableau.ensures

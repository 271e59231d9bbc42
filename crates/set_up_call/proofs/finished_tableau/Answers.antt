-- The rounds come from the start to the finished tableau.
use Rattle.solving.specs.Stored.{sheet-finished}
use Rattle.set_up_call.proofs.finished_tableau.Goals as goal

pub begin_sheet-parties-requires : goal.begin_sheet-parties-requires
begin_sheet-parties-requires c = record { accepted = c.requires; empty = c.new-board.ensures.empty }

pub finish-requires : goal.finish-requires
finish-requires c = (_, _, c.begin_sheet-parties.ensures.admitted.begun)

pub last_tableau-requires : goal.last_tableau-requires
last_tableau-requires c =
    let w = c.begin_sheet-parties.ensures.admitted in
    (_, _, _, _, _, sheet-finished w (c.finish.ensures.ran _ _ w.begun))

pub returns : goal.returns
returns c =
    let w = c.begin_sheet-parties.ensures.admitted in
    c.last_tableau.ensures _ _ _ _ _ (sheet-finished w (c.finish.ensures.ran _ _ w.begun))

-- The rounds come from the start to the finished tableau, whose prices and settled plan are then written.
use Rattle.solving.specs.Stored.{sheet-finished}
use Rattle.solving.proofs.checked.solve_checked.Goals as goal

pub begin_sheet-parties-requires : goal.begin_sheet-parties-requires
begin_sheet-parties-requires c = record { accepted = c.requires.accepted; empty = c.new-board.ensures.empty }

pub finish-rounds-requires : goal.finish-rounds-requires
finish-rounds-requires c = (_, _, c.begin_sheet-parties.ensures.admitted.begun)

pub store_solution-requires-clause-finished : goal.store_solution-requires-clause-finished
store_solution-requires-clause-finished c =
    let w = c.begin_sheet-parties.ensures.admitted in
    (_, _, _, sheet-finished w (c.finish-rounds.ensures.ran _ _ w.begun))

pub returns : goal.returns
returns c =
    let w = c.begin_sheet-parties.ensures.admitted in
    c.store_solution.ensures.stored _ _ _ (sheet-finished w (c.finish-rounds.ensures.ran _ _ w.begun))

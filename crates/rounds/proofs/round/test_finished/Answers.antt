use Rattle.prelude.specs.Words.{arith}
use Rattle.rounds.specs.Kept.{in_range, scanned_done}
use Rattle.rounds.specs.Begun.{begun-sides, begun-room, begun-priced}
use Rattle.rounds.proofs.round.test_finished.Goals as goal

pub overflow_add-m : goal.overflow_add-m
overflow_add-m c = let s = begun-sides c.requires.4 in omega (arith, s.rows_high, s.cols_high)

pub potentials-requires-clause-strikes_in_room : goal.potentials-requires-clause-strikes_in_room
potentials-requires-clause-strikes_in_room c = begun-room c.requires.4

pub scan_slacks-slack-requires : goal.scan_slacks-slack-requires
scan_slacks-slack-requires c = let v = c.potentials.ensures in in_range (begun-priced c.requires.4 v.0 v.1)

pub entering-requires-clause-in_range : goal.entering-requires-clause-in_range
entering-requires-clause-in_range c = let v = c.potentials.ensures in in_range (begun-priced c.requires.4 v.0 v.1)

pub returns : goal.returns
returns c P T q e d =
    let v = c.potentials.ensures in
    scanned_done (begun-priced d v.0 v.1) _ _ c.entering.ensures c.is_none.ensures

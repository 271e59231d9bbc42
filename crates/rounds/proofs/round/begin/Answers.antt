-- The potentials by the strikes are the prices, and the strikes plant the tree.
use Rattle.prelude.specs.Words.{arith}
use Rattle.rounds.specs.Kept.{in_range}
use Rattle.rounds.specs.Begun.{begun-sides, begun-room, begun-priced, begun_kept}
use Rattle.rounds.proofs.round.begin.Goals as goal

pub overflow_add-m : goal.overflow_add-m
overflow_add-m c = let s = begun-sides c.requires.4 in omega (arith, s.rows_high, s.cols_high)

pub potentials-requires-clause-strikes_in_room : goal.potentials-requires-clause-strikes_in_room
potentials-requires-clause-strikes_in_room c = begun-room c.requires.4

pub plant-requires-clause-le_m : goal.plant-requires-clause-le_m
plant-requires-clause-le_m c =
    let d = c.requires.4 in
    let s = begun-sides d in
    (s.rows_low, s.rows_high, s.cols_high)

pub scan_slacks-requires : goal.scan_slacks-requires
scan_slacks-requires c = let v = c.potentials.ensures in in_range (begun-priced c.requires.4 v.0 v.1)

pub returns-clause-kept : goal.returns-clause-kept
returns-clause-kept c P T q e d =
    let v = c.potentials.ensures in
    let same = c.plant.ensures.same_strikes.2 in
    rw same (begun_kept d v.0 v.1 (rw same at (c.plant.ensures.tree _ d.loaded.struck)) c.scan_slacks.ensures)

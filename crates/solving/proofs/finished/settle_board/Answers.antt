-- Settling starts from the tight lanes, and ends with the bags of the optimal plan.
use Rattle.prelude.specs.Words.{arith}
use Rattle.tableaux.specs.PlanView.{supplies, demands}
use Rattle.board.specs.Arrays.{sound-sides}
use Rattle.board.specs.Drawing.{lane-rows}
use Rattle.solving.specs.Finished.{judged-finished, finished_ranged, finished_settleable, settled-bags}
use Rattle.solving.proofs.finished.settle_board.Goals as goal

pub overflow_add-m : goal.overflow_add-m
overflow_add-m c =
    let (P, T, e, j, costs) = c.requires in
    let s = sound-sides j.board.sound j.board.rows j.board.columns in
    omega (arith, s.rows_high, s.cols_high)

pub draw-requires : goal.draw-requires
draw-requires c =
    let (P, T, e, j, costs) = c.requires in
    let s = sound-sides j.board.sound j.board.rows j.board.columns in
    (s.rows_high, omega (arith, s.rows_high, s.cols_high), lane-rows j.board)

pub tight_lanes-requires : goal.tight_lanes-requires
tight_lanes-requires c =
    let (P, T, e, j, costs) = c.requires in
    finished_ranged (judged-finished j costs c.draw.ensures)

pub settle_lanes-requires : goal.settle_lanes-requires
settle_lanes-requires c =
    let (P, T, e, j, costs) = c.requires in
    (supplies P, demands P, finished_settleable (judged-finished j costs c.draw.ensures) c.tight_lanes.ensures)

pub returns-clause-settled : goal.returns-clause-settled
returns-clause-settled c = λ P T e j costs.
    let f = judged-finished j costs c.draw.ensures in
    let tight = c.tight_lanes.ensures in
    settled-bags f tight c.settle_lanes.new.q (c.settle_lanes.ensures (supplies P) (demands P) (finished_settleable f tight))

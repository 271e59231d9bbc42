-- What load_sheet refuses is refused; else a round is made, on a tableau that is finished or not.
use Rattle.std.proofs.lemmas.Result.{err_from_is_err_and}
use Rattle.transport.specs.Sheet.{sheet_of}
use Rattle.numbering.specs.Lent.{own-within, own-lent}
use Rattle.board.specs.Drawing.{board-belongs}
use Rattle.round_call.specs.Round.{call-refused, call-finished, call-moved, round-priced}
use Rattle.round_call.proofs.round.Goals as goal

pub returns-in_err-parties : goal.returns-in_err-parties
returns-in_err-parties c =
    let p = err_from_is_err_and c.from_residual.result c.from_residual.ensures.1 in
    let S = sheet_of c.args.supply.now c.args.demand.now c.args.cost.now in
    rw (p.1, p.2) (call-refused S c.args.t _ c.in_err-parties.ensures.loaded)

pub finished_round-requires : goal.finished_round-requires
finished_round-requires c =
    let w = c.in_ok-parties.ensures.loaded.1 in
    let r = c.make_round-finished.ensures.rounded _ _ w.begun in
    (_, round-priced w.accepted w.parties r c.row_numbers-rows.ensures c.column_numbers-columns.ensures)

pub returns-then-finished : goal.returns-then-finished
returns-then-finished c =
    let S = sheet_of c.args.supply.now c.args.demand.now c.args.cost.now in
    let w = c.in_ok-parties.ensures.loaded.1 in
    let r = rw c.if-finished.true at (c.make_round-finished.ensures.rounded _ _ w.begun) in
    let priced = round-priced w.accepted w.parties r c.row_numbers-rows.ensures c.column_numbers-columns.ensures in
    rw (c.finished_round.ensures _ priced) (call-finished S c.args.t c.in_ok-parties.ensures.loaded.0 r.done)

pub own_tableau-own-requires : goal.own_tableau-own-requires
own_tableau-own-requires c =
    let w = c.in_ok-parties.ensures.loaded.1 in
    let board = (c.make_round-finished.ensures.rounded _ _ w.begun).board in (
      _,
      c.gather-next.ensures _ _ (_, _, board),
      rw (c.row_numbers-rows.ensures, c.column_numbers-columns.ensures)
          (own-within w.accepted w.parties (board-belongs board)),
    )

pub returns : goal.returns
returns c =
    let S = sheet_of c.args.supply.now c.args.demand.now c.args.cost.now in
    let w = c.in_ok-parties.ensures.loaded.1 in
    let r = rw c.if-finished.false at (c.make_round-finished.ensures.rounded _ _ w.begun) in
    let own = c.own_tableau-own.ensures _ (c.gather-next.ensures _ _ (_, _, r.board)) in
    rw (own, c.row_numbers-rows.ensures, c.column_numbers-columns.ensures, own-lent w.accepted w.parties)
    (call-moved S c.args.t c.in_ok-parties.ensures.loaded.0 r.done)

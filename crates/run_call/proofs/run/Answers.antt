-- What load_sheet refuses is refused; else a run is made, whatever its allowance.
use Rattle.std.proofs.lemmas.Result.{err_from_is_err_and}
use Rattle.transport.specs.Sheet.{sheet_of}
use Rattle.numbering.specs.Lent.{own-within, own-lent}
use Rattle.board.specs.Drawing.{board-belongs}
use Rattle.run_call.specs.Run.{call-refused, call-given}
use Rattle.run_call.proofs.run.Goals as goal

pub returns-in_err-parties : goal.returns-in_err-parties
returns-in_err-parties c =
    let p = err_from_is_err_and c.from_residual.result c.from_residual.ensures.1 in
    let S = sheet_of c.args.supply.now c.args.demand.now c.args.cost.now in
    rw (p.1, p.2) (call-refused S c.args.t c.args.allowance _ c.in_err-parties.ensures.loaded)

pub own_tableau-own-requires : goal.own_tableau-own-requires
own_tableau-own-requires c =
    let w = c.in_ok-parties.ensures.loaded.1 in
    let board = (c.make_run-end.ensures.ended _ _ w.begun).board in (
      _,
      c.gather-last.ensures _ _ (_, _, board),
      rw (c.row_numbers.ensures, c.column_numbers.ensures) (own-within w.accepted w.parties (board-belongs board)),
    )

pub returns : goal.returns
returns c =
    let S = sheet_of c.args.supply.now c.args.demand.now c.args.cost.now in
    let w = c.in_ok-parties.ensures.loaded.1 in
    let r = c.make_run-end.ensures.ended _ _ w.begun in
    let own = c.own_tableau-own.ensures _ (c.gather-last.ensures _ _ (_, _, r.board)) in
    rw (c.ended_run.ensures _ own, c.row_numbers.ensures, c.column_numbers.ensures, own-lent w.accepted w.parties)
    (call-given S c.args.t c.args.allowance c.in_ok-parties.ensures.loaded.0 c.from-within.ensures r.done r.rounds)

-- What the sections say is a case of the call, and a sheet that was read is left to store_sheet.
use Rattle.std.proofs.lemmas.Result.{err_from_is_err_and}
use Rattle.sheet_store.specs.ReadCall.{read_stuck, read_got}
use Rattle.sheet_reader.proofs.read_sheet.Goals as goal

pub returns-in_err-sources : goal.returns-in_err-sources
returns-in_err-sources c =
    let p = err_from_is_err_and c.from_residual.result c.from_residual.ensures.1 in
    let e = c.in_err-sources.ensures in
    rw (p.1, p.2) (read_stuck _ _ _ _ _ e.fits e.reads)

pub returns : goal.returns
returns c = read_got _ _ _ _ _ _ c.in_ok-sources.ensures.reads _ _ _ _ c.store_sheet-stored.ensures

-- What the sheet check refuses is refused, and else the tableau is tested and loaded.
use Rattle.prelude.specs.Words.{sym, ◌∙◌}
use Rattle.std.proofs.lemmas.Result.{err_from_is_err_and}
use Rattle.transport.specs.Sheet.{sheet_of}
use Rattle.transport.specs.Laws.SheetLaws.{accepted}
use Rattle.sheet.specs.Check.{accepted-none, refused-some}
use Rattle.loading.specs.Loading.{sheet-refused}
use Rattle.loading.proofs.load_sheet.Goals as goal

pub returns-in_err-check_sheet-clause-loaded : goal.returns-in_err-check_sheet-clause-loaded
returns-in_err-check_sheet-clause-loaded c =
    let p = err_from_is_err_and c.from_residual.result c.from_residual.ensures.1 in
    let S = sheet_of c.args.supply.now c.args.demand.now c.args.cost.now in
    let refuses = refused-some _ _ (sym c.check_sheet.ensures ∙ c.in_err-check_sheet.was) in
    rw (p.1, p.2) (sheet-refused S c.args.t _ refuses)

pub load_tableau-requires : goal.load_tableau-requires
load_tableau-requires c =
    let S = sheet_of c.args.supply.now c.args.demand.now c.args.cost.now in
    record { accepted = accepted S (accepted-none _ (sym c.check_sheet.ensures ∙ c.in_ok-check_sheet.was)); empty = c.requires }

-- What load_sheet refuses is refused; else the tableau is finished, or refused for it.
use Rattle.prelude.specs.Words.{◌∙◌}
use Rattle.std.proofs.lemmas.Result.{err_from_is_err_and}
use Rattle.transport.specs.Sheet.{sheet_of}
use Rattle.loading.specs.Loading.{early_refused, unfinished-refused, finished-passes}
use Rattle.loading.proofs.load_finished.Goals as goal

pub returns-in_err-parties-clause-loaded : goal.returns-in_err-parties-clause-loaded
returns-in_err-parties-clause-loaded c =
    let p = err_from_is_err_and c.from_residual.result c.from_residual.ensures.1 in
    let S = sheet_of c.args.supply.now c.args.demand.now c.args.cost.now in
    rw (p.1, p.2) (early_refused S c.args.t _ c.in_err-parties.ensures.loaded)

pub test_finished-requires : goal.test_finished-requires
test_finished-requires c = (_, _, _, _, c.in_ok-parties.ensures.loaded.1.begun)

pub returns-then-not-test_finished-clause-loaded : goal.returns-then-not-test_finished-clause-loaded
returns-then-not-test_finished-clause-loaded c =
    let S = sheet_of c.args.supply.now c.args.demand.now c.args.cost.now in
    let admitted = c.in_ok-parties.ensures.loaded in
    unfinished-refused S c.args.t admitted.0 (c.test_finished.ensures _ _ _ _ admitted.1.begun ∙ c.if-not-test_finished.true)

pub returns-clause-loaded : goal.returns-clause-loaded
returns-clause-loaded c =
    let S = sheet_of c.args.supply.now c.args.demand.now c.args.cost.now in
    let admitted = c.in_ok-parties.ensures.loaded in
    (finished-passes S c.args.t admitted.0 (c.test_finished.ensures _ _ _ _ admitted.1.begun ∙ c.if-not-test_finished.false), admitted.1, admitted.2)

-- The edited sheet is refused, or solved from where the edit begins.
use Rattle.prelude.specs.Words.{sym, ◌∙◌, arith}
use Rattle.std.proofs.lemmas.Result.{err_from_is_err_and}
use Rattle.transport.specs.Sheet.{sheet_of, roasteries, cafes}
use Rattle.transport.specs.Laws.SheetLaws.{accepted}
use Rattle.transport.specs.Laws.Sound.{sources-room, sinks-room}
use Rattle.tree.specs.Layout.{stride-is}
use Rattle.sheet.specs.Check.{accepted-none, refused-some}
use Rattle.solving.specs.Rooms.{tests-none}
use Rattle.solving.specs.Told.{told-by}
use Rattle.editing.specs.SolvedAs.{sheet-refused, room-refused}
use Rattle.editing.proofs.solve.carry_out.Goals as goal

pub returns-in_err-check_edited : goal.returns-in_err-check_edited
returns-in_err-check_edited c = λ S T w a.
    let p = err_from_is_err_and c.from_residual.result c.from_residual.ensures.1 in
    let edited = sheet_of c.args.supply.now c.args.demand.now c.args.cost.now in
    let refuses = refused-some _ _ (sym c.check_edited.ensures ∙ c.in_err-check_edited.was) in
    rw (p.1, p.2) (sheet-refused edited _ _ _ _ _ refuses)

pub missing_room-requires : goal.missing_room-requires
unfolding roasteries cafes
missing_room-requires c =
    let edited = sheet_of c.args.supply.now c.args.demand.now c.args.cost.now in
    let limits = (accepted edited (accepted-none _ (sym c.check_edited.ensures ∙ c.in_ok-check_edited.was))).limits in (
      omega (arith, stride-is, limits.roasteries_high, sources-room),
      omega (arith, stride-is, limits.cafes_high, sinks-room),
    )

pub returns-then-missing_room-gt0 : goal.returns-then-missing_room-gt0
unfolding roasteries cafes
returns-then-missing_room-gt0 c = λ S T w a.
    let edited = sheet_of c.args.supply.now c.args.demand.now c.args.cost.now in
    let passed = accepted-none _ (sym c.check_edited.ensures ∙ c.in_ok-check_edited.was) in
    room-refused edited _ _ _ _ passed (omega arith)

pub begin_edit-begun-requires-clause-accepted : goal.begin_edit-begun-requires-clause-accepted
begin_edit-begun-requires-clause-accepted c =
    let edited = sheet_of c.args.supply.now c.args.demand.now c.args.cost.now in
    accepted edited (accepted-none _ (sym c.check_edited.ensures ∙ c.in_ok-check_edited.was))

pub returns : goal.returns
unfolding roasteries cafes
returns c = λ S T w a.
    let edited = sheet_of c.args.supply.now c.args.demand.now c.args.cost.now in
    let passed = accepted-none _ (sym c.check_edited.ensures ∙ c.in_ok-check_edited.was) in
    let (answer, last) = c.solve_from.ensures _ (c.begin_edit-begun.ensures.admitted S T w a) in
    let rooms = tests-none edited _ _ _ _ passed (omega arith, omega arith, omega arith) in
    record { told = told-by rooms answer; tableau = last }

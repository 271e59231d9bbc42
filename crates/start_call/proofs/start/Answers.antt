-- Each way out is a case of the call; the first tableau is the start of the problem of the parties left, whatever its costs, under their own numbers.
use Rattle.std.specs.Prelude.{◌≡◌}
use Rattle.prelude.specs.Words.{sym, ◌∙◌, rules, List, ℕ, take}
use Rattle.std.proofs.lemmas.Result.{err_from_is_err_and}
use Rattle.transport.proofs.Sound.{sound}
use Rattle.transport.specs.Sheet.{Sheet, sheet_of}
use Rattle.transport.specs.Parties.{problem_of}
use Rattle.transport.specs.Tableau.{tableau_of, start}
use Rattle.transport.specs.declared.Tableau.{Tableau}
use Rattle.transport.specs.Laws.SheetLaws.{accepted}
use Rattle.tableaux.specs.Starting.{start-belongs}
use Rattle.sheet.specs.Check.{accepted-none, refused-some}
use Rattle.parties.specs.Parties.{PartiesOf, parties-numbers}
use Rattle.parties.specs.declared.Parties.{Parties}
use Rattle.dealing.specs.Corner.{costless, sound-costless, sound-turned, start-costless}
use Rattle.numbering.specs.Lent.{own-within, own-lent}
use Rattle.start_call.specs.Start.{start-refused, start-given}
use Rattle.start_call.proofs.start.Goals as goal

pub returns-in_err-check_sheet : goal.returns-in_err-check_sheet
returns-in_err-check_sheet c =
    let p = err_from_is_err_and c.from_residual.result c.from_residual.ensures.1 in
    let refuses = refused-some _ _ (sym c.check_sheet.ensures ∙ c.in_err-check_sheet.was) in
    rw (p.1, p.2) (start-refused (sheet_of c.args.supply.now c.args.demand.now c.args.cost.now) _ refuses)

pub number_parties-parties-requires : goal.number_parties-parties-requires
number_parties-parties-requires c =
    let S = sheet_of c.args.supply.now c.args.demand.now c.args.cost.now in
    (S.cost, accepted S (accepted-none _ (sym c.check_sheet.ensures ∙ c.in_ok-check_sheet.was)))

-- This holds whichever side comes first: a program that changes them (must-fail/sides_changed) fails where its tableau gets own numbers.
pub first_tableau-first-requires : goal.first_tableau-first-requires
first_tableau-first-requires c =
    let S = sheet_of c.args.supply.now c.args.demand.now c.args.cost.now in
    let ok = accepted S (accepted-none _ (sym c.check_sheet.ensures ∙ c.in_ok-check_sheet.was)) in
    let h = c.number_parties-parties.ensures S.cost in
    let P = problem_of S in
    rw (c.supplies.ensures, c.demands.ensures, h.supplies, h.demands) (search (rules, sound-costless P (sound ok), sound-turned P (sound ok)))

-- The first tableau is the start of the problem of those left ..
first-is : {S : Sheet} {p : Parties} {supplies demands : List ℕ} {t : Tableau} → PartiesOf S p
    → supplies ≡ take p.rows p.supplies → demands ≡ take p.columns p.demands
    → t ≡ tableau_of (start (costless supplies demands)) → t ≡ tableau_of (start (problem_of S))
first-is {S} h s d e = e ∙ rw (s, d, h.supplies, h.demands, start-costless (problem_of S))

pub own_tableau-own-requires : goal.own_tableau-own-requires
own_tableau-own-requires c =
    let S = sheet_of c.args.supply.now c.args.demand.now c.args.cost.now in
    let ok = accepted S (accepted-none _ (sym c.check_sheet.ensures ∙ c.in_ok-check_sheet.was)) in
    let h = c.number_parties-parties.ensures S.cost in
    let within = own-within ok (parties-numbers h) (start-belongs (problem_of S) (sound ok)) in
    (_, first-is h c.supplies.ensures c.demands.ensures c.first_tableau-first.ensures, rw (c.row_numbers.ensures, c.column_numbers.ensures) within)

-- .. and gets their own numbers.
pub returns : goal.returns
returns c =
    let S = sheet_of c.args.supply.now c.args.demand.now c.args.cost.now in
    let passed = accepted-none _ (sym c.check_sheet.ensures ∙ c.in_ok-check_sheet.was) in
    let h = c.number_parties-parties.ensures S.cost in
    let first = first-is h c.supplies.ensures c.demands.ensures c.first_tableau-first.ensures in
    let numbers = own-lent (accepted S passed) (parties-numbers h) in
    rw (c.own_tableau-own.ensures _ first, c.row_numbers.ensures, c.column_numbers.ensures, numbers)
    (start-given S passed)

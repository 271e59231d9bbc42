-- What is stored is what the edit says, and what stood there before takes it back.
use Rattle.std.specs.Prelude.{◌+◌, ◌*◌, ◌<◌}
use Rattle.prelude.specs.Words.{refl, ap, ◌∙◌, ℕ, ℤ, pos, arith, length, set, get_or, rules}
use mir.Syntax.{w64}
use Rattle.transport.specs.declared.Change.TheVariants as Change
use Rattle.transport.specs.declared.Edit.{Edit}
use Rattle.transport.specs.Problem.{place}
use Rattle.transport.specs.Sheet.{Sheet, sheet_of, cafes}
use Rattle.transport.specs.Laws.ProblemLaws.{place-below}
use Rattle.transport.specs.Laws.RangeLaws.{back}
use Rattle.edit_steps.specs.Edits.{set-cost, set-amounts, cost-back, amounts-back}
use Rattle.edit_steps.proofs.lists.set_lists.Goals as goal

pub returns-in-Cost : goal.returns-in-Cost
unfolding cafes place
returns-in-Cost c =
    let a = c.args in
    let S : Sheet = sheet_of a.supply.now a.demand.now a.cost.now in
    let l : ℕ = a.e.row * length a.demand.now + a.e.col in
    let inside = place-below _ (length a.demand.now) a.e.row a.e.col c.requires.row c.requires.col in
    let below : l < length a.cost.now = omega (arith, inside, c.requires.lanes) in
    let sets : ℤ → Edit = λ x. record { row = a.e.row; col = a.e.col; change = Change.Cost x } in
    let new = ap (λ x. sheet_of a.supply.now a.demand.now (set a.cost.now l x)) (back w64 c.in-Cost.c (search rules)) in
    let old = ap sets (back w64 (get_or a.cost.now l (pos 0)) (search rules)) in
    (new ∙ set-cost S a.e c.in-Cost.is, cost-back S a.e _ c.in-Cost.is below old, refl, refl)

pub returns-in-Amounts : goal.returns-in-Amounts
returns-in-Amounts c =
    let S : Sheet = sheet_of c.args.supply.now c.args.demand.now c.args.cost.now in
    let is = c.in-Amounts.is in
    (set-amounts S c.args.e is, amounts-back S c.args.e _ is c.requires.row c.requires.col refl, refl, refl)

-- The amounts are tested, and of the costs the new one, which has a place in the list.
use Rattle.std.specs.Prelude.{◌≡◌, ◌+◌, ◌-◌, ◌*◌}
use Rattle.prelude.specs.Words.{sym, ap, ◌∙◌, List, ℕ, arith, length, take, drop}
use Rattle.transport.specs.Problem.{place}
use Rattle.transport.specs.Sheet.{roasteries, cafes}
use Rattle.transport.specs.Laws.Sound.{sources-room, sinks-room}
use Rattle.sheet.specs.Check.{check_answer}
use Rattle.edit_steps.specs.Edits.{same-supply, same-demand, new-placed, same-roasteries, same-cafes}
use Rattle.edit_steps.specs.Edits.{amounts-tests, cost-tests}
use Rattle.edit_steps.proofs.lists.check_edited.Goals as goal

pub overflow_mul-new : goal.overflow_mul-new
overflow_mul-new c = let (S, w) = c.requires in omega (arith, new-placed w c.in-Cost.is)

pub overflow_add-new : goal.overflow_add-new
overflow_add-new c = let (S, w) = c.requires in omega (arith, new-placed w c.in-Cost.is)

pub overflow_add-new-in-Cost : goal.overflow_add-new-in-Cost
overflow_add-new-in-Cost c = let (S, w) = c.requires in omega (arith, new-placed w c.in-Cost.is)

pub offset_bounds-cost-new : goal.offset_bounds-cost-new
offset_bounds-cost-new c = let (S, w) = c.requires in omega (arith, new-placed w c.in-Cost.is)

pub slice_bounds-check_numbers-end : goal.slice_bounds-check_numbers-end
slice_bounds-check_numbers-end c = let (S, w) = c.requires in omega (arith, new-placed w c.in-Cost.is)

pub check_numbers-requires : goal.check_numbers-requires
unfolding roasteries cafes
check_numbers-requires c =
    let (S, w) = c.requires in
    let is = c.in-Cost.is in
    let limits = w.accepted.limits in (
      omega (arith, limits.roasteries_high, sources-room, ap length (same-supply w is)),
      omega (arith, limits.cafes_high, sinks-room, ap length (same-demand w is)),
    )

pub check_numbers-requires-in-Amounts : goal.check_numbers-requires-in-Amounts
unfolding roasteries cafes
check_numbers-requires-in-Amounts c =
    let (S, w) = c.requires in
    let is = c.in-Amounts.is in
    let limits = w.accepted.limits in (
      omega (arith, limits.roasteries_high, sources-room, same-roasteries w is),
      omega (arith, limits.cafes_high, sinks-room, same-cafes w is),
    )

pub returns-in-Cost : goal.returns-in-Cost
unfolding place cafes
returns-in-Cost c =
    let (S, w) = c.requires in
    let is = c.in-Cost.is in
    let a = c.args in
    let l : ℕ = a.edit.row * length a.demand.now + a.edit.col in
    let one : l + 1 - l ≡ 1 = omega arith in
    let new = ap (λ (k : ℕ). take k (drop l a.cost.now)) one
    ∙ ap (λ (d : List ℕ). take 1 (drop (a.edit.row * length d + a.edit.col) a.cost.now)) (same-demand w is) in
    c.check_numbers.ensures ∙ ap check_answer (sym (cost-tests w is _ new))

pub returns-in-Amounts : goal.returns-in-Amounts
returns-in-Amounts c =
    let (S, w) = c.requires in
    c.check_numbers-in-Amounts.ensures ∙ ap check_answer (sym (amounts-tests w c.in-Amounts.is))

-- Each way out is a case of the call.
use Rattle.std.specs.Prelude.{◌≡◌, ◌<◌}
use Rattle.prelude.specs.Words.{sym, ap, ◌∙◌, true, List, ℕ, ℤ, arith, mul-le-mul}
use Rattle.std.proofs.lemmas.Result.{err_from_is_err_and}
use Rattle.transport.specs.declared.Edit.{Edit}
use Rattle.transport.specs.Limits.{max_sources, max_sinks}
use Rattle.transport.specs.Sheet.{Sheet, sheet_of, roasteries, cafes}
use Rattle.transport.specs.Statements.{Accepted}
use Rattle.transport.specs.Standing.{edited, standing_tests}
use Rattle.edit_steps.specs.Edits.{Editable, editable_again, EditOf, may, may_names}
use Rattle.editing.specs.EditedAs.{edit_early, edit_unknown, edit_late, edit_solved}
use Rattle.editing.proofs.edit_lists.Goals as goal

pub returns-in_err-parties : goal.returns-in_err-parties
unfolding standing_tests
returns-in_err-parties c =
    let p = err_from_is_err_and c.from_residual.result c.from_residual.ensures.1 in
    rw (p.1, p.2) (edit_early _ _ _ _ _ _ c.in_err-parties.ensures.loaded)

pub returns-then-not-may_edit : goal.returns-then-not-may_edit
unfolding roasteries cafes standing_tests
returns-then-not-may_edit c =
    edit_unknown _ _ _ _ _ c.in_ok-parties.ensures.loaded.0 (sym c.may_edit.ensures ∙ c.if-not-may_edit.true)

-- ---- the edit may be made

module _ {S : Sheet} (ok : Accepted S) (e : Edit) (counter : ℕ)
    (known : may e.row (roasteries S) e.col (cafes S) counter ≡ true) where
  named : (e.row < roasteries S) × (e.col < cafes S)
  named = may_names _ _ _ _ _ known

  editable : Editable e S.supply S.demand S.cost
  unfolding roasteries cafes max_sources max_sinks
  editable =
      let product = mul-le-mul ok.limits.roasteries_high ok.limits.cafes_high in
      let lanes = ok.limits.cost_length in
      record { row = named.0; col = named.1; lanes = lanes; few = omega (arith, lanes, product) }

  edits : {supply demand : List ℕ} {cost : List ℤ} → sheet_of supply demand cost ≡ edited S e
      → EditOf S e supply demand cost
  edits lists = record { accepted = ok; row = named.0; col = named.1; lists = lists }

pub set_lists-back-requires : goal.set_lists-back-requires
unfolding roasteries cafes
set_lists-back-requires c =
    let known = sym c.may_edit.ensures ∙ c.if-not-may_edit.false in
    editable c.in_ok-parties.ensures.loaded.1.accepted c.args.edit _ known

pub carry_out-done-requires : goal.carry_out-done-requires
unfolding roasteries cafes
carry_out-done-requires c =
    let known = sym c.may_edit.ensures ∙ c.if-not-may_edit.false in
    let a = c.in_ok-parties.ensures.loaded.1 in
    (_, _, edits a.accepted c.args.edit _ known c.set_lists-back.ensures.0, a)

pub set_lists-requires : goal.set_lists-requires
unfolding roasteries cafes
set_lists-requires c =
    let (same, back, row, col) = c.set_lists-back.ensures in
    let kept = c.set_lists-back.auto in
    let known = sym c.may_edit.ensures ∙ c.if-not-may_edit.false in
    let before = editable c.in_ok-parties.ensures.loaded.1.accepted c.args.edit _ known in
    editable_again before row col kept.supply kept.demand kept.cost

pub returns-then-is_err : goal.returns-then-is_err
unfolding roasteries cafes standing_tests
returns-then-is_err c =
    let known = sym c.may_edit.ensures ∙ c.if-not-may_edit.false in
    let (clear, admitted, parties) = c.in_ok-parties.ensures.loaded in
    let (same, undone, row, col) = c.set_lists-back.ensures in
    let as_it_was = c.set_lists.ensures.0 ∙ ap (λ (R : Sheet). edited R c.set_lists-back.result) same ∙ undone in
    let done = c.carry_out-done.ensures _ _ (edits admitted.accepted c.args.edit _ known same) admitted in
    edit_late _ _ _ _ _ clear known same done
    (sym c.is_err.ensures.value ∙ c.if-is_err.true) as_it_was

pub returns-else-is_err : goal.returns-else-is_err
unfolding roasteries cafes standing_tests
returns-else-is_err c =
    let known = sym c.may_edit.ensures ∙ c.if-not-may_edit.false in
    let (clear, admitted, parties) = c.in_ok-parties.ensures.loaded in
    let same = c.set_lists-back.ensures.0 in
    let done = c.carry_out-done.ensures _ _ (edits admitted.accepted c.args.edit _ known same) admitted in
    edit_solved _ _ _ _ _ clear known same done (sym c.is_err.ensures.value ∙ c.if-is_err.false)

-- Each way out is a case of the call; the sections that are written are those of what solve found.
use Rattle.std.proofs.Common.{sym, ap, ◌∙◌, length, length-take, to_z-of_z, SFits, w64, arith, rules}
use Rattle.std.proofs.lemmas.Result.{err_from_is_err_and}
use Rattle.transport.specs.Limits.{max_side}
use Rattle.transport.specs.Sheet.{roasteries, cafes, sheet_of}
use Rattle.transport.specs.PlanText.{plan_text, write_plan_call}
use Rattle.sections.specs.WriteCall.{wrote_check, wrote_short, wrote_given}
use Rattle.plan_text.specs.Solved.{solved, sides, found_sections, refused-check}
use Rattle.plan_text.proofs.writer.write_plan.Goals as goal

pub returns-in_err-total : goal.returns-in_err-total
unfolding write_plan_call max_side
returns-in_err-total c =
    let S = sheet_of c.args.supply.now c.args.demand.now c.args.cost.now in
    let p = err_from_is_err_and c.from_residual.result c.from_residual.ensures.1 in
    let refuses = refused-check S _ (sym c.in_err-total.was ∙ c.solve.ensures.0) in
    rw (p.1, p.2) (wrote_check S (plan_text S) c.args.out.now _ refuses)

pub overflow_mul-lanes : goal.overflow_mul-lanes
unfolding max_side
overflow_mul-lanes c = omega (arith, sides (solved _ _ _ c.in_ok-total.was c.solve.ensures))

-- The needs of the slices hold whatever two sides the count of lanes is made of, so that a program
-- that leaves out lanes is refused by the contract.
pub slice_bounds-plan-end : goal.slice_bounds-plan-end
unfolding max_side
slice_bounds-plan-end c = omega (arith, sides (solved _ _ _ c.in_ok-total.was c.solve.ensures))

pub slice_bounds-plan-end-2 : goal.slice_bounds-plan-end-2
unfolding max_side
slice_bounds-plan-end-2 c =
    simp length-take (omega (arith, sides (solved _ _ _ c.in_ok-total.was c.solve.ensures)))

pub slice_bounds-u-end : goal.slice_bounds-u-end
unfolding max_side
slice_bounds-u-end c = omega (arith, sides (solved _ _ _ c.in_ok-total.was c.solve.ensures))

pub slice_bounds-sections-end : goal.slice_bounds-sections-end
unfolding max_side
slice_bounds-sections-end c =
    simp length-take (omega (arith, sides (solved _ _ _ c.in_ok-total.was c.solve.ensures)))

pub slice_bounds-v-end : goal.slice_bounds-v-end
unfolding max_side
slice_bounds-v-end c = omega (arith, sides (solved _ _ _ c.in_ok-total.was c.solve.ensures))

pub slice_bounds-sections-end-2 : goal.slice_bounds-sections-end-2
unfolding max_side
slice_bounds-sections-end-2 c =
    simp length-take (omega (arith, sides (solved _ _ _ c.in_ok-total.was c.solve.ensures)))

pub text_len-requires : goal.text_len-requires
unfolding max_side
text_len-requires c = simp length-take (omega (arith, sides (solved _ _ _ c.in_ok-total.was c.solve.ensures)))

pub returns-then-out-text_len : goal.returns-then-out-text_len
unfolding write_plan_call roasteries cafes max_side
returns-then-out-text_len c =
    let S = sheet_of c.args.supply.now c.args.demand.now c.args.cost.now in
    let f = solved _ _ _ c.in_ok-total.was c.solve.ensures in
    let fits : SFits w64 c.in_ok-total.field-0.cost = search rules in
    let text = found_sections f _ _ (to_z-of_z fits) c.used_count.ensures in
    wrote_short S (plan_text S) c.args.out.now f.passes (omega (arith, c.text_len.ensures, ap length text))

pub write_text-len-requires : goal.write_text-len-requires
unfolding max_side
write_text-len-requires c = simp length-take (omega (arith, sides (solved _ _ _ c.in_ok-total.was c.solve.ensures)))

pub returns : goal.returns
unfolding write_plan_call roasteries cafes max_side
returns c =
    let S = sheet_of c.args.supply.now c.args.demand.now c.args.cost.now in
    let f = solved _ _ _ c.in_ok-total.was c.solve.ensures in
    let fits : SFits w64 c.in_ok-total.field-0.cost = search rules in
    let text = found_sections f _ _ (to_z-of_z fits) c.used_count.ensures in
    let put = c.write_text-len.ensures in
    rw (put.0, put.1, ← text)
    (wrote_given S (plan_text S) c.args.out.now f.passes (omega (arith, c.text_len.ensures, ap length text)))

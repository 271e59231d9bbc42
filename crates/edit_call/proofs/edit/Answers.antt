-- Each way out is a case of the call.
use Rattle.std.specs.Prelude.{◌≡◌, ◌*◌, ◌≤◌, ◌<◌, ◌^◌}
use Rattle.prelude.specs.Words.{◌∙◌, arith, pos, length, rules, length-take-le}
use mir.Syntax.{w64}
use Rattle.transport.specs.declared.KeptSheet.{KeptSheet}
use Rattle.transport.specs.Limits.{max_sources, max_sinks}
use Rattle.transport.specs.Refusals.{number}
use Rattle.transport.specs.Standing.{max_counter, standing_of}
use Rattle.transport.specs.Laws.RangeLaws.{back}
use Rattle.transport.specs.Laws.StandingLaws.{kept_fronts, kept-written, spare-written}
use Rattle.edit_call.specs.Edit.{lanes-room, same_struct, says-rows, says-columns, edited-kept, says-refused, counts, says-done}
use Rattle.edit_call.proofs.edit.Goals.{then-m-gt-MAX_SOURCES-via-then-m-gt-MAX_SOURCES}
use Rattle.edit_call.proofs.edit.Goals.{then-m-gt-MAX_SOURCES-via-else-m-gt-MAX_SOURCES+then-n-gt-MAX_SINKS}
use Rattle.edit_call.proofs.edit.Goals as goal

pub returns-then-m-gt-MAX_SOURCES : goal.returns-then-m-gt-MAX_SOURCES
unfolding max_sources max_sinks
returns-then-m-gt-MAX_SOURCES c = let a = c.args in elim c.then-m-gt-MAX_SOURCES.branch [
  | then-m-gt-MAX_SOURCES-via-then-m-gt-MAX_SOURCES w ↦
      says-rows a.s a.e a.u.now a.v.now a.plan.now (omega arith) c.refused.ensures
  | then-m-gt-MAX_SOURCES-via-else-m-gt-MAX_SOURCES+then-n-gt-MAX_SINKS w ↦
      says-columns a.s a.e a.u.now a.v.now a.plan.now (omega arith) c.refused.ensures
]

-- The arrays have room for the sheet.
rooms : (k : KeptSheet) → (length k.supply ≡ 32) × (length k.demand ≡ 32) × (length k.cost ≡ 1024)
    → k.m ≤ 32 → k.n ≤ 32
    → (k.m ≤ length k.supply) × (k.n ≤ length k.demand) × (k.m * k.n ≤ length k.cost)
unfolding max_sources max_sinks
rooms k (s, d, c) m n = (omega arith, omega arith, omega (arith, lanes-room k.m k.n m n))

pub overflow_add-counter : goal.overflow_add-counter
unfolding max_counter
overflow_add-counter c =
    let a = c.args in
    let k = a.s.sheet in
    let (m, n, lanes) = rooms k (search rules, search rules, search rules) (omega arith) (omega arith) in
    let w = edited-kept a.s a.e a.u.now a.v.now a.plan.now (kept_fronts k m n lanes) c.edit_lists-done.ensures in
    let counter : a.s.counter < 2 ^ 64 = search rules in
    omega (arith, counter, counts a.s a.e a.u.now a.v.now a.plan.now (rw c.in-Ok.is at w))

pub returns : goal.returns
returns c =
    let a = c.args in
    let k = a.s.sheet in
    let (m, n, lanes) = rooms k (search rules, search rules, search rules) (omega arith) (omega arith) in
    let w = edited-kept a.s a.e a.u.now a.v.now a.plan.now (kept_fronts k m n lanes) c.edit_lists-done.ensures in
    let l = c.edit_lists-done.new in
    let kept = c.edit_lists-done.auto in
    let supply = kept.supply ∙ length-take-le _ _ m in
    let demand = kept.demand ∙ length-take-le _ _ n in
    let cost = kept.cost ∙ length-take-le _ _ lanes in
    says-done a.s a.e a.u.now a.v.now a.plan.now (rw c.in-Ok.is at w) _
    (kept-written k l.supply l.demand l.cost supply demand cost)
    (spare-written k l.supply l.demand l.cost supply demand cost)
    (back w64 c.in-Ok.done.answer.cost (search rules))

-- A refusal has given the lists back, and so the struct.
pub returns-in-Err : goal.returns-in-Err
unfolding standing_of
returns-in-Err c =
    let a = c.args in
    let k = a.s.sheet in
    let (m, n, lanes) = rooms k (search rules, search rules, search rules) (omega arith) (omega arith) in
    let w = rw c.in-Err.is at (edited-kept a.s a.e a.u.now a.v.now a.plan.now (kept_fronts k m n lanes)
    c.edit_lists-done.ensures) in
    let l = c.edit_lists-done.new in
    let kept = c.edit_lists-done.auto in
    let supply = kept.supply ∙ length-take-le _ _ m in
    let demand = kept.demand ∙ length-take-le _ _ n in
    let cost = kept.cost ∙ length-take-le _ _ lanes in
    let written = kept-written k l.supply l.demand l.cost supply demand cost in
    let same = same_struct k l.supply l.demand l.cost supply demand cost (m, n, lanes) (written ∙ w.stands) in
    says-refused a.s a.e a.u.now a.v.now a.plan.now w
    (c.refused-in-Err.ensures ∙ (λ i. record {
      refusal = number c.in-Err.refusal;
      cost = pos 0;
      rounds = 0;
      after = record { sheet = same i; tableau = a.s.tableau; counter = a.s.counter };
    }))

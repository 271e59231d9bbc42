use Rattle.std.specs.Prelude.{◌+◌, ◌<◌, ◌^◌, ◌≡◌}
use Rattle.prelude.specs.Words.{sym, ap, ◌∙◌, pos, nat_abs, get_or, set, arith, rules}
use mir.Syntax.{w64}
use mir.Val.{of_z}
use Rattle.transport.specs.Laws.RangeLaws.{diff_in, diff_back}
use Rattle.belonging.specs.FlowLaws.{flow-now, needed-room}
use Rattle.belonging.specs.Carried.{passed-more, carries_flow-true, carries_flow-false, eq_test}
use Rattle.belonging.proofs.flows.flows_match.Goals as goal
use Rattle.belonging.proofs.flows.flows_match.Goals.{In-loop-k}

pub returns-then-amount-basis : goal.returns-then-amount-basis
returns-then-amount-basis c =
    let i = c.loop-k in
    let now = flow-now c.requires.strikes_in_room (omega arith) i.invariant.needed in
    sym (carries_flow-false _ _ _ _ _ i.k (omega arith) (λ e. c.if-amount-basis.true (ap (of_z w64) (e ∙ now))))

-- What a leaf needs is small, and so is its neighbour's.
room : (c : In-loop-k) → let b = c.args.basis.now in let i = c.loop-k in
    let need = get_or i.weight (get_or b.leaf i.k 0) (pos 0) in
    nat_abs (get_or (set i.weight (get_or b.leaf i.k 0) (pos 0)) (get_or b.other i.k 0) (pos 0)) + nat_abs need < 2 ^ 63
room c = omega (arith, needed-room c.requires.strikes_in_room (omega arith) c.loop-k.invariant.needed)

pub overflow_sub-weight : goal.overflow_sub-weight
overflow_sub-weight c = search (rules, diff_in, room (goal.at.overflow_sub-weight c).In-loop-k)

pub loop-k-preserved : goal.loop-k-preserved
loop-k-preserved c =
    let b = c.args.basis.now in
    let i = c.loop-k in
    let need = get_or i.weight (get_or b.leaf i.k 0) (pos 0) in
    let e : get_or c.args.amount.now (get_or b.lane i.k 0) (pos 0) ≡ need = search (rules, eq_test) in
    rw (diff_back w64 _ need (room (goal.at.loop-k-preserved c).In-loop-k))
    (passed-more c.requires.strikes_in_room (omega arith) i.invariant c.requires.lanes_apart e)

pub returns : goal.returns
returns c =
    let i = c.loop-k in
    sym (carries_flow-true _ _ _ _ _ (λ k l. i.invariant.done k (omega arith)))

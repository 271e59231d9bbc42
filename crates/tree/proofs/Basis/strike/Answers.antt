use Rattle.std.specs.Prelude.{◌<◌, ◌≡◌}
use Rattle.prelude.specs.Words.{true, arith, rules, eq-eqb, get_or}
use Rattle.tree.specs.Layout.{node_room}
use Rattle.tree.specs.Mask.{bit}
use Rattle.tree.specs.Links.{tied}
use Rattle.tree.specs.Queue.{room}
use Rattle.tree.specs.State.{state-start, state-next, state-empty, state_lost}
use Rattle.tree.proofs.Basis.strike.Goals as goal
use Rattle.tree.proofs.Basis.strike.Goals.{In-loop-k}

pub loop-k-init : goal.loop-k-init
loop-k-init c =
    let f = c.first_leaves-tail.ensures in record {
      striking = state-start (omega arith) f.0 (omega arith) (omega arith) c.requires f.1;
      same_cuts = search rules;
    }

-- The queue has room for one node more.
tail-room : (c : In-loop-k) → c.loop-k.tail < node_room
tail-room c =
    let s = c.loop-k.invariant.striking in
    omega (arith, room (omega (arith, s.links.rows_low)) s.queue, s.links.rows_high, s.links.cols_high)

pub offset_bounds-self-k : goal.offset_bounds-self-k
offset_bounds-self-k c = omega (arith, tail-room (goal.at.offset_bounds-self-k c).In-loop-k)

pub bounds-self-k : goal.bounds-self-k
bounds-self-k c = omega (arith, tail-room (goal.at.bounds-self-k c).In-loop-k)

pub returns-then-lanes-eq0-clause-stripped : goal.returns-then-lanes-eq0-clause-stripped
returns-then-lanes-eq0-clause-stripped c B M = state_lost c.loop-k.invariant.striking B M c.loop-k-test.true c.if-lanes-eq0.true

pub offset_bounds-self-tail : goal.offset_bounds-self-tail
offset_bounds-self-tail c = omega (arith, tail-room (goal.at.offset_bounds-self-tail c).In-loop-k)

pub bounds-self-tail : goal.bounds-self-tail
bounds-self-tail c = tail-room (goal.at.bounds-self-tail c).In-loop-k

pub loop-k-preserved : goal.loop-k-preserved
loop-k-preserved c =
    let i = c.loop-k in
    let b = c.first_bit-bit in
    let node = get_or i.self.leaf i.k 0 in
    let chosen : tied i.live node b.result ≡ true = eq-eqb (bit (get_or i.live node 0) b.result) 1 b.ensures.1 in
    record {
      striking = rw (
        c.joins_queue-tail.ensures,
        c.clear_bit-rest.ensures,
        c.lane_to.ensures,
        c.own_bit.ensures,
        c.other_end-end.ensures,
      ) (state-next i.invariant.striking c.loop-k-test.true b.result chosen);
      same_cuts = search rules;
    }

pub overflow_add-tail : goal.overflow_add-tail
overflow_add-tail c = grind (arith, c.joins_queue-tail.ensures, tail-room (goal.at.overflow_add-tail c).In-loop-k)

pub returns-clause-stripped : goal.returns-clause-stripped
returns-clause-stripped c B M = state-empty c.loop-k.invariant.striking B M c.loop-k-test.false

use Rattle.prelude.specs.Words.{arith, ◌∙◌}
use Rattle.transport.specs.Amount.{nothing}
use Rattle.pivoting.specs.Pivoting.{pivot-room, loop-rows, loses_some, minus-slots, plus_slots, slot_room, held-inside}
use Rattle.pivoting.specs.Pivoting.{back_fits, minus-fits, plus_fits, pivot-is}
use Rattle.pivoting.proofs.pivot.pivot.Goals as goal

pub overflow_add-sink : goal.overflow_add-sink
overflow_add-sink c = omega (arith, pivot-room c.requires.3 c.requires.4)

pub overflow_mul-into : goal.overflow_mul-into
overflow_mul-into c = omega (arith, pivot-room c.requires.3 c.requires.4)

pub overflow_add-into : goal.overflow_add-into
overflow_add-into c = omega (arith, pivot-room c.requires.3 c.requires.4)

pub loop_slots-cycle-requires-clause-row_lt_node_room : goal.loop_slots-cycle-requires-clause-row_lt_node_room
loop_slots-cycle-requires-clause-row_lt_node_room c = omega (arith, pivot-room c.requires.3 c.requires.4)

pub loop_slots-cycle-requires-clause-by_index : goal.loop_slots-cycle-requires-clause-by_index
loop_slots-cycle-requires-clause-by_index c = loop-rows c.requires.3 c.requires.4

pub least_slot-s-requires-clause-slots_nonzero : goal.least_slot-s-requires-clause-slots_nonzero
least_slot-s-requires-clause-slots_nonzero c = loses_some c.requires.3 c.requires.4 c.loop_slots-cycle.ensures

pub least_slot-s-requires-clause-by_index : goal.least_slot-s-requires-clause-by_index
least_slot-s-requires-clause-by_index c = (minus-slots c.requires.3 c.requires.4 c.loop_slots-cycle.ensures).inside

pub offset_bounds-board-s : goal.offset_bounds-board-s
offset_bounds-board-s c =
    omega (arith, slot_room c.requires.3 c.requires.4 c.loop_slots-cycle.ensures c.least_slot-s.ensures)

pub bounds-board-s : goal.bounds-board-s
bounds-board-s c = slot_room c.requires.3 c.requires.4 c.loop_slots-cycle.ensures c.least_slot-s.ensures

pub pair_at-step-requires : goal.pair_at-step-requires
pair_at-step-requires c = held-inside c.requires.3 c.requires.4 c.loop_slots-cycle.ensures c.least_slot-s.ensures

pub sub-requires : goal.sub-requires
unfolding nothing
sub-requires c =
    rw c.pair_at-step.ensures
    (back_fits c.requires.3 c.requires.4 c.loop_slots-cycle.ensures c.least_slot-s.ensures)

pub carry-requires-clause-q_len : goal.carry-requires-clause-q_len
carry-requires-clause-q_len c =
    let b = c.requires.3 in
    (b.amounts.q_long, b.amounts.e_long, minus-slots b c.requires.4 c.loop_slots-cycle.ensures)

pub carry-requires-clause-by_index : goal.carry-requires-clause-by_index
unfolding nothing
carry-requires-clause-by_index c t i =
    rw (c.sub.ensures, c.pair_at-step.ensures)
    (minus-fits c.requires.3 c.requires.4 c.loop_slots-cycle.ensures c.least_slot-s.ensures t i)

pub carry-requires-2-clause-q_len : goal.carry-requires-2-clause-q_len
carry-requires-2-clause-q_len c =
    let b = c.requires.3 in
    let lost = c.carry.ensures in (
      lost.0.long ∙ b.amounts.q_long,
      lost.1.long ∙ b.amounts.e_long,
      plus_slots b c.requires.4 c.loop_slots-cycle.ensures,
    )

pub carry-requires-2-clause-by_index : goal.carry-requires-2-clause-by_index
unfolding nothing
carry-requires-2-clause-by_index c =
    let lost = c.carry.ensures in
    plus_fits c.requires.3 c.requires.4 c.loop_slots-cycle.ensures c.least_slot-s.ensures
    c.pair_at-step.ensures c.sub.ensures lost.0 lost.1

pub put_pair-requires : goal.put_pair-requires
put_pair-requires c = omega (arith, pivot-room c.requires.3 c.requires.4)

pub regraft-requires : goal.regraft-requires
regraft-requires c =
    let s = slot_room c.requires.3 c.requires.4 c.loop_slots-cycle.ensures c.least_slot-s.ensures in
    omega (arith, pivot-room c.requires.3 c.requires.4, s)

pub returns-clause-pivoted : goal.returns-clause-pivoted
unfolding nothing
returns-clause-pivoted c P T n b h =
    let lost = c.carry.ensures in
    let won = c.carry-2.ensures in
    rw (c.put_pair.ensures.0, c.put_pair.ensures.1)
    (pivot-is b h c.loop_slots-cycle.ensures c.least_slot-s.ensures c.pair_at-step.ensures c.sub.ensures
    lost.0 lost.1 won.0 won.1 c.regraft.ensures.regrafted)

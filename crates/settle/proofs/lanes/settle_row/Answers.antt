use Rattle.prelude.specs.Words.{arith}
use Rattle.augment.specs.Sets.{least_of}
use Rattle.settle.specs.Rows.{along-start, along-ends, along-here, along_goalless, along-dead, along_sought}
use Rattle.settle.specs.Rows.{along-decided}
use Rattle.settle.proofs.lanes.settle_row.Goals as goal

pub loop-todo-init : goal.loop-todo-init
loop-todo-init c = along-start

-- No goal is left.
pub returns-then-goal-eq0 : goal.returns-then-goal-eq0
returns-then-goal-eq0 c =
    along_goalless c.requires.p_lt_m c.requires.stage.2 c.loop-todo.invariant c.first_bit-b.result c.rest-todo.result
    (least_of c.first_bit-b.ensures) c.rest-todo.ensures c.if-goal-eq0.true

-- The column is not dead: it is decided.
pub decide-dead-requires-clause-stage : goal.decide-dead-requires-clause-stage
decide-dead-requires-clause-stage c = (
  c.requires.stage.0,
  c.requires.stage.1,
  (along-here c.requires.p_lt_m c.requires.stage.2 c.loop-todo.invariant c.first_bit-b.result c.rest-todo.result
      (least_of c.first_bit-b.ensures) c.rest-todo.ensures).stage c.requires.stage.2,
)

pub decide-dead-requires-clause-sought : goal.decide-dead-requires-clause-sought
decide-dead-requires-clause-sought c =
    along_sought c.requires.p_lt_m c.requires.stage.2 c.loop-todo.invariant c.first_bit-b.result c.rest-todo.result
    (least_of c.first_bit-b.ensures) c.rest-todo.ensures
    (cc (c.without-later.ensures, c.first_bits.ensures, c.first_bits-2.ensures))
    (λ h. cc)

pub loop-todo-preserved-then-not-has_bit : goal.loop-todo-preserved-then-not-has_bit
loop-todo-preserved-then-not-has_bit c =
    along-decided c.requires.p_lt_m c.requires.stage.2 c.loop-todo.invariant c.first_bit-b.result c.rest-todo.result
    (least_of c.first_bit-b.ensures) c.rest-todo.ensures
    c.decide-dead.result c.decide-dead.ensures.reaches c.decide-dead.ensures.dead

-- It is dead.
pub loop-todo-preserved : goal.loop-todo-preserved
loop-todo-preserved c =
    along-dead c.requires.p_lt_m c.requires.stage.2 c.loop-todo.invariant c.first_bit-b.result c.rest-todo.result
    (least_of c.first_bit-b.ensures) c.rest-todo.ensures (cc)

-- No column is left.
pub returns : goal.returns
returns c = along-ends c.requires.p_lt_m c.requires.stage.2 c.loop-todo.invariant (omega arith)

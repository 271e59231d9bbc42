-- The numbers are in range, so their bits are the numbers; the test is that of the last column.
use Rattle.std.specs.Prelude.{◌-◌}
use Rattle.prelude.specs.Words.{arith, eq-eqb, ne_eqb, length}
use Rattle.transport.specs.Lists.{at}
use Rattle.transport.specs.Limits.{max_amount, max_bags, max_side}
use Rattle.transport.specs.Problem.{sources, sinks}
use Rattle.transport.specs.Amount.{paired_demand_of}
use Rattle.dealing.specs.Corner.{bags-whole}
use Rattle.dealing.proofs.corner.paired_demand.Goals as goal

pub overflow_cast-q : goal.overflow_cast-q
unfolding at max_bags max_side max_amount
overflow_cast-q c = omega arith

pub overflow_cast-result : goal.overflow_cast-result
unfolding max_bags max_side max_amount
overflow_cast-result c = omega arith

pub returns-then-j-demand : goal.returns-then-j-demand
unfolding paired_demand_of at sources sinks
returns-then-j-demand c S e f =
    rw (
      e,
      f,
      eq-eqb c.args.j (length c.args.demand.now - 1) (omega arith),
      bags-whole c.requires.1,
      bags-whole c.requires.2,
    )

pub returns : goal.returns
unfolding paired_demand_of at sinks
returns c S e f = rw (
  e,
  ne_eqb c.args.j (length c.args.demand.now - 1) (λ l. c.if-j-demand.false (omega arith)),
  bags-whole c.requires.1,
)

use Rattle.std.specs.Prelude.{◌-◌}
use Rattle.prelude.specs.Words.{arith, lt-ltb, le-ltb, by_cases, dec_lt, length}
use Rattle.transport.specs.Limits.{max_side}
use Rattle.transport.specs.Lists.{at}
use Rattle.price_lists.proofs.column_count.Goals as goal

pub overflow_add-last : goal.overflow_add-last
unfolding at max_side
overflow_add-last c = omega arith

pub returns : goal.returns
unfolding at
returns c =
    let last = at c.args.cols.now (length c.args.cols.now - 1) in by_cases (dec_lt last c.args.cafes)
    (λ l. rw (lt-ltb last c.args.cafes l) (omega arith))
    (λ l. rw (le-ltb last c.args.cafes (omega arith)) (omega arith))

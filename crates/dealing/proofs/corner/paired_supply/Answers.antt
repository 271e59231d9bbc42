-- The supply is in range, so its bits are the number.
use Rattle.prelude.specs.Words.{arith}
use Rattle.transport.specs.Lists.{at}
use Rattle.transport.specs.Limits.{max_amount, max_bags, max_side}
use Rattle.transport.specs.Amount.{paired_supply_of}
use Rattle.dealing.specs.Corner.{bags-whole}
use Rattle.dealing.proofs.corner.paired_supply.Goals as goal

pub overflow_cast-result : goal.overflow_cast-result
unfolding at max_bags max_side max_amount
overflow_cast-result c = omega arith

pub returns : goal.returns
unfolding paired_supply_of at
returns c S e = rw (e, bags-whole c.requires.1)

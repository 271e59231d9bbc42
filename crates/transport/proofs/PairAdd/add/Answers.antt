-- Both sums are in range by `Fit`.
use Rattle.prelude.specs.Words.{rules}
use Rattle.transport.specs.Amount.{add}
use Rattle.transport.specs.Laws.RangeLaws.{sum_fits}
use Rattle.transport.proofs.PairAdd.add.Goals as goal

pub returns : goal.returns
unfolding add
returns c = search (rules, sum_fits)

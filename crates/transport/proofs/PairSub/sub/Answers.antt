-- Both differences are in range by `Fit`, that of the marks either way round.
use Rattle.prelude.specs.Words.{rules}
use Rattle.transport.specs.Amount.{subtract}
use Rattle.transport.specs.Laws.RangeLaws.{diff_fits}
use Rattle.transport.proofs.PairSub.sub.Goals as goal

pub returns : goal.returns
unfolding subtract
returns c = search (rules, diff_fits)

-- Whatever is printed fits.
use Rattle.std.proofs.Common.{arith, length}
use Rattle.transport.specs.PlanText.{printed, shown}
use Rattle.decimals.specs.Front.{front}
use Rattle.decimals.specs.Fitting.{fitting-fits}
use Rattle.display.specs.Longest.{printed-length}
use Rattle.panel.proofs.answer.Goals as goal

pub returns : goal.returns
unfolding shown front
returns c =
    let text = printed c.args.input.now in
    rw (fitting-fits (length c.args.out.now) text (omega (arith, c.requires, printed-length c.args.input.now))) at c.show.ensures

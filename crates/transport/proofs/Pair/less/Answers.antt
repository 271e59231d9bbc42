-- What is tested is `less` (`less-tests`).
use Rattle.prelude.specs.Words.{rules}
use mir.Syntax.{w64}
use Rattle.transport.specs.Laws.AmountLaws.{less-tests}
use Rattle.transport.specs.Laws.RangeLaws.{back}
use Rattle.transport.proofs.Pair.less.Goals as goal

pub returns : goal.returns
returns c =
    let x = c.args in
    rw (back w64 x.self.q (search rules), back w64 x.self.e (search rules), back w64 x.o.q (search rules), back w64 x.o.e (search rules))
    (less-tests x.self x.o)

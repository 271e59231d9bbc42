use Rattle.std.proofs.Common.{arith}
use Rattle.sections.specs.Lines.{numbers-next, numbers-end}
use Rattle.sections.proofs.section.numbers_len.Goals as goal

pub loop-number-preserved : goal.loop-number-preserved
loop-number-preserved g c =
    let i = c.loop-number.number-index in
    let next = numbers-next g.T.Decimal.text c.args.numbers.now i c.number-item.result (omega arith) in
    omega (arith, rw (← c.number-item.is) at next)

pub returns : goal.returns
returns g c = omega (arith, numbers-end g.T.Decimal.text c.args.numbers.now c.loop-number.number-index (omega arith))

use Rattle.prelude.specs.Words.{arith}
use Rattle.grammar.specs.Digits.{digits-length}
use Rattle.decimals.specs.Digits.{length-digits-small, length-digits-more}
use Rattle.decimals.proofs.U64Decimal.text_len.Goals as goal

pub loop-rest-preserved : goal.loop-rest-preserved
loop-rest-preserved c = omega (arith, length-digits-more c.loop-rest.rest (omega arith))

pub returns : goal.returns
returns c =
    let count = length-digits-small c.loop-rest.rest (omega arith) in
    omega (arith, count, (digits-length 19 c.args.self).1 (omega arith))

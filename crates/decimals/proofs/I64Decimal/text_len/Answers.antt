use Rattle.std.proofs.Common.{◌≡◌, nat_abs, to_z-of_z, ap, length, arith, rules}
use Rattle.std.proofs.lemmas.Int.{ints}
use Rattle.decimals.specs.Whole.{text-negative, text_positive, whole-few}
use Rattle.decimals.proofs.I64Decimal.text_len.Goals as goal

pub returns-then-self-lt0 : goal.returns-then-self-lt0
returns-then-self-lt0 c =
    let size : c.unsigned_abs.result ≡ nat_abs c.args.self = grind (arith, ints, to_z-of_z) in
    let text = text-negative c.args.self _ c.ranges.self size c.if-self-lt0.true in
    omega (arith, c.text_len-count.ensures, ap length text, whole-few c.args.self (search rules))

pub returns : goal.returns
returns c =
    let size : c.unsigned_abs.result ≡ nat_abs c.args.self = grind (arith, ints, to_z-of_z) in
    let text = text_positive c.args.self _ c.ranges.self size c.if-self-lt0.false in
    omega (arith, c.text_len-count.ensures, ap length text)

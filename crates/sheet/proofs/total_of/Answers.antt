-- An amount is within its limit, so that the sum of as many as a side may have fits.
use Rattle.std.proofs.Common.{◌≡◌, ◌∙◌, ap, ℕ, length, arith}
use Rattle.transport.specs.Lists.{at, sum_to, total}
use Rattle.transport.specs.Limits.{max_side, max_amount}
use Rattle.transport.specs.Laws.ListLaws.{sum_to-zero, sum_to-one}
use Rattle.transport.specs.Laws.SheetLaws.{all_most}
use Rattle.sheet.proofs.total_of.Goals as goal

pub loop-x-init : goal.loop-x-init
loop-x-init c = (omega arith, rw sum_to-zero)

pub overflow_add-sum : goal.overflow_add-sum
unfolding at max_side max_amount
overflow_add-sum c = omega (arith, all_most max_amount c.args.amounts.now c.requires.1 c.loop-x.x-index)

pub loop-x-preserved : goal.loop-x-preserved
unfolding at
loop-x-preserved c =
    let amounts = c.args.amounts.now in
    let i = c.loop-x.x-index in
    (omega (arith, all_most max_amount amounts c.requires.1 i), omega (arith, sum_to-one i (at amounts)))

pub returns : goal.returns
unfolding total
returns c =
    let whole : c.loop-x.x-index ≡ length c.args.amounts.now = omega arith in
    c.loop-x.invariant.1 ∙ ap (λ (k : ℕ). sum_to k (at c.args.amounts.now)) whole

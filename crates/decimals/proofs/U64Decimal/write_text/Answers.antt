use Rattle.std.proofs.Common.{◌≡◌, ◌-◌, ◌/◌, ◌<◌, ◌≤◌, ◌∙◌, suc, length, length-set, take, arith}
use Rattle.transport.specs.Text.{digits}
use Rattle.grammar.specs.Digits.{digits-some}
use Rattle.decimals.specs.Front.{front}
use Rattle.decimals.specs.Digits.{digits-left, digit-last, digits-before, fill_back}
use Rattle.decimals.specs.Digits.{length-digits-small, length-digits-more}
use Rattle.decimals.proofs.U64Decimal.write_text.Goals as goal

-- While the rest has two digits or more, so many places are left.
places : (c : goal.In-loop-rest) → 2 ≤ c.loop-rest.at
places c =
    let l = c.loop-rest in
    let left = digits-left (digits c.args.self) l.at l.rest (omega arith) l.invariant.2 in
    omega (arith, left, length-digits-more l.rest (omega arith), digits-some (l.rest / 10))

pub overflow_sub-at : goal.overflow_sub-at
overflow_sub-at c = omega (arith, places c)

pub bounds-out-at : goal.bounds-out-at
bounds-out-at c = omega (arith, places c)

pub loop-rest-smaller : goal.loop-rest-smaller
loop-rest-smaller c = omega (arith, places c)

pub loop-rest-preserved : goal.loop-rest-preserved
loop-rest-preserved c =
    let D = digits c.args.self in
    let l = c.loop-rest in
    let k = l.at - 1 in
    let e : l.at ≡ suc k = omega (arith, places c) in
    let p : k < length D = omega arith in
    let q : k < length l.out = omega arith in
    let t : take (suc k) D ≡ digits l.rest = rw e at l.invariant.2 in (
      omega arith,
      simp length-set l.invariant.1,
      digits-before D l.rest k p t (omega (arith, places c)),
      fill_back D l.out _ k _ p q (digit-last D l.rest k p t) (rw e at l.invariant.3),
    )

pub bounds-out-0 : goal.bounds-out-0
bounds-out-0 c = omega (arith, digits-some c.args.self)

pub returns : goal.returns
unfolding front
returns c =
    let D = digits c.args.self in
    let l = c.loop-rest in
    let count = c.text_len-count.ensures.0 in
    let left = digits-left D l.at l.rest (omega arith) l.invariant.2 in
    let one : l.at ≡ 1 = omega (arith, left, length-digits-small l.rest (omega arith)) in
    let p : 0 < length D = omega (arith, digits-some c.args.self) in
    let first = digit-last D l.rest 0 p (rw one at l.invariant.2) in
    (count, fill_back D l.out _ 0 _ p (omega arith) (omega (arith, first)) (rw one at l.invariant.3) ∙ rw count)

-- One digit more multiplies by 10, and 19 digits have room.
use Rattle.std.specs.Prelude.{◌≡◌, ◌<◌, ◌+◌, ◌*◌, ◌-◌, ◌^◌}
use Rattle.prelude.specs.Words.{refl, ◌∙◌, suc, arith}
use Rattle.tokens.specs.Reading.{always, more-none, more_stop, more-step, value-next, value-fits}
use Rattle.number_reader.proofs.more_digits.Goals as goal
use Rattle.number_reader.proofs.more_digits.Goals.{In-Ok}

module _ (c : In-Ok) where
  more : c.loop-count.value * 10 + c.in-Ok.digit < 10 ^ (c.loop-count._count + 1)
  more = let d = c.in-Ok.ensures in value-next _ _ _ c.loop-count.invariant.small (omega (arith, d.here.high, d.value))

  fits : c.loop-count.value * 10 + c.in-Ok.digit < 10 ^ 19
  fits = value-fits _ _ 19 more (omega arith)

pub overflow_mul-value : goal.overflow_mul-value
overflow_mul-value c = omega (arith, fits c)

pub overflow_add-value : goal.overflow_add-value
overflow_add-value c = omega (arith, fits c)

pub loop-count-preserved : goal.loop-count-preserved
loop-count-preserved c =
    let l = c.loop-count in
    let d = c.in-Ok.ensures in
    let e : c.args.most - l._count ≡ suc (c.args.most - (l._count + 1)) = omega arith in
    record {
      small = more c;
      inside = omega (arith, d.here.inside);
      left = l.invariant.left ∙ (rw e (more-step always l.value (c.args.most - (l._count + 1)) d refl));
    }

pub returns-after-loop-count-clause-reads : goal.returns-after-loop-count-clause-reads
returns-after-loop-count-clause-reads c =
    let l = c.loop-count in
    let e : c.args.most - l._count ≡ 0 = omega arith in
    l.invariant.left ∙ (rw e (more-none always l.value _))

pub returns-in_default-clause-reads : goal.returns-in_default-clause-reads
returns-in_default-clause-reads c =
    let l = c.loop-count in
    l.invariant.left ∙ more_stop always l.value (c.args.most - l._count) _ c.in_default.ensures.0

pub returns-in_default-clause-small : goal.returns-in_default-clause-small
returns-in_default-clause-small c = value-fits _ _ _ c.loop-count.invariant.small (omega arith)

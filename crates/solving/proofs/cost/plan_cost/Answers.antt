-- There are few lanes, and what each adds is small (`lane-fits`, `part-fits`).
use Rattle.std.specs.Prelude.{◌≡◌, ◌<◌, ◌^◌, ◌+◌, ◌+ℤ◌, ◌*ℤ◌}
use Rattle.prelude.specs.Words.{ℕ, arith, nat_abs, refl, sym, ap, ◌∙◌, List, ℤ, pos, length, get_or}
use mir.Syntax.{w64}
use mir.Val.{SFits, to_z, of_z}
use mir.Facts.{to_z_pos, to_z-of_z}
use Rattle.transport.specs.Lists.{at, at_z, sum_z}
use Rattle.transport.specs.Laws.ListLaws.{sum_z-one}
use Rattle.transport.specs.Laws.RangeLaws.{abs_fits}
use Rattle.transport.specs.Limits.{max_amount, max_cost}
use Rattle.solving.specs.Cost.{Summable, lane_total, lane-fits, part-fits}
use Rattle.solving.proofs.cost.plan_cost.Goals as goal

-- What a turn adds is what its lane does, and then the sum is over one lane more.
module _ {plan : List ℕ} {cost : List ℤ} (s : Summable plan cost) {l : ℕ} (p : l < length cost) where
  few : get_or plan l 0 < 2 ^ 63
  unfolding at max_amount
  few = omega (arith, s.quantities l p)

  abbrev product : ℤ
  product = to_z w64 (get_or plan l 0) *ℤ to_z w64 (of_z w64 (get_or cost l (pos 0)))

  product_is : product ≡ lane_total plan cost l
  unfolding at at_z max_cost
  product_is = let cheap : nat_abs (get_or cost l (pos 0)) < 2 ^ 63 = omega (arith, s.costs l) in
      rw (to_z_pos w64 few, to_z-of_z {w = w64} (abs_fits w64 (get_or cost l (pos 0)) cheap))

  product-fits : SFits w64 product
  product-fits = rw product_is (abs_fits w64 (lane_total plan cost l) (lane-fits s l p))

  module _ (bits : ℕ) (i : to_z w64 bits ≡ sum_z l (lane_total plan cost)) where
    sum_is : to_z w64 bits +ℤ to_z w64 (of_z w64 product) ≡ sum_z (l + 1) (lane_total plan cost)
    sum_is = rw (to_z-of_z {w = w64} product-fits, product_is, i) (sym (sum_z-one l (lane_total plan cost)))

    sum_fits : SFits w64 (to_z w64 bits +ℤ to_z w64 (of_z w64 product))
    sum_fits = rw sum_is (abs_fits w64 (sum_z (l + 1) (lane_total plan cost)) (part-fits s (l + 1) (omega arith)))

pub loop-l-init : goal.loop-l-init
unfolding sum_z
loop-l-init c = refl

pub overflow_cast-sum : goal.overflow_cast-sum
overflow_cast-sum c = abs_fits w64 (pos _) (few c.requires (omega arith))

pub overflow_mul-sum : goal.overflow_mul-sum
overflow_mul-sum c = product-fits c.requires (omega arith)

pub overflow_add-sum : goal.overflow_add-sum
overflow_add-sum c = sum_fits c.requires (omega arith) c.loop-l.sum-bits c.loop-l.invariant

pub loop-l-preserved : goal.loop-l-preserved
loop-l-preserved c =
    let so-far = c.loop-l.invariant in
    let inside : c.loop-l.l < length c.args.cost.now = omega arith in
    to_z-of_z {w = w64} (sum_fits c.requires inside c.loop-l.sum-bits so-far) ∙ sum_is c.requires inside c.loop-l.sum-bits so-far

pub returns : goal.returns
returns c =
    let a = c.args in
    let whole : c.loop-l.l ≡ length a.cost.now = omega arith in
    c.loop-l.invariant ∙ ap (λ (n : ℕ). sum_z n (lane_total a.plan.now a.cost.now)) whole

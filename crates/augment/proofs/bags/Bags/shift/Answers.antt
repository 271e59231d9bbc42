use Rattle.std.specs.Prelude.{◌≡◌, ◌<◌, ◌^◌, ◌-ℤ◌}
use Rattle.prelude.specs.Words.{refl, ◌∙◌, arith, rules, ℤ, pos, nat_abs, neg_ℤ, +ℤ_idl}
use mir.Syntax.{w64}
use mir.Val.{to_z, of_z}
use Rattle.transport.specs.Laws.RangeLaws.{diff_back}
use Rattle.augment.specs.Bags.{masked-added, shifted_by}
use Rattle.augment.proofs.bags.Bags.shift.Goals as goal

-- What `-x` is.
minus_is : (x : ℤ) → nat_abs x < 2 ^ 62 → to_z w64 (of_z w64 (pos 0 -ℤ to_z w64 (of_z w64 x))) ≡ neg_ℤ x
minus_is x p = diff_back w64 (pos 0) x (omega arith) ∙ +ℤ_idl (neg_ℤ x)

pub returns-clause-bags_shifted : goal.returns-clause-bags_shifted
returns-clause-bags_shifted c =
    let (from, to, j) = c.requires.inside in
    let same : to_z w64 (of_z w64 c.args.x) ≡ c.args.x = search rules in
    let taken = rw (minus_is c.args.x (omega arith)) at c.add-less.ensures.sum in
    rw (rw (same, taken) at c.add-more.ensures.sum)
    (shifted_by c.args.from c.args.to c.args.j c.args.x c.args.self.now.by_lane.now from to j c.requires.long)

pub returns-clause-follow : goal.returns-clause-follow
returns-clause-follow c =
    let (from, to, j) = c.requires.inside in
    let less = c.add-less.ensures in
    let more = c.add-more.ensures in record {
      same_array = refl;
      masked = λ w. masked-added c.args.from c.args.to c.args.j _ _ _ _ _ _ from to j less.sum more.sum w
          (rw less.some at c.with_bit.ensures) (rw more.some at c.with_bit-2.ensures)
          (rw less.some at c.with_bit-3.ensures) (rw more.some at c.with_bit-4.ensures);
    }

use Rattle.std.specs.Prelude.{◌-ℤ◌, ◌≡◌, ◌^◌, ◌≤◌, ◌+ℤ◌}
use Rattle.prelude.specs.Words.{cond, pos, nat_abs, neg_ℤ, +ℤ_idl, ◌∙◌, arith}
use mir.Val.{to_z, of_z}
use mir.Syntax.{w32}
use Rattle.std.specs.Int.Bits.{bit_and}
use Rattle.tree.specs.Mask.{has}
use Rattle.transport.specs.Laws.RangeLaws.{abs_neg, mag_abs, back, diff_back}
use Rattle.tree.specs.MaskLaws.{first_bits_of}
use Rattle.tree.specs.Repriced.{toward_abs, rows-only, repriced_by}
use Rattle.tree.specs.Bits.{Touched}
use Rattle.tree.proofs.potential.reprice.Goals as goal
use Rattle.tree.proofs.potential.reprice.Goals.{After-raise}

-- The move is small, so that it is in the code what it is, and its negative too.
is : (c : After-raise) → let a = c.args in c.toward-x.result ≡ cond (has a.far a.row) a.reduced (neg_ℤ a.reduced)
is c = let r = c.args.reduced in rw (back w32 r (omega (arith, mag_abs r))) at c.toward-x.ensures

small : (c : After-raise) → nat_abs c.toward-x.result ≤ 2 ^ 29
small c = let a = c.args in
    rw (is c) (toward_abs (has a.far a.row) a.reduced (2 ^ 29) c.requires.m_le_stride.2)

same : (c : After-raise) → to_z w32 (of_z w32 c.toward-x.result) ≡ c.toward-x.result
same c = back w32 c.toward-x.result (omega (arith, small c, mag_abs c.toward-x.result))

minus : (c : After-raise) → to_z w32 (of_z w32 (pos 0 -ℤ to_z w32 (of_z w32 c.toward-x.result))) ≡
    neg_ℤ c.toward-x.result
minus c = diff_back w32 (pos 0) c.toward-x.result (omega (arith, small c)) ∙ +ℤ_idl (neg_ℤ c.toward-x.result)

-- After the rows.
first : (c : After-raise) → let a = c.args in
    Touched (λ z. z +ℤ c.toward-x.result) (pos 0) a.price.now (bit_and a.far (first_bits_of a.m)) c.raise.new.price
first c = rw (same c, c.first_bits.ensures) at c.raise.ensures

pub raise-requires-2-clause-by_index : goal.raise-requires-2-clause-by_index
raise-requires-2-clause-by_index c k l e =
    let r = (goal.at.raise-requires-2-clause-by_index c).After-raise in
    rw (minus r, rows-only c.args.m c.args.far (first r) k (rw c.first_bits.ensures at e))
    (omega (arith, small r, abs_neg c.toward-x.result, c.requires.price_len.1 k l))

pub returns : goal.returns
returns c =
    let r = (goal.at.returns c).After-raise in
    rw (← is r) (repriced_by c.args.m c.args.far (first r) (rw (minus r, c.first_bits.ensures) at c.raise-2.ensures))

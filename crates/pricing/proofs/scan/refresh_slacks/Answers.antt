-- Where the row is among the nodes that moved, the columns rose
-- (`slacks_risen`); where it is not, they fell (`slacks_fallen`).
use Rattle.std.specs.Prelude.{◌+◌, ◌^◌, ◌<◌, ◌≡◌, ◌-ℤ◌}
use Rattle.prelude.specs.Words.{sym, ◌∙◌, arith, pos, nat_abs, neg_ℤ, +ℤ_idl}
use mir.Syntax.{w32}
use mir.Val.{to_z, of_z}
use Rattle.transport.specs.Laws.RangeLaws.{abs_neg, diff_in, diff_back}
use Rattle.pricing.specs.Slacks.{slacks-room, moving-inside, resting-inside, slacks_risen, slacks_fallen}
use Rattle.pricing.proofs.scan.refresh_slacks.Goals as goal
use Rattle.pricing.proofs.scan.refresh_slacks.Goals.{After-first_bits}

pub relax_slacks-requires : goal.relax_slacks-requires
relax_slacks-requires c = (c.args.n, c.requires.in_range, moving-inside c.requires.stale.1)

pub returns-then-has_bit : goal.returns-then-has_bit
returns-then-has_bit c = slacks_risen c.requires.stale.1 (sym c.has_bit.ensures ∙ c.if-has_bit.true)
    c.relax_slacks.ensures

-- The reduced cost can be taken off 0, and off a slack.
less-room : (c : After-first_bits) → nat_abs (pos 0) + nat_abs c.args.reduced < 2 ^ 31
less-room c = omega (arith, slacks-room c.requires.stale.1 0 (omega arith))

less : (c : After-first_bits) → let r = c.args.reduced in to_z w32 (of_z w32 (pos 0 -ℤ to_z w32 (of_z w32 r))) ≡ neg_ℤ r
less c = let r = c.args.reduced in diff_back w32 (pos 0) r (less-room c) ∙ +ℤ_idl (neg_ℤ r)

pub overflow_sub-reduced : goal.overflow_sub-reduced
overflow_sub-reduced c = diff_in w32 (pos 0) c.args.reduced (less-room
    (goal.at.overflow_sub-reduced c).After-first_bits)

pub raised-requires : goal.raised-requires
raised-requires c i l =
    rw (less (goal.at.raised-requires c).After-first_bits, abs_neg c.args.reduced) (slacks-room c.requires.stale.1 i l)

pub relax_slacks-requires-2 : goal.relax_slacks-requires-2
relax_slacks-requires-2 c = (c.args.n, c.requires.in_range, resting-inside c.requires.stale.1 c.first_bits.ensures)

pub returns : goal.returns
returns c = slacks_fallen c.requires.stale.1 c.first_bits.ensures (sym c.has_bit.ensures ∙ c.if-has_bit.false)
    (less (goal.at.returns c).After-first_bits) c.raised.ensures c.relax_slacks-2.ensures

-- A struck party has no number, and the lane of two others has a place in the array.
use Rattle.std.specs.Prelude.{◌<◌, ◌^◌}
use Rattle.prelude.specs.Words.{arith, nat_abs, rules}
use mir.Syntax.{w32, w64}
use mir.Facts.{to_z-of_z}
use Rattle.transport.specs.Limits.{max_cost}
use Rattle.transport.specs.Laws.RangeLaws.{abs_fits, back}
use Rattle.edit_steps.specs.Respread.{respread_no_row, respread_no_column, respread_found}
use Rattle.edit_steps.proofs.begin.respread_lane.Goals as goal

pub returns-in_default : goal.returns-in_default
returns-in_default c cost cafes g w = respread_no_row g w c.in_default.ensures

pub returns-in_default-number_in : goal.returns-in_default-number_in
returns-in_default-number_in c cost cafes g w = respread_no_column g w c.in_default-number_in.ensures

-- The cost is read back from its bits, the wide ones and the narrow ones.
pub overflow_cast-spread : goal.overflow_cast-spread
unfolding max_cost
overflow_cast-spread c = let small : nat_abs c.args.c < 2 ^ 31 = omega arith in
    rw (back w64 c.args.c (search rules)) (abs_fits w32 c.args.c small)

pub returns : goal.returns
unfolding max_cost
returns c cost cafes g w =
    let small : nat_abs c.args.c < 2 ^ 31 = omega arith in
    respread_found g w c.in-Some.ensures c.in-Some-number_in.ensures
    (rw (back w64 c.args.c (search rules)) (to_z-of_z {w = w32} (abs_fits w32 c.args.c small)))

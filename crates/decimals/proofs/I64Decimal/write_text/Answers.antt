-- A negative number is its minus, and then its magnitude in what is left of the output.
use Rattle.std.proofs.Common.{◌≡◌, ◌∙◌, suc, ap, nat_abs, length, to_z-of_z, add-one, arith}
use Rattle.std.proofs.Common.{length-set, length-take, length-drop}
use Rattle.decimals.specs.Front.{both-written}
use Rattle.std.proofs.lemmas.Int.{ints}
use Rattle.decimals.specs.Whole.{text-negative, text_positive, minus-written}
use Rattle.decimals.proofs.I64Decimal.write_text.Goals as goal

pub bounds-out-0 : goal.bounds-out-0
bounds-out-0 c =
    let size : c.unsigned_abs-size.result ≡ nat_abs c.args.self = grind (arith, ints, to_z-of_z) in
    let text = text-negative c.args.self _ c.ranges.self size c.if-self-lt0.true in
    omega (arith, ap length text)

pub slice_bounds-write_text-count : goal.slice_bounds-write_text-count
slice_bounds-write_text-count c =
    let size : c.unsigned_abs-size.result ≡ nat_abs c.args.self = grind (arith, ints, to_z-of_z) in
    let text = text-negative c.args.self _ c.ranges.self size c.if-self-lt0.true in
    simp length-set (omega (arith, ap length text))

pub slice_bounds-write_text-start : goal.slice_bounds-write_text-start
slice_bounds-write_text-start c =
    let size : c.unsigned_abs-size.result ≡ nat_abs c.args.self = grind (arith, ints, to_z-of_z) in
    let text = text-negative c.args.self _ c.ranges.self size c.if-self-lt0.true in
    simp length-set (omega (arith, ap length text))

pub write_text-count-requires : goal.write_text-count-requires
write_text-count-requires c =
    let size : c.unsigned_abs-size.result ≡ nat_abs c.args.self = grind (arith, ints, to_z-of_z) in
    let text = text-negative c.args.self _ c.ranges.self size c.if-self-lt0.true in
    simp (length-take, length-drop, length-set) (omega (arith, ap length text))

pub overflow_add-result : goal.overflow_add-result
overflow_add-result c =
    let size : c.unsigned_abs-size.result ≡ nat_abs c.args.self = grind (arith, ints, to_z-of_z) in
    let text = text-negative c.args.self _ c.ranges.self size c.if-self-lt0.true in
    omega (arith, ap length text)

-- Only here does it matter which byte stands first.
pub returns-then-self-lt0 : goal.returns-then-self-lt0
returns-then-self-lt0 c =
    let size : c.unsigned_abs-size.result ≡ nat_abs c.args.self = grind (arith, ints, to_z-of_z) in
    let text = text-negative c.args.self _ c.ranges.self size c.if-self-lt0.true in
    let begun = minus-written c.args.self _ c.ranges.self size c.if-self-lt0.true _ c.requires in
    let put = c.write_text-count.ensures in
    rw text (add-one _ ∙ ap suc put.0, both-written begun _ put.1)

pub write_text-requires : goal.write_text-requires
write_text-requires c =
    let size : c.unsigned_abs-size.result ≡ nat_abs c.args.self = grind (arith, ints, to_z-of_z) in
    let text = text_positive c.args.self _ c.ranges.self size c.if-self-lt0.false in
    rw text at c.requires

pub returns : goal.returns
returns c =
    let size : c.unsigned_abs-size.result ≡ nat_abs c.args.self = grind (arith, ints, to_z-of_z) in
    let text = text_positive c.args.self _ c.ranges.self size c.if-self-lt0.false in
    rw text c.write_text.ensures

use Rattle.std.proofs.Common.{◌≡◌, ◌∙◌, refl, sym, length, take, get_or, length-take-le, take-suc, add-one, take_all, arith}
use Rattle.decimals.specs.Front.{front-nil, front-byte}
use Rattle.sections.proofs.section.write_bytes.Goals as goal

pub loop-i-init : goal.loop-i-init
loop-i-init c = sym (front-nil c.args.out.now)

pub loop-i-preserved : goal.loop-i-preserved
loop-i-preserved c =
    let xs = c.args.bytes.now in
    let i = c.loop-i.i in
    let n : length (take i xs) ≡ i = length-take-le i xs (omega arith) in
    rw (
      c.loop-i.invariant,
      front-byte (take i xs) c.args.out.now i (get_or xs i 0) (sym n) (omega arith),
      add-one,
      take-suc xs i 0 (omega arith),
    )

pub returns : goal.returns
returns c = (refl, c.loop-i.invariant ∙ (rw (take_all c.loop-i.i c.args.bytes.now (omega arith))))

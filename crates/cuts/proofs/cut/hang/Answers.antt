use Rattle.std.specs.Prelude.{◌≡◌, ◌-◌}
use Rattle.prelude.specs.Words.{suc, arith}
use Rattle.cuts.specs.Planting.{hang_step}
use Rattle.cuts.proofs.cut.hang.Goals as goal

pub loop-k-preserved : goal.loop-k-preserved
loop-k-preserved c =
    let i = c.loop-k in
    let e : suc (i.k - 1) ≡ i.k = omega arith in
    rw c.set_bit.ensures (hang_step c.requires {path = i.path} (rw e i.invariant) (omega arith))

use Rattle.std.specs.Prelude.{◌≡◌}
use Rattle.prelude.specs.Words.{arith, pos, replicate, ap, ◌∙◌, length-take-le}
use mir.Syntax.{w64}
use mir.Val.{to_z}
use mir.Facts.{to_z_pos}
use Rattle.tree.specs.Layout.{node_room}
use Rattle.belonging.specs.Weighing.{marked-front, marks-put}
use Rattle.belonging.proofs.weights.weigh_marks.Goals as goal

pub returns : goal.returns
returns c =
    let m = c.args.m in
    let whole : to_z w64 m ≡ pos m = to_z_pos w64 {n = m} (omega arith) in
    let ones = c.fill.ensures.after (λ y e. e)
    ∙ ap (λ k. replicate k (pos 1)) (length-take-le m (replicate node_room (pos 0)) (omega arith)) in
    rw (whole, ones) (marks-put m c.args.n c.requires.0 c.requires.1 c.requires.2 (marked-front m (omega arith)))

use Rattle.std.proofs.Common.{rules, arith, ◌∙◌}
use mir.Syntax.{w64}
use Rattle.transport.specs.Lists.{at}
use Rattle.transport.specs.Laws.RangeLaws.{back}
use Rattle.price_lists.specs.PriceLists.{priced-struck, priced-left}
use Rattle.price_lists.proofs.price_struck.Goals as goal
use Rattle.price_lists.proofs.price_struck.Goals.{then-x-eq0, else-x-eq0}

pub loop-k-preserved : goal.loop-k-preserved
unfolding at
loop-k-preserved g c f by_rule =
    let before = c.loop-k.invariant f by_rule in elim c.if-x-eq0.branch [
      | then-x-eq0 w ↦ priced-struck before (omega arith) (omega (arith, before.long)) w.if-x-eq0.true w.price-is
          (back w64 w.rule.result (search rules) ∙ by_rule c.loop-k.k w.rule.result (omega arith) w.rule.ensures)
      | else-x-eq0 w ↦ priced-left before (omega arith) w.if-x-eq0.false w.price-is
    ]

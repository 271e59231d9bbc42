use Rattle.std.proofs.Common.{rules, arith, ◌∙◌, sym}
use mir.Syntax.{w64}
use Rattle.transport.specs.Laws.RangeLaws.{back}
use Rattle.price_lists.specs.PriceLists.{least-one, least_step}
use Rattle.price_lists.proofs.least.Goals as goal

pub loop-k-init : goal.loop-k-init
loop-k-init g c f each = back w64 _ (search rules) ∙ each 0 _ (omega arith) c.number-least.ensures ∙ sym (least-one f)

pub loop-k-preserved : goal.loop-k-preserved
loop-k-preserved g c f each =
    back w64 _ (search rules)
    ∙ least_step f (omega arith) (c.loop-k.invariant f each) (each c.loop-k.k _ (omega arith) c.number.ensures)
    (rw (back w64 c.number.result (search rules)) at c.min-least.ensures.value)

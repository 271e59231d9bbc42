-- A turn reads one number.
use Rattle.prelude.specs.Words.{refl, ap, ◌∙◌, arith, drop, length-set, take_all}
use Rattle.transport.specs.SheetText.{got}
use Rattle.tokens.specs.Reading.{handed_to}
use Rattle.line_reader.specs.LinesRead.{read_start, read_stopped, read_more, read_done}
use Rattle.line_reader.proofs.read_lines.Goals as goal

pub loop-slot-init : goal.loop-slot-init
loop-slot-init g c = record {
  long = refl;
  so_far = read_start g.T.Listed.reader _ _ _ _ c.requires.0 c.requires.1 _;
}

pub returns-in_err-number-clause-reads : goal.returns-in_err-number-clause-reads
returns-in_err-number-clause-reads g c =
    handed_to _ _ _ _ c.from_residual.ensures.1
    (read_stopped c.loop-slot.invariant.so_far (omega arith) _ c.in_err-number.ensures.reads)

pub loop-slot-preserved : goal.loop-slot-preserved
loop-slot-preserved g c =
    let l = c.loop-slot.invariant in
    let e = c.in_ok-number.ensures in
    let n = c.in_ok-number.number in
    record {
      long = simp length-set l.long;
      so_far =
          read_more l.so_far (omega arith) n.value n.next _ (omega arith) e.reads e.inside c.left_after-left.ensures;
    }

pub returns-clause-reads : goal.returns-clause-reads
returns-clause-reads g c =
    let l = c.loop-slot in
    read_done l.invariant.so_far (omega arith)
    ∙ ap (λ xs. got xs (drop l.next c.args.text.now)) (take_all _ l.slot-items (omega arith))

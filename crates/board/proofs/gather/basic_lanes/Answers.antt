use Rattle.prelude.specs.Words.{sym, arith, rules}
use Rattle.board.specs.Lanes.{lanes_of-zero, lanes-room, lanes-more}
use Rattle.board.proofs.gather.basic_lanes.Goals as goal

pub loop-i-init : goal.loop-i-init
loop-i-init c = record { long = search rules; many = rw lanes_of-zero; listed = sym (lanes_of-zero _) }

pub row_lanes-count-requires : goal.row_lanes-count-requires
row_lanes-count-requires c =
    (omega (arith, lanes-room c.requires (omega arith) c.loop-i.invariant), omega (arith, c.requires.side))

pub loop-i-preserved : goal.loop-i-preserved
loop-i-preserved c =
    let r = c.row_lanes-count in
    lanes-more c.requires (omega arith) c.loop-i.invariant r.result r.new.lanes r.array_long r.ensures.0 r.ensures.1

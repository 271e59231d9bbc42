use Rattle.transport.specs.Amount.{add}
use Rattle.tree.specs.Bits.{Least}
use Rattle.board.specs.Slots.{add_step}
use Rattle.pivoting.proofs.step.carry.Goals as goal

pub loop-bits-preserved : goal.loop-bits-preserved
unfolding add
loop-bits-preserved c =
    let i = c.loop-bits.invariant in
    let f = c.first_bit.ensures in
    let r : Least c.loop-bits.bits c.first_bit.result = record { on = f.1; off = f.2 } in
    let p = c.put_pair.ensures in
    let (q, e, s) = c.requires.q_len in
    rw (c.rest-bits.ensures, p.0, p.1, c.add-sum.ensures, c.pair_at.ensures)
    (add_step i.0 s q r, add_step i.1 s e r)

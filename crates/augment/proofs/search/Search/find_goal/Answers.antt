use Rattle.std.specs.Prelude.{◌≡◌}
use Rattle.prelude.specs.Words.{arith, add-one}
use Rattle.std.specs.Int.Bits.{bit_and}
use Rattle.augment.specs.Sought.{sweep_start, sweep_few, sweep_row, sweep_some, sweep_col, sweep_fresh, sweep_on}
use Rattle.augment.specs.Sought.{sweep_hit, sweep_ends}
use Rattle.augment.specs.Sets.{least_of}
use Rattle.augment.proofs.search.Search.find_goal.Goals as goal

pub loop-rows-init : goal.loop-rows-init
loop-rows-init c = record {
  few = omega arith;
  sweeping = rw c.set_bit-cols.ensures (sweep_start _ _ (omega arith) (omega arith));
}

pub bounds-bags-i : goal.bounds-bags-i
bounds-bags-i c =
    sweep_row c.loop-rows.invariant.sweeping c.requires.1 c.first_bit-i.result (least_of c.first_bit-i.ensures)

pub first_bit-j-requires : goal.first_bit-j-requires
first_bit-j-requires c =
    sweep_some c.loop-rows.invariant.sweeping c.requires.1 c.first_bit-i.result (least_of c.first_bit-i.ensures)

pub bounds-self-j : goal.bounds-self-j
bounds-self-j c =
    sweep_col c.loop-rows.invariant.sweeping c.requires.1 c.first_bit-i.result (least_of c.first_bit-i.ensures)
    c.first_bit-j.result (least_of c.first_bit-j.ensures)

pub returns-then-hit-gt0 : goal.returns-then-hit-gt0
returns-then-hit-gt0 c =
    let fresh = c.without-fresh.ensures in
    λ x g. sweep_hit c.loop-rows.invariant.sweeping c.first_bit-i.result c.first_bit-j.result
    (least_of c.first_bit-i.ensures) (least_of c.first_bit-j.ensures) (omega arith) (omega arith) (omega arith)
    x g c.first_bit.result (rw fresh at (least_of c.first_bit.ensures))

pub reach-requires : goal.reach-requires
reach-requires c = λ l h. sweep_fresh c.loop-rows.invariant.sweeping c.requires.1 c.first_bit-i.result
    (least_of c.first_bit-i.ensures) l (rw c.without-fresh.ensures at h)

pub loop-rows-preserved : goal.loop-rows-preserved
loop-rows-preserved c =
    let fresh = c.without-fresh in
    let none : bit_and fresh.result c.args.target.goal ≡ 0 = omega arith in
    let s = sweep_on c.loop-rows.invariant.sweeping c.first_bit-i.result c.first_bit-j.result
    (least_of c.first_bit-i.ensures) (least_of c.first_bit-j.ensures) (omega arith) (omega arith) (omega arith)
    (rw fresh.ensures at none) (rw fresh.ensures at c.reach.ensures.touched)
    (rw fresh.ensures at c.reach.ensures.gathered) in
    record {
      few = omega (arith, sweep_few s c.requires.1);
      sweeping = rw (add-one, fresh.ensures, c.clear_bit-left.ensures) s;
    }

pub returns : goal.returns
returns c = λ x g. sweep_ends c.loop-rows.invariant.sweeping g (omega arith)

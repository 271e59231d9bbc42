use Rattle.std.specs.Prelude.{◌+◌, ◌<◌, ◌≡◌, ◌∷◌}
use Rattle.prelude.specs.Words.{ℕ, sym, ap, ◌∙◌, [], append_assoc, append-nil, arith, add-one, take-suc-set, length}
use Rattle.tree.specs.Mask.{bit, unset}
use Rattle.board.specs.Lanes.{row_lanes_of, row_lanes-zero, row_lanes-first}
use Rattle.board.proofs.gather.row_lanes.Goals as goal

-- The lane of the least bit comes first.
next : (first bits : ℕ) {j rest : ℕ} → (j < 64) × (bit bits j ≡ 1) × ((k : ℕ) → k < j → bit bits k ≡ 0)
    → rest ≡ unset bits j
    → row_lanes_of first bits ≡ (first + j) ∷ row_lanes_of first rest
next first bits {j} (inside, here, before) e = rw e (row_lanes-first first bits j inside here before)

pub bounds-lanes-k : goal.bounds-lanes-k
bounds-lanes-k c = omega
    (arith, ap length (next c.args.first c.loop-bits.bits c.first_bit-j.ensures c.clear_bit-bits.ensures))

pub offset_bounds-lanes-k : goal.offset_bounds-lanes-k
offset_bounds-lanes-k c =
    omega (arith, ap length (next c.args.first c.loop-bits.bits c.first_bit-j.ensures c.clear_bit-bits.ensures))

pub loop-bits-smaller : goal.loop-bits-smaller
loop-bits-smaller c =
    omega (arith, ap length (next c.args.first c.loop-bits.bits c.first_bit-j.ensures c.clear_bit-bits.ensures))

pub loop-bits-preserved : goal.loop-bits-preserved
loop-bits-preserved c =
    let l = c.loop-bits in
    let lane = next c.args.first c.loop-bits.bits c.first_bit-j.ensures c.clear_bit-bits.ensures in (
      omega (arith, ap length lane),
      rw (add-one l.k, take-suc-set l.lanes l.k _ (omega (arith, ap length lane)), append_assoc)
          (rw lane at l.invariant.1),
    )

pub returns : goal.returns
returns c =
    let l = c.loop-bits in
    let e : l.bits ≡ 0 = omega arith in
    let none : row_lanes_of c.args.first l.bits ≡ [] = rw e (row_lanes-zero _) in
    (omega (arith, ap length none), sym (append-nil _) ∙ rw none at l.invariant.1)

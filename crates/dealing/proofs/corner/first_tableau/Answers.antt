use Rattle.std.specs.Prelude.{◌+◌, ◌-◌, ◌≡◌}
use Rattle.prelude.specs.Words.{ℕ, List, arith, refl, sym, ap, ◌∙◌, length, set}
use Rattle.transport.specs.Limits.{max_side, max_cells}
use Rattle.transport.specs.Problem.{Problem, sources, sinks}
use Rattle.transport.specs.Tableau.{start}
use Rattle.transport.specs.Laws.Sound.{Sound}
use Rattle.transport.specs.declared.Cell.{Cell}
use Rattle.dealing.specs.Corner.{Corner, DealtTo, cell_of, costless, next-number, length-start}
use Rattle.dealing.specs.Corner.{dealt_to-first, dealt_to-room, dealt_to-cell, dealt_to-next}
use Rattle.dealing.specs.Filling.{filled, filled_none, filled-one, filled-all}
use Rattle.dealing.proofs.corner.first_tableau.Goals as goal

-- The cell where the rule stands is put after those before it.
stored : {P : Problem} {at : Corner} {k : ℕ} {cells : List Cell} → Sound P
    → (k ≡ at.row + at.col) × DealtTo P at × (cells ≡ filled (start P) k)
    → set cells k (cell_of at) ≡ filled (start P) (k + 1)
stored {P} {at} ok (is, dealt, before) =
    rw (before, is) (filled-one (start P) (at.row + at.col) (cell_of at) (dealt_to-room P ok at dealt)
    (dealt_to-cell P ok at dealt))

pub loop-k-init : goal.loop-k-init
loop-k-init c =
    let S = costless c.args.supply.now c.args.demand.now in
    rw (c.empty_tableau-t.ensures, c.first_corner-at.ensures) (refl, dealt_to-first S c.requires, filled_none (start S))

pub bounds-t-k : goal.bounds-t-k
unfolding max_cells max_side
bounds-t-k c = omega (arith, dealt_to-room _ c.requires c.loop-k.at c.loop-k.invariant.1)

pub offset_bounds-t-k : goal.offset_bounds-t-k
unfolding max_cells max_side
offset_bounds-t-k c = omega (arith, dealt_to-room _ c.requires c.loop-k.at c.loop-k.invariant.1)

pub bounds-t-count : goal.bounds-t-count
unfolding sources sinks max_cells max_side
bounds-t-count c = omega (arith, c.requires.sources_high, c.requires.sinks_high)

pub offset_bounds-t-count : goal.offset_bounds-t-count
unfolding sources sinks max_cells max_side
offset_bounds-t-count c = omega (arith, c.requires.sources_high, c.requires.sinks_high)

pub loop-k-preserved : goal.loop-k-preserved
unfolding sources sinks
loop-k-preserved c =
    let S = costless c.args.supply.now c.args.demand.now in
    let l = c.loop-k in
    rw (c.next-at.ensures, c.put.ensures) (
      omega (arith, next-number S l.at),
      dealt_to-next S c.requires l.at l.invariant.1 (omega arith),
      stored c.requires l.invariant,
    )

pub returns : goal.returns
unfolding sources sinks
returns c =
    let S = costless c.args.supply.now c.args.demand.now in
    let last : length c.args.supply.now + length c.args.demand.now - 1 - 1 ≡ c.loop-k.k = omega arith in
    let all : c.loop-k.k + 1 ≡ length c.args.supply.now + length c.args.demand.now - 1 =
    omega (arith, c.requires.sources_low, c.requires.sinks_low) in
    rw (last, c.put-2.ensures)
    (filled-all (start S) _ _ (sym (length-start S c.requires))
    (stored c.requires c.loop-k.invariant ∙ ap (filled (start S)) all))

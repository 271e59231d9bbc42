-- Both sides are numbered, and a surplus is put after the cafés left.
use Rattle.std.specs.Prelude.{◌≤◌}
use Rattle.std.proofs.Common.{arith}
use Rattle.prelude.specs.Words.{length, length-set, sym}
use Rattle.transport.specs.Limits.{max_side}
use Rattle.transport.specs.Sheet.{Sheet, roasteries, cafes}
use Rattle.transport.specs.Extended.{surplus}
use Rattle.transport.specs.Statements.{Accepted}
use Rattle.transport.specs.Laws.SheetLaws.{supplies-most, demands-most}
use Rattle.transport.specs.Laws.Sound.{sources-room, sinks-room}
use Rattle.parties.specs.Parties.{parties_even, parties-extra, extra-room, front-room}
use Rattle.parties.proofs.number.number_parties.Goals as goal
use Rattle.parties.proofs.number.number_parties.Goals.{then-surplus-gt0, else-surplus-gt0}

supply-few : {S : Sheet} → Accepted S → length S.supply ≤ max_side
unfolding roasteries
supply-few ok = omega (arith, ok.limits.roasteries_high, sources-room)

demand-few : {S : Sheet} → Accepted S → length S.demand ≤ max_side
unfolding cafes
demand-few ok = omega (arith, ok.limits.cafes_high, sinks-room)

pub total_of-requires : goal.total_of-requires
total_of-requires c = (supply-few c.requires.1, supplies-most c.requires.1.limits)

pub total_of-requires-2 : goal.total_of-requires-2
total_of-requires-2 c = (demand-few c.requires.1, demands-most c.requires.1.limits)

pub number_left-rows-requires : goal.number_left-rows-requires
number_left-rows-requires c = supply-few c.requires.1

pub number_left-cafes-requires : goal.number_left-cafes-requires
number_left-cafes-requires c = demand-few c.requires.1

-- The extra café has a column.
pub bounds-demands-cafes : goal.bounds-demands-cafes
unfolding max_side surplus
bounds-demands-cafes c = extra-room c.requires.1 (omega arith) c.number_left-cafes.ensures

pub bounds-column_numbers-cafes : goal.bounds-column_numbers-cafes
unfolding max_side surplus
bounds-column_numbers-cafes c = extra-room c.requires.1 (omega arith) c.number_left-cafes.ensures

pub invariant_of-result : goal.invariant_of-result
unfolding max_side surplus
invariant_of-result c =
    let rows = front-room c.number_left-rows.ensures.own_front in
    let cafes = front-room c.number_left-cafes.ensures.own_front in record {
      in_room = elim c.if-surplus-gt0.branch [
        | then-surplus-gt0 w ↦
            let room = extra-room c.requires.1 (omega arith) c.number_left-cafes.ensures in
            rw (w.columns-is, w.column_numbers-is, length-set) (omega arith, omega arith, omega arith)
        | else-surplus-gt0 w ↦ rw (w.columns-is, w.column_numbers-is) (omega arith, omega arith, omega arith)
      ];
    }

pub returns : goal.returns
unfolding max_side surplus
returns c cost =
    elim c.if-surplus-gt0.branch [
      | then-surplus-gt0 w ↦
          let room = extra-room c.requires.1 (omega arith) c.number_left-cafes.ensures in
          parties-extra _ _ _ (omega arith) (omega arith) room c.number_left-rows.ensures c.number_left-cafes.ensures
          w.columns-is w.demands-is w.column_numbers-is
      | else-surplus-gt0 w ↦
          parties_even _ _ (omega arith) (sym w.columns-is) c.number_left-rows.ensures
          (rw (w.columns-is, w.demands-is, w.column_numbers-is) c.number_left-cafes.ensures)
    ]

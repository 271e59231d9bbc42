-- Where the rounds of an edit begin, laid out on the board.
use Rattle.std.specs.Prelude.{◌≡◌, ◌≤◌}
use Rattle.prelude.specs.Words.{ap, ◌∙◌, List, ℕ, arith, ℤ, pos, nat_abs, length, take, set}
use Rattle.prelude.specs.Words.{get_or-set_same}
use Rattle.transport.specs.declared.Cell.{Cell}
use Rattle.transport.specs.declared.Change.TheVariants as Change
use Rattle.transport.specs.declared.Edit.{Edit}
use Rattle.transport.specs.Limits.{max_cost}
use Rattle.transport.specs.Lists.{at_z}
use Rattle.transport.specs.Problem.{place}
use Rattle.transport.specs.Sheet.{Sheet, sheet_of, roasteries, cafes}
use Rattle.transport.specs.Extended.{extended}
use Rattle.transport.specs.Parties.{rows_left_of, problem_of}
use Rattle.transport.specs.Tableau.{start}
use Rattle.transport.specs.Statements.{Accepted}
use Rattle.transport.specs.Laws.PartiesLaws.{left_at}
use Rattle.transport.specs.Laws.RangeLaws.{abs_between}
use Rattle.transport.specs.Laws.Sound.{sources-room, sinks-room}
use Rattle.parties.specs.declared.Parties.{Parties}
use Rattle.parties.specs.Parties.{PartiesOf, parties-amounts}
use Rattle.board.specs.declared.Board.{Board}
use Rattle.numbering.specs.Numbers.{left_growing}
use Rattle.cost_grid.specs.Costs.{Spread}
use Rattle.loading.specs.Loading.{Admitted, admitted_respread}
use Rattle.edit_steps.specs.Edits.{EditOf, same-supply, same-demand, new-cost, lane-placed, beginning}
use Rattle.edit_steps.specs.Edits.{begins-kept, begins_afresh}
use Rattle.edit_steps.specs.Respread.{Respreadable}

module _ {S : Sheet} {e : Edit} {supply demand : List ℕ} {cost : List ℤ} (w : EditOf S e supply demand cost)
    (ok : Accepted (sheet_of supply demand cost)) {T : List Cell} {p : Parties} {b : Board}
    {spread : List ℤ} (a : Admitted S T p b spread) where
  -- A new cost is within the limits, and can be put among the costs that are spread.
  module _ {c : ℤ} (is : e.change ≡ Change.Cost c) where
    new-small : nat_abs c ≤ max_cost
    unfolding at_z
    new-small =
        let l : ℕ = place (cafes S) e.row e.col in
        let here = ap (λ (xs : List ℤ). at_z xs l) (new-cost w is)
        ∙ get_or-set_same S.cost l c (pos 0) (lane-placed w) in
        rw (← here) (abs_between (ok.limits.cost_low l) (ok.limits.cost_high l))

    pub respreadable : Respreadable S.cost (cafes S) (take p.rows p.row_numbers) (take p.cafes p.column_numbers)
        e.row e.col c
    unfolding roasteries cafes rows_left_of extended
    respreadable =
        let limits = w.accepted.limits in
        let h = a.parties in
        rw (h.row_numbers, h.cafe_numbers) (record {
          growing_rows = left_growing S.supply (omega (arith, limits.roasteries_high, sources-room));
          growing_cols = left_growing S.demand (omega (arith, limits.cafes_high, sinks-room));
          columns = λ j l. (left_at S.demand j l).0;
          on_sheet = w.col;
          placed = lane-placed w;
          small = new-small;
        })

    -- The rounds go on from T.
    pub admitted_kept : {new : List ℤ}
        → Spread (set S.cost (place (cafes S) e.row e.col) c) (cafes S) (take p.rows p.row_numbers)
        (take p.cafes p.column_numbers) new
        → Admitted (sheet_of supply demand cost) (beginning e.change (sheet_of supply demand cost) T) p b new
    unfolding cafes
    admitted_kept {new} respread =
        let kept : Admitted (sheet_of supply demand S.cost) T p b spread =
        rw (same-supply w is, same-demand w is) a in
        let put : Spread cost (length demand) (take p.rows p.row_numbers) (take p.cafes p.column_numbers) new =
        rw (new-cost w is, same-demand w is) respread in
        rw (begins-kept (sheet_of supply demand cost) T is) (admitted_respread ok kept put)

-- The parties stay those of the sheet, with their amounts.
pub parties_kept : {S : Sheet} {e : Edit} {supply demand : List ℕ} {cost : List ℤ} → EditOf S e supply demand cost
    → {c : ℤ} → e.change ≡ Change.Cost c → {p : Parties} → PartiesOf S p → PartiesOf (sheet_of supply demand cost) p
parties_kept {S} {supply = supply} {demand} w is {p} h =
    let kept : PartiesOf (sheet_of supply demand S.cost) p = rw (same-supply w is, same-demand w is) h in
    parties-amounts kept

-- New amounts begin with the start.
pub admitted_afresh : (e : Edit) {s d : ℕ} {S : Sheet} (T : List Cell) {p : Parties} {b : Board} {cost : List ℤ}
    → e.change ≡ Change.Amounts s d → Admitted S (start (problem_of S)) p b cost
    → Admitted S (beginning e.change S T) p b cost
admitted_afresh e {S = S} T is a = rw (begins_afresh S T is) a

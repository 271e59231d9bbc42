-- Among those left the caller's tableau belongs exactly if it belongs to the sheet under own numbers.
use Rattle.std.specs.Prelude.{◌≡◌}
use Rattle.prelude.specs.Words.{sym, ◌∙◌, map, List, ℕ, take, Bool, true}
use Rattle.transport.specs.Sheet.{Sheet, cafes, sheet_of}
use Rattle.transport.specs.Extended.{extended}
use Rattle.transport.specs.Parties.{rows_left_of, columns_left, problem_of}
use Rattle.transport.specs.Tableau.{cells_of}
use Rattle.transport.specs.Belonging.{belongs}
use Rattle.transport.specs.OwnNumbers.{belongs_to}
use Rattle.transport.specs.Calls.{inside}
use Rattle.transport.specs.Statements.{Accepted}
use Rattle.transport.specs.Laws.ProblemLaws.{problem}
use Rattle.transport.proofs.Sound.{sound}
use Rattle.transport.specs.declared.Tableau.{Tableau}
use Rattle.parties.specs.declared.Parties.{Parties}
use Rattle.parties.specs.Parties.{PartiesOf, parties-problem, parties-numbers}
use Rattle.numbering.specs.Numbers.{cell_among_of}
use Rattle.numbering.specs.Belonging.{belongs-renumbered, inside-renumbered}
use Rattle.numbering.specs.Lent.{sides-room, rows_growing, columns_growing}
use Rattle.cost_grid.specs.Costs.{spreadable}
use Rattle.loading.specs.Loading.{tableau-refused, none-refused, begun-loaded}
use Rattle.loading.proofs.load_tableau.Goals as goal

pub number_parties-parties-requires : goal.number_parties-parties-requires
number_parties-parties-requires c = (_, c.requires.accepted)

pub renumber-t-requires : goal.renumber-t-requires
renumber-t-requires c =
    let n = parties-numbers (c.number_parties-parties.ensures c.args.cost.now) in
    rw (c.row_numbers.ensures, c.column_numbers.ensures) (rows_growing c.requires.accepted n, columns_growing c.requires.accepted n)

pub load-requires : goal.load-requires
load-requires c =
    let S = sheet_of c.args.supply.now c.args.demand.now c.args.cost.now in
    let h = c.number_parties-parties.ensures c.args.cost.now in
    record {
      sound = ((problem_of S).cost, rw (c.supplies.ensures, c.demands.ensures, parties-problem h) (sound c.requires.accepted));
      empty = c.requires.empty;
    }

-- ---- the tableau is renumbered and tested

module _ {S : Sheet} (ok : Accepted S) {p : Parties} (h : PartiesOf S p) (t inner : Tableau) {rows cols : List ℕ}
    (row_is : rows ≡ take p.rows p.row_numbers) (column_is : cols ≡ take p.columns p.column_numbers)
    (n : (inner.count ≡ t.count) × (cells_of inner ≡ map (cell_among_of rows cols) (cells_of t))) where
  inner-cells : cells_of inner ≡ map (cell_among_of (rows_left_of (extended S)) (columns_left (extended S))) (cells_of t)
  inner-cells = rw (row_is, column_is, h.row_numbers, h.column_numbers) at n.1

  same-verdict : belongs (problem_of S) inner ≡ belongs_to (extended S) t
  unfolding problem_of
  same-verdict = let (rows, cols) = sides-room ok in belongs-renumbered (extended S) rows cols t inner n.0 inner-cells

  inside_is : belongs_to (extended S) t ≡ true → cells_of inner ≡ inside S t
  unfolding inside
  inside_is own = let (rows, cols) = sides-room ok in inside-renumbered (extended S) rows cols t inner n.0 inner-cells own

-- What `load` tells, of the problem behind the sheet.
told : {S : Sheet} {p : Parties} (h : PartiesOf S p) (inner : Tableau) {supplies demands : List ℕ} {b : Bool}
    → supplies ≡ take p.rows p.supplies → demands ≡ take p.columns p.demands
    → b ≡ belongs (problem supplies demands (problem_of S).cost) inner → b ≡ belongs (problem_of S) inner
told h inner s d e = rw (s, d, parties-problem h) at e

pub returns-then-not-load-clause-loaded : goal.returns-then-not-load-clause-loaded
returns-then-not-load-clause-loaded c =
    let S = sheet_of c.args.supply.now c.args.demand.now c.args.cost.now in
    let ok = c.requires.accepted in
    let h = c.number_parties-parties.ensures c.args.cost.now in
    let inner = c.renumber-t.result in
    let verdict = told h inner c.supplies.ensures c.demands.ensures (c.load.ensures.value (problem_of S).cost) in
    let same = same-verdict ok h c.args.t inner c.row_numbers.ensures c.column_numbers.ensures c.renumber-t.ensures in
    tableau-refused S c.args.t ok (sym (verdict ∙ same) ∙ c.if-not-load.true)

pub spread_costs-requires : goal.spread_costs-requires
unfolding cafes
spread_costs-requires c =
    let h = c.number_parties-parties.ensures c.args.cost.now in
    rw (c.row_numbers-2.ensures, c.cafe_numbers.ensures, h.row_numbers, h.cafe_numbers) (spreadable c.requires.accepted)

pub returns-clause-loaded : goal.returns-clause-loaded
unfolding cafes
returns-clause-loaded c =
    let S = sheet_of c.args.supply.now c.args.demand.now c.args.cost.now in
    let ok = c.requires.accepted in
    let h = c.number_parties-parties.ensures c.args.cost.now in
    let inner = c.renumber-t.result in
    let verdict = told h inner c.supplies.ensures c.demands.ensures (c.load.ensures.value (problem_of S).cost) in
    let same = same-verdict ok h c.args.t inner c.row_numbers.ensures c.column_numbers.ensures c.renumber-t.ensures in
    let belonged = c.if-not-load.false in
    let spread = rw (c.row_numbers-2.ensures, c.cafe_numbers.ensures) at c.spread_costs.ensures in
    let loaded = rw (c.supplies.ensures, c.demands.ensures) at (c.load.ensures.loaded belonged) in
    let inside = inside_is ok h c.args.t inner c.row_numbers.ensures c.column_numbers.ensures c.renumber-t.ensures
    (sym (verdict ∙ same) ∙ belonged) in (
      none-refused S c.args.t ok (sym (verdict ∙ same) ∙ belonged),
      record {
        accepted = ok;
        parties = parties-numbers h;
        spread = spread;
        begun = begun-loaded ok h c.args.t inner c.load.new.board spread (sym verdict ∙ belonged) inside loaded;
      },
      h,
    )

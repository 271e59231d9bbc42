-- The first tableau of a sheet, as code gives it, and the arrays that hold it.
use Rattle.std.specs.Prelude.{◌≡◌, ◌≤◌}
use Rattle.prelude.specs.Words.{refl, sym, ap, ◌∙◌, subst, List, ℕ, arith, ℤ, length, take}
use Rattle.transport.specs.Problem.{Problem, sources, sinks}
use Rattle.transport.specs.Sheet.{Sheet, cafes}
use Rattle.transport.specs.Extended.{extended}
use Rattle.transport.specs.Parties.{problem_of}
use Rattle.transport.specs.Statements.{Accepted}
use Rattle.transport.specs.Laws.PartiesLaws.{struck-sources, struck-sinks}
use Rattle.transport.specs.Laws.Sound.{Sound}
use Rattle.transport.proofs.Sound.{sound}
use Rattle.transport.specs.Tableau.{cells_of, tableau_of, basis_for, basis_size, start}
use Rattle.transport.specs.declared.Tableau.{Tableau}
use Rattle.tableaux.specs.View.{Inside, Distinct}
use Rattle.tableaux.specs.Striking.{Struck}
use Rattle.tableaux.specs.Starting.{start-belongs}
use Rattle.tableaux.specs.Belonging.{belongs_iff, distinct_of, spans_of}
use Rattle.demands.specs.Says.{cells_for}
use Rattle.parties.specs.declared.Parties.{Parties}
use Rattle.parties.specs.Parties.{PartiesOf, parties-numbers}
use Rattle.tree.specs.Layout.{stride-is, node_room}
use Rattle.tree.specs.Basis.{struck_off}
use Rattle.tree.specs.Strip.{Stripped}
use Rattle.board.specs.Cells.{cell_room}
use Rattle.board.specs.declared.Board.{Board}
use Rattle.board.specs.Arrays.{Sides, sound-sides, Amounts as AmountsOf}
use Rattle.dealing.specs.Corner.{costless, sound-costless, start-costless, length-start}
use Rattle.cost_grid.specs.Costs.{Spread, spread_costed}
use Rattle.rounds.specs.OnBoard.{BegunOn}
use Rattle.loading.specs.Loading.{Admitted}

-- The lists are those of a sound problem, so there is a first tableau of them.
pub first-sound : {P : Problem} → Sound P → {supplies demands : List ℕ} → supplies ≡ P.supply → demands ≡ P.demand
    → Sound (costless supplies demands)
first-sound {P} ok s d = rw (s, d) (sound-costless P ok)

-- The parties of an accepted sheet are numbered, and t is the first tableau of those left.
pub record Dealt (S : Sheet) (p : Parties) (t : Tableau) : Type 0 where
  pub parties : PartiesOf S p
  pub first : t ≡ tableau_of (start (problem_of S))

pub first_dealt : {S : Sheet} {p : Parties} {supplies demands : List ℕ} {t : Tableau} → PartiesOf S p
    → supplies ≡ take p.rows p.supplies → demands ≡ take p.columns p.demands
    → t ≡ tableau_of (start (costless supplies demands)) → Dealt S p t
first_dealt {S} h s d first = record {
  parties = h;
  first = first ∙ rw (s, d, h.supplies, h.demands) (ap tableau_of (start-costless (problem_of S)));
}

module _ {S : Sheet} (accepted : Accepted S) {p : Parties} {t : Tableau} (w : Dealt S p t) where
  abbrev P : Problem
  P = problem_of S

  ok : Sound P
  ok = sound accepted

  row_count : p.rows ≡ sources P
  unfolding problem_of
  row_count = w.parties.row_count_of ∙ sym (struck-sources (extended S))

  column-count : p.columns ≡ sinks P
  unfolding problem_of
  column-count = w.parties.column_count_of ∙ sym (struck-sinks (extended S))

  -- Its cells can be laid out over the arrays ..
  pub first_fits : (t.count ≤ cell_room) × Sides p.rows p.columns × Inside p.rows p.columns (cells_of t)
      × Distinct (cells_of t)
  unfolding tableau_of
  first_fits =
      let b = start-belongs P ok in
      rw (w.first, cells_for (start P), row_count, column-count) (
        omega (arith, length-start P ok, stride-is, ok.sources_high, ok.sinks_high),
        sound-sides ok refl refl,
        b.on_sheet,
        distinct_of ok b,
      )

  -- .. which then hold the start, with the costs once these are spread. Its lanes span, so that all
  -- of them are struck off.
  pub first_admitted : {b : Board} {cost : List ℤ} {r : ℕ}
      → Spread S.cost (cafes S) (take p.rows p.row_numbers) (take p.cafes p.column_numbers) cost
      → AmountsOf p.rows p.columns (cells_of t) b.amounts.q b.amounts.e → length b.basis.lane ≡ node_room
      → Stripped p.rows p.columns (basis_for (cells_of t)) (struck_off b.basis r) r
      → Admitted S (start P) p b cost
  unfolding basis_size
  first_admitted {b} {cost} {r} spread a long x =
      let own = start-belongs P ok in
      let h = w.parties in
      let x : Stripped (sources P) (sinks P) (basis_for (start P)) (struck_off b.basis r) r =
      rw (w.first, cells_for (start P), row_count, column-count) at x in
      let (all, struck) = x.complete (spans_of ok own) in
      let StruckBy : ℕ → Type 0 = λ k. Struck (sources P) (sinks P) (basis_for (start P)) (struck_off b.basis k) in
      let begun : BegunOn P (start P) b cost (sources P) (sinks P) = record {
        sound = ok;
        rows = refl;
        columns = refl;
        belongs = (belongs_iff P (start P) ok.sources_low ok.sinks_low).1 own;
        costs = spread_costed accepted (rw (h.row_numbers, h.cafe_numbers) at spread);
        loaded = record {
          amounts = rw (w.first, cells_for (start P), row_count, column-count) at a;
          long = long;
          struck = subst StruckBy all struck;
        };
      } in
      record { accepted = accepted; parties = parties-numbers h; spread = spread; begun = rw (row_count, column-count) begun }

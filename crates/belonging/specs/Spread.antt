-- A tableau in the flat arrays: whether its lanes span and its amounts add up, as the code finds it.
use Rattle.std.specs.Prelude.{◌+◌, ◌-◌, ◌*◌, ◌<◌, ◌≡◌, ◌↔◌, ◌&&◌}
use Rattle.prelude.specs.Words.{ℕ, refl, sym, ap, ◌∙◌, subst, Bool, true, false, List, eqb, ltb, ltb-true, eq-eqb, ne_eqb}
use Rattle.prelude.specs.Words.{ℤ, pos, length, get_or, length-map, by_test, and-eq-true_iff, and-false}
use Rattle.transport.specs.Lists.{all, at, total}
use Rattle.transport.specs.Laws.ListLaws.{and_left, and_right, all-at, member-table, table-member}
use Rattle.transport.specs.Problem.{Problem, sources, sinks}
use Rattle.transport.specs.Laws.ProblemLaws.{lane, problem}
use Rattle.transport.specs.Laws.Sound.{Sound, supply-most, demand-most}
use Rattle.transport.specs.Tableau.{no_cell, lane_of, basis_for, basis_size, cells_of}
use Rattle.transport.specs.Belonging.{on_sheet, in_order, above_zero, balanced, spans, cells_belong, belongs}
use Rattle.transport.specs.Round.{flow}
use Rattle.transport.specs.declared.Pair.{Pair}
use Rattle.transport.specs.declared.Cell.{Cell}
use Rattle.transport.specs.declared.Tableau.{Tableau}
use Rattle.tableaux.specs.View.{Distinct, Inside, row_of, col_of, amount_at}
use Rattle.tableaux.specs.Belonging.{fits-inside, order-true}
use Rattle.tableaux.specs.Order.{ordered_by, ordered_distinct}
use Rattle.tree.specs.Layout.{stride, node_room, lane_at, lane_index, lane_index-at, strike_for, strikes_of}
use Rattle.belonging.specs.FlowLaws.{weights_of}
use Rattle.board.specs.CellTests.{on_board, cells_fit_of}
use Rattle.board.specs.declared.Board.{Board}
use Rattle.board.specs.Arrays.{Sides, sound-sides, Amounts}
use Rattle.tree.specs.Links.{iff_same}
use Rattle.tree.specs.Strip.{Stripped}
use Rattle.belonging.specs.Carried.{carries_flow, carries_flow-true, carries_flow-at}
use Rattle.belonging.specs.Balance.{Spanning, Carry, Weights, mark_of, balanced_iff}
use Rattle.belonging.specs.Weighing.{Modest}

-- ---- the sheet

module _ {supply demand : List ℕ} {cost : List ℤ} (ok : Sound (problem supply demand cost)) where
  pub list_sides : Sides (length supply) (length demand)
  unfolding sources sinks
  list_sides = sound-sides ok refl refl

  pub sound_modest : Modest supply × Modest demand
  sound_modest = (record { few = list_sides.rows_high; high = supply-most ok }, record { few = list_sides.cols_high; high = demand-most ok })

-- ---- the basis

-- m + n − 1 distinct cells, all on the sheet, of whose lanes r are struck off.
module _ {m n : ℕ} (T : List Cell) (sides : Sides m n) (inside : Inside m n T) (distinct : Distinct T) (many : length T ≡ basis_size m n)
    (leaf other lanes : List ℕ) (r : ℕ) (w : Stripped m n (basis_for T) (strikes_of leaf other lanes r) r) where
  -- All lanes are struck off if they span ..
  pub struck-apart : (r ≡ basis_size m n → ⊥) → spans m n (basis_for T) ≡ false
  struck-apart d = by_test (spans m n (basis_for T)) (λ s. absurd (d (w.complete s).0)) (λ s. s)

  -- .. and only then.
  pub struck-spans : r ≡ basis_size m n → Spanning m n T (strikes_of leaf other lanes (basis_size m n))
  unfolding basis_for
  struck-spans s = let (spanned, struck) = w.sound (length-map T lane_of ∙ many) s in
      subst (λ (k : ℕ). Spanning m n T (strikes_of leaf other lanes k)) s
      (record { rows_low = sides.rows_low; cols_low = sides.cols_low; inside = inside; distinct = distinct; spans = spanned; struck = struck })

-- ---- the amounts in their array

module _ {m n : ℕ} {T : List Cell} (leaf other lanes : List ℕ) (count : ℕ) (t : Spanning m n T (strikes_of leaf other lanes count)) (part : Pair → ℤ)
    (amount : List ℤ) (lies : (i j : ℕ) → i < m → j < n → get_or amount (i * stride + j) (pos 0) ≡ part (amount_at T i j)) (w : ℕ → ℤ) where
  carries_flow_iff : (carries_flow w (strikes_of leaf other lanes count) amount lanes count ≡ true) ↔ Carry T (strikes_of leaf other lanes count) part w
  unfolding strikes_of
  carries_flow_iff = (
    λ c i j d.
        let (s, mem, is) = t.struck.struck (lane i j) d in let (k, l, at) = table-member count (strike_for leaf other lanes) mem in
        let here : lane_at (get_or lanes k 0) ≡ lane i j = sym (ap (λ s. s.lane) at) ∙ is in
        let there : get_or lanes k 0 ≡ i * stride + j = sym (lane_index-at (get_or lanes k 0)) ∙ ap lane_index here in
        let (a, b) = fits-inside m n T t.inside (lane i j) d in
        sym (lies i j a b) ∙ ap (λ (l : ℕ). get_or amount l (pos 0)) (sym there)
        ∙ carries_flow-at w (strikes_of leaf other lanes count) amount lanes count c k l ∙ ap (flow w (strikes_of leaf other lanes count)) here,
    λ h. carries_flow-true w (strikes_of leaf other lanes count) amount lanes count (λ k l.
        let x = lane_at (get_or lanes k 0) in
        let d = t.struck.lanes (strike_for leaf other lanes k) (member-table count (strike_for leaf other lanes) k l) in
        let (a, b) = fits-inside m n T t.inside x d in
        ap (λ (l : ℕ). get_or amount l (pos 0)) (sym (lane_index-at (get_or lanes k 0))) ∙ lies x.row x.col a b ∙ h x.row x.col d),
  )

-- ---- balanced, by the two flows

-- The amounts of T lie on their lanes, which the strikes strike off.
pub record Balancing (m n : ℕ) (T : List Cell) (q e : List ℤ) (leaf other lanes : List ℕ) : Type 0 where
  pub amounts : Amounts m n T q e
  pub long : length lanes ≡ node_room
  pub spanning : Spanning m n T (strikes_of leaf other lanes (m + n - 1))

abbrev pub BalancingOn : ℕ → ℕ → List Cell → Board → Type 0
BalancingOn m n T b = Balancing m n T b.amounts.q b.amounts.e b.basis.leaf b.basis.other b.basis.lane

module _ (supply demand : List ℕ) (cost : List ℤ) {T : List Cell} {q e : List ℤ} (h : Amounts (length supply) (length demand) T q e)
    (leaf other lanes : List ℕ) (count : ℕ)
    (t : Spanning (length supply) (length demand) T (strikes_of leaf other lanes count)) (totals : total supply ≡ total demand) {bags marks : List ℤ}
    (b : Weights (length supply) (length demand) (at supply) (at demand) bags)
    (k : Weights (length supply) (length demand) (λ i. 1) (mark_of (length supply) (length demand)) marks) where
  pub balanced-is : balanced (problem supply demand cost) T ≡ carries_flow (weights_of bags) (strikes_of leaf other lanes count) q lanes count
      && carries_flow (weights_of marks) (strikes_of leaf other lanes count) e lanes count
  unfolding sources sinks
  balanced-is = let (to, from) = balanced_iff (problem supply demand cost) t totals b k in
      let bagsAre = carries_flow_iff leaf other lanes count t (λ a. a.q) q h.bags (weights_of bags) in
      let marksAre = carries_flow_iff leaf other lanes count t (λ a. a.e) e h.marks (weights_of marks) in iff_same _ _
      (λ s. let (x, y) = to s in rw (bagsAre.1 x, marksAre.1 y))
      (λ s. let (x, y) = (and-eq-true_iff _ _).0 s in from (bagsAre.0 x, marksAre.0 y))

-- ---- belonging

regroup : (a b c d e : Bool) → a && b && c && d && e ≡ (a && (b && d)) && (c && e)
regroup true true true true e = refl
regroup true true true false e = refl
regroup true true false true e = refl
regroup true true false false e = refl
regroup true false true d e = refl
regroup true false false d e = refl
regroup false b c d e = refl

-- The tests of belonging as the code makes them: of the count, of cell after cell, and of the whole.
module _ (supply demand : List ℕ) (cost : List ℤ) (t : Tableau) where
  abbrev P : Problem
  P = problem supply demand cost

  abbrev size : ℕ
  size = basis_size (length supply) (length demand)

  abbrev fits : Bool
  fits = cells_fit_of (length supply) (length demand) (cells_of t)

  abbrev whole : Bool
  whole = spans (length supply) (length demand) (basis_for (cells_of t)) && balanced P (cells_of t)

  belongs-is : belongs P t ≡ eqb t.count size && (fits && whole)
  unfolding belongs cells_belong cells_fit_of on_board on_sheet sources sinks
  belongs-is = ap (λ (b : Bool). eqb t.count size && b) (regroup (all (on_sheet P) (cells_of t)) (in_order (length demand) (cells_of t))
      (spans (length supply) (length demand) (basis_for (cells_of t))) (all above_zero (cells_of t)) (balanced P (cells_of t)))

  pub other-count : (t.count ≡ size → ⊥) → belongs P t ≡ false
  other-count d = belongs-is ∙ rw (ne_eqb t.count size d)

  pub other-cells : fits ≡ false → belongs P t ≡ false
  other-cells f = belongs-is ∙ rw f (and-false (eqb t.count size))

  pub belongs-whole : t.count ≡ size → fits ≡ true → belongs P t ≡ whole
  belongs-whole c f = belongs-is ∙ rw (eq-eqb t.count size c, f)

-- Cells that fit are distinct and inside the sheet.
module _ (m n : ℕ) (T : List Cell) (f : cells_fit_of m n T ≡ true) where
  pub fit_inside : Inside m n T
  unfolding cells_fit_of on_board
  fit_inside k l = let (r, c) = (and-eq-true_iff (ltb (row_of T k) m) (ltb (col_of T k) n)).0
      (all-at (on_board m n) T no_cell k (and_left (all (on_board m n) T) (in_order n T && all above_zero T) f) l) in (ltb-true _ m r, ltb-true _ n c)

  pub fit_distinct : Distinct T
  unfolding cells_fit_of
  fit_distinct = ordered_distinct n T (ordered_by n T
      (order-true n T (and_left (in_order n T) (all above_zero T) (and_right (all (on_board m n) T) (in_order n T && all above_zero T) f))))

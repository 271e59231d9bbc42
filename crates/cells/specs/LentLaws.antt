-- The tableau that a lent list of cells is (`Tableau.lent_tableau_of`): how it is put together, and
-- what the calls make of it.
use Rattle.std.specs.Prelude.{◌+◌, ◌-◌, ◌<◌, ◌≤◌, ◌≡◌, ◌&&◌, ◌++◌}
use Rattle.prelude.specs.Words.{ℕ, arith, dec_lt, dec_le, min, drop, sub-zero, length-take, refl, sym, ap, ◌∙◌}
use Rattle.prelude.specs.Words.{by_cases, Bool, true, false, List}
use Rattle.prelude.specs.Words.{eqb, length, take, length-map, take_all}
use Rattle.prelude.specs.Words.{take-append_seam, ne_eqb, by_test, clash}
use Rattle.transport.specs.Lists.{all, padded}
use Rattle.transport.specs.Limits.{max_cells}
use Rattle.transport.specs.Problem.{Problem, sources, sinks}
use Rattle.transport.specs.Laws.Sound.{Sound}
use Rattle.transport.specs.Tableau.{no_cell, lane_of, basis_for, basis_size, cells_of, tableau_of, no_tableau, lent_tableau_of}
use Rattle.transport.specs.Belonging.{on_sheet, in_order, above_zero, balanced, spans, cells_belong, belongs}
use Rattle.transport.specs.declared.Cell.{Cell}
use Rattle.transport.specs.Laws.ListLaws.{drop-replicate}

-- A list that the array has room for is the tableau of its cells.
pub lent-tableau : (T : List Cell) → length T ≤ max_cells → lent_tableau_of T ≡ tableau_of T
unfolding lent_tableau_of tableau_of
lent-tableau T l = rw (take_all max_cells T l)

-- As many cells as the array has room for are copied to its front, and all are counted.
pub lent-front : (T : List Cell) {held : ℕ} {front : List Cell} → held ≡ min (length T) max_cells → front ≡ take held T
    → record { cells = front ++ drop held no_tableau.cells; count = length T } ≡ lent_tableau_of T
unfolding lent_tableau_of no_tableau tableau_of padded
lent-front T {held} e f =
    let long : length (take max_cells T) ≡ held = omega (arith, length-take max_cells T) in
    let same : take held T ≡ take max_cells T = by_cases (dec_le (length T) max_cells)
    (λ l. take_all held T (omega arith) ∙ sym (take_all max_cells T l))
    (λ l. let all : held ≡ max_cells = omega arith in rw all) in
    rw (f, same, long, sub-zero, drop-replicate no_cell held max_cells)

-- ---- what a call on the tableau that a list is goes by: whether the list belongs to the sheet, and its cells

cells-back : (T : List Cell) → length T ≤ max_cells → cells_of (lent_tableau_of T) ≡ T
unfolding cells_of tableau_of padded
cells-back T l = rw (lent-tableau T l) (take-append_seam T _)

third_false : (a b d e : Bool) → a && b && false && d && e ≡ false
third_false true true d e = refl
third_false true false d e = refl
third_false false b d e = refl

module _ (P : Problem) (T : List Cell) where
  -- Cells of another count do not belong, neither as a list ..
  other-count : eqb (length T) (basis_size (sources P) (sinks P)) ≡ false → cells_belong P T ≡ false
  unfolding cells_belong spans basis_for
  other-count e = rw (length-map T lane_of, e) (third_false (all (on_sheet P) T) (in_order (sinks P) T) (all above_zero T) (balanced P T))

  -- .. nor as a tableau.
  other-count-lent : eqb (length T) (basis_size (sources P) (sinks P)) ≡ false → belongs P (lent_tableau_of T) ≡ false
  unfolding belongs lent_tableau_of
  other-count-lent e = rw e

  few_belong : length T ≤ max_cells → belongs P (lent_tableau_of T) ≡ cells_belong P T
  unfolding belongs lent_tableau_of
  few_belong l = rw (cells-back T l) (by_test (eqb (length T) (basis_size (sources P) (sinks P)))
      (λ e. ap (λ (b : Bool). b && cells_belong P T) e)
      (λ e. ap (λ (b : Bool). b && cells_belong P T) e ∙ sym (other-count e)))

  -- More cells than the array has room for are more than a sound problem asks for.
  too_many : Sound P → max_cells < length T → eqb (length T) (basis_size (sources P) (sinks P)) ≡ false
  unfolding basis_size max_cells
  too_many e l = ne_eqb (length T) (sources P + sinks P - 1) (λ z. omega (arith, e.sources_high, e.sinks_high))

  -- To a sound problem the tableau belongs exactly if the cells do, however many they are ..
  pub lent-belongs : Sound P → belongs P (lent_tableau_of T) ≡ cells_belong P T
  lent-belongs e =
      by_cases (dec_lt max_cells (length T))
      (λ l. other-count-lent (too_many e l) ∙ sym (other-count (too_many e l)))
      (λ l. few_belong (omega arith))

  -- .. and then it holds them all.
  pub lent-cells : Sound P → cells_belong P T ≡ true → cells_of (lent_tableau_of T) ≡ T
  lent-cells e b =
      by_cases (dec_lt max_cells (length T))
      (λ l. clash b (other-count (too_many e l)))
      (λ l. cells-back T (omega arith))

-- The entering lane: it is on the sheet, and on an unfinished tableau its reduced cost is negative, so that it is not basic.
use Rattle.std.specs.Prelude.{◌≡◌, ◌<◌}
use Rattle.prelude.specs.Words.{refl, ap, sym, ◌∙◌, Bool, true, false, List, ℕ, arith, mul-le-mul_right, ℤ, pos, negsuc, lt_z, non_neg}
use Rattle.prelude.specs.Words.{get_or, by_test}
use Rattle.prelude.specs.Words.{clash}
use Rattle.integers.specs.Integer.{◌≺◌, ◌⊕◌}
use Rattle.integers.specs.Tests.{lt_yes, lt_no}
use Rattle.transport.specs.Laws.ListLaws.{by_key, FirstLeast, first_least-is}
use Rattle.transport.specs.Laws.AmountLaws.{lt_z_weak}
use Rattle.transport.specs.Problem.{Problem, sources, sinks, Lane, lanes, place}
use Rattle.transport.specs.Laws.ProblemLaws.{lane, place-below, Placed, lane_placed, length-lanes, get_or-lanes, all_lanes}
use Rattle.transport.specs.Laws.Sound.{Sound}
use Rattle.transport.specs.Tableau.{lane_of, no_cell}
use Rattle.transport.specs.Potential.{reduced_cost, is_finished_of}
use Rattle.transport.specs.Round.{entering}
use Rattle.transport.specs.Statements.{Basic, Belongs}
use Rattle.transport.specs.declared.Cell.{Cell}
use Rattle.tableaux.specs.PlanView.{costs}
use Rattle.tableaux.specs.Belonging.{prices-tight}
use Rattle.tableaux.specs.Least.{row_potential, column_potential, reduced-parts}

not_negative : (x y : ℤ) → lt_z x (pos 0) ≡ false → lt_z y x ≡ false → non_neg y ≡ true
not_negative x (pos b) p q = refl
not_negative x (negsuc b) p q = absurd (omega (arith, lt_no x (pos 0) p, lt_no (negsuc b) x q))

module _ {P : Problem} (ok : Sound P) (T : List Cell) where
  abbrev m : ℕ
  m = sources P

  abbrev n : ℕ
  n = sinks P

  abbrev less : Lane → Lane → Bool
  less k l = lt_z (reduced_cost P T k) (reduced_cost P T l)

  chosen : (k : ℕ) × FirstLeast less (lane_of no_cell) (lanes m n) (entering P T) k
  unfolding entering
  chosen = first_least-is less (by_key (reduced_cost P T) lt_z_weak) (lane_of no_cell) (lanes m n)
      (omega (arith, length-lanes m n, mul-le-mul_right n ok.sources_low, ok.sinks_low))

  -- It is on the sheet.
  pub entering-inside : ((entering P T).row < sources P) × ((entering P T).col < sinks P)
  entering-inside =
      let (k, f) = chosen in
      let w : Placed m n k = lane_placed m n k (omega (arith, f.inside, length-lanes m n)) in
      let e : entering P T ≡ lane w.row w.col = sym f.stands ∙ ap (λ x. get_or (lanes m n) x (lane_of no_cell)) (sym w.placed)
      ∙ get_or-lanes m n w.row w.col (lane_of no_cell) w.row_below w.col_below in
      rw e (w.row_below, w.col_below)

  -- No lane has a smaller reduced cost.
  entering-least : (i j : ℕ) → i < sources P → j < sinks P → lt_z (reduced_cost P T (lane i j)) (reduced_cost P T (entering P T)) ≡ false
  entering-least i j hi hj =
      ap (λ l. lt_z (reduced_cost P T l) (reduced_cost P T (entering P T))) (sym (get_or-lanes m n i j (lane_of no_cell) hi hj))
      ∙ chosen.1.least (place n i j) (omega (arith, place-below m n i j hi hj, length-lanes m n))

  module _ (unfinished : is_finished_of P T ≡ false) where
    -- If it were not negative, none would be.
    entering-negative : lt_z (reduced_cost P T (entering P T)) (pos 0) ≡ true
    unfolding is_finished_of
    entering-negative = by_test (lt_z (reduced_cost P T (entering P T)) (pos 0))
        (λ p. p)
        (λ p. clash (all_lanes (λ l. non_neg (reduced_cost P T l)) m n
        (λ i j hi hj. not_negative (reduced_cost P T (entering P T)) (reduced_cost P T (lane i j)) p (entering-least i j hi hj))) unfinished)

    pub entering-below : costs P (entering P T).row (entering P T).col ≺ row_potential P T (entering P T).row ⊕ column_potential P T (entering P T).col
    entering-below = omega (arith, reduced-parts P T (entering P T).row (entering P T).col, lt_yes (reduced_cost P T (entering P T)) (pos 0) entering-negative)

    -- On basic lanes it is 0.
    pub entering-new : Belongs P T → ¬ Basic T (entering P T).row (entering P T).col
    entering-new w b = omega (arith, entering-below, prices-tight ok w (entering P T).row (entering P T).col b)

-- Any two finished tableaux that belong to the same problem have the same potentials, however they
-- were reached (02, Five and Fourteen).
use Rattle.std.specs.Prelude.{◌≡◌, ◌+◌, ◌-◌, ◌<◌}
use Rattle.prelude.specs.Words.{refl, sym, true, List, ℕ, suc, arith, length}
use Rattle.network.specs.Flow.{Tight}
use Rattle.network.specs.Basis.{in_cells}
use Rattle.network.specs.Crosswise.{tight_crosswise}
use Rattle.transport.specs.Problem.{Problem, sources, sinks, lane_cost}
use Rattle.transport.specs.Laws.Sound.{Sound}
use Rattle.transport.specs.Potential.{potential, is_finished_of}
use Rattle.transport.specs.Statements.{Basic, Belongs}
use Rattle.transport.specs.declared.Cell.{Cell}
use Rattle.tableaux.specs.View.{row_of, col_of, basic_in}
use Rattle.tableaux.specs.Lanes.{has-basic}
use Rattle.tableaux.specs.PlanView.{costs}
use Rattle.tableaux.specs.Belonging.{fits_of, spans_of, prices-tight}
use Rattle.tableaux.specs.Potentials.{potential-root, potential-only}
use Rattle.tableaux.specs.Least.{row_potential, column_potential, finished-feasible}
use Rattle.tableaux.specs.TableauView.{belongs_seen, cells-many}

module _ {P : Problem} (ok : Sound P) where
  -- Cell by cell the prices are tight.
  tight-cells : {T : List Cell} → Belongs P T → (k : ℕ) → k < suc (sources P + sinks P - 2)
      → Tight (costs P) (row_potential P T) (column_potential P T) (row_of T k) (col_of T k)
  tight-cells {T} w k l =
      let inside : k < length T = omega (arith, cells-many ok T w.count) in
      prices-tight ok w (row_of T k) (col_of T k) (record { index = k; below = inside; row = refl; column = refl })

  module _ {T U : List Cell} (w : Belongs P T) (x : Belongs P U) (done : is_finished_of P T ≡ true)
      (also : is_finished_of P U ≡ true) where
    -- Every basic cell of T is tight for the prices of U. So the prices of U satisfy the equations
    -- that determine those of T.
    tight_for_other : (i j : ℕ) → Basic T i j → Tight (costs P) (row_potential P U) (column_potential P U) i j
    tight_for_other i j b =
        in_cells (λ i j. Tight (costs P) (row_potential P U) (column_potential P U) i j)
        (tight_crosswise (omega (arith, ok.sinks_low)) (belongs_seen ok w) (belongs_seen ok x) (costs P)
        (row_potential P T) (column_potential P T) (row_potential P U) (column_potential P U)
        (tight-cells w) (tight-cells x) (finished-feasible P T done) (finished-feasible P U also))
        ((basic_in T (suc (sources P + sinks P - 2)) i j (cells-many ok T w.count)).0 b)

    pub equal_potentials : (k : ℕ) → k < sources P + sinks P → potential P T k ≡ potential P U k
    unfolding potential
    equal_potentials k l = sym
        (potential-only ok.sources_low (fits_of ok w) (spans_of ok w) (lane_cost P) (potential P U)
        (potential-root ok.sources_low (fits_of ok x) (spans_of ok x) (lane_cost P))
        (λ l q. tight_for_other l.row l.col ((has-basic T l.row l.col).0 q)) k l)

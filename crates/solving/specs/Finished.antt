-- The board of a finished tableau: from it settling starts, and what it ends with are the bags of the optimal plan.
use Rattle.std.specs.Prelude.{◌≡◌, ◌↔◌, ◌+◌, ◌*◌, ◌-◌, ◌<◌}
use Rattle.prelude.specs.Words.{◌∙◌, by_cases, true, List, ℕ, arith, dec_lt, ℤ, pos, get_or, clash}
use Rattle.integers.specs.Integer.{◌≈◌, nat}
use Rattle.integers.specs.IntegerLaws.{⊗_cong}
use Rattle.network.specs.Flow.{Plan, Tight}
use Rattle.network.specs.FlowLaws.{flow_cong, flow-on, plan-on}
use Rattle.network.specs.Settling.{DecidedTo, decided-start, decided-on, decided-other}
use Rattle.transport.specs.Lists.{table}
use Rattle.transport.specs.Laws.ListLaws.{length-table}
use Rattle.transport.specs.Problem.{Problem, sources, sinks}
use Rattle.transport.specs.Laws.Sound.{Sound, supply-most}
use Rattle.transport.specs.Amount.{nothing}
use Rattle.transport.specs.Belonging.{cells_belong}
use Rattle.transport.specs.Potential.{potential, is_finished_of}
use Rattle.transport.specs.Statements.{Basic, Belongs}
use Rattle.transport.specs.declared.Cell.{Cell}
use Rattle.tableaux.specs.View.{amount-none}
use Rattle.tableaux.specs.Belonging.{belongs_iff}
use Rattle.tableaux.specs.TableauView.{bags_at}
use Rattle.tableaux.specs.PlanView.{carried, supplies, demands, costs}
use Rattle.tableaux.specs.ProblemPlans.{flow_cost, Optimal}
use Rattle.tableaux.specs.Least.{row_potential, column_potential, finished-feasible}
use Rattle.optimality.specs.Settling.{tight-lanes, settling_start, basics-single, decided-optimal}
use Rattle.board.specs.Held.{Held, row-basic, basic-row}
use Rattle.board.specs.Drawing.{Redrawn, board-held}
use Rattle.cost_grid.specs.Costs.{Costed}
use Rattle.rounds.specs.Begun.{Judged}
use Rattle.augment.specs.Bags.{lane_bags, InMask, OnBasics}
use Rattle.settle.specs.Rows.{Settleable}
use Rattle.tight.specs.Tight.{Ranged, TightLanes, tight-same, tight_ranged}
use Rattle.plan_store.specs.Plan.{bags_in, NoDebt, debtless, plan-carries}

-- The tableau T of the problem P is finished. The arrays hold it, with the masks of its basic lanes, the costs lie by column, and the prices are its own.
pub record Finished (P : Problem) (T : List Cell) (adj : List ℕ) (q e cost price : List ℤ) (m n : ℕ) : Type 0 where
  pub sound : Sound P
  pub rows : m ≡ sources P
  pub columns : n ≡ sinks P
  pub belongs : cells_belong P T ≡ true
  pub costs : Costed P cost
  pub held : Held m n T adj q e
  pub done : is_finished_of P T ≡ true
  pub prices : (k : ℕ) → k < m + n → get_or price k (pos 0) ≡ potential P T k

-- Once the masks of its basic lanes are drawn.
pub judged-finished : {P : Problem} {T : List Cell} {q e cost price : List ℤ} {lanes adj : List ℕ} {m n : ℕ} → Judged P T q e price lanes m n true
    → Costed P cost → Redrawn m lanes (m + n - 1) adj → Finished P T adj q e cost price m n
judged-finished j costs w = let b = j.board in let f = j.done in let p = j.prices in
    record { sound = b.sound; rows = b.rows; columns = b.columns; belongs = b.belongs; costs = costs; held = board-held b w; done = f; prices = p }

module _ {P : Problem} {T : List Cell} {adj : List ℕ} {q e cost price : List ℤ} {m n : ℕ} (f : Finished P T adj q e cost price m n) where
  node_prices : (k : ℕ) → k < sources P + sinks P → get_or price k (pos 0) ≡ potential P T k
  node_prices = rw (f.rows, f.columns) at f.prices

  its_own : Belongs P T
  its_own = (belongs_iff P T f.sound.sources_low f.sound.sinks_low).0 f.belongs

  pub finished_ranged : Ranged cost price m n
  finished_ranged = rw (f.rows, f.columns) (tight_ranged P T f.sound f.belongs f.costs.lanes node_prices)

  -- ---- where settling starts

  -- The bags lie on basic lanes.
  on-basics : OnBasics m n adj q
  unfolding nothing
  on-basics = record {
    rows = finished_ranged.rows;
    cols = finished_ranged.cols;
    q_long = f.held.q_long;
    inside = λ i j hi h.
        let b = row-basic f.held i j hi h in
        omega (arith, rw b.column at (its_own.on_sheet b.index b.below).1, f.columns);
    off = λ i j hi hj h. f.held.bags i j hi hj ∙ rw (amount-none T i j (λ b. h (basic-row f.held i j hi b)));
  }

  same-bags : (i j : ℕ) → i < m → j < n → lane_bags q i j ≈ bags_at T i j
  same-bags i j hi hj = rw (f.held.bags i j hi hj) (omega arith)

  module _ {masks : List ℕ} (t : TightLanes cost price m n m masks) where
    tight : (i j : ℕ) → i < m → j < n → InMask masks i j ↔ Tight (costs P) (row_potential P T) (column_potential P T) i j
    tight i j hi hj = let same = tight-same P T (rw (f.rows, f.columns) at t) f.costs.lanes node_prices in
        rw (same i j (omega (arith, f.rows)) (omega (arith, f.columns))) (tight-lanes P T i j)

    start : DecidedTo m n (supplies P) (demands P) (InMask masks) 0 (lane_bags q)
    start = let d = settling_start f.sound its_own in
        let d : DecidedTo m n (supplies P) (demands P) (Tight (costs P) (row_potential P T) (column_potential P T)) 0 (bags_at T) =
        rw (f.rows, f.columns) d in
        decided-start (flow_cong same-bags (flow-on (λ i j hi hj s. (tight i j hi hj).1 s) d.flow))
        (λ i j hi hj. omega (arith, same-bags i j hi hj, d.nonneg i j hi hj))

    pub finished_settleable : Settleable m n (supplies P) (demands P) masks adj q
    finished_settleable = record {
      plan = start;
      most = λ i hi. omega (arith, supply-most f.sound i);
      inside = λ i j hi h. by_cases (dec_lt j n) (λ l. l) (λ l. clash h ((t.rows i hi).past j (omega arith)));
      on_basics = on-basics;
      single = λ k y g i j hi hj.
          let g : Plan (sources P) (sinks P) (Basic T) k y (supplies P) (demands P) =
          rw (f.rows, f.columns) at (plan-on (λ i j hi hj h. row-basic f.held i j hi h) g) in
          omega (
            arith,
            basics-single f.sound its_own k y g i j (omega (arith, f.rows)) (omega (arith, f.columns)),
            ⊗_cong (nat k) (lane_bags q i j) (bags_at T i j) (same-bags i j hi hj),
          );
    }

    -- ---- where it ends

    module _ (q' : List ℤ) (d : DecidedTo m n (supplies P) (demands P) (InMask masks) (m * n) (lane_bags q')) where
      abbrev plan : List ℕ
      plan = table (m * n) (bags_in n q')

      at-end : DecidedTo m n (supplies P) (demands P) (Tight (costs P) (row_potential P T) (column_potential P T)) (m * n) (carried n plan)
      at-end = let same = plan-carries q' d.nonneg in let d = decided-on tight d in
          decided-other (flow_cong same d.flow) (λ i j hi hj. omega arith) (λ i j hi hj l. same i j hi hj) d

      settled-optimal : Optimal P plan (flow_cost P plan)
      settled-optimal = let d = rw (f.rows, f.columns) at at-end in
          rw (f.rows, f.columns) (decided-optimal P (row_potential P T) (column_potential P T) (finished-feasible P T f.done) _
          (length-table (bags_in (sinks P) q') (sources P * sinks P)) d)

-- The bags on the lanes of m rows and n columns are those of the problem's optimal plan.
pub record SettledBags (P : Problem) (m n : ℕ) (q : List ℤ) : Type 0 where
  pub rows : m ≡ sources P
  pub columns : n ≡ sinks P
  pub no_debt : NoDebt m n q
  pub optimal : let x = table (m * n) (bags_in n q) in Optimal P x (flow_cost P x)

pub settled-bags : {P : Problem} {T : List Cell} {adj : List ℕ} {q e cost price : List ℤ} {m n : ℕ} → Finished P T adj q e cost price m n
    → {masks : List ℕ} → TightLanes cost price m n m masks → (q' : List ℤ)
    → DecidedTo m n (supplies P) (demands P) (InMask masks) (m * n) (lane_bags q') → SettledBags P m n q'
settled-bags f t q' d = record { rows = f.rows; columns = f.columns; no_debt = debtless q' d.nonneg; optimal = settled-optimal f t q' d }

-- A tableau of a sheet as one of the theory of networks.
use Rattle.std.specs.Prelude.{◌≡◌, ◌+◌, ◌-◌, ◌<◌}
use Rattle.prelude.specs.Words.{refl, List, Memᴰ, ℕ, suc, arith, length, get_or}
use Rattle.integers.specs.Integer.{Z, ◌≼◌, nat, Within}
use Rattle.integers.specs.SumLaws.{sum-each}
use Rattle.tableaux.specs.Bases.{joined-on}
use Rattle.network.specs.Flow.{Flow}
use Rattle.network.specs.FlowLaws.{flow-on}
use Rattle.network.specs.Marks.{marks-within}
use Rattle.network.specs.Round.{Tableau, bags-nonneg}
use Rattle.transport.specs.Lists.{at}
use Rattle.transport.specs.Laws.ListLaws.{member-place}
use Rattle.transport.specs.Problem.{Problem, sources, sinks}
use Rattle.transport.specs.Laws.Sound.{Sound}
use Rattle.transport.specs.Amount.{nothing, add, paired_supply_of, paired_demand_of}
use Rattle.transport.specs.Tableau.{no_cell, basis_size}
use Rattle.transport.specs.Belonging.{row_total, column_total}
use Rattle.transport.specs.Statements.{Basic, Belongs}
use Rattle.transport.specs.declared.Cell.{Cell}
use Rattle.tableaux.specs.View.{row_of, col_of, basic_in, Distinct, Inside, amount_at, amount-at, row-sum, column-sum}
use Rattle.tableaux.specs.PairLaws.{bags, marks, pair_eq, true-less, less-true, demand-marks}
use Rattle.tableaux.specs.PlanView.{supplies, demands}
use Rattle.tableaux.specs.Belonging.{basis_of, distinct_of, bags-flow, marks-flow}
use Rattle.tableaux.specs.Order.{Ordered, ordered_at, ordered_distinct}

abbrev pub bags_at : List Cell → ℕ → ℕ → Z
bags_at T i j = bags (amount_at T i j)

abbrev pub marks_at : List Cell → ℕ → ℕ → Z
marks_at T i j = marks (amount_at T i j)

-- The cells are a basis with their bags and marks, the bags of supplies and demands, and the marks to the last sink.
abbrev pub Seen : Problem → List Cell → Type 1
Seen P T = Tableau (sources P) (sinks P) (sources P + sinks P - 2) (row_of T) (col_of T) (bags_at T) (marks_at T) (supplies P) (demands P) (sinks P - 1)

module _ {P : Problem} (ok : Sound P) (T : List Cell) (size : length T ≡ basis_size (sources P) (sinks P)) where
  pub cells-many : suc (sources P + sinks P - 2) ≡ length T
  unfolding basis_size
  cells-many = omega (arith, ok.sources_low, ok.sinks_low)

  -- Such cells, in sheet order, belong to the sheet.
  pub seen_belongs : Ordered (sinks P) T → Seen P T → Belongs P T
  unfolding row_total column_total paired_supply_of paired_demand_of nothing add
  seen_belongs o t =
      let distinct : Distinct T = ordered_distinct (sinks P) T o in
      let cell : (k : ℕ) → k < length T → k < suc (sources P + sinks P - 2) = λ k l. omega (arith, cells-many) in
      let inside : Inside (sources P) (sinks P) T = λ k l. (t.basis.rows k (cell k l), t.basis.cols k (cell k l)) in
      record {
        count = size;
        on_sheet = inside;
        order = ordered_at (sinks P) T o;
        joined = joined-on (λ i j. (basic_in T (suc (sources P + sinks P - 2)) i j cells-many).1) t.basis.joined;
        above = λ k l. true-less nothing (get_or T k no_cell).amount (rw (amount-at T distinct k l) at (t.above k (cell k l)));
        rows = λ i l. pair_eq (row_total T i) (paired_supply_of P i)
            (omega (arith, row-sum (λ a. a.q) refl (λ a b. refl) (sources P) (sinks P) T distinct inside i, t.bags.rows i l))
            (omega (arith, row-sum (λ a. a.e) refl (λ a b. refl) (sources P) (sinks P) T distinct inside i, t.marks.rows i l));
        columns = λ j l. pair_eq (column_total T j) (paired_demand_of P j)
            (omega (arith, column-sum (λ a. a.q) refl (λ a b. refl) (sources P) (sinks P) T distinct inside j, t.bags.cols j l))
            (omega (arith, column-sum (λ a. a.e) refl (λ a b. refl) (sources P) (sinks P) T distinct inside j, t.marks.cols j l, demand-marks P j));
      }

-- What belongs to the sheet is such a tableau.
pub belongs_seen : {P : Problem} {T : List Cell} → Sound P → Belongs P T → Seen P T
unfolding nothing
belongs_seen {P} {T} ok w = record {
  basis = basis_of ok w;
  bags = bags-flow ok w;
  marks = marks-flow ok w;
  above = λ k l.
      let l : k < length T = omega (arith, cells-many ok T w.count) in
      rw (amount-at T (distinct_of ok w) k l) (less-true nothing (get_or T k no_cell).amount (w.above k l));
}

-- Its bags are a flow on its basic lanes.
pub basic-flow : {P : Problem} {T : List Cell} → Sound P → Belongs P T → Flow (sources P) (sinks P) (Basic T) (bags_at T) (supplies P) (demands P)
basic-flow {P} {T} ok w = flow-on (λ i j hi hj s. (basic_in T (suc (sources P + sinks P - 2)) i j (cells-many ok T w.count)).1 s) (bags-flow ok w)

-- ---- bounds

-- A cell's marks are within −m and m, and its bags are no more than its row has and its column takes.
pub record Bounded (P : Problem) (c : Cell) : Type 0 where
  pub few : Within (sources P) (marks c.amount)
  pub nonneg : nat 0 ≼ bags c.amount
  pub supply : bags c.amount ≼ nat (at P.supply c.row)
  pub demand : bags c.amount ≼ nat (at P.demand c.col)

module _ {P : Problem} (ok : Sound P) {T : List Cell} (w : Belongs P T) where
  pub cell_bounded : {c : Cell} → Memᴰ c T → Bounded P c
  cell_bounded {c} mem =
      let (k, l, s) = member-place no_cell mem in
      let (hi, hj) = w.on_sheet k l in
      let i : ℕ = row_of T k in
      let j : ℕ = col_of T k in
      let t = belongs_seen ok w in
      let here = amount-at T (distinct_of ok w) k l in
      let row : bags_at T i j ≼ nat (at P.supply i) =
      omega (arith, sum-each (sinks P) (bags_at T i) (λ y hy. bags-nonneg t i y hi hy) j hj, t.bags.rows i hi) in
      let column : bags_at T i j ≼ nat (at P.demand j) =
      omega (arith, sum-each (sources P) (λ x. bags_at T x j) (λ x hx. bags-nonneg t x j hx hj) i hi, t.bags.cols j hj) in
      rw (← s) (record {
        few = rw here at (marks-within t.basis (omega (arith, ok.sinks_low)) t.marks k (omega (arith, cells-many ok T w.count)));
        nonneg = rw here at (bags-nonneg t i j hi hj);
        supply = rw here at row;
        demand = rw here at column;
      })

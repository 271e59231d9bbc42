-- The problem of the parties left of an accepted sheet is sound (Laws.Sound).
use Rattle.std.specs.Prelude.{◌≤◌, ◌<◌, ◌≡◌, ◌≤ℤ◌}
use Rattle.prelude.specs.Words.{ℕ, arith, mul-le-mul_right, sym, ◌∙◌, by_cases, List, ℕ_discrete, pos, neg_ℤ, le_z_yes, none}
use Rattle.prelude.specs.Words.{length, length-append}
use Rattle.transport.specs.Lists.{at, total}
use Rattle.transport.specs.Limits.{max_side, max_amount, max_bags, max_cost, cost_below, cost_above}
use Rattle.transport.specs.Problem.{sources, sinks, lane_cost}
use Rattle.transport.specs.Sheet.{Sheet, roasteries, cafes, sheet_tests, refusal}
use Rattle.transport.specs.Extended.{surplus, wanted, extended}
use Rattle.transport.specs.Parties.{left, rows_left_of, columns_left, struck, problem_of}
use Rattle.transport.specs.Statements.{Accepted}
use Rattle.transport.specs.Laws.ListLaws.{sum_to_bound}
use Rattle.transport.specs.Laws.SheetLaws.{accepted}
use Rattle.transport.specs.Laws.ProblemLaws.{grid-each, length-grid}
use Rattle.transport.proofs.ExtendedLaws.{without, with, extra, wanted-total, cost-each}
use Rattle.transport.specs.Laws.PartiesLaws.{left_at, length-left, amounts_left, length-amounts, amounts-at, total_left, some_left}
use Rattle.transport.specs.Laws.Sound.{Sound, sources-room, sinks-room}

-- ---- the problem behind a sheet

-- Each of those left has an amount.
amount-left : (xs : List ℕ) (k : ℕ) → k < length (left xs) → 1 ≤ at (amounts_left xs) k
amount-left xs k l = rw (amounts-at xs k l) (left_at xs k l).1

zero_between : (neg_ℤ (pos cost_below) ≤ℤ pos 0) × (pos 0 ≤ℤ pos cost_above)
unfolding cost_below cost_above max_cost
zero_between = (le_z_yes tt, le_z_yes tt)

module _ {S : Sheet} (ok : Accepted S) where
  -- Room for all columns, since a surplus and 32 cafés are refused.
  pub wanted_room : length (wanted S) ≤ max_side
  unfolding cafes surplus
  wanted_room = elim (extra S) [
    | without z e ↦ rw e (omega (arith, ok.limits.cafes_high, sinks-room))
    | with z e ↦ by_cases (ℕ_discrete (cafes S) max_side)
        (λ f. absurd (ok.room (omega arith, f)))
        (λ f. rw (e, length-append) (omega (arith, ok.limits.cafes_high, sinks-room)))
  ]

  pub bags_of : total S.supply ≤ max_bags
  unfolding max_bags total roasteries
  bags_of =
      let right = mul-le-mul_right {m = roasteries S} {n = max_side} max_amount (omega (arith, ok.limits.roasteries_high, sources-room)) in
      omega (arith, sum_to_bound (roasteries S) max_amount (at S.supply) (λ k l. ok.limits.supply_high k))

  -- The columns want all that there is, and something is wanted: so somebody is left on either side.
  extended-balance : total S.supply ≡ total (wanted S)
  extended-balance = sym (wanted-total S (omega (arith, ok.enough)))

  pub rows_left : 1 ≤ length (left S.supply)
  rows_left = some_left S.supply (omega (arith, ok.enough, ok.wanting))

  pub columns-left : 1 ≤ length (left (wanted S))
  columns-left = some_left (wanted S) (omega (arith, extended-balance, ok.enough, ok.wanting))

  pub sound : Sound (problem_of S)
  unfolding problem_of struck extended sources sinks rows_left_of columns_left roasteries lane_cost cost_below cost_above max_cost
  sound =
      let h = ok.limits in
      let rows = length-amounts S.supply in
      let columns = length-amounts (wanted S) in
      record {
        sources_low = omega (arith, rows, rows_left);
        sources_high = omega (arith, rows, length-left S.supply, h.roasteries_high, sources-room);
        sinks_low = omega (arith, columns, columns-left);
        sinks_high = omega (arith, columns, length-left (wanted S), wanted_room);
        cost_length = rw (rows, columns) (length-grid (length (left (wanted S))) _ (length (left S.supply)));
        supply_low = λ i l. amount-left S.supply i (rw rows at l);
        demand_low = λ j l. amount-left (wanted S) j (rw columns at l);
        bags = rw (total_left S.supply) bags_of;
        balance = total_left S.supply ∙ extended-balance ∙ sym (total_left (wanted S));
        cost_low = grid-each (length (left S.supply)) (length (left (wanted S))) _ (λ c. neg_ℤ (pos cost_below) ≤ℤ c) zero_between.0
            (λ i j. cost-each S (λ c. neg_ℤ (pos cost_below) ≤ℤ c) zero_between.0 ok.limits.cost_low _);
        cost_high = grid-each (length (left S.supply)) (length (left (wanted S))) _ (λ c. c ≤ℤ pos cost_above) zero_between.1
            (λ i j. cost-each S (λ c. c ≤ℤ pos cost_above) zero_between.1 ok.limits.cost_high _);
      }

pub accepted-sound : (S : Sheet) → refusal (sheet_tests S) ≡ none → Sound (problem_of S)
accepted-sound S e = sound (accepted S e)

-- What the sheet check refuses, case by case, and what a sheet within the limits is known to be.
use Rattle.std.specs.Prelude.{◌≡◌, ◌*◌, ◌≤◌}
use Rattle.prelude.specs.Words.{Bool, true, false, none, some, arith, mul-le-mul, eqb, pos, neg_ℤ, length}
use Rattle.transport.specs.declared.Refusal.{Refusal}
use Rattle.transport.specs.Lists.{all, at_most, within, within_z}
use Rattle.transport.specs.Limits.{max_sources, max_sinks, max_amount, max_cost}
use Rattle.transport.specs.Sheet.{Sheet, roasteries, cafes, bad_sides, bad_length, bad_amount, bad_cost, lacking, crowded, idle, number_tests}
use Rattle.transport.specs.Sheet.{sheet_tests, refusal}
use Rattle.transport.specs.Statements.{WithinLimits, Lacking, Crowded, Idle}
use Rattle.transport.specs.Laws.SheetLaws.{lacking_yes, lacking_no, crowded_yes, crowded_no, idle_yes, idle_no}

module _ (S : Sheet) where
  abbrev supplies : Bool
  supplies = all (at_most max_amount) S.supply

  abbrev demands : Bool
  demands = all (at_most max_amount) S.demand

  abbrev costs : Bool
  costs = all (within_z (neg_ℤ (pos max_cost)) (pos max_cost)) S.cost

  pub refused-supply : supplies ≡ false → refusal (number_tests S) ≡ some Refusal.Amount
  unfolding refusal number_tests bad_amount
  refused-supply s = rw s

  pub refused-demand : supplies ≡ true → demands ≡ false → refusal (number_tests S) ≡ some Refusal.Amount
  unfolding refusal number_tests bad_amount
  refused-demand s d = rw (s, d)

  pub refused-cost : supplies ≡ true → demands ≡ true → costs ≡ false → refusal (number_tests S) ≡ some Refusal.Cost
  unfolding refusal number_tests bad_amount bad_cost
  refused-cost s d c = rw (s, d, c)

  -- The numbers are within their limits: only the totals are left.
  module _ (s : supplies ≡ true) (d : demands ≡ true) (c : costs ≡ true) where
    pub refused-lacking : Lacking S → refusal (number_tests S) ≡ some Refusal.Lacking
    unfolding refusal number_tests bad_amount bad_cost lacking
    refused-lacking l = rw (s, d, c, lacking_yes S l)

    pub refused-crowded : Crowded S → refusal (number_tests S) ≡ some Refusal.Crowded
    unfolding refusal number_tests bad_amount bad_cost lacking crowded
    refused-crowded (l, n) = rw (s, d, c, lacking_no S (λ b. absurd (omega arith)), crowded_yes S (l, n))

    pub refused-idle : ¬ Lacking S → ¬ Crowded S → Idle S → refusal (number_tests S) ≡ some Refusal.Idle
    unfolding refusal number_tests bad_amount bad_cost lacking crowded idle
    refused-idle l n i = rw (s, d, c, lacking_no S l, crowded_no S n, idle_yes S i)

    pub numbers-accepted : ¬ Lacking S → ¬ Crowded S → ¬ Idle S → refusal (number_tests S) ≡ none
    unfolding refusal number_tests bad_amount bad_cost lacking crowded idle
    numbers-accepted l n i = rw (s, d, c, lacking_no S l, crowded_no S n, idle_no S i)

  pub refused-sources : within 1 max_sources (length S.supply) ≡ false → refusal (sheet_tests S) ≡ some Refusal.Sides
  unfolding refusal sheet_tests bad_sides roasteries
  refused-sources m = rw m

  pub refused-sinks : within 1 max_sources (length S.supply) ≡ true → within 1 max_sinks (length S.demand) ≡ false
      → refusal (sheet_tests S) ≡ some Refusal.Sides
  unfolding refusal sheet_tests bad_sides roasteries cafes
  refused-sinks m n = rw (m, n)

  module _ (m : within 1 max_sources (length S.supply) ≡ true) (n : within 1 max_sinks (length S.demand) ≡ true) where
    pub refused-length : eqb (length S.cost) (length S.supply * length S.demand) ≡ false → refusal (sheet_tests S) ≡ some Refusal.CostCount
    unfolding refusal sheet_tests bad_sides bad_length roasteries cafes
    refused-length l = rw (m, n, l)

    pub sheet-numbers : eqb (length S.cost) (length S.supply * length S.demand) ≡ true → refusal (sheet_tests S) ≡ refusal (number_tests S)
    unfolding refusal sheet_tests bad_sides bad_length roasteries cafes
    sheet-numbers l = rw (m, n, l)

-- ---- a sheet within the limits, in numbers

module _ (S : Sheet) (c : WithinLimits S) where
  pub sources-few : length S.supply ≤ max_sources
  unfolding roasteries
  sources-few = c.roasteries_high

  pub sinks-some : 1 ≤ length S.demand
  unfolding cafes
  sinks-some = c.cafes_low

  pub sinks-few : length S.demand ≤ max_sinks
  unfolding cafes
  sinks-few = c.cafes_high

  pub costs-whole : length S.cost ≡ length S.supply * length S.demand
  unfolding roasteries cafes
  costs-whole = c.cost_length

  pub costs-few : length S.cost ≤ max_sources * max_sinks
  costs-few = rw costs-whole (mul-le-mul sources-few sinks-few)

-- What the theory of rounds asks of a balanced problem. The bound on amounts is one on the total, and costs are bounded from both sides, so that the theory
-- serves problems that are more than a sheet's. The problem of the parties left of an accepted sheet has it: proofs/Sound.
use Rattle.std.specs.Prelude.{◌*◌, ◌≤◌, ◌<◌, ◌≡◌, ◌≤ℤ◌}
use Rattle.prelude.specs.Words.{ℕ, arith, by_cases, List, dec_lt, pos, neg_ℤ, length}
use Rattle.transport.specs.Lists.{at, at_z, total}
use Rattle.transport.specs.Limits.{max_sources, max_sinks, max_side, max_bags, cost_below, cost_above}
use Rattle.transport.specs.Problem.{Problem, sources, sinks}
use Rattle.transport.specs.Laws.ListLaws.{sum_to-each, at-past}

pub record Sound (P : Problem) : Type 0 where
  pub sources_low : 1 ≤ sources P
  pub sources_high : sources P ≤ max_side
  pub sinks_low : 1 ≤ sinks P
  pub sinks_high : sinks P ≤ max_side
  pub cost_length : length P.cost ≡ sources P * sinks P
  pub supply_low : (i : ℕ) → i < sources P → 1 ≤ at P.supply i
  pub demand_low : (j : ℕ) → j < sinks P → 1 ≤ at P.demand j
  pub bags : total P.supply ≤ max_bags
  pub balance : total P.supply ≡ total P.demand
  pub cost_low : (l : ℕ) → neg_ℤ (pos cost_below) ≤ℤ at_z P.cost l
  pub cost_high : (l : ℕ) → at_z P.cost l ≤ℤ pos cost_above

-- ---- the limits are within the room

pub sources-room : max_sources ≤ max_side
unfolding max_sources max_side
sources-room = omega arith

pub sinks-room : max_sinks ≤ max_side
unfolding max_sinks max_side
sinks-room = omega arith

-- ---- no amount is more than all bags

at-total : (xs : List ℕ) (k : ℕ) → at xs k ≤ total xs
unfolding total
at-total xs k = by_cases (dec_lt k (length xs)) (λ l. sum_to-each (length xs) (at xs) k l) (λ l. omega (arith, at-past xs k (omega arith)))

module _ {P : Problem} (ok : Sound P) where
  pub supply-most : (i : ℕ) → at P.supply i ≤ max_bags
  supply-most i = omega (arith, at-total P.supply i, ok.bags)

  pub demand-most : (j : ℕ) → at P.demand j ≤ max_bags
  demand-most j = omega (arith, at-total P.demand j, ok.bags, ok.balance)

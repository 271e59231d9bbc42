-- Each way out is a case of `refusal`; the totals are taken where both lists are known to be within their limits.
use Rattle.std.specs.Prelude.{◌≡◌, ◌↔◌, ◌≤◌}
use Rattle.prelude.specs.Words.{sym, ap, ◌∙◌, true, not, true≢false, arith, pos, neg_ℤ, not-true, not-false, eqb-true}
use Rattle.prelude.specs.Words.{eqb-false, eq-eqb, rules, clash}
use Rattle.transport.specs.Lists.{all, at_most, within_z, total}
use Rattle.transport.specs.Limits.{max_side, max_amount, max_cost}
use Rattle.transport.specs.Sheet.{Sheet, cafes, sheet_of}
use Rattle.transport.specs.Statements.{Lacking, Crowded}
use Rattle.sheet.specs.Check.{check-none, check-some}
use Rattle.sheet.specs.Refusals.{refused-supply, refused-demand, refused-cost, refused-lacking, refused-crowded, refused-idle, numbers-accepted}
use Rattle.std.proofs.lemmas.Bool.Decides.{nat_tests}
use Rattle.sheet.proofs.check_numbers.Statement.{statement}
use Rattle.sheet.proofs.check_numbers.Tie as tie
use Rattle.sheet.proofs.check_numbers.Lts.{then-supply_total-demand_total, else-supply_total-demand_total}

abbrev start : tie.After-amounts_within → tie.Start
start c = c.before.before.before

abbrev S : tie.After-amounts_within → Sheet
S c = let a = (start c).args in sheet_of a.supply.now a.demand.now a.cost.now

supplies-fit : (c : tie.Else-not-amounts_within) → all (at_most max_amount) (S c.before).supply ≡ true
supplies-fit c = sym c.before.amounts_within.ensures ∙ not-false _ c.if-not-amounts_within.false-raw

abbrev supplies : tie.After-amounts_within-2 → tie.Else-not-amounts_within
supplies c = c.before

demands-fit : (c : tie.Else-not-amounts_within-2) → all (at_most max_amount) (S (supplies c.before).before).demand ≡ true
demands-fit c = sym c.before.amounts_within-2.ensures ∙ not-false _ c.if-not-amounts_within-2.false-raw

abbrev demands : tie.After-costs_within → tie.Else-not-amounts_within-2
demands c = c.before

-- The sheet whose costs were looked at.
abbrev sheet_at : tie.After-costs_within → Sheet
sheet_at c = S (supplies (demands c).before).before

costs-fit : (c : tie.Else-not-costs_within) → all (within_z (neg_ℤ (pos max_cost)) (pos max_cost)) (sheet_at c.before).cost ≡ true
costs-fit c = sym c.before.costs_within.ensures ∙ not-false _ c.if-not-costs_within.false-raw

returns-3 : tie.Need-returns-then-not-costs_within
returns-3 c =
    let d = demands c.before in
    let many = sym c.before.costs_within.ensures ∙ not-true _ c.if-not-costs_within.true-raw in
    rw (refused-cost (sheet_at c.before) (supplies-fit (supplies d.before)) (demands-fit d) many, check-some)

-- ---- the totals

module _ (c : tie.After-total_of-demand_total) where
  abbrev costs : tie.After-costs_within
  costs = c.before.before.before

  abbrev T : Sheet
  T = sheet_at costs

  sums : (c.before.total_of-supply_total.result ≡ total T.supply) × (c.total_of-demand_total.result ≡ total T.demand)
  sums = (c.before.total_of-supply_total.ensures, c.total_of-demand_total.ensures)

  -- The numbers are within their limits, so that what the totals say is all that is left to say.
  left : {A : Type 0} → (all (at_most max_amount) T.supply ≡ true → all (at_most max_amount) T.demand ≡ true
      → all (within_z (neg_ℤ (pos max_cost)) (pos max_cost)) T.cost ≡ true → A) → A
  left law = let d = demands costs in law (supplies-fit (supplies d.before)) (demands-fit d) (costs-fit c.before.before)

-- What the code takes for lacking, whatever the form of its test.
short : (c : tie.Then-lacking) → Lacking (T c.before.before)
short c = let s = sums c.before.before in grind (arith, nat_tests)

long : (c : tie.Else-lacking) → total (T c.before.before).demand ≤ total (T c.before.before).supply
long c = let s = sums c.before.before in grind (arith, nat_tests)

-- What the code takes for crowded, where the sheet is not lacking.
crowded-is : (c : tie.Else-lacking) → (c.before.if-supply_total-demand_total.crowded ≡ true) ↔ Crowded (T c.before.before)
unfolding cafes max_side
crowded-is c =
    let s = sums c.before.before in
    let enough = long c in (
      λ y. elim c.before.if-supply_total-demand_total.branch [
        | then-supply_total-demand_total w ↦
            (omega (arith, enough, w.if-supply_total-demand_total.true, s), grind (arith, nat_tests))
        | else-supply_total-demand_total w ↦ clash y (w.crowded-is ∙ ap not (eq-eqb _ _ w.if-supply_total-demand_total.false))
      ],
      λ (l, n). elim c.before.if-supply_total-demand_total.branch [
        | then-supply_total-demand_total w ↦ grind (arith, nat_tests)
        | else-supply_total-demand_total w ↦ absurd (omega (arith, w.if-supply_total-demand_total.false, s))
      ],
    )

-- The sheet is neither lacking nor crowded: what is left is whether it is idle.
module _ (c : tie.Else-crowded) where
  abbrev summed : tie.After-total_of-demand_total
  summed = c.before.before.before

  neither : (¬ Lacking (T summed)) × (¬ Crowded (T summed))
  neither = (λ l. omega (arith, long c.before), λ n. true≢false (sym ((crowded-is c.before).1 n) ∙ c.if-crowded.false))

returns-6 : tie.Need-returns-then-idle
returns-6 c =
    let e = c.before in
    let t = summed e in
    rw (left t (refused-idle (T t)) (neither e).0 (neither e).1 (sym (sums t).1 ∙ eqb-true _ _ c.if-idle.true-raw), check-some)

returns-7 : tie.Need-returns
returns-7 c =
    let e = c.before in
    let t = summed e in
    rw (left t (numbers-accepted (T t)) (neither e).0 (neither e).1 (λ i. eqb-false _ _ c.if-idle.false-raw ((sums t).1 ∙ i)), check-none)

pub check_numbers_spec : {M : Type 1} → statement M
check_numbers_spec =
    tie.close (tie.spec (λ c κs. search rules)
    (λ c. rw (refused-supply (S c.before) (sym c.before.amounts_within.ensures ∙ not-true _ c.if-not-amounts_within.true-raw), check-some))
    (λ c κs. search rules) (λ c. let s = supplies c.before in
    rw (refused-demand (S s.before) (supplies-fit s) (sym c.before.amounts_within-2.ensures ∙ not-true _ c.if-not-amounts_within-2.true-raw), check-some))
    (λ c κs. search rules) returns-3
    (λ c κs. let s = supplies (demands c.before).before in ((start s.before).requires.0, supplies-fit s))
    (λ c κs. let d = demands c.before.before in ((start (supplies d.before).before).requires.1, demands-fit d))
    (λ c. let t = c.before.before in rw (left t (refused-lacking (T t)) (short c), check-some))
    (λ c. let t = c.before.before.before in rw (left t (refused-crowded (T t)) ((crowded-is c.before).0 c.if-crowded.true), check-some))
    returns-6 returns-7)

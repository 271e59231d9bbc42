-- From the extended problem back to the sheet: its plans are the sheet's at the same cost, so what is optimal there is best here. So is what is optimal for
-- the problem behind the sheet, of the parties left, and it is the settled plan.
use Rattle.std.specs.Prelude.{◌≡◌, ◌∷◌, ◌*◌, ◌≤◌, ◌<◌, ◌*ℤ◌}
use Rattle.prelude.specs.Words.{sym, ap, ◌∙◌, cond, List, [], ℕ, arith, one-mul, eqb, ℤ, pos, length, length-map}
use Rattle.transport.specs.Lists.{at, grid, sum_to, total}
use Rattle.transport.specs.Problem.{sources, sinks, place}
use Rattle.transport.specs.Sheet.{Sheet, roasteries, cafes}
use Rattle.transport.specs.Extended.{surplus, wanted, extended}
use Rattle.transport.specs.Parties.{among, rows_left_of, columns_left, struck, problem_of}
use Rattle.transport.specs.Plan.{plan_cost_of, settled}
use Rattle.transport.specs.Statements.{Meets, FirstDifference, scaled, Best}
use Rattle.transport.specs.Laws.ListLaws.{sum_to_cong, sum_to_scale, sum_to-part, total-append}
use Rattle.transport.specs.Laws.ProblemLaws.{lane_placed, length-grid, get_or-grid}
use Rattle.transport.specs.Laws.PlanLaws.{scaled_at}
use Rattle.transport.proofs.ExtendedLaws.{without, with, extra, width_low, wanted-at}
use Rattle.transport.specs.Laws.PartiesLaws.{struck-sinks, among-more, total_left}
use Rattle.transport.specs.Laws.Sound.{Sound}
use Rattle.plans.specs.Settled.{best-settled}
use Rattle.tableaux.specs.ProblemPlans.{flow_cost, Fulfils, Optimal}
use Rattle.reduction.specs.SheetLanes.{width_of, SameOnSheet, same-scaled, cost-same, first-same}
use Rattle.reduction.specs.StruckPlans.{same_at, own_plan, own_plan-same, struck-optimal}
use Rattle.reduction.specs.Extending.{extended_plan, extended-same, meets-fulfils}

-- What a plan of the extended problem carries on the sheet's lanes.
unfoldable pub sheet_plan : Sheet → List ℕ → List ℕ
sheet_plan S x = grid (roasteries S) (cafes S) (λ i j. at x (place (length (wanted S)) i j))

module _ (S : Sheet) (x : List ℕ) where
  pub sheet_plan-same : SameOnSheet S (sheet_plan S x) x
  unfolding sheet_plan at
  sheet_plan-same i j l h = get_or-grid (cafes S) (λ i j. at x (place (width_of S) i j)) (roasteries S) i j 0 l h

  sheet_plan-cost : plan_cost_of S (sheet_plan S x) ≡ flow_cost (extended S) x
  sheet_plan-cost = cost-same S (sheet_plan S x) x sheet_plan-same

  -- What goes to the extra café is left out, and stays at home.
  fulfils-meets : {k : ℕ} → Fulfils (extended S) k x → Meets S k (sheet_plan S x)
  unfolding extended sources sinks roasteries sheet_plan
  fulfils-meets {k} f = record {
    quantities = length-grid (cafes S) (λ i j. at x (place (width_of S) i j)) (roasteries S);
    rows = λ i l.
        let same = sum_to_cong (cafes S) (λ j. at (sheet_plan S x) (place (cafes S) i j)) (λ j. at x (place (width_of S) i j))
        (λ j h. sheet_plan-same i j l h) in
        omega (arith, sum_to-part (cafes S) (width_of S) (λ j. at x (place (width_of S) i j)) (width_low S), f.rows i l);
    columns = λ j h.
        sum_to_cong (roasteries S) (λ i. at (sheet_plan S x) (place (cafes S) i j)) (λ i. at x (place (width_of S) i j)) (λ i l. sheet_plan-same i j l h)
        ∙ f.columns j (omega (arith, width_low S))
        ∙ ap (λ (t : ℕ). k * t) (wanted-at S j h);
  }

-- ---- optimal is best

module _ (S : Sheet) (x : List ℕ) (c : ℤ) (enough : total S.demand ≤ total S.supply) (b : Optimal (extended S) x c) where
  extended-length : length x ≡ roasteries S * width_of S
  unfolding extended sources sinks roasteries
  extended-length = b.fulfils.quantities

  -- Any plan Q in k-ths that meets the sheet, beside ours taken k times.
  module _ (k : ℕ) (Q : List ℕ) (q : Meets S k Q) where
    abbrev theirs : List ℕ
    theirs = extended_plan S k Q

    fulfilled : Fulfils (extended S) k theirs
    fulfilled = meets-fulfils S k Q enough q

    -- Extended, both send from each row all that it has.
    same_rows : (i : ℕ) → i < roasteries S
        → sum_to (width_of S) (λ j. at (scaled k x) (place (width_of S) i j)) ≡ sum_to (width_of S) (λ j. at theirs (place (width_of S) i j))
    unfolding extended sources sinks roasteries
    same_rows i l =
        sum_to_cong (width_of S) _ (λ j. k * at x (place (width_of S) i j))
        (λ j h. scaled_at k x (place (width_of S) i j))
        ∙ sum_to_scale (width_of S) k (λ j. at x (place (width_of S) i j))
        ∙ ap (λ (t : ℕ). k * t) (b.fulfils.rows i l ∙ one-mul (at S.supply i))
        ∙ sym (fulfilled.rows i l)

    ours_same : SameOnSheet S (scaled k (sheet_plan S x)) (scaled k x)
    ours_same = same-scaled S k (sheet_plan S x) x (sheet_plan-same S x)

    carries-more : 1 ≤ k → plan_cost_of S Q ≡ (pos k *ℤ c) → (i j : ℕ) → i < roasteries S → j < cafes S
        → FirstDifference (scaled k (sheet_plan S x)) Q (place (cafes S) i j)
        → at Q (place (cafes S) i j) < at (scaled k (sheet_plan S x)) (place (cafes S) i j)
    unfolding scaled
    carries-more l e i j hi hj d =
        let long = length-map x (λ t. k * t) ∙ extended-length in
        let first = first-same S (scaled k x) theirs same_rows (scaled k (sheet_plan S x)) Q ours_same (extended-same S k Q) long i j hi hj d in
        let more = b.first k theirs l fulfilled (sym (cost-same S Q theirs (extended-same S k Q)) ∙ e) (place (width_of S) i j) first in
        omega (arith, extended-same S k Q i j hi hj, ours_same i j hi hj)

  -- A plan that is optimal for the extended problem is best for the sheet. Any plan Q of the sheet, with what stays at home sent to the extra café, is a plan
  -- of the extended problem at Q's cost, so ours costs no more. Where it costs the same, ours carries more on the first lane where the two extended plans
  -- differ. That is the first lane where Q and ours differ: what stays at home is decided by the rest of its row, so where they agree on a row's lanes of the
  -- sheet, they agree on its extra lane too.
  optimal-best : Best S (sheet_plan S x) c
  unfolding scaled
  optimal-best = record {
    meets = fulfils-meets S x b.fulfils;
    shown = b.shown ∙ sym (sheet_plan-cost S x);
    least = λ k Q l q. rw (cost-same S Q (extended_plan S k Q) (extended-same S k Q)) (b.least k (extended_plan S k Q) l (fulfilled k Q q));
    first = λ k Q l q e h d.
        let w = lane_placed (roasteries S) (cafes S) h
        (omega (arith, d.lane, length-map (sheet_plan S x) (λ t. k * t), (fulfils-meets S x b.fulfils).quantities)) in
        rw (← w.placed) (carries-more k Q q l e w.row w.col w.row_below w.col_below (rw w.placed d));
  }

-- ---- from the problem behind the sheet, of the parties left

-- The plan of the sheet that a plan of its problem is: under own numbers, with nothing for a party at 0, and without the extra café.
unfoldable pub own_sheet_plan : Sheet → List ℕ → List ℕ
own_sheet_plan S x = sheet_plan S (own_plan (extended S) x)

-- The extra café, after all others, changes no number among the cafés left.
pub among-wanted : (S : Sheet) (j : ℕ) → j < cafes S → among (wanted S) j ≡ among S.demand j
unfolding cafes
among-wanted S j h = elim (extra S) [ without z e ↦ rw e | with z e ↦ rw e (among-more S.demand _ z j (omega arith)) ]

-- What it carries from roastery i to café j: what x does, if both are left, and else nothing.
module _ (S : Sheet) (x : List ℕ) (i j : ℕ) (l : i < roasteries S) (h : j < cafes S) where
  abbrev carries : ℕ
  carries = at (own_sheet_plan S x) (place (cafes S) i j)

  wide : j < width_of S
  wide = omega (arith, width_low S)

  own-carries : carries ≡ at (own_plan (extended S) x) (place (width_of S) i j)
  unfolding own_sheet_plan
  own-carries = sheet_plan-same S (own_plan (extended S) x) i j l h

  pub carries-left : 1 ≤ at S.supply i → 1 ≤ at S.demand j
      → carries ≡ at x (place (sinks (problem_of S)) (among S.supply i) (among S.demand j))
  unfolding problem_of extended sinks
  carries-left some any =
      own-carries
      ∙ same_at (extended S) (own_plan-same (extended S) x) i j some (rw (wanted-at S j h) any)
      ∙ rw (struck-sinks (extended S), among-wanted S j h)

  pub carries-row : at S.supply i ≡ 0 → carries ≡ 0
  unfolding extended sources sinks roasteries
  carries-row e = own-carries ∙ (own_plan-same (extended S) x).row i j l wide e

  pub carries-column : at S.demand j ≡ 0 → carries ≡ 0
  unfolding extended sources sinks roasteries
  carries-column e = own-carries ∙ (own_plan-same (extended S) x).column i j l wide (wanted-at S j h ∙ e)

pub length-own_sheet_plan : (S : Sheet) (x : List ℕ) → length (own_sheet_plan S x) ≡ roasteries S * cafes S
unfolding own_sheet_plan sheet_plan
length-own_sheet_plan S x = length-grid (cafes S) _ (roasteries S)

-- What is optimal for the problem behind a sheet is best for the sheet, and its settled plan.
module _ (S : Sheet) (x : List ℕ) (c : ℤ) (ok : Sound (problem_of S)) (b : Optimal (problem_of S) x c) where
  -- The columns want as much as there is, and the cafés are among them.
  enough : total S.demand ≤ total S.supply
  unfolding problem_of struck extended wanted rows_left_of columns_left
  enough =
      let append = total-append S.demand (cond (eqb (surplus S) 0) [] (surplus S ∷ [])) in
      omega (arith, ok.balance, total_left S.supply, total_left (wanted S))

  own-optimal : Optimal (extended S) (own_plan (extended S) x) c
  unfolding problem_of
  own-optimal = struck-optimal (extended S) x c b

  pub problem-best : Best S (own_sheet_plan S x) c
  unfolding own_sheet_plan
  problem-best = optimal-best S (own_plan (extended S) x) c enough own-optimal

  pub problem-settled : settled S ≡ own_sheet_plan S x
  problem-settled = best-settled S (own_sheet_plan S x) c problem-best

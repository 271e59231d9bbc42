-- The laws of Sheet: the first refusal, and what the sheet check says.
use Rattle.std.specs.Prelude.{is_none, ◌*◌, ◌≤◌, ◌<◌, ◌≡◌, ◌&&◌, ◌∷◌, ◌++◌, ◌≤ℤ◌}
use Rattle.prelude.specs.Words.{true≢false, ℕ, arith, dec_lt, refl, sym, ap, ◌∙◌, Bool, true, false, not, and-false, List, []}
use Rattle.prelude.specs.Words.{append-nil, none, some, leb, ltb, T, ℤ, pos, negsuc, neg_ℤ, le_z, lt_z, le_z_yes, length, leb-true, le-leb}
use Rattle.prelude.specs.Words.{lt-leb, eqb-true}
use Rattle.prelude.specs.Words.{eq-eqb, ne_eqb, le-ltb, lt-ltb, ltb-true, ltb-false, not-false, by_test, clash, by_cases, some≢none}
use Rattle.transport.specs.Lists.{all, at, at_z, total, at_most, within, within_z}
use Rattle.transport.specs.Limits.{max_sources, max_sinks, max_side, max_amount, max_cost}
use Rattle.transport.specs.Sheet.{Sheet, roasteries, cafes, bad_sides, bad_length, bad_amount, bad_cost, lacking, crowded, idle, number_tests, sheet_tests}
use Rattle.transport.specs.Sheet.{refusal}
use Rattle.transport.specs.Refusals.{Refusal, place_of}
use Rattle.transport.specs.Statements.{WithinLimits, Lacking, Crowded, Idle, Accepted}
use Rattle.transport.specs.Laws.ListLaws.{and_left, and_right, all-at, all_of, at-past, at_z-past}

-- ---- refusal

pub refusal_yes : (t : Bool × Refusal) (ts : List (Bool × Refusal)) → t.0 ≡ true → refusal (t ∷ ts) ≡ some t.1
unfolding refusal
refusal_yes t ts e = rw (e, refusal)

pub refusal_no : (t : Bool × Refusal) (ts : List (Bool × Refusal)) → t.0 ≡ false → refusal (t ∷ ts) ≡ refusal ts
unfolding refusal
refusal_no t ts e = rw (e, refusal)

-- Where nothing is refused, the first test does not hold, and none of the others refuses.
pub refusal-clear : (t : Bool × Refusal) (ts : List (Bool × Refusal)) → refusal (t ∷ ts) ≡ none → (t.0 ≡ false) × (refusal ts ≡ none)
refusal-clear t ts e = by_test t.0 (λ p. absurd (some≢none (sym (refusal_yes t ts p) ∙ e))) (λ p. (p, sym (refusal_no t ts p) ∙ e))

-- Tests that refuse nothing leave it to those after them ..
pub refusal-pass : (ts us : List (Bool × Refusal)) → refusal ts ≡ none → refusal (ts ++ us) ≡ refusal us
refusal-pass [] us e = refl
refusal-pass (t ∷ ts) us e = let (p, q) = refusal-clear t ts e in refusal_no t (ts ++ us) p ∙ refusal-pass ts us q

-- Tests that refuse by no text refuse nothing by one.
pub refusal-other : (ts : List (Bool × Refusal)) → all (λ t. is_none (place_of t.1)) ts ≡ true
    → (p : ℕ) → refusal ts ≡ some (Refusal.NotSheetText p) → ⊥
unfolding all refusal
refusal-other [] h p e = some≢none (sym e)
refusal-other (t ∷ ts) h p e = by_test t.0
    (λ y. let same : t.1 ≡ Refusal.NotSheetText p = cc (refusal_yes t ts y, e) in
    true≢false (sym (and_left _ _ h) ∙ ap (λ r. is_none (place_of r)) same))
    (λ n. refusal-other ts (and_right (is_none (place_of t.1)) _ h) p (sym (refusal_no t ts n) ∙ e))

-- .. and a refusal stands, whatever is tested after it.
pub refusal-stands : (ts us : List (Bool × Refusal)) (k : Refusal) → refusal ts ≡ some k → refusal (ts ++ us) ≡ some k
unfolding refusal
refusal-stands [] us k e = absurd (some≢none (sym e))
refusal-stands (t ∷ ts) us k e = by_test t.0
    (λ p. refusal_yes t (ts ++ us) p ∙ sym (refusal_yes t ts p) ∙ e)
    (λ p. refusal_no t (ts ++ us) p ∙ refusal-stands ts us k (sym (refusal_no t ts p) ∙ e))

-- ---- the sheet check

pub within-true : (low high x : ℕ) → within low high x ≡ true → (low ≤ x) × (x ≤ high)
unfolding within
within-true low high x e = (leb-true low x (and_left (leb low x) (leb x high) e), leb-true x high (and_right (leb low x) (leb x high) e))

pub true-within : (low high x : ℕ) → low ≤ x → x ≤ high → within low high x ≡ true
unfolding within
true-within low high x p q = rw (le-leb low x p, le-leb x high q)

-- Below the bounds, and above them.
pub within_low : (low high x : ℕ) → x < low → within low high x ≡ false
unfolding within
within_low low high x p = rw (lt-leb low x p)

pub within-high : (low high x : ℕ) → high < x → within low high x ≡ false
unfolding within
within-high low high x p = rw (lt-leb x high p, and-false)

within_z-true : (low high z : ℤ) → within_z low high z ≡ true → (low ≤ℤ z) × (z ≤ℤ high)
unfolding within_z
within_z-true low high z e = (le_z_yes (rw (and_left (le_z low z) (le_z z high) e) tt), le_z_yes (rw (and_right (le_z low z) (le_z z high) e) tt))

true-within_z : (low high z : ℤ) → low ≤ℤ z → z ≤ℤ high → within_z low high z ≡ true
unfolding within_z
true-within_z low high z p q =
    let yes : (b : Bool) → T b → b ≡ true = λ b. elim b as (λ b. T b → b ≡ true) [ true ↦ λ t. refl | false ↦ λ t. absurd t ] in
    rw (yes (le_z low z) p.le, yes (le_z z high) q.le)

-- As the code tests it, by the strict order.
pub within_z-tests : (low high z : ℤ) → within_z low high z ≡ not (lt_z z low) && not (lt_z high z)
unfolding within_z
within_z-tests low high z = rw (le-lt low z, le-lt z high)
  where
    nat : (a b : ℕ) → leb a b ≡ not (ltb b a)
    nat a b = by_test (ltb b a) (λ e. rw e (lt-leb a b (ltb-true b a e))) (λ e. rw e (le-leb a b (ltb-false b a e)))

    le-lt : (a b : ℤ) → le_z a b ≡ not (lt_z b a)
    le-lt (pos a) (pos b) = nat a b
    le-lt (pos a) (negsuc b) = refl
    le-lt (negsuc a) (pos b) = refl
    le-lt (negsuc a) (negsuc b) = nat b a

-- No number of the list is above the bound.
pub all_most : (high : ℕ) (xs : List ℕ) → all (at_most high) xs ≡ true → (k : ℕ) → at xs k ≤ high
unfolding at at_most
all_most high xs e k = by_cases (dec_lt k (length xs))
    (λ l. leb-true _ high (all-at (at_most high) xs 0 k e l))
    (λ l. omega (arith, at-past xs k (omega arith)))

most-all : (high : ℕ) (xs : List ℕ) → ((k : ℕ) → at xs k ≤ high) → all (at_most high) xs ≡ true
unfolding at at_most
most-all high xs most = all_of (at_most high) xs 0 (λ k l. le-leb _ high (most k))

-- Beyond the list stands 0, which is within bounds that have it between them.
all-within_z-at : (low high : ℤ) (zs : List ℤ) → low ≤ℤ pos 0 → pos 0 ≤ℤ high → all (within_z low high) zs ≡ true
    → (k : ℕ) → (low ≤ℤ at_z zs k) × (at_z zs k ≤ℤ high)
unfolding at_z
all-within_z-at low high zs p q e k = by_cases (dec_lt k (length zs))
    (λ l. within_z-true low high _ (all-at (within_z low high) zs (pos 0) k e l))
    (λ l. rw (at_z-past zs k (omega arith)) (p, q))

within-limits : (S : Sheet) → (bad_sides S).0 ≡ false → (bad_length S).0 ≡ false → (bad_amount S).0 ≡ false → (bad_cost S).0 ≡ false → WithinLimits S
unfolding bad_sides bad_length bad_amount bad_cost roasteries cafes max_cost
within-limits S sides lengths amounts costs =
    let sides : within 1 max_sources (roasteries S) && within 1 max_sinks (cafes S) ≡ true = not-false _ sides in
    let amounts : all (at_most max_amount) S.supply && all (at_most max_amount) S.demand ≡ true = not-false _ amounts in
    let costs : all (within_z (neg_ℤ (pos max_cost)) (pos max_cost)) S.cost ≡ true = not-false _ costs in
    let costs = all-within_z-at (neg_ℤ (pos max_cost)) (pos max_cost) S.cost (le_z_yes tt) (le_z_yes tt) costs in
    let rows = within-true 1 max_sources (roasteries S) (and_left _ (within 1 max_sinks (cafes S)) sides) in
    let columns = within-true 1 max_sinks (cafes S) (and_right (within 1 max_sources (roasteries S)) _ sides) in
    record {
      roasteries_low = rows.0;
      roasteries_high = rows.1;
      cafes_low = columns.0;
      cafes_high = columns.1;
      cost_length = eqb-true _ _ (not-false _ lengths);
      supply_high = all_most max_amount S.supply (and_left _ (all (at_most max_amount) S.demand) amounts);
      demand_high = all_most max_amount S.demand (and_right (all (at_most max_amount) S.supply) _ amounts);
      cost_low = λ l. (costs l).0;
      cost_high = λ l. (costs l).1;
    }

-- The tests that a sheet within the limits passes.
record Passes (S : Sheet) : Type 0 where
  sides : (bad_sides S).0 ≡ false
  lengths : (bad_length S).0 ≡ false
  amounts : (bad_amount S).0 ≡ false
  costs : (bad_cost S).0 ≡ false

module _ {S : Sheet} (h : WithinLimits S) where
  pub supplies-most : all (at_most max_amount) S.supply ≡ true
  supplies-most = most-all max_amount S.supply h.supply_high

  pub demands-most : all (at_most max_amount) S.demand ≡ true
  demands-most = most-all max_amount S.demand h.demand_high

limits-pass : {S : Sheet} → WithinLimits S → Passes S
unfolding bad_sides bad_length bad_amount bad_cost at_z
limits-pass {S} h = record {
  sides = rw (true-within 1 max_sources (roasteries S) h.roasteries_low h.roasteries_high, true-within 1 max_sinks (cafes S) h.cafes_low h.cafes_high);
  lengths = rw (eq-eqb (length S.cost) (roasteries S * cafes S) h.cost_length);
  amounts = rw (supplies-most h, demands-most h);
  costs = rw (all_of (within_z (neg_ℤ (pos max_cost)) (pos max_cost)) S.cost (pos 0) (λ k l. true-within_z _ _ _ (h.cost_low k) (h.cost_high k)));
}

-- 5, 10 and 11, each exactly on its condition.
module _ (S : Sheet) where
  pub lacking_yes : Lacking S → (lacking S).0 ≡ true
  unfolding lacking
  lacking_yes l = lt-ltb (total S.supply) (total S.demand) l

  pub lacking_no : ¬ Lacking S → (lacking S).0 ≡ false
  unfolding lacking
  lacking_no l = le-ltb (total S.supply) (total S.demand) (omega arith)

  pub crowded_yes : Crowded S → (crowded S).0 ≡ true
  unfolding crowded
  crowded_yes (l, e) = rw (lt-ltb (total S.demand) (total S.supply) l, eq-eqb (cafes S) max_side e)

  pub crowded_no : ¬ Crowded S → (crowded S).0 ≡ false
  unfolding crowded
  crowded_no c = by_cases (dec_lt (total S.demand) (total S.supply))
      (λ l. rw (ne_eqb (cafes S) max_side (λ e. c (l, e)), and-false))
      (λ l. rw (le-ltb (total S.demand) (total S.supply) (omega arith)))

  pub idle_yes : Idle S → (idle S).0 ≡ true
  unfolding idle
  idle_yes e = eq-eqb (total S.demand) 0 e

  pub idle_no : ¬ Idle S → (idle S).0 ≡ false
  unfolding idle
  idle_no n = ne_eqb (total S.demand) 0 n

-- A sheet that nothing is refused of is accepted.
pub accepted : (S : Sheet) → refusal (sheet_tests S) ≡ none → Accepted S
unfolding sheet_tests number_tests
accepted S e =
    let (sides, e) = refusal-clear (bad_sides S) (bad_length S ∷ number_tests S) e in
    let (lengths, e) = refusal-clear (bad_length S) (number_tests S) e in
    let (amounts, e) = refusal-clear (bad_amount S) (bad_cost S ∷ lacking S ∷ crowded S ∷ idle S ∷ []) e in
    let (costs, e) = refusal-clear (bad_cost S) (lacking S ∷ crowded S ∷ idle S ∷ []) e in
    let (short, e) = refusal-clear (lacking S) (crowded S ∷ idle S ∷ []) e in
    let (full, e) = refusal-clear (crowded S) (idle S ∷ []) e in
    let (wants, e) = refusal-clear (idle S) [] e in
    record {
      limits = within-limits S sides lengths amounts costs;
      enough = λ l. clash (lacking_yes S l) short;
      room = λ c. clash (crowded_yes S c) full;
      wanting = λ i. clash (idle_yes S i) wants;
    }

-- The tests that a sheet within the limits passes leave it to 5, 10, 11 and those after them.
pub limits-left : {S : Sheet} → WithinLimits S → (ts : List (Bool × Refusal)) → refusal (sheet_tests S ++ ts) ≡ refusal (lacking S ∷ crowded S ∷ idle S ∷ ts)
unfolding sheet_tests number_tests
limits-left {S} w ts =
    let p = limits-pass w in
    let later = lacking S ∷ crowded S ∷ idle S ∷ ts in
    refusal_no (bad_sides S) (bad_length S ∷ bad_amount S ∷ bad_cost S ∷ later) p.sides
    ∙ refusal_no (bad_length S) (bad_amount S ∷ bad_cost S ∷ later) p.lengths
    ∙ refusal_no (bad_amount S) (bad_cost S ∷ later) p.amounts
    ∙ refusal_no (bad_cost S) later p.costs

-- .. and an accepted sheet to those after them.
pub accepted-left : {S : Sheet} → Accepted S → (ts : List (Bool × Refusal)) → refusal (sheet_tests S ++ ts) ≡ refusal ts
accepted-left {S} ok ts =
    limits-left ok.limits ts
    ∙ refusal_no (lacking S) (crowded S ∷ idle S ∷ ts) (lacking_no S ok.enough)
    ∙ refusal_no (crowded S) (idle S ∷ ts) (crowded_no S ok.room)
    ∙ refusal_no (idle S) ts (idle_no S ok.wanting)

-- Of an accepted sheet nothing is refused.
pub passes : {S : Sheet} → Accepted S → refusal (sheet_tests S) ≡ none
unfolding refusal
passes {S} ok = ap refusal (sym (append-nil (sheet_tests S))) ∙ accepted-left ok []

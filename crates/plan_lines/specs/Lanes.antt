-- The lanes that carry a bag: what the code writes and counts, place by place, is what the lanes' section of the plan text shows.
use Rattle.std.specs.Prelude.{◌≡◌, ◌∷◌, ◌++◌, ◌+◌, ◌*◌, ◌/◌, ◌%◌, ◌≤◌, ◌<◌}
use Rattle.prelude.specs.Words.{refl, sym, ap, ◌∙◌, by_cases, Bool, not, cond, List, [], flat_map, append-nil, ℕ, zero, suc}
use Rattle.prelude.specs.Words.{arith, add-one, dec_le, div-add-mod', mod-lt, div-lt_iff_lt-mul, eqb, ltb, lt-ltb}
use Rattle.prelude.specs.Words.{length, take, take-suc, take_all, get_or, length-append, ne_eqb}
use Rattle.std.specs.List.{count_by}
use Rattle.std.proofs.lemmas.List.Sums.{sum_by_push}
use Rattle.transport.specs.Lists.{at, keep, table}
use Rattle.transport.specs.Laws.ListLaws.{table_cong, table-get_or, flat_map-append, keep_append, keep_yes, keep_no}
use Rattle.transport.specs.Limits.{max_side}
use Rattle.transport.specs.Problem.{Lane, lanes, place}
use Rattle.transport.specs.Laws.ProblemLaws.{lane, length-lanes, get_or-lanes}
use Rattle.transport.specs.PlanText.{carried, used, lane_line}
use Rattle.transport.specs.Text.{digits}
use Rattle.decimals.specs.Front.{front-nil, pieces}
use Rattle.sections.specs.Lines.{lines_from, lines_nil, lines_row}

-- The numbers in the line of the lane at a place, among n columns: its row and its column, both from 1, and its bags.
abbrev pub lane_numbers_of : ℕ → ℕ → ℕ → List ℕ
lane_numbers_of n l bags = suc (l / n) ∷ suc (l % n) ∷ bags ∷ []

-- Its line; none if it carries no bag.
unfoldable pub lane_text : ℕ → ℕ → ℕ → List ℕ
lane_text n l bags = cond (eqb bags 0) [] (lines_from digits 3 3 (lane_numbers_of n l bags))

-- The lines of the first k places of a plan, and their count.
unfoldable pub used_text : ℕ → List ℕ → ℕ → List ℕ
used_text n plan zero = []
used_text n plan (suc k) = used_text n plan k ++ lane_text n k (at plan k)

unfoldable pub used_count_of : List ℕ → ℕ → ℕ
used_count_of plan zero = 0
used_count_of plan (suc k) = used_count_of plan k + cond (eqb (at plan k) 0) 0 1

pub line-none : (n l : ℕ) → lane_text n l 0 ≡ []
unfolding lane_text
line-none n l = refl

pub line-one : (n l bags : ℕ) (numbers : List ℕ) → numbers ≡ lane_numbers_of n l bags → (bags ≡ 0 → ⊥) → lane_text n l bags ≡ lines_from digits 3 3 numbers
unfolding lane_text
line-one n l bags numbers e p = rw (ne_eqb bags 0 p, e)

pub text-zero : (n : ℕ) (plan : List ℕ) → used_text n plan 0 ≡ []
unfolding used_text
text-zero n plan = refl

pub text-next : (n : ℕ) (plan : List ℕ) (k : ℕ) → used_text n plan (k + 1) ≡ used_text n plan k ++ lane_text n k (at plan k)
unfolding used_text
text-next n plan k = rw add-one

-- The lines of more places are no shorter.
pub text-grows : (n : ℕ) (plan : List ℕ) (k m : ℕ) → k ≤ m → length (used_text n plan k) ≤ length (used_text n plan m)
unfolding used_text
text-grows n plan k zero p = let e : k ≡ 0 = omega arith in rw e (omega arith)
text-grows n plan k (suc m) p = by_cases (dec_le k m)
    (λ q. omega (arith, length-append (used_text n plan m) (lane_text n m (at plan m)), text-grows n plan k m q))
    (λ q. let e : k ≡ suc m = omega arith in rw e (omega arith))

-- There is room for the next line where there is room for all of them.
pub text-room : (n : ℕ) (plan : List ℕ) (k : ℕ) → k < length plan
    → length (used_text n plan k) + length (lane_text n k (at plan k)) ≤ length (used_text n plan (length plan))
text-room n plan k p =
    let next = text-grows n plan (k + 1) (length plan) (omega arith) in
    omega (arith, ap length (text-next n plan k), length-append (used_text n plan k) (lane_text n k (at plan k)))

pub side-is : max_side ≡ 32
unfolding max_side
side-is = refl

-- What a proof of lines, place by place, goes by.
pub ruleset next_texts = (pieces, text-zero, text-next, text-room, front-nil, side-is)

pub count-zero : (plan : List ℕ) → used_count_of plan 0 ≡ 0
unfolding used_count_of
count-zero plan = refl

pub count_none : (plan : List ℕ) (k : ℕ) → at plan k ≡ 0 → used_count_of plan (k + 1) ≡ used_count_of plan k
unfolding used_count_of
count_none plan k e = rw (add-one, e) (omega arith)

pub count-one : (plan : List ℕ) (k : ℕ) → (at plan k ≡ 0 → ⊥) → used_count_of plan (k + 1) ≡ used_count_of plan k + 1
unfolding used_count_of
count-one plan k p = rw (add-one, ne_eqb (at plan k) 0 p)

counted : (bags : ℕ) → ◌≡◌ {A = ℕ} (cond (eqb bags 0) 0 1) (cond (ltb 0 bags) 1 0)
counted zero = refl
counted (suc b) = rw (lt-ltb 0 (suc b) (omega arith), ne_eqb (suc b) 0 (λ e. omega arith))

-- The count of the first k places counts the bags that are there.
count_take : (plan : List ℕ) (k : ℕ) → k ≤ length plan
    → used_count_of plan k ≡ count_by (λ bags. ltb 0 bags) (take k plan)
unfolding used_count_of at
count_take plan zero p = refl
count_take plan (suc k) p =
    rw (
      take-suc plan k 0 (omega arith),
      sum_by_push (λ bags. cond (ltb 0 bags) 1 0),
      count_take plan k (omega arith),
      counted (get_or plan k 0),
    )

pub count_all : (plan : List ℕ) → used_count_of plan (length plan) ≡ count_by (λ bags. ltb 0 bags) plan
count_all plan = count_take plan (length plan) (omega arith) ∙ (rw (take_all (length plan) plan (omega arith)))

-- ---- sheet order, by places

-- The lane at a place, among n columns.
abbrev lane_of_place : ℕ → ℕ → Lane
lane_of_place n l = lane (l / n) (l % n)

lanes_places : (m n : ℕ) → 1 ≤ n → lanes m n ≡ table (m * n) (lane_of_place n)
unfolding place
lanes_places m n p = sym (table-get_or (lanes m n) (lane 0 0)) ∙ ap (λ (k : ℕ). table k (λ l. get_or (lanes m n) l (lane 0 0))) (length-lanes m n)
    ∙ table_cong (m * n) (λ l. get_or (lanes m n) l (lane 0 0)) (lane_of_place n) each
  where
    each : (l : ℕ) → l < m * n → get_or (lanes m n) l (lane 0 0) ≡ lane_of_place n l
    each l q = rw (div-add-mod' l n) at (get_or-lanes m n (l / n) (l % n) (lane 0 0) ((div-lt_iff_lt-mul p).1 q) (mod-lt l p))

module _ (n : ℕ) (plan : List ℕ) where
  abbrev has_bag : Lane → Bool
  has_bag l = not (eqb (carried n plan l) 0)

  -- The lanes among the first k places that carry a bag.
  abbrev used_to : ℕ → List Lane
  used_to k = keep has_bag (table k (lane_of_place n))

  carried-at : (k : ℕ) → carried n plan (lane_of_place n k) ≡ at plan k
  unfolding carried place
  carried-at k = rw (div-add-mod' k n)

  -- What is counted and written of the first k places are those lanes.
  abbrev Told : ℕ → Type 0
  Told k = (length (used_to k) ≡ used_count_of plan k) × (flat_map (lane_line n plan) (used_to k) ≡ used_text n plan k)

  -- One place more: a lane that carries a bag, with its line, or neither.
  told : (k : ℕ) → Told k
  unfolding used_text used_count_of table keep flat_map lane_line
  told zero = (refl, refl)
  told (suc k) = go (at plan k) refl (told k)
    where
      joined : used_to (suc k) ≡ used_to k ++ keep has_bag (lane_of_place n k ∷ [])
      joined = keep_append has_bag (table k (lane_of_place n)) (lane_of_place n k ∷ [])

      go : (bags : ℕ) → at plan k ≡ bags → Told k → Told (suc k)
      go zero e t = let same : used_to (suc k) ≡ used_to k = joined ∙ rw (keep_no has_bag (lane_of_place n k) [] (rw (carried-at k, e)), append-nil) in
          rw (same, e, line-none n k, append-nil) (omega (arith, t.0), t.1)
      go (suc b) e t = let bags : at plan k ≡ 0 → ⊥ = λ z. omega (arith, e) in
          let yes = keep_yes has_bag (lane_of_place n k) [] (rw (carried-at k, ne_eqb (at plan k) 0 bags)) in
          let more : used_to (suc k) ≡ used_to k ++ (lane_of_place n k ∷ []) = joined ∙ rw yes in
          let row = lines_row digits 3 (lane_numbers_of n k (at plan k)) [] (omega arith) refl in
          rw (more, ne_eqb (at plan k) 0 bags) (
            omega (arith, length-append (used_to k) (lane_of_place n k ∷ []), t.0),
            rw (flat_map-append, t.1, append-nil, carried-at k, line-one n k (at plan k) _ refl bags, row, lines_nil, append-nil),
          )

  -- The lanes of a whole plan, counted and written.
  pub used-whole : (m : ℕ) → 1 ≤ n → length plan ≡ m * n →
      (length (used m n plan) ≡ used_count_of plan (length plan)) × (flat_map (lane_line n plan) (used m n plan) ≡ used_text n plan (length plan))
  unfolding used
  used-whole m p e = rw (e, lanes_places m n p) (told (m * n))

-- The start belongs to its sheet, and the corner rule empties a row and a column together at the last cell only.
use Rattle.std.specs.Prelude.{◌+◌, ◌-◌, ◌≤◌, ◌<◌, ◌≡◌, ◌≢◌, ◌↔◌, ◌⊎◌, ◌∷◌}
use Rattle.prelude.specs.Words.{ℕ, zero, suc, arith, dec_lt, ℕ_discrete, refl, ap, sym, ◌∙◌, inl, inr, ⊎_elim, by_cases}
use Rattle.prelude.specs.Words.{true, false, true≢false, List, [], map, eq-eqb, ne_eqb, eqb, length, get_or, drop, drop-cons, by_test, clash}
use Rattle.integers.specs.Integer.{◌≈◌, ◌≼◌, ≼_dec, ◌⊕◌, nat}
use Rattle.network.specs.Basis.{Basis}
use Rattle.network.specs.Staircase.{Step, staircase}
use Rattle.transport.specs.Lists.{keep, sum_to, at, total}
use Rattle.transport.specs.Laws.ListLaws.{sum_to-part}
use Rattle.transport.specs.Problem.{Problem, sources, sinks, place}
use Rattle.transport.specs.Laws.Sound.{Sound}
use Rattle.transport.specs.Amount.{nothing, add, subtract, less, same, smaller, add_up, paired_supply_of, paired_demand_of}
use Rattle.transport.specs.Laws.AmountLaws.{same_true, same_self, less_weak}
use Rattle.transport.specs.Tableau.{no_cell, basis_size, corner, start}
use Rattle.transport.specs.Belonging.{row_total, column_total}
use Rattle.transport.specs.Statements.{Belongs}
use Rattle.transport.specs.declared.Pair.{Pair}
use Rattle.transport.specs.declared.Cell.{Cell}
use Rattle.tableaux.specs.Bases.{joined-on}
use Rattle.tableaux.specs.View.{row_of, col_of, basic_in}
use Rattle.tableaux.specs.PairLaws.{bags, marks, Less, pair_eq, nothing-parts, subtract-parts, add_nothing, add-subtract, subtract_self, subtract-nothing}
use Rattle.tableaux.specs.PairLaws.{less-true, less-false, true-less, subtract-above, paired_supply-parts, paired_demand-bags, paired_demand-last}
use Rattle.tableaux.specs.PairLaws.{paired_demand_early}

-- ---- one step of the rule

abbrev cell : ℕ → ℕ → Pair → Cell
cell i j x = record { row = i; col = j; amount = x }

pub smaller-row : (s d : Pair) → less d s ≡ false → smaller s d ≡ s
unfolding smaller
smaller-row s d p = rw p

pub smaller-column : (s d : Pair) → less d s ≡ true → smaller s d ≡ d
unfolding smaller
smaller-column s d p = rw p

-- A pair from which a smaller one is taken is not empty then.
not-empty : (s d : Pair) → less d s ≡ true → same (subtract s d) nothing ≡ false
not-empty s d p = by_test (same (subtract s d) nothing)
    (λ q. clash (subtract-above d s p) (rw (same_true (subtract s d) nothing q) (less_weak.irreflexive nothing)))
    (λ q. q)

pub corner-down : (P : Problem) (left i j : ℕ) (s d : Pair) → less d s ≡ false
    → corner P (suc left) i j s d ≡ cell i j s ∷ corner P left (suc i) j (paired_supply_of P (suc i)) (subtract d s)
unfolding corner
corner-down P left i j s d p = rw (smaller-row s d p, subtract_self s, same_self nothing, corner, smaller-row s d p)

corner-last : (P : Problem) (i j : ℕ) (s : Pair) → corner P 1 i j s s ≡ cell i j s ∷ []
unfolding corner
corner-last P i j s = rw (corner-down P 0 i j s s (less_weak.irreflexive s), corner)

pub corner-right : (P : Problem) (left i j : ℕ) (s d : Pair) → less d s ≡ true
    → corner P (suc left) i j s d ≡ cell i j d ∷ corner P left i (suc j) (subtract s d) (paired_demand_of P (suc j))
unfolding corner
corner-right P left i j s d p = rw (smaller-column s d p, not-empty s d p, corner, smaller-column s d p)

-- ---- the states of the rule

-- The rule stands at row i and column j, whose remaining pairs are s and d, and `left` cells come after this one. The rows up to i have given as much as the
-- columns up to j have taken, in bags and in marks.
pub record State (P : Problem) (left i j : ℕ) (s d : Pair) : Type 0 where
  pub row : i < sources P
  pub column : j < sinks P
  pub size : left + i + j + 2 ≡ sources P + sinks P
  pub row_left : less nothing s ≡ true
  pub column_left : less nothing d ≡ true
  pub bags_even : bags s ⊕ nat (sum_to (suc j) (at P.demand)) ≈ bags d ⊕ nat (sum_to (suc i) (at P.supply))
  pub marks_even_of : marks s ⊕ marks (paired_demand_of P j) ≈ marks d ⊕ nat (suc i)

module _ (P : Problem) (ok : Sound P) where
  supply-above : (i : ℕ) → i < sources P → less nothing (paired_supply_of P i) ≡ true
  supply-above i l = true-less nothing (paired_supply_of P i) (inl (omega (arith, nothing-parts, paired_supply-parts P i, ok.supply_low i l)))

  demand-above : (j : ℕ) → j < sinks P → less nothing (paired_demand_of P j) ≡ true
  demand-above j l = true-less nothing (paired_demand_of P j) (inl (omega (arith, nothing-parts, paired_demand-bags P j, ok.demand_low j l)))

  -- The rows up to the last, and the columns up to the last, have the same bags.
  whole : sum_to (sources P) (at P.supply) ≡ sum_to (sinks P) (at P.demand)
  unfolding sources sinks total
  whole = ok.balance

  pub begin : (left : ℕ) → basis_size (sources P) (sinks P) ≡ suc left → State P left 0 0 (paired_supply_of P 0) (paired_demand_of P 0)
  unfolding basis_size sum_to
  begin left e = record {
    row = ok.sources_low;
    column = ok.sinks_low;
    size = omega arith;
    row_left = supply-above 0 ok.sources_low;
    column_left = demand-above 0 ok.sinks_low;
    bags_even = omega (arith, paired_supply-parts P 0, paired_demand-bags P 0);
    marks_even_of = omega (arith, paired_supply-parts P 0);
  }

  module _ (left i j : ℕ) (s d : Pair) (st : State P left i j s d) where
    -- Equal pairs remain at the last cell only: the marks of the rows so far are 1 to m, and those of the columns so far are none before the last.
    even_last : bags s ≈ bags d → marks s ≈ marks d → left ≡ 0
    even_last p q = by_cases (dec_lt (suc j) (sinks P))
        (λ l. absurd (omega (arith, paired_demand_early P j l, st.marks_even_of)))
        (λ l. let e : suc j ≡ sinks P = omega (arith, st.column) in omega (arith, paired_demand-last P j e, st.marks_even_of, st.size))

    -- A row with more than the column stands before the last column: the last one takes all that the rows still have.
    right_exists : less d s ≡ true → suc j < sinks P
    right_exists p =
        let end : suc j ≡ sinks P → ⊥ = λ e. ⊎_elim
        (λ q. omega (arith, st.bags_even, ap (λ (t : ℕ). sum_to t (at P.demand)) e, whole, sum_to-part (suc i) (sources P) (at P.supply) st.row))
        (λ q. omega (arith, st.marks_even_of, paired_demand-last P j e, st.row))
        (less-true d s p) in
        by_cases (dec_lt (suc j) (sinks P)) (λ l. l) (λ l. absurd (end (omega (arith, st.column))))

    -- A row with no more than the column stands before the last row, or at the last cell.
    down_exists : less d s ≡ false → suc i ≡ sources P → left ≡ 0
    down_exists p e =
        let early : suc j < sinks P → ⊥ = λ l. ⊎_elim
        (λ q. omega (arith, st.bags_even, ap (λ (t : ℕ). sum_to t (at P.supply)) e, whole, sum_to-part (suc j) (sinks P) (at P.demand) st.column))
        (λ q. omega (arith, st.marks_even_of, paired_demand_early P j l))
        (less-false d s p) in
        by_cases (dec_lt (suc j) (sinks P)) (λ l. absurd (early l)) (λ l. omega (arith, st.column, st.size))

    -- At the last cell equal pairs remain.
    last_even : left ≡ 0 → s ≡ d
    last_even z =
        let e : suc i ≡ sources P = omega (arith, st.row, st.column, st.size) in
        let f : suc j ≡ sinks P = omega (arith, st.row, st.column, st.size) in
        pair_eq s d
        (omega (arith, st.bags_even, whole, ap (λ (t : ℕ). sum_to t (at P.supply)) e, ap (λ (t : ℕ). sum_to t (at P.demand)) f))
        (omega (arith, st.marks_even_of, paired_demand-last P j f))

  module _ (left i j : ℕ) (s d : Pair) (st : State P (suc left) i j s d) where
    pub state-right : less d s ≡ true → State P left i (suc j) (subtract s d) (paired_demand_of P (suc j))
    unfolding sum_to
    state-right p =
        let l : suc j < sinks P = right_exists (suc left) i j s d st p in
        record {
          row = st.row;
          column = l;
          size = omega (arith, st.size);
          row_left = subtract-above d s p;
          column_left = demand-above (suc j) l;
          bags_even = omega (arith, st.bags_even, subtract-parts s d, paired_demand-bags P (suc j));
          marks_even_of = omega (arith, st.marks_even_of, subtract-parts s d, paired_demand_early P j l);
        }

    pub state-down : less d s ≡ false → State P left (suc i) j (paired_supply_of P (suc i)) (subtract d s)
    unfolding sum_to
    state-down p =
        let under : (bags s ≈ bags d) × (marks s ≼ marks d) → Less s d = λ q. inr (
          q.0,
          by_cases (≼_dec (marks d) (marks s)) (λ r. absurd (omega (arith, even_last (suc left) i j s d st q.0 (omega arith)))) (λ r. omega arith),
        ) in
        let l : suc i < sources P = by_cases (dec_lt (suc i) (sources P)) (λ l. l)
        (λ l. absurd (omega (arith, down_exists (suc left) i j s d st p (omega (arith, st.row))))) in
        record {
          row = l;
          column = st.column;
          size = omega (arith, st.size);
          row_left = supply-above (suc i) l;
          column_left = subtract-above s d (true-less s d (⊎_elim inl under (less-false d s p)));
          bags_even = omega (arith, st.bags_even, subtract-parts d s, paired_supply-parts P (suc i));
          marks_even_of = omega (arith, st.marks_even_of, subtract-parts d s, paired_supply-parts P (suc i));
        }

-- ---- the cells that the rule puts

-- The cells that the rule puts from row i and column j on, whose remaining pairs are s and d.
data Stairs (P : Problem) : ℕ → ℕ → Pair → Pair → List Cell → Type 0 where
  last : {i j : ℕ} {s : Pair} → suc i ≡ sources P → suc j ≡ sinks P → less nothing s ≡ true → Stairs P i j s s (cell i j s ∷ [])
  down : {i j : ℕ} {s d : Pair} {T : List Cell} → less nothing s ≡ true
      → Stairs P (suc i) j (paired_supply_of P (suc i)) (subtract d s) T → Stairs P i j s d (cell i j s ∷ T)
  right : {i j : ℕ} {s d : Pair} {T : List Cell} → less nothing d ≡ true
      → Stairs P i (suc j) (subtract s d) (paired_demand_of P (suc j)) T → Stairs P i j s d (cell i j d ∷ T)

corner_stairs : (P : Problem) → Sound P → (left i j : ℕ) (s d : Pair) → State P left i j s d → Stairs P i j s d (corner P (suc left) i j s d)
corner_stairs P ok zero i j s d st =
    rw (last_even P ok 0 i j s d st refl, corner-last P i j d)
    (last {i = i} {j = j} (omega (arith, st.row, st.column, st.size)) (omega (arith, st.row, st.column, st.size)) st.column_left)
corner_stairs P ok (suc left) i j s d st = by_test (less d s)
    (λ p. rw (corner-right P (suc left) i j s d p) (right st.column_left (corner_stairs P ok left i (suc j) _ _ (state-right P ok left i j s d st p))))
    (λ p. rw (corner-down P (suc left) i j s d p) (down st.row_left (corner_stairs P ok left (suc i) j _ _ (state-down P ok left i j s d st p))))

pub size-suc : (P : Problem) → Sound P → basis_size (sources P) (sinks P) ≡ suc (basis_size (sources P) (sinks P) - 1)
unfolding basis_size
size-suc P ok = omega (arith, ok.sources_low, ok.sinks_low)

start_stairs : (P : Problem) → Sound P → Stairs P 0 0 (paired_supply_of P 0) (paired_demand_of P 0) (start P)
unfolding start
start_stairs P ok =
    rw (size-suc P ok)
    (corner_stairs P ok (basis_size (sources P) (sinks P) - 1) 0 0 (paired_supply_of P 0) (paired_demand_of P 0) (begin P ok _ (size-suc P ok)))

-- ---- the shape of the stairs

module _ {P : Problem} where
  stairs_length : {i j : ℕ} {s d : Pair} {T : List Cell} → Stairs P i j s d T → length T + i + j + 1 ≡ sources P + sinks P
  stairs_length (last p q a) = omega arith
  stairs_length (down a t) = omega (arith, stairs_length t)
  stairs_length (right a t) = omega (arith, stairs_length t)

  stairs_first : {i j : ℕ} {s d : Pair} {T : List Cell} → Stairs P i j s d T → (row_of T 0 ≡ i) × (col_of T 0 ≡ j)
  stairs_first (last p q a) = (refl, refl)
  stairs_first (down a t) = (refl, refl)
  stairs_first (right a t) = (refl, refl)

  stairs_some : {i j : ℕ} {s d : Pair} {T : List Cell} → Stairs P i j s d T → 1 ≤ length T
  stairs_some (last p q a) = omega arith
  stairs_some (down a t) = omega arith
  stairs_some (right a t) = omega arith

  stairs_last : {i j : ℕ} {s d : Pair} {T : List Cell} → Stairs P i j s d T → (K : ℕ) → suc K ≡ length T → (sources P ≡ suc (row_of T K))
      × (sinks P ≡ suc (col_of T K))
  stairs_last (last p q a) zero e = (sym p, sym q)
  stairs_last (last p q a) (suc K) e = absurd (omega arith)
  stairs_last (down a t) zero e = absurd (omega (arith, stairs_some t))
  stairs_last (down a t) (suc K) e = stairs_last t K (omega arith)
  stairs_last (right a t) zero e = absurd (omega (arith, stairs_some t))
  stairs_last (right a t) (suc K) e = stairs_last t K (omega arith)

  stairs_step : {i j : ℕ} {s d : Pair} {T : List Cell} → Stairs P i j s d T → (k : ℕ) → suc k < length T → Step (row_of T) (col_of T) k
  stairs_step (last p q a) k l = absurd (omega arith)
  stairs_step (down a t) zero l = inl (stairs_first t)
  stairs_step (down a t) (suc k) l = stairs_step t k (omega arith)
  stairs_step (right a t) zero l = inr (stairs_first t)
  stairs_step (right a t) (suc k) l = stairs_step t k (omega arith)

  stairs_above : {i j : ℕ} {s d : Pair} {T : List Cell} → Stairs P i j s d T → (k : ℕ) → k < length T → less nothing (get_or T k no_cell).amount ≡ true
  stairs_above (last p q a) zero l = a
  stairs_above (last p q a) (suc k) l = absurd (omega arith)
  stairs_above (down a t) zero l = a
  stairs_above (down a t) (suc k) l = stairs_above t k (omega arith)
  stairs_above (right a t) zero l = a
  stairs_above (right a t) (suc k) l = stairs_above t k (omega arith)

-- ---- what the stairs add up to

-- the totals of row_total and column_total
abbrev along : (Cell → ℕ) → List Cell → ℕ → Pair
along line T k = add_up (map (λ c. c.amount) (keep (λ c. eqb (line c) k) T))

along-none : (line : Cell → ℕ) (k : ℕ) → along line [] k ≡ nothing
unfolding keep add_up
along-none line k = refl

along-here : (line : Cell → ℕ) (c : Cell) (cs : List Cell) (k : ℕ) → line c ≡ k → along line (c ∷ cs) k ≡ add c.amount (along line cs k)
unfolding keep add_up
along-here line c cs k e = rw (eq-eqb (line c) k e)

along-off : (line : Cell → ℕ) (c : Cell) (cs : List Cell) (k : ℕ) → line c ≢ k → along line (c ∷ cs) k ≡ along line cs k
unfolding keep
along-off line c cs k e = rw (ne_eqb (line c) k e)

-- The cells along the rows, or along the columns: line p still has the pair r. The last cell is on the last line; another empties its line, or takes a part.
data Along (line : Cell → ℕ) (paired : ℕ → Pair) (end : ℕ) : ℕ → Pair → List Cell → Type 0 where
  ends : {p : ℕ} {r : Pair} (c : Cell) → line c ≡ p → c.amount ≡ r → suc p ≡ end → Along line paired end p r (c ∷ [])
  empties : {p : ℕ} {r : Pair} {T : List Cell} (c : Cell) → line c ≡ p → c.amount ≡ r → Along line paired end (suc p) (paired (suc p)) T
      → Along line paired end p r (c ∷ T)
  takes : {p : ℕ} {r : Pair} {T : List Cell} (c : Cell) → line c ≡ p → Along line paired end p (subtract r c.amount) T → Along line paired end p r (c ∷ T)

module _ {P : Problem} where
  rows-along : {i j : ℕ} {s d : Pair} {T : List Cell} → Stairs P i j s d T → Along (λ c. c.row) (paired_supply_of P) (sources P) i s T
  rows-along (last p q a) = ends _ refl refl p
  rows-along (down a t) = empties _ refl refl (rows-along t)
  rows-along (right a t) = takes _ refl (rows-along t)

  columns-along : {i j : ℕ} {s d : Pair} {T : List Cell} → Stairs P i j s d T → Along (λ c. c.col) (paired_demand_of P) (sinks P) j d T
  columns-along (last p q a) = ends _ refl refl q
  columns-along (down a t) = takes _ refl (columns-along t)
  columns-along (right a t) = empties _ refl refl (columns-along t)

module _ {line : Cell → ℕ} {paired : ℕ → Pair} {end : ℕ} where
  -- The lines before line p get nothing ..
  line_before : {p : ℕ} {r : Pair} {T : List Cell} → Along line paired end p r T → (h : ℕ) → h < p → along line T h ≡ nothing
  line_before (ends c e f z) h l = along-off line c [] h (omega arith) ∙ along-none line h
  line_before (empties {T = T} c e f t) h l = along-off line c T h (omega arith) ∙ line_before t h (omega arith)
  line_before (takes {T = T} c e t) h l = along-off line c T h (omega arith) ∙ line_before t h l

  -- .. line p gets what remains of it ..
  line-here : {p : ℕ} {r : Pair} {T : List Cell} → Along line paired end p r T → along line T p ≡ r
  line-here (ends {p} {r} c e f z) = along-here line c [] p e ∙ rw (along-none line p, f) (add_nothing r)
  line-here (empties {p} {r} {T} c e f t) = along-here line c T p e ∙ rw (line_before t p (omega arith), f) (add_nothing r)
  line-here (takes {p} {r} {T} c e t) = along-here line c T p e ∙ rw (line-here t) (add-subtract c.amount r)

  -- .. and each line after it gets its pair.
  line_after : {p : ℕ} {r : Pair} {T : List Cell} → Along line paired end p r T → (h : ℕ) → p < h → h < end → along line T h ≡ paired h
  line_after (ends c e f z) h l q = absurd (omega arith)
  line_after (empties {p} {T = T} c e f t) h l q = along-off line c T h (omega arith)
      ∙ by_cases (ℕ_discrete (suc p) h) (λ s. rw (← s) (line-here t)) (λ s. line_after t h (omega arith) q)
  line_after (takes {T = T} c e t) h l q = along-off line c T h (omega arith) ∙ line_after t h l q

  all_lines : {T : List Cell} → Along line paired end 0 (paired 0) T → (h : ℕ) → h < end → along line T h ≡ paired h
  all_lines t h l = by_cases (ℕ_discrete 0 h) (λ e. rw (← e) (line-here t)) (λ e. line_after t h (omega arith) l)

-- ---- the theorems

later : (n i j h k : ℕ) → 1 ≤ n → ((h ≡ suc i) × (k ≡ j)) ⊎ ((h ≡ i) × (k ≡ suc j)) → place n i j < place n h k
unfolding place
later n i j h k l (inl e) = rw (e.0, e.1) (omega arith)
later n i j h k l (inr e) = rw (e.0, e.1) (omega arith)

-- The start belongs to its sheet. While the rule runs, the rows so far have given as much as the columns so far have taken. The marks of the rows so far are
-- 1 to m, and those of the columns so far are 0 or, from the last column on, m; so the present row and column are not empty together before the last cell.
-- Each cell therefore takes a pair above (0, 0), and the rule moves by one row or one column m + n − 2 times and ends in the last row and column. That is a
-- staircase, whose cells join all; and each row and column has given or taken all of its pair when the rule leaves it.
pub start-belongs : (P : Problem) → Sound P → Belongs P (start P)
unfolding row_total column_total basis_size
start-belongs P ok =
    let T : List Cell = start P in
    let t : Stairs P 0 0 (paired_supply_of P 0) (paired_demand_of P 0) T = start_stairs P ok in
    let K : ℕ = length T - 1 in
    let many : suc K ≡ length T = omega (arith, stairs_some t) in
    let basis : Basis (sources P) (sinks P) K (row_of T) (col_of T) =
    staircase (stairs_first t).0 (stairs_first t).1 (stairs_last t K many).0 (stairs_last t K many).1 (λ k l. stairs_step t k (omega (arith, many))) in
    record {
      count = omega (arith, stairs_length t);
      on_sheet = λ k l. (basis.rows k (omega arith), basis.cols k (omega arith));
      order = λ k l. later (sinks P) _ _ _ _ ok.sinks_low (stairs_step t k l);
      joined = joined-on (λ i j. (basic_in T (suc K) i j many).1) basis.joined;
      above = stairs_above t;
      rows = all_lines (rows-along t);
      columns = all_lines (columns-along t);
    }

-- The states that the rule passes through: row i and column j, whose remaining pairs are s and d, with `left` cells still to put.
pub data PassesBy (P : Problem) : ℕ → ℕ → ℕ → Pair → Pair → Type 0 where
  begins : PassesBy P (basis_size (sources P) (sinks P)) 0 0 (paired_supply_of P 0) (paired_demand_of P 0)
  row_empty : {left i j : ℕ} {s d : Pair} → PassesBy P (suc left) i j s d → subtract s (smaller s d) ≡ nothing
      → PassesBy P left (suc i) j (paired_supply_of P (suc i)) (subtract d (smaller s d))
  row_not_empty : {left i j : ℕ} {s d : Pair} → PassesBy P (suc left) i j s d → ¬ (subtract s (smaller s d) ≡ nothing)
      → PassesBy P left i (suc j) (subtract s (smaller s d)) (paired_demand_of P (suc j))

row-empty : (s d : Pair) → less d s ≡ false → subtract s (smaller s d) ≡ nothing
row-empty s d p = rw (smaller-row s d p) (subtract_self s)

row-left : (s d : Pair) → less d s ≡ true → ¬ (subtract s (smaller s d) ≡ nothing)
row-left s d p q = true≢false (sym (rw (← smaller-column s d p, q) (same_self nothing)) ∙ not-empty s d p)

-- Cell k of the start is put in a state that the rule passes through: the cells from k on are those that the rule puts from this state on.
pub record Put (P : Problem) (k : ℕ) : Type 0 where
  pub left : ℕ
  pub row : ℕ
  pub column : ℕ
  pub row_pair : Pair
  pub column_pair : Pair
  pub passes : PassesBy P (suc left) row column row_pair column_pair
  pub size : k + suc left ≡ basis_size (sources P) (sinks P)
  pub cells : drop k (start P) ≡ corner P (suc left) row column row_pair column_pair

put : {P : Problem} {k left i j : ℕ} {s d : Pair} → PassesBy P (suc left) i j s d → k + suc left ≡ basis_size (sources P) (sinks P)
    → drop k (start P) ≡ corner P (suc left) i j s d → Put P k
put {P} {k} {left} {i} {j} {s} {d} w e f = record { left = left; row = i; column = j; row_pair = s; column_pair = d; passes = w; size = e; cells = f }

start-put : (P : Problem) → Sound P → (k : ℕ) → k < length (start P) → Put P k
unfolding start
start-put P ok zero l =
    let e = size-suc P ok in
    let w : PassesBy P (suc (basis_size (sources P) (sinks P) - 1)) 0 0 (paired_supply_of P 0) (paired_demand_of P 0) = rw (← e) begins in
    put w (omega arith) (rw (← e) refl)
start-put P ok (suc k) l = let w = start-put P ok k (omega arith) in next w.left w.passes w.size w.cells
  where
    tail : (c : Cell) (cs : List Cell) → drop k (start P) ≡ c ∷ cs → drop (suc k) (start P) ≡ cs
    tail c cs e = let f : drop k (start P) ≡ get_or (start P) k no_cell ∷ drop (suc k) (start P) = drop-cons (start P) k no_cell (omega arith) in cc

    next : (left : ℕ) {i j : ℕ} {s d : Pair} → PassesBy P (suc left) i j s d → k + suc left ≡ basis_size (sources P) (sinks P)
        → drop k (start P) ≡ corner P (suc left) i j s d → Put P (suc k)
    next zero w e f = absurd (omega (arith, (start-belongs P ok).count))
    next (suc left) {i} {j} {s} {d} w e f = by_test (less d s)
        (λ p. put (row_not_empty w (row-left s d p)) (omega arith) (rw (smaller-column s d p) (tail _ _ (f ∙ corner-right P (suc left) i j s d p))))
        (λ p. put (row_empty w (row-empty s d p)) (omega arith) (rw (smaller-row s d p) (tail _ _ (f ∙ corner-down P (suc left) i j s d p))))

passes-state : (P : Problem) → Sound P → {left i j : ℕ} {s d : Pair} → PassesBy P left i j s d → (k : ℕ) → left ≡ suc k → State P k i j s d
passes-state P ok begins k e = begin P ok k e
passes-state P ok (row_empty {left} {i} {j} {s} {d} w p) k e = by_test (less d s)
    (λ q. absurd (row-left s d q p))
    (λ q. rw (smaller-row s d q) (state-down P ok k i j s d (passes-state P ok w (suc k) (ap suc e)) q))
passes-state P ok (row_not_empty {left} {i} {j} {s} {d} w p) k e = by_test (less d s)
    (λ q. rw (smaller-column s d q) (state-right P ok k i j s d (passes-state P ok w (suc k) (ap suc e)) q))
    (λ q. absurd (p (row-empty s d q)))

-- Both are empty together at the last cell, and only there: with equal pairs left, the marks of the rows so far, 1 to m, are those of the columns so far, 0
-- or m.
pub both-empty : (P : Problem) → Sound P → (left i j : ℕ) (s d : Pair) → PassesBy P (suc left) i j s d
    → ((subtract s (smaller s d) ≡ nothing) × (subtract d (smaller s d) ≡ nothing)) ↔ ((i ≡ sources P - 1) × (j ≡ sinks P - 1))
both-empty P ok left i j s d w =
    let st : State P left i j s d = passes-state P ok w left refl in
    let last : s ≡ d → left ≡ 0 = λ e. even_last P ok left i j s d st (rw e (omega arith)) (rw e (omega arith)) in
    let even : s ≡ d → (subtract s (smaller s d) ≡ nothing) × (subtract d (smaller s d) ≡ nothing) = λ e.
    rw (e, smaller-row d d (less_weak.irreflexive d)) (subtract_self d, subtract_self d) in (
      (λ e.
          let z = last (subtract-nothing s (smaller s d) e.0 ∙ sym (subtract-nothing d (smaller s d) e.1)) in
          omega (arith, st.row, st.column, st.size)),
      (λ e. even (last_even P ok left i j s d st (omega (arith, st.row, st.column, st.size)))),
    )

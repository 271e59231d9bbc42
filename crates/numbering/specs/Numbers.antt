-- The numbers of those left among themselves, their own numbers, and cells under the one and under the other.
use Rattle.std.specs.Prelude.{◌≡◌, ◌++◌, ◌+◌, ◌-◌, ◌≤◌, ◌<◌}
use Rattle.prelude.specs.Words.{refl, sym, ap, ◌∙◌, by_cases, true, false, cond, List, [], map, append-nil, ℕ, zero, suc}
use Rattle.prelude.specs.Words.{arith, dec_lt, dec_le, ℕ_discrete, add-one, eqb, ltb, length, min, take, drop, length-take, get_or}
use Rattle.prelude.specs.Words.{set, replicate, length-set, length-map, length-append}
use Rattle.prelude.specs.Words.{length-replicate, get_or-append, drop_of_length-le, get_or-set_same, get_or-set_other}
use Rattle.prelude.specs.Words.{take_at, get_or-drop, get_or-eq_default, lt-ltb, le-ltb}
use Rattle.prelude.specs.Words.{take_all, length-take-le, eq-eqb, ne_eqb}
use Rattle.std.proofs.Math.Seq.{drop-append_seam}
use Rattle.std.proofs.lemmas.List.{append_assoc, drop_more, map_more, set_at, take-map}
use Rattle.transport.specs.Limits.{max_side, max_cells}
use Rattle.transport.specs.Lists.{at, table, padded}
use Rattle.transport.specs.Parties.{left}
use Rattle.transport.specs.Tableau.{no_cell, cells_of, tableau_of}
use Rattle.transport.specs.Laws.ListLaws.{get_or-append-at, map-table, table_cong, table-get_or}
use Rattle.transport.specs.Laws.PartiesLaws.{left_at, length-left, left-grows}
use Rattle.transport.specs.declared.Cell.{Cell}
use Rattle.transport.specs.declared.Tableau.{Tableau}

-- Own numbers of one side in their order.
pub record Growing (ks : List ℕ) : Type 0 where
  pub few : length ks ≤ max_side
  pub inside : (k : ℕ) → k < length ks → at ks k < max_side
  pub grows : (h k : ℕ) → h < k → k < length ks → at ks h < at ks k

pub left_growing : (xs : List ℕ) → length xs ≤ max_side → Growing (left xs)
left_growing xs few =
    record { few = omega (arith, length-left xs); inside = λ k l. omega (arith, (left_at xs k l).0); grows = left-grows xs }

-- ---- the number that an own number k has in such a list

-- Among the first n of it; and where it is none of these, max_side, which is nobody's number.
unfoldable pub number_before : List ℕ → ℕ → ℕ → ℕ
number_before ks zero k = max_side
number_before ks (suc n) k = elim (eqb (at ks n) k) [
  | true ↦ n
  | false ↦ number_before ks n k
]

unfoldable pub number_in : List ℕ → ℕ → ℕ
number_in ks k = number_before ks (length ks) k

module _ (ks : List ℕ) where
  number_yes : (n k : ℕ) → at ks n ≡ k → number_before ks (suc n) k ≡ n
  unfolding number_before
  number_yes n k e = rw (eq-eqb (at ks n) k e, number_before)

  number_no : (n k : ℕ) → (at ks n ≡ k → ⊥) → number_before ks (suc n) k ≡ number_before ks n k
  unfolding number_before
  number_no n k e = rw (ne_eqb (at ks n) k e, number_before)

  number-none : (n k : ℕ) → ((h : ℕ) → h < n → at ks h ≡ k → ⊥) → number_before ks n k ≡ max_side
  unfolding number_before
  number-none zero k other = refl
  number-none (suc n) k other = number_no n k (other n (omega arith)) ∙ number-none n k (λ h l. other h (omega arith))

  number_at : Growing ks → (n h : ℕ) → n ≤ length ks → h < n → number_before ks n (at ks h) ≡ h
  number_at g zero h b l = absurd (omega arith)
  number_at g (suc n) h b l = by_cases (ℕ_discrete h n)
      (λ e. rw e (number_yes n (at ks n) refl))
      (λ e. number_no n (at ks h) (λ q. absurd (omega (arith, g.grows h n (omega arith) (omega arith)))) ∙ number_at g n h (omega arith) (omega arith))

-- The h-th of the list has the number h ..
pub number_in-at : {ks : List ℕ} → Growing ks → (h : ℕ) → h < length ks → number_in ks (at ks h) ≡ h
unfolding number_in
number_in-at {ks} g h l = number_at ks g (length ks) h (omega arith) l

-- .. and one that is not in the list has none.
pub number_in-none : (ks : List ℕ) (k : ℕ) → ((h : ℕ) → h < length ks → at ks h ≡ k → ⊥) → number_in ks k ≡ max_side
unfolding number_in
number_in-none ks k other = number-none ks (length ks) k other

-- A number other than max_side is that of a party in the list.
pub number_in-found : (ks : List ℕ) (k : ℕ) → ¬ (number_in ks k ≡ max_side)
    → (number_in ks k < length ks) × (at ks (number_in ks k) ≡ k)
unfolding number_in number_before
number_in-found ks k found = go (length ks) found
  where
    go : (n : ℕ) → ¬ (number_before ks n k ≡ max_side)
        → (number_before ks n k < n) × (at ks (number_before ks n k) ≡ k)
    go zero found = absurd (found refl)
    go (suc n) found = by_cases (ℕ_discrete (at ks n) k)
        (λ e. rw (number_yes ks n k e) (omega arith, e))
        (λ e.
        let same = number_no ks n k e in
        let (l, is) = go n (λ none. found (same ∙ none)) in
        rw same (omega (arith, l), is))

-- ---- a list with the number of each own number

pub record Numbering (ks : List ℕ) (among : List ℕ) : Type 0 where
  pub inside : (k : ℕ) → k < length ks → at ks k < max_side
  pub numbers : (x : ℕ) → x < max_side → at among x ≡ number_in ks x

-- A number that is off the list is nobody's.
pub numbering_off : {ks among : List ℕ} → Numbering ks among → (x : ℕ) → max_side ≤ x → max_side ≡ number_in ks x
numbering_off {ks} w x l = sym (number_in-none ks x (λ h b e. omega (arith, w.inside h b)))

-- The numbers of the first n are in the list.
pub record NumberedTo (ks : List ℕ) (n : ℕ) (among : List ℕ) : Type 0 where
  pub long : length among ≡ max_side
  pub numbers : (x : ℕ) → x < max_side → at among x ≡ number_before ks n x

module _ (ks : List ℕ) where
  pub numbered_none : NumberedTo ks 0 (replicate max_side max_side)
  unfolding number_before at
  numbered_none = record { long = length-replicate max_side max_side; numbers = replicate-at max_side }
    where
      replicate-at : (n x : ℕ) → x < n → get_or (replicate n max_side) x 0 ≡ max_side
      replicate-at zero x l = absurd (omega arith)
      replicate-at (suc n) zero l = refl
      replicate-at (suc n) (suc x) l = replicate-at n x (omega arith)

  pub numbered_one : (n : ℕ) (among : List ℕ) → NumberedTo ks n among → at ks n < max_side → NumberedTo ks (n + 1) (set among (at ks n) n)
  unfolding at
  numbered_one n among w l = record { long = length-set among (at ks n) n ∙ w.long; numbers = numbers }
    where
      numbers : (x : ℕ) → x < max_side → get_or (set among (at ks n) n) x 0 ≡ number_before ks (n + 1) x
      numbers x b = rw add-one (by_cases (ℕ_discrete (at ks n) x)
          (λ e. rw (← e) (get_or-set_same among (at ks n) n 0 (omega (arith, w.long))) ∙ sym (number_yes ks n x e))
          (λ e. get_or-set_other among (at ks n) x n 0 (λ q. e (sym q)) ∙ w.numbers x b ∙ sym (number_no ks n x e)))

  pub numbered_all : (among : List ℕ) → Growing ks → NumberedTo ks (length ks) among → Numbering ks among
  unfolding number_in
  numbered_all among g w = record { inside = g.inside; numbers = w.numbers }

-- ---- cells

unfoldable pub own_cell_of : List ℕ → List ℕ → Cell → Cell
own_cell_of rows cols c = record { row = at rows c.row; col = at cols c.col; amount = c.amount }

unfoldable pub cell_among_of : List ℕ → List ℕ → Cell → Cell
cell_among_of rows cols c = record { row = number_in rows c.row; col = number_in cols c.col; amount = c.amount }

-- A tableau between so many rows and columns as have own numbers.
pub record Within (rows cols : List ℕ) (T : List Cell) : Type 0 where
  pub few : length T ≤ max_cells
  pub row_in : (k : ℕ) → k < length T → (get_or T k no_cell).row < length rows
  pub col_in_of : (k : ℕ) → k < length T → (get_or T k no_cell).col < length cols

-- ---- cells changed one after the other

-- The first n cells of a tableau are changed, and the rest is as it was.
pub record ChangedTo (f : Cell → Cell) (t : Tableau) (n : ℕ) (u : Tableau) : Type 0 where
  pub many : u.count ≡ t.count
  pub cells : u.cells ≡ map f (take n t.cells) ++ drop n t.cells

module _ {f : Cell → Cell} {t : Tableau} where
  pub changed-none : ChangedTo f t 0 t
  changed-none = record { many = refl; cells = refl }

  -- The next cell is still what it was ..
  changed-next : {n : ℕ} {u : Tableau} → ChangedTo f t n u → get_or u.cells n no_cell ≡ get_or t.cells n no_cell
  changed-next {n} {u} w =
      let front : List Cell = map f (take n t.cells) in
      let here : n + 0 ≡ n = omega arith in
      by_cases (dec_le n (length t.cells))
      (λ l.
      let long : length front ≡ n = length-map (take n t.cells) f ∙ length-take-le n t.cells l in
      ap (λ (cells : List Cell). get_or cells n no_cell) w.cells
      ∙ ap (λ (k : ℕ). get_or (front ++ drop n t.cells) k no_cell) (sym here)
      ∙ get_or-append-at front (drop n t.cells) n 0 no_cell long
      ∙ get_or-drop n t.cells 0 no_cell
      ∙ ap (λ (k : ℕ). get_or t.cells k no_cell) here)
      (λ l.
      let cells : u.cells ≡ map f t.cells =
      w.cells ∙ rw (take_all n t.cells (omega arith), drop_of_length-le t.cells {i = n} (omega arith)) (append-nil (map f t.cells)) in
      ap (λ (cells : List Cell). get_or cells n no_cell) cells
      ∙ get_or-eq_default (map f t.cells) no_cell {n = n} (omega (arith, length-map t.cells f))
      ∙ sym (get_or-eq_default t.cells no_cell {n = n} (omega arith)))

  -- .. and is changed, by what it was ..
  pub changed-more : {n : ℕ} {u : Tableau} {c : Cell} → ChangedTo f t n u → n < length t.cells
      → c ≡ f (get_or t.cells n no_cell)
      → ChangedTo f t (n + 1) (record { cells = set u.cells n c; count = u.count })
  changed-more {n} w l e =
      let front : List Cell = map f (take n t.cells) in
      let long : length front ≡ n = omega (arith, length-map (take n t.cells) f, length-take n t.cells) in
      record {
        many = w.many;
        cells =
            rw (
              e,
              w.cells,
              drop_more t.cells n no_cell l,
              set_at front _ _ (f (get_or t.cells n no_cell)) n long,
              map_more f t.cells n no_cell l,
            )
            (sym (append_assoc front _ _));
      }

  -- .. or by what it still is.
  pub changed-one : {n : ℕ} {u : Tableau} → ChangedTo f t n u → n < length t.cells
      → (c : Cell) → c ≡ f (get_or u.cells n no_cell)
      → ChangedTo f t (n + 1) (record { cells = set u.cells n c; count = u.count })
  changed-one w l c e = changed-more w l (e ∙ ap f (changed-next w))

-- The first cells of a list are all changed.
all-front : (f : Cell → Cell) (T rest : List Cell)
    → table (length T) (λ k. f (get_or (T ++ rest) k no_cell)) ++ drop (length T) (T ++ rest) ≡ map f T ++ rest
all-front f T rest = rw (drop-append_seam T rest) (ap (λ (front : List Cell). front ++ rest) (
    table_cong (length T) (λ k. f (get_or (T ++ rest) k no_cell)) (λ k. f (get_or T k no_cell)) (λ k l. ap f (get_or-append T rest no_cell k l))
    ∙ sym (map-table f (length T) (λ k. get_or T k no_cell))
    ∙ ap (map f) (table-get_or T no_cell)))

-- ---- a tableau under own numbers

-- What is read of its array: there is room for the cells, and they stand between the rows and the columns that have own numbers.
module _ {rows cols : List ℕ} {T : List Cell} {t : Tableau} (is-t : t ≡ tableau_of T) (w : Within rows cols T) where
  pub count_room : t.count ≤ max_cells
  unfolding tableau_of
  count_room = rw is-t w.few

  pub long-cells : length t.cells ≡ max_cells
  unfolding tableau_of padded
  long-cells = rw is-t (omega (arith, w.few, length-append T (replicate (max_cells - length T) no_cell), length-replicate (max_cells - length T) no_cell))

  cell_at : (k : ℕ) → k < t.count → get_or t.cells k no_cell ≡ get_or T k no_cell
  unfolding tableau_of padded
  cell_at k l = rw is-t (get_or-append T (replicate (max_cells - length T) no_cell) no_cell k (rw is-t at l))

  pub cell_inside : (k : ℕ) → k < t.count
      → ((get_or t.cells k no_cell).row < length rows) × ((get_or t.cells k no_cell).col < length cols)
  unfolding tableau_of
  cell_inside k l = rw (cell_at k l) (w.row_in k (rw is-t at l), w.col_in_of k (rw is-t at l))

  pub cell-within : {f : Cell → Cell} {k : ℕ} {u : Tableau} → ChangedTo f t k u → k < t.count
      → ((get_or u.cells k no_cell).row < length rows) × ((get_or u.cells k no_cell).col < length cols)
  cell-within {k} h l = rw (changed-next h) (cell_inside k l)

-- All cells changed, it is the tableau of the changed ones.
pub changed-tableau : (f : Cell → Cell) (T : List Cell) {t u : Tableau} {n : ℕ} → ChangedTo f t n u → n ≡ t.count → t ≡ tableau_of T → u ≡ tableau_of (map f T)
unfolding tableau_of padded
changed-tableau f T {t} {u} {n} w all is-t =
    let rest : List Cell = replicate (max_cells - length T) no_cell in
    let long : length (map f T) ≡ length T = length-map T f in
    let cells : u.cells ≡ map f T ++ replicate (max_cells - length (map f T)) no_cell =
    w.cells ∙ rw (all, is-t, long, take_at T rest (length T) refl, drop-append_seam T rest) in
    let count : u.count ≡ length (map f T) = w.many ∙ ap (λ (s : Tableau). s.count) is-t ∙ sym long in
    λ i. record { cells = cells i; count = count i }

-- ---- a tableau under the numbers of those left

-- No more cells are counted than the array has.
pub counted-most : (count n : ℕ) → n ≡ cond (ltb count max_cells) count max_cells → n ≤ max_cells
counted-most count n e = by_cases (dec_lt count max_cells)
    (λ l. let same : n ≡ count = e ∙ rw (lt-ltb count max_cells l) in omega arith)
    (λ l. let same : n ≡ max_cells = e ∙ rw (le-ltb count max_cells (omega arith)) in omega arith)

-- The cells of the array that are counted, be the count any: once these are changed, so are the tableau's.
pub changed-cells : {f : Cell → Cell} {t u : Tableau} {n : ℕ} → ChangedTo f t n u → n ≡ min t.count (length t.cells)
    → cells_of u ≡ map f (cells_of t)
unfolding cells_of
changed-cells {f} {t} {u} {n} w all = rw (w.many, w.cells) (by_cases (dec_le t.count (length t.cells))
    (λ l.
    let same : n ≡ t.count = omega arith in
    rw same (take_at (map f (take t.count t.cells)) _ t.count
    (length-map (take t.count t.cells) f ∙ length-take-le t.count t.cells l)))
    (λ l.
    let front : take n t.cells ≡ t.cells = take_all n t.cells (omega arith) in
    let rest : drop n t.cells ≡ [] = drop_of_length-le t.cells {i = n} (omega arith) in
    rw (front, rest, append-nil (map f t.cells)) (take-map f t.count t.cells)))

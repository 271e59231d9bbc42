-- Numbers read in lines of `width`, one after the other, as Lines has them: what the columns and rows of the specification read. Their reader is any.
use Rattle.std.specs.Prelude.{◌≡◌, ◌∷◌, ◌++◌, ◌+◌, ◌*◌, ◌-◌, ◌≤◌, ◌<◌}
use Rattle.prelude.specs.Words.{refl, sym, ap, ◌∙◌, Bool, true, false, List, [], flatten, append_assoc, append-nil, ℕ, zero, suc}
use Rattle.prelude.specs.Words.{arith, suc-mul, suc-add, zero-add, zero-mul, add-one, length, take, drop, set}
use Rattle.prelude.specs.Words.{take-suc-set, take-append_seam}
use Rattle.transport.specs.Text.{bytes}
use Rattle.transport.specs.SheetText.{Reading, stuck, got, Reader, ◌>>=◌, ◌>>◌, pure, times, word, line, row}
use Rattle.sections.specs.Lines.{ending, left_after_of, ending-last, ending-more, left-last, left-more, left_pos}
use Rattle.tokens.specs.Reading.{byte_next, bind-got, bind-stuck, end_reading, end-stuck, end_yes, end_no, one_yes, one_no, line-end}

module _ {A : Type 0} where
  -- Values that were read before.
  unfoldable pub after : List A → Reading (List A) → Reading (List A)
  after xs (stuck rest) = stuck rest
  after xs (got ys rest) = got (xs ++ ys) rest

  after-nil : (r : Reading (List A)) → after [] r ≡ r
  unfolding after
  after-nil (stuck rest) = refl
  after-nil (got ys rest) = refl

  after-after : (xs ys : List A) (r : Reading (List A)) → after xs (after ys r) ≡ after (xs ++ ys) r
  unfolding after
  after-after xs ys (stuck rest) = refl
  after-after xs ys (got zs rest) = rw append_assoc

  after-stuck : (xs : List A) (rest : List ℕ) → after xs (stuck rest) ≡ stuck rest
  unfolding after
  after-stuck xs rest = refl

  after-got : (xs ys : List A) (rest : List ℕ) → after xs (got ys rest) ≡ got (xs ++ ys) rest
  unfolding after
  after-got xs ys rest = refl

  -- One value before those of a reader.
  cons-after : (x : A) (s : Reader (List A)) (t : List ℕ) → (s >>= λ xs. pure (x ∷ xs)) t ≡ after (x ∷ []) (s t)
  unfolding after pure
  cons-after x s t = go (s t) refl
    where
      go : (v : Reading (List A)) → s t ≡ v → (s >>= λ xs. pure (x ∷ xs)) t ≡ after (x ∷ []) v
      go (stuck u) e = bind-stuck s t u _ e
      go (got ys u) e = bind-got s t u _ ys e

  module _ (k : ℕ) (r : Reader A) (t u : List ℕ) where
    times-stuck : r t ≡ stuck u → times (suc k) r t ≡ stuck u
    unfolding times
    times-stuck e = bind-stuck r t u _ e

    times-got : (x : A) → r t ≡ got x u → times (suc k) r t ≡ after (x ∷ []) (times k r u)
    unfolding times
    times-got x e = bind-got r t u _ x e ∙ cons-after x (times k r) u

  times_none : (r : Reader A) (t : List ℕ) → times 0 r t ≡ got [] t
  unfolding times pure
  times_none r t = refl

-- ---- the lines, number by number

module _ {A : Type 0} (r : Reader A) where
  unfoldable pub read_lines_of : ℕ → ℕ → ℕ → Reader (List A)
  read_lines_of width left zero t = got [] t
  read_lines_of width left (suc k) t = elim (end_reading (ending left) (r t)) [
    | stuck rest ↦ stuck rest
    | got x rest ↦ after (x ∷ []) (read_lines_of width (left_after_of width left) k rest)
  ]

module _ {A : Type 0} (r : Reader A) where
  module _ (width left : ℕ) where
    read_none : (t : List ℕ) → read_lines_of r width left 0 t ≡ got [] t
    unfolding read_lines_of
    read_none t = refl

    read_stuck : (k : ℕ) (t rest : List ℕ) → end_reading (ending left) (r t) ≡ stuck rest → read_lines_of r width left (suc k) t ≡ stuck rest
    unfolding read_lines_of
    read_stuck k t rest e = rw (read_lines_of, e)

    read_got : (k : ℕ) (t : List ℕ) (x : A) (rest : List ℕ) → end_reading (ending left) (r t) ≡ got x rest → read_lines_of r width left (suc k) t
        ≡ after (x ∷ []) (read_lines_of r width (left_after_of width left) k rest)
    unfolding read_lines_of
    read_got k t x rest e = rw (read_lines_of, e)

  -- A column is lines of one number.
  pub column_lines : (m : ℕ) (t : List ℕ) → times m (line r) t ≡ read_lines_of r 1 1 m t
  column_lines zero t = times_none (line r) t ∙ sym (read_none 1 1 t)
  column_lines (suc m) t = go (end_reading 10 (r t)) refl (column_lines m)
    where
      go : (v : Reading A) → end_reading 10 (r t) ≡ v → ((u : List ℕ) → times m (line r) u ≡ read_lines_of r 1 1 m u) → times (suc m) (line r) t
          ≡ read_lines_of r 1 1 (suc m) t
      go (stuck u) e ih = times-stuck m (line r) t u (line-end r t ∙ e) ∙ sym (read_stuck 1 1 m t u (rw ending-last e))
      go (got x u) e ih =
          let s : read_lines_of r 1 1 (suc m) t ≡ after (x ∷ []) (read_lines_of r 1 1 m u) = rw left-last at (read_got 1 1 m t x u (rw ending-last e)) in
          times-got m (line r) t u x (line-end r t ∙ e) ∙ ap (after (x ∷ [])) (ih u) ∙ sym s

-- ---- what a loop keeps that reads such lines into a list

module _ {A : Type 0} (r : Reader A) (text : List ℕ) (at width count : ℕ) where
  -- The first i numbers stand in the list, and the others are to be read from the present place on.
  pub record ReadSoFar (list : List A) (next left i : ℕ) : Type 0 where
    pub wide : 1 ≤ width
    pub inside : i ≤ count
    pub on_line : 1 ≤ left
    pub place : next ≤ length text
    pub reads : read_lines_of r width width count (drop at text) ≡ after (take i list) (read_lines_of r width left (count - i) (drop next text))

  pub read_start : at ≤ length text → 1 ≤ width → (list : List A) → ReadSoFar list at width 0
  read_start p q list =
      let all : count - 0 ≡ count = omega arith in
      record { wide = q; inside = omega arith; on_line = q; place = p; reads = rw all (sym (after-nil _)) }

module _ {A : Type 0} {r : Reader A} {text : List ℕ} {at width count : ℕ} {list : List A} {next left i : ℕ}
    (s : ReadSoFar r text at width count list next left i) where
  pub read_done : count ≤ i → read_lines_of r width width count (drop at text) ≡ got (take count list) (drop next text)
  read_done p =
      let e : i ≡ count = omega (arith, s.inside) in
      let none : count - i ≡ 0 = omega arith in
      s.reads ∙ (rw (none, read_none, after-got, append-nil, e))

  module _ (p : i < count) where
    one_more : count - i ≡ suc (count - (i + 1))
    one_more = omega arith

    pub read_stopped : (rest : List ℕ) → end_reading (ending left) (r (drop next text)) ≡ stuck rest → read_lines_of r width width count (drop at text)
        ≡ stuck rest
    read_stopped rest e =
        s.reads ∙ (rw (one_more, read_stuck r width left (count - (i + 1)) (drop next text) rest e) (after-stuck (take i list) rest))

    pub read_more : (x : A) (next' left' : ℕ) → count ≤ length list → end_reading (ending left) (r (drop next text)) ≡ got x (drop next' text)
        → next' ≤ length text → left' ≡ left_after_of width left → ReadSoFar r text at width count (set list i x) next' left' (i + 1)
    read_more x next' left' room e q is-left = record {
      wide = s.wide;
      inside = omega arith;
      on_line = rw is-left (left_pos width left s.wide s.on_line);
      place = q;
      reads = s.reads
          ∙ (rw (
            one_more,
            read_got r width left (count - (i + 1)) (drop next text) x (drop next' text) e,
            after-after,
            add-one i,
            take-suc-set list i x (omega arith),
            is-left,
          ));
    }

-- Numbers in the front of a longer list.
pub front_is : {A : Type 0} (k : ℕ) (xs ys : List A) → k ≡ length xs → take k (xs ++ ys) ≡ xs
front_is k xs ys e = rw e (take-append_seam xs ys)

-- ---- rows

module _ {A : Type 0} where
  -- What a reader gave, and then the values of another one.
  unfoldable and_then : Reading (List A) → Reader (List A) → Reading (List A)
  and_then (stuck rest) s = stuck rest
  and_then (got xs rest) s = after xs (s rest)

  then-after : (x : A) (r : Reading (List A)) (s : Reader (List A)) → and_then (after (x ∷ []) r) s ≡ after (x ∷ []) (and_then r s)
  unfolding and_then after
  then-after x (stuck rest) s = refl
  then-after x (got xs rest) s = sym (after-after (x ∷ []) xs (s rest))

module _ {A : Type 0} (r : Reader A) where
  row_one : (t : List ℕ) → row r 1 t ≡ (line r >>= λ x. pure (x ∷ [])) t
  unfolding row
  row_one t = refl

  row_more : (l : ℕ) (t : List ℕ) → row r (suc (suc l)) t ≡ (r >>= λ x. word (32 ∷ []) >> (row r (suc l) >>= λ xs. pure (x ∷ xs))) t
  unfolding row bytes
  row_more l t = refl

  module _ (width k : ℕ) where
    abbrev others : Reader (List A)
    others = read_lines_of r width width k

    first-stuck : (l : ℕ) (t u : List ℕ) → end_reading (ending (suc l)) (r t) ≡ stuck u → row r (suc l) t ≡ stuck u
        → read_lines_of r width (suc l) (suc (l + k)) t ≡ and_then (row r (suc l) t) others
    unfolding and_then
    first-stuck l t u e s = read_stuck r width (suc l) (l + k) t u e ∙ (rw s)

    -- A whole row, and then the lines after it.
    row-then : (l : ℕ) (t : List ℕ) → read_lines_of r width (suc l) (suc (l + k)) t ≡ and_then (row r (suc l) t) others
    unfolding and_then pure
    row-then zero t = go (end_reading 10 (r t)) refl
      where
        go : (v : Reading A) → end_reading 10 (r t) ≡ v → read_lines_of r width 1 (suc (0 + k)) t ≡ and_then (row r 1 t) others
        go (stuck u) e = first-stuck 0 t u (rw ending-last e) (row_one t ∙ bind-stuck (line r) t u (λ x. pure (x ∷ [])) (line-end r t ∙ e))
        go (got x u) e =
            let s : row r 1 t ≡ got (x ∷ []) u = row_one t ∙ bind-got (line r) t u (λ x. pure (x ∷ [])) x (line-end r t ∙ e) in
            let a : read_lines_of r width 1 (suc k) t ≡ after (x ∷ []) (others u) = rw left-last at (read_got r width 1 k t x u (rw ending-last e)) in
            rw (zero-add, s) a
    row-then (suc l) t = go (r t) refl (row-then l)
      where
        spaced : ending (suc (suc l)) ≡ 32
        spaced = ending-more (suc (suc l)) (λ e. omega arith)

        fewer : left_after_of width (suc (suc l)) ≡ suc l
        fewer = left-more width (suc (suc l)) (λ e. omega arith) ∙ omega arith

        go : (v : Reading A) → r t ≡ v → ((u : List ℕ) → read_lines_of r width (suc l) (suc (l + k)) u ≡ and_then (row r (suc l) u) others)
            → read_lines_of r width (suc (suc l)) (suc (suc l + k)) t ≡ and_then (row r (suc (suc l)) t) others
        go (stuck u) e ih =
            first-stuck (suc l) t u (rw e (end-stuck (ending (suc (suc l))) u)) (row_more l t
            ∙ bind-stuck r t u (λ x. word (32 ∷ []) >> (row r (suc l) >>= λ xs. pure (x ∷ xs))) e)
        go (got x u) e ih = by_byte (byte_next 32 u) refl
          where
            row_is : row r (suc (suc l)) t ≡ (word (32 ∷ []) >> (row r (suc l) >>= λ xs. pure (x ∷ xs))) u
            row_is = row_more l t ∙ bind-got r t u (λ x. word (32 ∷ []) >> (row r (suc l) >>= λ xs. pure (x ∷ xs))) x e

            by_byte : (b : Bool) → byte_next 32 u ≡ b → read_lines_of r width (suc (suc l)) (suc (suc l + k)) t ≡ and_then (row r (suc (suc l)) t) others
            by_byte false h = first-stuck (suc l) t u (rw (e, spaced) (end_no 32 x u h)) (row_is ∙ one_no 32 (row r (suc l) >>= λ xs. pure (x ∷ xs)) u h)
            by_byte true h =
                let s : row r (suc (suc l)) t ≡ after (x ∷ []) (row r (suc l) (drop 1 u)) =
                row_is ∙ one_yes 32 (row r (suc l) >>= λ xs. pure (x ∷ xs)) u h ∙ cons-after x (row r (suc l)) (drop 1 u) in
                let a = read_got r width (suc (suc l)) (suc (l + k)) t x (drop 1 u) (rw (e, spaced) (end_yes 32 x u h)) in
                rw (suc-add l k, s, then-after) (a ∙ (rw (fewer, ih (drop 1 u))))

-- The rows of the costs are lines of n numbers.
module _ {A : Type 0} where
  unfoldable pub flat : Reading (List (List A)) → Reading (List A)
  flat (stuck rest) = stuck rest
  flat (got rows rest) = got (flatten rows) rest

flat_after : {A : Type 0} (xs : List A) (r : Reading (List (List A))) → flat (after (xs ∷ []) r) ≡ after xs (flat r)
unfolding flat after flatten
flat_after xs (stuck rest) = refl
flat_after xs (got rows rest) = refl

pub rows_lines : {A : Type 0} (r : Reader A) (m l : ℕ) (t : List ℕ) → flat (times m (row r (suc l)) t) ≡ read_lines_of r (suc l) (suc l) (m * suc l) t
unfolding flat flatten and_then
rows_lines r zero l t = rw (zero-mul, times_none (row r (suc l)) t) (sym (read_none r (suc l) (suc l) t))
rows_lines r (suc m) l t = rw (count, row-then r (suc l) (m * suc l) l t) (go (row r (suc l) t) refl (rows_lines r m l))
  where
    count : suc m * suc l ≡ suc (l + m * suc l)
    count = omega (arith, suc-mul m (suc l))

    go : (v : Reading (List _)) → row r (suc l) t ≡ v → ((u : List ℕ) → flat (times m (row r (suc l)) u) ≡ read_lines_of r (suc l) (suc l) (m * suc l) u)
        → flat (times (suc m) (row r (suc l)) t) ≡ and_then (row r (suc l) t) (read_lines_of r (suc l) (suc l) (m * suc l))
    go (stuck u) e ih = rw (times-stuck m (row r (suc l)) t u e, e)
    go (got xs u) e ih = rw (times-got m (row r (suc l)) t u xs e, flat_after, ih u, e)

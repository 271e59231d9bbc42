-- The sheet reader by its sections: two lists, the costs and the end.
use Rattle.std.specs.Prelude.{◌≡◌, ◌∷◌, ◌++◌, ◌*◌, ◌-◌, ◌≤◌}
use Rattle.prelude.specs.Words.{refl, sym, ap, ◌∙◌, List, [], flatten, ℕ, zero, suc, arith, ℤ, length}
use Rattle.prelude.specs.Words.{length-take-le, take}
use Rattle.transport.specs.Limits.{max_sources, max_sinks}
use Rattle.transport.specs.Text.{bytes, digits, head_line}
use Rattle.transport.specs.Sheet.{Sheet}
use Rattle.transport.specs.SheetText.{Reading, stuck, got, Reader, ◌>>=◌, ◌>>◌, pure, times, word, end, number, whole, side, line, row, sheet_reader}
use Rattle.decimals.specs.Front.{front, front-take}
use Rattle.sections.specs.Lines.{ended, ending, ending-last, head-line}
use Rattle.tokens.specs.Reading.{end_reading, end-stuck, line-end, bind-got, bind-stuck, bind-inside, bind-same}
use Rattle.tokens.specs.Reading.{bind_assoc, then-got, then-stuck, then_same, then_assoc}
use Rattle.line_reader.specs.LinesRead.{read_lines_of, column_lines, rows_lines, flat}

-- ---- a list after its head line

unfoldable pub list_reader : List ℕ → ℕ → Reader (List ℕ)
list_reader name most = word name >> (line (side most) >>= λ m. times m (line number))

-- A line of a side is the side, and then the byte that ends the last number of a line.
pub side_line : (most : ℕ) (u : List ℕ) {r s : Reading ℕ} → side most u ≡ r → end_reading (ending 1) r ≡ s
    → line (side most) u ≡ s
side_line most u e h = line-end (side most) u ∙ ap (end_reading 10) e ∙ (rw ending-last at h)

module _ (name : List ℕ) (most : ℕ) (t : List ℕ) where
  pub list_unnamed : (u : List ℕ) → word name t ≡ stuck u → list_reader name most t ≡ stuck u
  unfolding list_reader
  list_unnamed u e = then-stuck (word name) t u _ e

  module _ (u : List ℕ) (w : word name t ≡ got tt u) where
    list_named : list_reader name most t ≡ (line (side most) >>= λ m. times m (line number)) u
    unfolding list_reader
    list_named = then-got (word name) t u _ tt w

    pub list_uncounted : (v : List ℕ) → line (side most) u ≡ stuck v → list_reader name most t ≡ stuck v
    list_uncounted v e = list_named ∙ bind-stuck (line (side most)) u v _ e

    pub list_counted : (m : ℕ) (v : List ℕ) → line (side most) u ≡ got m v
        → list_reader name most t ≡ read_lines_of number 1 1 m v
    list_counted m v e = list_named ∙ bind-got (line (side most)) u v _ m e ∙ column_lines number m v

    -- The same by the side that comes first: there is none, or it does not end as a line does.
    pub list_unsided : (v : List ℕ) → side most u ≡ stuck v → list_reader name most t ≡ stuck v
    list_unsided v e = list_uncounted v (side_line most u e (end-stuck (ending 1) v))

    module _ (k : ℕ) (v rest : List ℕ) (e : side most u ≡ got k v) where
      pub list_unended : end_reading (ending 1) (got k v) ≡ stuck rest → list_reader name most t ≡ stuck rest
      list_unended h = list_uncounted rest (side_line most u e h)

      -- The lines go into the front of a list that has room for them.
      pub list_sided : (m : ℕ) (list : List ℕ) → end_reading (ending 1) (got k v) ≡ got m rest → m ≤ length list
          → list_reader name most t ≡ read_lines_of number 1 1 (length (take m list)) rest
      list_sided m list h room =
          let size = length-take-le m list room in
          list_counted m rest (side_line most u e h) ∙ (rw size)

-- ---- the costs after their head line

unfoldable pub cost_reader : ℕ → ℕ → Reader (List ℤ)
cost_reader m n = do
  word (head_line "cost" m)
  rows ← times m (row whole n)
  pure (flatten rows)

flat-pure : (r : Reader (List (List ℤ))) (t : List ℕ) → (r >>= λ rows. pure (flatten rows)) t ≡ flat (r t)
unfolding flat pure
flat-pure r t = go (r t) refl
  where
    go : (v : Reading (List (List ℤ))) → r t ≡ v → (r >>= λ rows. pure (flatten rows)) t ≡ flat v
    go (stuck u) e = bind-stuck r t u _ e
    go (got rows u) e = bind-got r t u _ rows e

-- A head line that was written first, with the count k, and was then read as a word.
pub head_read : (k size : ℕ) (written out t : List ℕ) {r : Reading (Unit {0})} → size ≡ length (bytes "cost " ++ ended digits k 10)
    → written ≡ front (bytes "cost " ++ ended digits k 10) out → word (take size written) t ≡ r → word (head_line "cost" k) t ≡ r
unfolding bytes
head_read k size written out t s e w =
    let same : take size written ≡ head_line "cost" k = (rw e (front-take (bytes "cost " ++ ended digits k 10) out size s)) ∙ sym (head-line "cost" k) in
    rw same at w

module _ (m n : ℕ) (t u : List ℕ) where
  pub cost_unnamed : word (head_line "cost" m) t ≡ stuck u → cost_reader m n t ≡ stuck u
  unfolding cost_reader
  cost_unnamed e = then-stuck (word (head_line "cost" m)) t u _ e

  pub cost_named : 1 ≤ n → word (head_line "cost" m) t ≡ got tt u → cost_reader m n t ≡ read_lines_of whole n n (m * n) u
  unfolding cost_reader
  cost_named p e =
      let s : suc (n - 1) ≡ n = omega arith in
      then-got (word (head_line "cost" m)) t u _ tt e ∙ flat-pure (times m (row whole n)) u ∙ (rw s at (rows_lines whole m (n - 1) u))

-- ---- the sections after others

-- The costs, and the end of the text: what comes after n demands.
unfoldable pub after_demand : ℕ → ℕ → Reader (List ℤ)
after_demand m n = do
  cost ← cost_reader m n
  end
  pure cost

-- The demands and the costs: what comes after m supplies.
unfoldable pub after_supply : ℕ → Reader (List ℕ × List ℤ)
after_supply m = do
  demand ← list_reader (bytes "demand ") max_sinks
  cost ← after_demand m (length demand)
  pure (demand, cost)

module _ (m n : ℕ) (t u : List ℕ) where
  pub costs-stuck : cost_reader m n t ≡ stuck u → after_demand m n t ≡ stuck u
  unfolding after_demand
  costs-stuck e = bind-stuck (cost_reader m n) t u _ e

  module _ (cost : List ℤ) (c : cost_reader m n t ≡ got cost u) where
    pub costs-more : (b : ℕ) (more : List ℕ) → u ≡ b ∷ more → after_demand m n t ≡ stuck u
    unfolding after_demand end
    costs-more b more e = bind-got (cost_reader m n) t u _ cost c ∙ then-stuck end u u _ (rw e)

    pub costs-end : u ≡ [] → after_demand m n t ≡ got cost []
    unfolding after_demand end pure
    costs-end e = bind-got (cost_reader m n) t u _ cost c ∙ then-got end u [] _ tt (rw e)

pub demands-stuck : (m : ℕ) (t u : List ℕ) → list_reader (bytes "demand ") max_sinks t ≡ stuck u → after_supply m t ≡ stuck u
unfolding after_supply
demands-stuck m t u e = bind-stuck (list_reader (bytes "demand ") max_sinks) t u _ e

-- The demands were read: n of them, from a list that has room.
module _ (m : ℕ) (u v : List ℕ) (n : ℕ) (ys : List ℕ) (room : n ≤ length ys)
    (demanded : list_reader (bytes "demand ") max_sinks u ≡ got (take n ys) v) where
  pub after-demanded : after_supply m u ≡ (after_demand m n >>= λ cost. pure (take n ys, cost)) v
  unfolding after_supply
  after-demanded =
      let size = length-take-le n ys room in
      bind-got (list_reader (bytes "demand ") max_sinks) u v _ (take n ys) demanded ∙ (rw size)

-- ---- the sheet

-- So many values as times says.
times-length : {A : Type 0} (k : ℕ) (r : Reader A) (t : List ℕ) (xs : List A) (rest : List ℕ) → times k r t ≡ got xs rest → length xs ≡ k
unfolding times pure
times-length zero r t xs rest e = let z : [] ≡ xs = cc in ap length (sym z)
times-length (suc k) r t xs rest e =
    let a = bind-inside r t (λ x. times k r >>= λ xs. pure (x ∷ xs)) xs rest e in
    let b = bind-inside (times k r) a.1 (λ ys. pure (a.0 ∷ ys)) xs rest a.3 in
    let z : a.0 ∷ b.0 ≡ xs = cc b.3 in
    ap length (sym z) ∙ ap suc (times-length k r a.1 b.0 b.1 b.2)

-- What comes after a list learns its count from its length.
module _ {B : Type 0} (name : List ℕ) (most : ℕ) (K : ℕ → List ℕ → Reader B) (L : List ℕ → Reader B) (same : (xs u : List ℕ) → K (length xs) xs u ≡ L xs u)
  where
    list_then : (t : List ℕ) → (word name >> (line (side most) >>= λ m. times m (line number) >>= λ xs. K m xs)) t ≡ (list_reader name most >>= L) t
    unfolding list_reader
    list_then t =
        then_same (word name) t _ _ (λ x u w. bind-same (line (side most)) u _ _ (λ m v s. bind-same (times m (line number)) v _ _ (numbers m v))
        ∙ sym (bind_assoc (line (side most)) L u (λ m. times m (line number))))
        ∙ sym (then_assoc (word name) L t (line (side most) >>= λ m. times m (line number)))
      where
        numbers : (m : ℕ) (v xs z : List ℕ) → times m (line number) v ≡ got xs z → K m xs z ≡ L xs z
        numbers m v xs z h = ap (λ k. K k xs z) (sym (times-length m (line number) v xs z h)) ∙ same xs z

-- What comes after the rows has them as one list.
rows_then : {B : Type 0} (m n : ℕ) (L : List ℤ → Reader B) (t : List ℕ) → (word (head_line "cost" m) >> (times m (row whole n) >>= λ rows. L (flatten rows))) t
    ≡ (cost_reader m n >>= L) t
unfolding cost_reader pure ◌>>=◌
rows_then m n L t =
    then_same (word (head_line "cost" m)) t _ _ (λ x u w. sym (bind_assoc (times m (row whole n)) L u (λ rows. pure (flatten rows))))
    ∙ sym (then_assoc (word (head_line "cost" m)) L t (times m (row whole n) >>= λ rows. pure (flatten rows)))

-- The sheet of the supplies and what comes after them.
abbrev sheet_with : List ℕ → List ℕ × List ℤ → Reader Sheet
sheet_with supply rest = pure (record { supply = supply; demand = rest.0; cost = rest.1 })

module _ (m : ℕ) (supply : List ℕ) where
  abbrev cost_rows : ℕ → List ℕ → Reader Sheet
  cost_rows n demand = word (head_line "cost" m) >> (times m (row whole n) >>= λ rows. end >> sheet_with supply (demand, flatten rows))

  costs-then : (demand t : List ℕ) → cost_rows (length demand) demand t
      ≡ ((after_demand m (length demand) >>= λ cost. pure (demand, cost)) >>= sheet_with supply) t
  unfolding after_demand pure ◌>>=◌
  costs-then demand t =
      rows_then m (length demand) (λ cost. end >> sheet_with supply (demand, cost)) t
      ∙ bind-same (cost_reader m (length demand)) t _ _ (λ cost u e. sym (then_assoc end (λ cost. sheet_with supply (demand, cost)) u (pure cost)))
      ∙ sym (bind_assoc (cost_reader m (length demand)) (λ cost. sheet_with supply (demand, cost)) t (λ cost. end >> pure cost))
      ∙ sym (bind_assoc (after_demand m (length demand)) (sheet_with supply) t (λ cost. pure (demand, cost)))

  demands-then : (t : List ℕ) → (word (bytes "demand ") >> (line (side max_sinks) >>= λ n. times n (line number) >>= λ demand. cost_rows n demand)) t
      ≡ (after_supply m >>= sheet_with supply) t
  unfolding after_supply
  demands-then t =
      list_then (bytes "demand ") max_sinks cost_rows _ costs-then t
      ∙ sym
      (bind_assoc (list_reader (bytes "demand ") max_sinks) (sheet_with supply) t
      (λ demand. after_demand m (length demand) >>= λ cost. pure (demand, cost)))

-- The sheet reader, one section at a time: the supplies, and then what comes after them, which needs their count alone.
pub sheet-then : (t : List ℕ) → sheet_reader t ≡ (list_reader (bytes "supply ") max_sources >>= λ supply. after_supply (length supply) >>= sheet_with supply) t
unfolding sheet_reader
sheet-then t = list_then (bytes "supply ") max_sources _ _ (λ supply u. demands-then (length supply) supply u) t

pub sheet-stuck : (t u : List ℕ) → list_reader (bytes "supply ") max_sources t ≡ stuck u → sheet_reader t ≡ stuck u
sheet-stuck t u e = sheet-then t ∙ bind-stuck (list_reader (bytes "supply ") max_sources) t u _ e

-- The supplies were read: m of them, from a list that has room.
module _ (t u : List ℕ) (m : ℕ) (xs : List ℕ) (some : m ≤ length xs)
    (supplied : list_reader (bytes "supply ") max_sources t ≡ got (take m xs) u) where
  pub sheet-supplied : sheet_reader t ≡ (after_supply m >>= sheet_with (take m xs)) u
  sheet-supplied =
      let size = length-take-le m xs some in
      sheet-then t ∙ bind-got (list_reader (bytes "supply ") max_sources) t u _ (take m xs) supplied ∙ (rw size)

  pub sheet-undemanded : (rest : List ℕ) → list_reader (bytes "demand ") max_sinks u ≡ stuck rest
      → sheet_reader t ≡ stuck rest
  sheet-undemanded rest e = sheet-supplied ∙ bind-stuck (after_supply m) u rest _ (demands-stuck m u rest e)

  -- The demands were read too.
  module _ (v : List ℕ) (n : ℕ) (ys : List ℕ) (room : n ≤ length ys)
      (demanded : list_reader (bytes "demand ") max_sinks u ≡ got (take n ys) v) where
    pub sheet-unended : (rest : List ℕ) → after_demand m n v ≡ stuck rest → sheet_reader t ≡ stuck rest
    sheet-unended rest e =
        sheet-supplied
        ∙ bind-stuck (after_supply m) u rest _ (after-demanded m u v n ys room demanded ∙ bind-stuck (after_demand m n) v rest _ e)

    pub sheet-ended : (cost : List ℤ) (rest : List ℕ) → after_demand m n v ≡ got cost rest
        → sheet_reader t ≡ got (record { supply = take m xs; demand = take n ys; cost = cost }) rest
    unfolding pure
    sheet-ended cost rest e =
        sheet-supplied
        ∙ bind-got (after_supply m) u rest _ (take n ys, cost)
        (after-demanded m u v n ys room demanded ∙ bind-got (after_demand m n) v rest _ cost e)

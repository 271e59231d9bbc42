-- The parties left of a sheet, numbered among themselves: their amounts and their own numbers, at the front of lists that have room for any side.
use Rattle.std.specs.Prelude.{◌≡◌, ◌∷◌, ◌++◌, ◌+◌, ◌≤◌, ◌<◌}
use Rattle.prelude.specs.Words.{refl, sym, ap, ◌∙◌, [], List, map, ℕ, arith, add-one, ℤ}
use Rattle.prelude.specs.Words.{length, take, get_or, set, length-append}
use Rattle.prelude.specs.Words.{length-set, length-map, length-take, get_or-append, ext_get_or, get_or_at, length-take-le, take-suc-set}
use Rattle.std.proofs.lemmas.List.{map-append, take-set-le}
use Rattle.transport.specs.Lists.{at}
use Rattle.transport.specs.Limits.{max_side}
use Rattle.transport.specs.Sheet.{Sheet, sheet_of}
use Rattle.transport.specs.Extended.{surplus, wanted, extended}
use Rattle.transport.specs.Parties.{left, rows_left_of, columns_left, struck, problem_of}
use Rattle.transport.specs.Laws.ListLaws.{get_d_map}
use Rattle.transport.specs.Laws.ProblemLaws.{problem}
use Rattle.transport.proofs.ExtendedLaws.{Extra, without, with, extra}
use Rattle.transport.specs.Laws.PartiesLaws.{amounts_left, length-amounts, left_at, length-left, left-append, left_before, before-none, before_yes, before_no}
use Rattle.transport.specs.Laws.PartiesLaws.{before-most, left-before}
use Rattle.transport.proofs.Sound.{wanted_room}
use Rattle.transport.specs.Statements.{Accepted}
use Rattle.parties.specs.declared.Parties.{Parties}

-- ---- the front of a list

-- The list has room for any side, and its first numbers, as many as `count` says, are xs.
pub record Front (xs : List ℕ) (count : ℕ) (list : List ℕ) : Type 0 where
  pub counted : count ≡ length xs
  pub long : length list ≡ max_side
  pub front : take count list ≡ xs

-- One more is stored after them ..
front-more : {xs : List ℕ} {count : ℕ} {list : List ℕ} → Front xs count list → count < max_side → (x : ℕ)
    → Front (xs ++ (x ∷ [])) (count + 1) (set list count x)
front-more {xs} {count} {list} f room x = record {
  counted = omega (arith, f.counted, length-append xs (x ∷ []));
  long = length-set list count x ∙ f.long;
  front = rw (add-one, take-suc-set list count x (omega (arith, f.long)), f.front);
}

-- .. which leaves them as they are.
front-stays : {xs : List ℕ} {count : ℕ} {list : List ℕ} → Front xs count list → (x : ℕ) → Front xs count (set list count x)
front-stays {xs} {count} {list} f x = record {
  counted = f.counted;
  long = length-set list count x ∙ f.long;
  front = take-set-le count list count x (omega arith) ∙ f.front;
}

pub front-room : {xs : List ℕ} {count : ℕ} {list : List ℕ} → Front xs count list → count ≤ length list
front-room {xs} {count} {list} f = omega (arith, ap length f.front, length-take count list, f.counted)

-- ---- one side

-- The amounts of the parties whose own numbers are ks, and these numbers, each at the front of a list.
pub record Listed (amounts ks : List ℕ) (count : ℕ) (list own : List ℕ) : Type 0 where
  pub amount_front : Front (map (at amounts) ks) count list
  pub own_front : Front ks count own

-- Those of all parties left.
abbrev pub Numbered : List ℕ → ℕ → List ℕ → List ℕ → Type 0
Numbered amounts = Listed amounts (left amounts)

-- Those before k: one party after another is listed, where it is left.
abbrev pub ListedBefore : List ℕ → ℕ → ℕ → List ℕ → List ℕ → Type 0
ListedBefore amounts k = Listed amounts (left_before amounts k)

module _ (amounts : List ℕ) where
  pub listed-none : (list own : List ℕ) → length list ≡ max_side → length own ≡ max_side → ListedBefore amounts 0 0 list own
  listed-none list own e f = rw (before-none amounts) (record {
    amount_front = record { counted = refl; long = e; front = refl };
    own_front = record { counted = refl; long = f; front = refl };
  })

  module _ (k : ℕ) {count : ℕ} {list own : List ℕ} (l : ListedBefore amounts k count list own) where
    -- There is room for one more.
    pub listed-room : k < max_side → count < max_side
    listed-room few = omega (arith, l.own_front.counted, before-most amounts k)

    pub listed_yes : k < max_side → 1 ≤ at amounts k → ListedBefore amounts (k + 1) (count + 1) (set list count (at amounts k)) (set own count k)
    listed_yes few some = rw (add-one k, before_yes amounts k some) (record {
      amount_front = rw map-append (front-more l.amount_front (listed-room few) (at amounts k));
      own_front = front-more l.own_front (listed-room few) k;
    })

    pub listed_no : at amounts k ≡ 0 → ListedBefore amounts (k + 1) count list own
    listed_no nothing = rw (add-one k, before_no amounts k nothing) l

    pub listed-all : k ≡ length amounts → Numbered amounts count list own
    listed-all e = rw (left-before amounts, ← e) l

-- With one party more, at the end, the amounts of the others stay as they are ..
amounts-before : (xs : List ℕ) (x : ℕ) → map (at (xs ++ (x ∷ []))) (left xs) ≡ amounts_left xs
unfolding at
amounts-before xs x = ext_get_or 0 _ _ (length-map (left xs) (at (xs ++ (x ∷ []))) ∙ sym (length-amounts xs)) (λ k l.
    let h : k < length (left xs) = omega (arith, length-map (left xs) (at (xs ++ (x ∷ [])))) in
    get_d_map (at (xs ++ (x ∷ []))) (left xs) k 0 0 h
    ∙ get_or-append xs (x ∷ []) 0 (get_or (left xs) k 0) (left_at xs k h).0
    ∙ sym (get_d_map (at xs) (left xs) k 0 0 h))

-- .. and its own comes after theirs.
amounts-more : (xs : List ℕ) (x : ℕ) → map (at (xs ++ (x ∷ []))) (left xs ++ (length xs ∷ [])) ≡ amounts_left xs ++ (x ∷ [])
unfolding at
amounts-more xs x =
    map-append (at (xs ++ (x ∷ []))) (left xs) (length xs ∷ [])
    ∙ rw (amounts-before xs x, get_or_at xs x [] 0 (length xs) refl)

-- ---- both sides

-- The parties left of the sheet, an extra café among them: how many there are, their amounts, which are those of the problem behind the sheet, and their own
-- numbers. The cafés of the sheet that are left are the first columns.
pub record PartiesOf (S : Sheet) (p : Parties) : Type 0 where
  pub row_count_of : p.rows ≡ length (rows_left_of (extended S))
  pub column_count_of : p.columns ≡ length (columns_left (extended S))
  pub supplies_room : p.rows ≤ length p.supplies
  pub demands_room : p.columns ≤ length p.demands
  pub supplies : take p.rows p.supplies ≡ (problem_of S).supply
  pub demands : take p.columns p.demands ≡ (problem_of S).demand
  pub row_numbers : take p.rows p.row_numbers ≡ rows_left_of (extended S)
  pub column_numbers : take p.columns p.column_numbers ≡ columns_left (extended S)
  pub cafe_numbers : take p.cafes p.column_numbers ≡ left S.demand

-- Without their amounts: how many there are, and their own numbers.
pub record NumbersOf (S : Sheet) (p : Parties) : Type 0 where
  pub row_count_of : p.rows ≡ length (rows_left_of (extended S))
  pub column_count_of : p.columns ≡ length (columns_left (extended S))
  pub row_numbers : take p.rows p.row_numbers ≡ rows_left_of (extended S)
  pub column_numbers : take p.columns p.column_numbers ≡ columns_left (extended S)
  pub cafe_numbers : take p.cafes p.column_numbers ≡ left S.demand

module _ {S : Sheet} {p : Parties} (h : PartiesOf S p) where
  pub parties-numbers : NumbersOf S p
  parties-numbers = record {
    row_count_of = h.row_count_of;
    column_count_of = h.column_count_of;
    row_numbers = h.row_numbers;
    column_numbers = h.column_numbers;
    cafe_numbers = h.cafe_numbers;
  }

  -- The amounts are those of the problem behind the sheet ..
  pub parties-problem : problem (take p.rows p.supplies) (take p.columns p.demands) (problem_of S).cost ≡ problem_of S
  parties-problem = rw (h.supplies, h.demands)

  -- .. and each list is as long as there are parties.
  pub supplies-lent : length (take p.rows p.supplies) ≡ p.rows
  supplies-lent = length-take-le p.rows p.supplies h.supplies_room

  pub demands-lent : length (take p.columns p.demands) ≡ p.columns
  demands-lent = length-take-le p.columns p.demands h.demands_room

-- Costs play no part.
pub parties-amounts : {supply demand : List ℕ} {cost other : List ℤ} {p : Parties}
    → PartiesOf (sheet_of supply demand cost) p → PartiesOf (sheet_of supply demand other) p
unfolding problem_of struck extended wanted surplus rows_left_of columns_left
parties-amounts h = record {
  row_count_of = h.row_count_of;
  column_count_of = h.column_count_of;
  supplies_room = h.supplies_room;
  demands_room = h.demands_room;
  supplies = h.supplies;
  demands = h.demands;
  row_numbers = h.row_numbers;
  column_numbers = h.column_numbers;
  cafe_numbers = h.cafe_numbers;
}

pub numbers-amounts : {supply demand : List ℕ} {cost other : List ℤ} {p : Parties}
    → NumbersOf (sheet_of supply demand cost) p → NumbersOf (sheet_of supply demand other) p
unfolding extended wanted surplus rows_left_of columns_left
numbers-amounts h = record {
  row_count_of = h.row_count_of;
  column_count_of = h.column_count_of;
  row_numbers = h.row_numbers;
  column_numbers = h.column_numbers;
  cafe_numbers = h.cafe_numbers;
}

-- Both sides are numbered: the rows, and the columns, of which the first are the cafés left.
parties_of : (S : Sheet) (p : Parties) → Numbered S.supply p.rows p.supplies p.row_numbers
    → Numbered (wanted S) p.columns p.demands p.column_numbers → Front (left S.demand) p.cafes p.column_numbers → PartiesOf S p
unfolding problem_of struck extended rows_left_of columns_left
parties_of S p rows columns cafes = record {
  row_count_of = rows.own_front.counted;
  column_count_of = columns.own_front.counted;
  supplies_room = front-room rows.amount_front;
  demands_room = front-room columns.amount_front;
  supplies = rows.amount_front.front;
  demands = columns.amount_front.front;
  row_numbers = rows.own_front.front;
  column_numbers = columns.own_front.front;
  cafe_numbers = cafes.front;
}

module _ (S : Sheet) (p : Parties) where
  -- These are all columns where nothing stays at home ..
  pub parties_even : surplus S ≡ 0 → p.cafes ≡ p.columns → Numbered S.supply p.rows p.supplies p.row_numbers
      → Numbered S.demand p.columns p.demands p.column_numbers → PartiesOf S p
  parties_even z all rows cafes = elim (extra S) [
    | with y e ↦ absurd (omega arith)
    | without y e ↦ parties_of S p rows (rw e cafes) (rw all cafes.own_front)
  ]

  -- .. and else the extra café, which takes what stays at home, comes after them. Its own number is the one after all cafés.
  pub parties-extra : {demandList columnList : List ℕ} (home : ℕ) → home ≡ surplus S → 1 ≤ home → p.cafes < max_side
      → Numbered S.supply p.rows p.supplies p.row_numbers → Numbered S.demand p.cafes demandList columnList
      → p.columns ≡ p.cafes + 1 → p.demands ≡ set demandList p.cafes home → p.column_numbers ≡ set columnList p.cafes (length S.demand)
      → PartiesOf S p
  parties-extra {demandList} {columnList} home is some room rows cafes columns demands own = go (extra S)
    where
      go : Extra S → PartiesOf S p
      go (without y e) = absurd (omega arith)
      go (with y e) =
          let both : Listed (S.demand ++ (home ∷ [])) (left S.demand ++ (length S.demand ∷ [])) (p.cafes + 1) (set demandList p.cafes home)
          (set columnList p.cafes (length S.demand)) = record {
            amount_front = rw (amounts-more S.demand home) (front-more cafes.amount_front room home);
            own_front = front-more cafes.own_front room (length S.demand);
          } in
          parties_of S p rows (rw (columns, demands, own, e, ← is, left-append S.demand home some) both)
          (rw own (front-stays cafes.own_front (length S.demand)))

-- For it there is room.
pub extra-room : {S : Sheet} {n : ℕ} {demandList columnList : List ℕ} → Accepted S → 1 ≤ surplus S → Numbered S.demand n demandList columnList → n < max_side
extra-room {S} {n} ok some cafes = elim (extra S) [
  | without z e ↦ absurd (omega arith)
  | with z e ↦
      omega (arith, cafes.own_front.counted, length-left S.demand, length-append S.demand (surplus S ∷ []), ap length e, wanted_room ok)
]

-- The prices that a call gives: those of the parties left at their own numbers, then those of struck cafés, then those of struck roasteries.
use Rattle.std.specs.Prelude.{◌≡◌, ◌∷◌, ◌++◌, ◌+◌, ◌-◌, ◌≤◌, ◌<◌, ◌-ℤ◌}
use Rattle.prelude.specs.Words.{refl, sym, ap, ◌∙◌, by_cases, Bool, true, false, cond, List, [], map, ℕ, arith, dec_lt, ltb}
use Rattle.prelude.specs.Words.{ℤ, pos, nat_abs, length, take, drop, get_or, replicate, length-replicate, length-append, take_at, get_or_at}
use Rattle.prelude.specs.Words.{lt-ltb, le-ltb, by_test}
use Rattle.transport.specs.Limits.{max_side}
use Rattle.transport.specs.Lists.{at, at_z, table, least_for}
use Rattle.transport.specs.Problem.{Problem, sources, sinks, lane_cost}
use Rattle.transport.specs.Sheet.{Sheet, roasteries, cafes}
use Rattle.transport.specs.Extended.{surplus, wanted, cost_at, extended}
use Rattle.transport.specs.Parties.{is_left, left, among, rows_left_of, columns_left, struck, problem_of}
use Rattle.transport.specs.OwnNumbers.{row_price_of, column_price_of, cafe_price_of, roastery_price_of, roastery_prices, cafe_prices}
use Rattle.transport.specs.Potential.{potential}
use Rattle.transport.specs.Statements.{Accepted}
use Rattle.transport.specs.Laws.ListLaws.{length-table, table_cong, table-get_or, map-table, filled_is}
use Rattle.transport.specs.Laws.ProblemLaws.{lane}
use Rattle.transport.specs.Laws.RangeLaws.{abs_between, abs_diff}
use Rattle.transport.specs.Laws.PartiesLaws.{left_yes, is-left, not_left, left_at, length-left, left-grows, left-append, among-left, struck-sources}
use Rattle.transport.specs.Laws.PartiesLaws.{struck-sinks}
use Rattle.transport.proofs.ExtendedLaws.{Extra, without, with, extra, width_low, wanted-at, beyond, lane_cost-at}
use Rattle.transport.specs.Laws.Sound.{sources-room, sinks-room}
use Rattle.transport.proofs.Sound.{sound, wanted_room}
use Rattle.transport.specs.declared.Cell.{Cell}
use Rattle.tree.specs.Layout.{max_potential, get_or-all}
use Rattle.price_lists.specs.PriceLists.{max_price, Costs, RowPrices, cost_in, cost_in-small, row_slack, rows_least, column_slack, columns_least, least-small}
use Rattle.price_lists.specs.PriceLists.{Placing, Placed, StruckPriced}

-- The own numbers of the nodes of the problem behind an accepted sheet, and the prices of a tableau of it.
pub record NodesPriced (S : Sheet) (T : List Cell) (ownRows ownCols : List ℕ) (price : List ℤ) : Type 0 where
  pub accepted : Accepted S
  pub rows : ownRows ≡ rows_left_of (extended S)
  pub cols : ownCols ≡ columns_left (extended S)
  pub prices : (k : ℕ) → k < length ownRows + length ownCols → get_or price k (pos 0) ≡ potential (problem_of S) T k
  pub small : (k : ℕ) → k < length ownRows + length ownCols → nat_abs (get_or price k (pos 0)) ≤ max_potential

module _ {S : Sheet} {T : List Cell} {rows cols : List ℕ} {price : List ℤ} (w : NodesPriced S T rows cols price) where
  abbrev E : Problem
  E = extended S

  -- ---- sizes

  rows_are : rows ≡ left S.supply
  unfolding extended rows_left_of
  rows_are = w.rows

  cols-are : cols ≡ left (wanted S)
  unfolding extended columns_left
  cols-are = w.cols

  m-room : roasteries S ≤ max_side
  m-room = omega (arith, w.accepted.limits.roasteries_high, sources-room)

  pub n_room : cafes S ≤ max_side
  n_room = omega (arith, w.accepted.limits.cafes_high, sinks-room)

  rows_few : length rows ≤ max_side
  unfolding roasteries
  rows_few = rw rows_are (omega (arith, length-left S.supply, m-room))

  cols-few : length cols ≤ max_side
  cols-few = rw cols-are (omega (arith, length-left (wanted S), wanted_room w.accepted))

  rows-some : 1 ≤ length rows
  unfolding problem_of
  rows-some = omega (arith, (sound w.accepted).sources_low, struck-sources E, ap length w.rows)

  pub cols-some : 1 ≤ length cols
  unfolding problem_of
  cols-some = omega (arith, (sound w.accepted).sinks_low, struck-sinks E, ap length w.cols)

  pub costs_of : Costs (roasteries S) (cafes S) S.cost
  costs_of = record { long = w.accepted.limits.cost_length; small = λ l. abs_between (w.accepted.limits.cost_low l) (w.accepted.limits.cost_high l) }

  -- ---- prices of those left, at their own numbers

  row_in : (k : ℕ) → k < length rows → at rows k < roasteries S
  unfolding roasteries
  row_in k l = rw rows_are (left_at S.supply k (rw rows_are at l)).0

  col_in : (k : ℕ) → k < length cols → at cols k < length (wanted S)
  col_in k l = rw cols-are (left_at (wanted S) k (rw cols-are at l)).0

  -- The last column left is the extra one, where there is one.
  pub last_in : at cols (length cols - 1) < max_side
  last_in = omega (arith, col_in (length cols - 1) (omega (arith, cols-some)), wanted_room w.accepted)

  pub width_is : (width : ℕ) → let last = at cols (length cols - 1) in width ≡ cond (ltb last (cafes S)) (cafes S) (last + 1) → width ≡ length (wanted S)
  unfolding cafes at
  width_is width is-width = is-width ∙ go (extra S)
    where
      last_more : (xs : List ℕ) (x : ℕ) → at (xs ++ (x ∷ [])) (length (xs ++ (x ∷ [])) - 1) ≡ x
      last_more xs x =
          let number : length (xs ++ (x ∷ [])) - 1 ≡ length xs = omega (arith, length-append xs (x ∷ [])) in
          rw number (get_or_at xs x [] 0 (length xs) refl)

      go : Extra S → let last = at cols (length cols - 1) in cond (ltb last (cafes S)) (cafes S) (last + 1) ≡ length (wanted S)
      go (without z e) =
          let low : at cols (length cols - 1) < cafes S = omega (arith, col_in (length cols - 1) (omega (arith, cols-some)), ap length e) in
          rw (lt-ltb (at cols (length cols - 1)) (cafes S) low) (sym (ap length e))
      go (with z e) =
          let all : cols ≡ left S.demand ++ (cafes S ∷ []) = cols-are ∙ ap left e ∙ left-append S.demand (surplus S) z in
          let last : at cols (length cols - 1) ≡ cafes S = rw all (last_more (left S.demand) (cafes S)) in
          rw (last, le-ltb (cafes S) (cafes S) (omega arith)) (omega (arith, ap length e, length-append S.demand (surplus S ∷ [])))

  pub placing_rows : (u : List ℤ) → roasteries S ≤ length u → Placing price 0 rows u
  unfolding max_side
  placing_rows u room = record {
    grows = λ h k b l. rw rows_are (left-grows S.supply h k b (rw rows_are at l));
    inside = λ k l. omega (arith, row_in k l);
    room = omega (arith, rows_few);
    small = λ k l. w.small (0 + k) (omega arith);
  }

  pub placing_cols : (out : List ℤ) → length out ≡ max_side → Placing price (length rows) cols out
  unfolding max_side
  placing_cols out long = record {
    grows = λ h k b l. rw cols-are (left-grows (wanted S) h k b (rw cols-are at l));
    inside = λ k l. omega (arith, col_in k l, wanted_room w.accepted);
    room = omega (arith, rows_few, cols-few);
    small = λ k l. w.small (length rows + k) (omega arith);
  }

  module _ {u placed : List ℤ} (p : Placed price 0 rows u placed) where
    pub row-prices : roasteries S ≤ length u → RowPrices (roasteries S) rows placed
    row-prices room = record {
      some = rows-some;
      inside = row_in;
      room = omega (arith, p.long);
      small = λ k l. rw (p.here k l) (w.small (0 + k) (omega arith));
    }

    row_price : (i : ℕ) → is_left S.supply i ≡ true → at_z placed i ≡ row_price_of E T i
    unfolding row_price_of extended problem_of
    row_price i e =
        let a = among-left S.supply i (is-left S.supply i e) in
        let k : ℕ = among S.supply i in
        let inside : k < length rows = rw rows_are a.inside in
        let here : at rows k ≡ i = rw rows_are a.stands in
        let number : 0 + k ≡ k = omega arith in
        ap (at_z placed) (sym here) ∙ p.here k inside ∙ w.prices (0 + k) (omega arith) ∙ ap (potential (problem_of S) T) number

    row-rest : (i : ℕ) → roasteries S ≤ i → at_z placed i ≡ at_z u i
    row-rest i l = p.other i (λ k b e. omega (arith, row_in k b))

  -- The prices of the columns are written in a list of zeros.
  module _ {placed : List ℤ} (p : Placed price (length rows) cols (replicate max_side (pos 0)) placed) where
    -- What the k-th column left has.
    col-here : (j : ℕ) → is_left (wanted S) j ≡ true
        → (k : ℕ) × (k ≡ among (wanted S) j) × (k < length cols) × (at_z placed j ≡ get_or price (length rows + k) (pos 0))
    col-here j e =
        let a = among-left (wanted S) j (is-left (wanted S) j e) in
        let k : ℕ = among (wanted S) j in
        let inside : k < length cols = rw cols-are a.inside in
        let here : at cols k ≡ j = rw cols-are a.stands in
        (k, refl, inside, ap (at_z placed) (sym here) ∙ p.here k inside)

    column_price : (j : ℕ) → is_left (wanted S) j ≡ true → at_z placed j ≡ column_price_of E T j
    unfolding column_price_of extended problem_of
    column_price j e =
        let (k, is-k, inside, here) = col-here j e in
        let number : length rows + k ≡ sources (struck E) + among (wanted S) j = omega (arith, struck-sources E, ap length w.rows) in
        here ∙ w.prices (length rows + k) (omega arith) ∙ ap (potential (problem_of S) T) number

    -- Where nothing was written is a 0.
    placed-zero : (j : ℕ) → is_left (wanted S) j ≡ false → at_z placed j ≡ pos 0
    unfolding at_z
    placed-zero j e =
        p.other j (λ k l s. omega (arith, not_left (wanted S) j e, (left_at (wanted S) k (rw cols-are at l)).1, ap (at (wanted S)) (rw cols-are at s)))
        ∙ get_or-all max_side j (pos 0)

    pub placed-small : (j : ℕ) → nat_abs (at_z placed j) ≤ max_price
    placed-small j = by_test (is_left (wanted S) j)
        (λ e. let (k, is-k, inside, here) = col-here j e in rw here (omega (arith, w.small (length rows + k) (omega arith))))
        (λ e. rw (placed-zero j e) (omega arith))

  -- ---- struck cafés, from the prices of the roasteries left

  lane-cost : (i j : ℕ) → i < roasteries S → j < length (wanted S) → cost_in S.cost (cafes S) i j ≡ lane_cost E (lane i j)
  unfolding cost_at
  lane-cost i j l h = sym (lane_cost-at S i j l h)

  row-left : (k : ℕ) → k < length rows → is_left S.supply (at rows k) ≡ true
  row-left k l = rw rows_are (left_yes S.supply (at (left S.supply) k) (left_at S.supply k (rw rows_are at l)).1)

  cafe-left : (j : ℕ) → is_left (wanted S) j ≡ true → cafe_price_of E T j ≡ column_price_of E T j
  unfolding cafe_price_of extended
  cafe-left j e = rw e

  cafe-struck : (j : ℕ) → is_left (wanted S) j ≡ false
      → cafe_price_of E T j ≡ least_for (map (λ i. lane_cost E (lane i j) -ℤ row_price_of E T i) (rows_left_of E))
  unfolding cafe_price_of extended
  cafe-struck j e = rw e

  cafe-same : (j : ℕ) → j < cafes S → is_left S.demand j ≡ is_left (wanted S) j
  unfolding is_left
  cafe-same j l = rw (wanted-at S j l)

  extra-left : (j : ℕ) → cafes S ≤ j → j < length (wanted S) → is_left (wanted S) j ≡ true
  extra-left j l h = let (some, is-j, takes) = beyond S j l h in left_yes (wanted S) j (omega arith)

  module _ {u u' : List ℤ} (p : Placed price 0 rows u u') where
    rows-least : (j : ℕ) → j < length (wanted S)
        → rows_least S.cost (cafes S) rows u' j ≡ least_for (map (λ i. lane_cost E (lane i j) -ℤ row_price_of E T i) (rows_left_of E))
    unfolding at
    rows-least j h =
        let slack : ℕ → ℤ = λ i. lane_cost E (lane i j) -ℤ row_price_of E T i in
        ap least_for
        (table_cong (length rows) (row_slack S.cost (cafes S) rows u' j) (λ k. slack (at rows k))
        (λ k l. rw (lane-cost (at rows k) j (row_in k l) h, row_price p (at rows k) (row-left k l)))
        ∙ sym (map-table slack (length rows) (at rows))
        ∙ ap (map slack) (table-get_or rows 0 ∙ w.rows))

    -- `placed` has the prices of the columns left, and `columns` those of struck cafés too.
    module _ {placed columns : List ℤ} (q : Placed price (length rows) cols (replicate max_side (pos 0)) placed)
        (r : StruckPriced S.demand (rows_least S.cost (cafes S) rows u') 0 (cafes S) placed columns) where
      -- Every column has its price: a café ..
      cafe-here : (j : ℕ) → j < cafes S → at_z columns j ≡ cafe_price_of E T j
      unfolding cafes
      cafe-here j l = by_test (is_left (wanted S) j)
          (λ e. r.done j (omega arith) l l ∙ rw (cafe-same j l, e) (column_price q j e ∙ sym (cafe-left j e)))
          (λ e. r.done j (omega arith) l l ∙ rw (cafe-same j l, e) (rows-least j (omega (arith, width_low S)) ∙ sym (cafe-struck j e)))

      -- .. and the extra one.
      column-here : (j : ℕ) → j < length (wanted S) → at_z columns j ≡ cafe_price_of E T j
      unfolding cafes
      column-here j h = by_cases (dec_lt j (cafes S))
          (cafe-here j)
          (λ l. let e = extra-left j (omega arith) h in r.past j (omega arith) ∙ column_price q j e ∙ sym (cafe-left j e))

      pub columns-small : roasteries S ≤ length u → (j : ℕ) → nat_abs (at_z columns j) ≤ max_price
      unfolding cafes
      columns-small room j = by_cases (dec_lt j (cafes S))
          (λ l. rw (r.done j (omega arith) l l) (either (is_left S.demand j)))
          (λ l. rw (r.past j (omega arith)) (omega (arith, placed-small q j)))
        where
          least : nat_abs (rows_least S.cost (cafes S) rows u' j) ≤ max_price
          least = least-small (row_slack S.cost (cafes S) rows u' j) max_price (length rows) rows-some (λ k l. omega (
            arith,
            abs_diff (cost_in S.cost (cafes S) (at rows k) j) (at_z u' (at rows k)),
            cost_in-small costs_of (at rows k) j,
            (row-prices p room).small k l,
          ))

          either : (b : Bool) → nat_abs (cond b (at_z placed j) (rows_least S.cost (cafes S) rows u' j)) ≤ max_price
          either true = omega (arith, placed-small q j)
          either false = least

      pub columns-long : length columns ≡ max_side
      columns-long = r.long ∙ q.long ∙ length-replicate max_side (pos 0)

      -- Those of the cafés are given.
      pub cafes-front : take (cafes S) columns ≡ cafe_prices S T
      unfolding cafe_prices at_z
      cafes-front =
          ap (take (cafes S))
          (filled_is (cafe_price_of E T) columns columns (cafes S) (pos 0) (omega (arith, columns-long, n_room)) refl cafe-here (λ k l. refl))
          ∙ take_at (table (cafes S) (cafe_price_of E T)) (drop (cafes S) columns) (cafes S) (length-table (cafe_price_of E T) (cafes S))

      -- ---- struck roasteries, from the prices of all columns

      columns-least : (i : ℕ) → i < roasteries S
          → columns_least S.cost (cafes S) columns (length (wanted S)) i ≡ least_for (table (sinks E) (λ j. lane_cost E (lane i j) -ℤ cafe_price_of E T j))
      unfolding sinks extended
      columns-least i l =
          ap least_for
          (table_cong (length (wanted S)) (column_slack S.cost (cafes S) columns i) (λ j. lane_cost E (lane i j) -ℤ cafe_price_of E T j)
          (λ j h. rw (lane-cost i j l h, column-here j h)))

      roastery_left : (i : ℕ) → is_left S.supply i ≡ true → roastery_price_of E T i ≡ row_price_of E T i
      unfolding roastery_price_of extended
      roastery_left i e = rw e

      roastery_struck : (i : ℕ) → is_left S.supply i ≡ false
          → roastery_price_of E T i ≡ least_for (table (sinks E) (λ j. lane_cost E (lane i j) -ℤ cafe_price_of E T j))
      unfolding roastery_price_of extended
      roastery_struck i e = rw e

      module _ {width : ℕ} (is-width : width ≡ length (wanted S)) {u'' : List ℤ}
          (s : StruckPriced S.supply (columns_least S.cost (cafes S) columns width) 0 (roasteries S) u' u'') where
        roastery_here : (i : ℕ) → i < roasteries S → at_z u'' i ≡ roastery_price_of E T i
        unfolding roasteries
        roastery_here i l = by_test (is_left S.supply i)
            (λ e. s.done i (omega arith) l l ∙ rw e (row_price p i e ∙ sym (roastery_left i e)))
            (λ e. s.done i (omega arith) l l ∙ rw (e, is-width) (columns-least i l ∙ sym (roastery_struck i e)))

        pub roasteries-given : roasteries S ≤ length u → u'' ≡ roastery_prices S T ++ drop (roasteries S) u
        unfolding roastery_prices at_z roasteries
        roasteries-given room =
            filled_is (roastery_price_of E T) u u'' (roasteries S) (pos 0) room (s.long ∙ p.long) roastery_here
            (λ i l. s.past i l ∙ row-rest p i l)

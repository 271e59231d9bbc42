-- Lists of prices, as the code reads and writes them: prices of nodes written at their own numbers, and those at 0 priced by the least slack.
use Rattle.std.specs.Prelude.{◌≡◌, ◌+◌, ◌*◌, ◌≤◌, ◌<◌, ◌-ℤ◌}
use Rattle.prelude.specs.Words.{refl, sym, ◌∙◌, by_cases, Bool, true, false, cond, List, ℕ, zero, suc, arith, add-one, ℕ_discrete, ltb}
use Rattle.prelude.specs.Words.{ℤ, pos, nat_abs, lt_z, length, get_or, set, length-set, get_or-set_same, get_or-set_other}
use Rattle.std.specs.Int.{w64}
use Rattle.std.proofs.Common.{to_z, of_z}
use Rattle.transport.specs.Limits.{max_side, max_cost, cost_above}
use Rattle.transport.specs.Lists.{at, at_z, table, least_for, first_least, least_from}
use Rattle.transport.specs.Problem.{place}
use Rattle.transport.specs.Parties.{is_left}
use Rattle.transport.specs.Laws.ListLaws.{table-one, length-table, first_least-more}
use Rattle.transport.specs.Laws.RangeLaws.{mag_abs, back}
use Rattle.transport.specs.Laws.PartiesLaws.{left_yes, left_no}
use Rattle.tree.specs.Layout.{node_room, max_potential}

-- ---- what the code reads

-- No price that is read is greater: that of a struck café is a cost less that of a roastery left.
abbrev pub max_price : ℕ
max_price = max_cost + max_potential

-- So it is read from its bits as it is.
pub price_back : (z : ℤ) → nat_abs z ≤ max_price → to_z w64 (of_z w64 z) ≡ z
unfolding max_cost cost_above
price_back z l = back w64 z (omega (arith, mag_abs z))

pub price-small : (z : ℤ) → nat_abs z ≤ max_price → nat_abs (to_z w64 (of_z w64 z)) ≤ max_price
price-small z l = rw (price_back z l) l

-- The costs of a sheet of so many roasteries and cafés.
pub record Costs (m cafes : ℕ) (cost : List ℤ) : Type 0 where
  pub long : length cost ≡ m * cafes
  pub small : (l : ℕ) → nat_abs (at_z cost l) ≤ max_cost

-- The prices of those of m roasteries that are left.
pub record RowPrices (m : ℕ) (rows : List ℕ) (u : List ℤ) : Type 0 where
  pub some : 1 ≤ length rows
  pub inside : (k : ℕ) → k < length rows → at rows k < m
  pub room : m ≤ length u
  pub small : (k : ℕ) → k < length rows → nat_abs (at_z u (at rows k)) ≤ max_potential

-- The prices of so many columns.
pub record ColumnPrices (v : List ℤ) (width : ℕ) : Type 0 where
  pub some : 1 ≤ width
  pub room : width ≤ max_side
  pub small : (j : ℕ) → nat_abs (at_z v j) ≤ max_price

-- ---- prices by their rule

-- What the lane of row i and column j costs (Extended.cost_at, of the list of costs).
abbrev pub cost_in : List ℤ → ℕ → ℕ → ℕ → ℤ
cost_in cost cafes i j = cond (ltb j cafes) (at_z cost (place cafes i j)) (pos 0)

pub cost_in-small : {m cafes : ℕ} {cost : List ℤ} → Costs m cafes cost → (i j : ℕ) → nat_abs (cost_in cost cafes i j) ≤ max_cost
cost_in-small {m} {cafes} {cost} w i j = go (ltb j cafes)
  where
    go : (b : Bool) → nat_abs (cond b (at_z cost (place cafes i j)) (pos 0)) ≤ max_cost
    go true = w.small (place cafes i j)
    go false = omega arith

-- Cost − u of column j at the k-th roastery left, and the least over all of these.
abbrev pub row_slack : List ℤ → ℕ → List ℕ → List ℤ → ℕ → ℕ → ℤ
row_slack cost cafes rows u j k = cost_in cost cafes (at rows k) j -ℤ at_z u (at rows k)

abbrev pub rows_least : List ℤ → ℕ → List ℕ → List ℤ → ℕ → ℤ
rows_least cost cafes rows u j = least_for (table (length rows) (row_slack cost cafes rows u j))

-- Cost − v of row i at column j, and the least over all columns.
abbrev pub column_slack : List ℤ → ℕ → List ℤ → ℕ → ℕ → ℤ
column_slack cost cafes v i j = cost_in cost cafes i j -ℤ at_z v j

abbrev pub columns_least : List ℤ → ℕ → List ℤ → ℕ → ℕ → ℤ
columns_least cost cafes v width i = least_for (table width (column_slack cost cafes v i))

-- The least number so far, number by number.
module _ (f : ℕ → ℤ) where
  pub least-one : least_for (table 1 f) ≡ f 0
  unfolding least_for first_least least_from table
  least-one = refl

  least_more : (n : ℕ) → 1 ≤ n → least_for (table (n + 1) f) ≡ cond (lt_z (f n) (least_for (table n f))) (f n) (least_for (table n f))
  unfolding least_for
  least_more n l = rw (table-one f n) (first_least-more lt_z (pos 0) (f n) (table n f) (omega (arith, length-table f n)))

  pub least_step : {n : ℕ} {least next lesser : ℤ} → 1 ≤ n → least ≡ least_for (table n f) → next ≡ f n → lesser ≡ cond (lt_z next least) next least
      → lesser ≡ least_for (table (n + 1) f)
  least_step {n} l so_far e lesser = lesser ∙ rw (so_far, e) (sym (least_more n l))

  pub least-small : (most n : ℕ) → 1 ≤ n → ((k : ℕ) → k < n → nat_abs (f k) ≤ most) → nat_abs (least_for (table n f)) ≤ most
  least-small most zero l small = absurd (omega arith)
  least-small most (suc zero) l small = rw least-one (small 0 (omega arith))
  least-small most (suc (suc n)) l small =
      rw (← add-one (suc n), least_more (suc n) (omega arith))
      (either (lt_z (f (suc n)) (least_for (table (suc n) f))) (small (suc n) (omega arith))
      (least-small most (suc n) (omega arith) (λ k b. small k (omega arith))))
    where
      either : (b : Bool) → nat_abs (f (suc n)) ≤ most → nat_abs (least_for (table (suc n) f)) ≤ most
          → nat_abs (cond b (f (suc n)) (least_for (table (suc n) f))) ≤ most
      either true p q = p
      either false p q = q

-- ---- prices at their own numbers

-- The prices of the nodes from a number on are written at own numbers, which differ.
pub record Placing (price : List ℤ) (from : ℕ) (own : List ℕ) (out : List ℤ) : Type 0 where
  pub grows : (h k : ℕ) → h < k → k < length own → at own h < at own k
  pub inside : (k : ℕ) → k < length own → at own k < length out
  pub room : from + length own ≤ node_room
  pub small : (k : ℕ) → k < length own → nat_abs (get_or price (from + k) (pos 0)) ≤ max_potential

-- The first n are written, and nothing else has changed.
pub record PlacedTo (price : List ℤ) (from : ℕ) (own : List ℕ) (n : ℕ) (old new : List ℤ) : Type 0 where
  pub long : length new ≡ length old
  pub here : (k : ℕ) → k < n → at_z new (at own k) ≡ get_or price (from + k) (pos 0)
  pub other : (x : ℕ) → ((k : ℕ) → k < n → at own k ≡ x → ⊥) → at_z new x ≡ at_z old x

module _ {price : List ℤ} {from : ℕ} {own : List ℕ} {old : List ℤ} where
  pub placed-none : PlacedTo price from own 0 old old
  placed-none = record { long = refl; here = λ k l. absurd (omega arith); other = λ x h. refl }

  pub placed_one : {n : ℕ} {new : List ℤ} → Placing price from own old → PlacedTo price from own n old new → n < length own
      → (z : ℤ) → z ≡ get_or price (from + n) (pos 0) → PlacedTo price from own (n + 1) old (set new (at own n) z)
  unfolding at_z
  placed_one {n} {new} g w l z e = record {
    long = length-set new (at own n) z ∙ w.long;
    here = λ k b. by_cases (ℕ_discrete k n)
        (λ s. rw (s, e) (get_or-set_same new (at own n) _ (pos 0) (omega (arith, w.long, g.inside n l))))
        (λ s. get_or-set_other new (at own n) (at own k) z (pos 0) (λ q. omega (arith, g.grows k n (omega arith) l)) ∙ w.here k (omega arith));
    other = λ x h. get_or-set_other new (at own n) x z (pos 0) (λ q. h n (omega arith) (sym q)) ∙ w.other x (λ k b. h k (omega arith));
  }

abbrev pub Placed : List ℤ → ℕ → List ℕ → List ℤ → List ℤ → Type 0
Placed price from own old new = PlacedTo price from own (length own) old new

-- ---- prices of those at 0

-- Of the numbers from a to n, those with an amount of 0 have the price f, and nothing else has changed.
pub record StruckPriced (amounts : List ℕ) (f : ℕ → ℤ) (a n : ℕ) (old new : List ℤ) : Type 0 where
  pub long : length new ≡ length old
  pub done : (k : ℕ) → a ≤ k → k < n → k < length amounts → at_z new k ≡ cond (is_left amounts k) (at_z old k) (f k)
  pub ahead : (k : ℕ) → n ≤ k → k < length amounts → at_z new k ≡ at_z old k
  pub past : (k : ℕ) → length amounts ≤ k → at_z new k ≡ at_z old k

module _ {amounts : List ℕ} {f : ℕ → ℤ} {a : ℕ} {old : List ℤ} where
  pub priced-none : StruckPriced amounts f a a old old
  priced-none = record { long = refl; done = λ k p q b. absurd (omega arith); ahead = λ k p b. refl; past = λ k p. refl }

  -- The next one has nothing, and its price is written ..
  pub priced-struck : {n : ℕ} {new next : List ℤ} {z : ℤ} → StruckPriced amounts f a n old new → n < length amounts → n < length new
      → at amounts n ≡ 0 → next ≡ set new n z → z ≡ f n → StruckPriced amounts f a (n + 1) old next
  unfolding at_z
  priced-struck {n} {new} {next} {z} w l room nothing is-next e = rw is-next (record {
    long = length-set new n z ∙ w.long;
    done = λ k p q b. by_cases (ℕ_discrete k n)
        (λ s. rw (s, left_no amounts n nothing) (get_or-set_same new n z (pos 0) room ∙ e))
        (λ s. get_or-set_other new n k z (pos 0) s ∙ w.done k p (omega arith) b);
    ahead = λ k p b. get_or-set_other new n k z (pos 0) (λ s. omega arith) ∙ w.ahead k (omega arith) b;
    past = λ k p. get_or-set_other new n k z (pos 0) (λ s. omega arith) ∙ w.past k p;
  })

  -- .. or something, and it keeps its price.
  pub priced-left : {n : ℕ} {new next : List ℤ} → StruckPriced amounts f a n old new → n < length amounts → (at amounts n ≡ 0 → ⊥) → next ≡ new
      → StruckPriced amounts f a (n + 1) old next
  priced-left {n} {new} {next} w l some is-next = rw is-next (record {
    long = w.long;
    done = λ k p q b. by_cases (ℕ_discrete k n)
        (λ s. rw (s, left_yes amounts n (omega arith)) (w.ahead n (omega arith) l))
        (λ s. w.done k p (omega arith) b);
    ahead = λ k p b. w.ahead k (omega arith) b;
    past = w.past;
  })

-- All are gone through.
pub priced-all : {amounts : List ℕ} {f : ℕ → ℤ} {a n : ℕ} {old new : List ℤ} → length amounts ≤ n → StruckPriced amounts f a n old new
    → StruckPriced amounts f a (length amounts) old new
priced-all l w = record { long = w.long; done = λ k p q b. w.done k p (omega arith) b; ahead = λ k p b. absurd (omega arith); past = w.past }

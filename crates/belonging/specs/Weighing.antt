-- How the weights at the nodes are put into their array.
use Rattle.std.specs.Prelude.{◌+◌, ◌-◌, ◌<◌, ◌≤◌, ◌≡◌, ◌++◌}
use Rattle.prelude.specs.Words.{ℕ, arith, zero-add, dec_lt, ℕ_discrete, refl, ◌∙◌, by_cases, List, ℤ, pos, nat_abs, length}
use Rattle.prelude.specs.Words.{get_or, set}
use Rattle.prelude.specs.Words.{length-set, drop, replicate, length-append, length-replicate, get_or-append}
use Rattle.prelude.specs.Words.{get_or-replicate, get_or-set_same, get_or-set_other, eq-eqb, ne_eqb}
use Rattle.std.proofs.lemmas.List.{get_or-append_right}
use Rattle.transport.specs.Lists.{at}
use Rattle.transport.specs.Laws.ListLaws.{sum_to_bound, drop-replicate}
use Rattle.transport.specs.Limits.{max_amount, max_bags, max_side}
use Rattle.tree.specs.Layout.{stride, node_room, get_or-all}
use Rattle.belonging.specs.FlowLaws.{size}
use Rattle.belonging.specs.Carried.{Light}
use Rattle.belonging.specs.Balance.{Weights, mark_of}

-- Supplies or demands within their limits.
pub record Modest (amounts : List ℕ) : Type 0 where
  pub few : length amounts ≤ stride
  pub high : (k : ℕ) → at amounts k ≤ max_bags

-- An array whose numbers are all within the limit of amounts is light.
light_of : (weight : List ℤ) → length weight ≡ node_room → ((j : ℕ) → nat_abs (get_or weight j (pos 0)) ≤ max_bags) → Light weight
unfolding size max_bags max_side max_amount
light_of weight l h = record { long = l; small = omega (arith, sum_to_bound node_room max_bags (λ j. nat_abs (get_or weight j (pos 0))) (λ j p. h j)) }

-- ---- amounts from a place on

-- The first k amounts stand in `new` from place `from` on, and elsewhere it is as `old`.
pub record PutFrom (amounts : List ℕ) (from : ℕ) (old new : List ℤ) (k : ℕ) : Type 0 where
  pub long : length new ≡ node_room
  pub here : (i : ℕ) → i < k → get_or new (from + i) (pos 0) ≡ pos (at amounts i)
  pub before : (i : ℕ) → i < from → get_or new i (pos 0) ≡ get_or old i (pos 0)
  pub behind : (i : ℕ) → from + k ≤ i → get_or new i (pos 0) ≡ get_or old i (pos 0)

pub put-none : (amounts : List ℕ) (from : ℕ) (old : List ℤ) → length old ≡ node_room → PutFrom amounts from old old 0
put-none amounts from old l = record { long = l; here = λ i p. absurd (omega arith); before = λ i p. refl; behind = λ i p. refl }

pub put-more : {amounts : List ℕ} {from : ℕ} {old new : List ℤ} {k : ℕ} → from + k < node_room → PutFrom amounts from old new k
    → PutFrom amounts from old (set new (from + k) (pos (at amounts k))) (k + 1)
put-more {amounts} {from} {old} {new} {k} p h = record {
  long = length-set new _ _ ∙ h.long;
  here = λ i q. by_cases (ℕ_discrete i k)
      (λ e. rw e (get_or-set_same new (from + k) (pos (at amounts k)) (pos 0) (omega (arith, h.long))))
      (λ e. other (from + i) (omega arith) ∙ h.here i (omega arith));
  before = λ i q. other i (omega arith) ∙ h.before i q;
  behind = λ i q. other i (omega arith) ∙ h.behind i (omega arith);
}
  where
    other : (i : ℕ) → (i ≡ from + k → ⊥) → get_or (set new (from + k) (pos (at amounts k))) i (pos 0) ≡ get_or new i (pos 0)
    other i d = get_or-set_other new (from + k) i (pos (at amounts k)) (pos 0) d

put_small : {amounts : List ℕ} {from : ℕ} {old new : List ℤ} {k : ℕ} → Modest amounts → PutFrom amounts from old new k
    → ((j : ℕ) → nat_abs (get_or old j (pos 0)) ≤ max_bags) → (j : ℕ) → nat_abs (get_or new j (pos 0)) ≤ max_bags
put_small {amounts} {from} {old} {new} {k} w h s j = by_cases (dec_lt j from)
    (λ p. rw (h.before j p) (s j))
    (λ p. by_cases (dec_lt j (from + k))
    (λ q. let e : from + (j - from) ≡ j = omega arith in rw (← e, h.here (j - from) (omega arith)) (w.high (j - from)))
    (λ q. rw (h.behind j (omega arith)) (s j)))

-- Supplies, and behind them demands, in an array of zeros.
pub bags-put : {supply demand : List ℕ} {zeros mid new : List ℤ} → Modest supply → Modest demand → ((j : ℕ) → get_or zeros j (pos 0) ≡ pos 0)
    → PutFrom supply 0 zeros mid (length supply) → PutFrom demand (length supply) mid new (length demand)
    → Weights (length supply) (length demand) (at supply) (at demand) new
bags-put {supply} {demand} {zeros} {mid} {new} s d z a b = record {
  light = light_of new b.long (put_small d b (put_small s a (λ j. rw (z j) (omega arith))));
  rows = λ i l. b.before i l ∙ rw zero-add at (a.here i l);
  columns = b.here;
}

-- ---- marks

-- One mark at each of the first k nodes, and none behind them.
pub record Marked (weight : List ℤ) (k : ℕ) : Type 0 where
  pub long : length weight ≡ node_room
  pub ones : (i : ℕ) → i < k → get_or weight i (pos 0) ≡ pos 1
  pub none : (i : ℕ) → k ≤ i → get_or weight i (pos 0) ≡ pos 0

pub marked-none : (weight : List ℤ) → length weight ≡ node_room → ((j : ℕ) → get_or weight j (pos 0) ≡ pos 0)
    → Marked weight 0
marked-none weight l z = record { long = l; ones = λ i p. absurd (omega arith); none = λ i p. z i }

pub marked_more : {weight : List ℤ} {k : ℕ} → k < node_room → Marked weight k → Marked (set weight k (pos 1)) (k + 1)
marked_more {weight} {k} p h = record {
  long = length-set weight _ _ ∙ h.long;
  ones = λ i q. by_cases (ℕ_discrete i k)
      (λ e. rw e (get_or-set_same weight k (pos 1) (pos 0) (omega (arith, h.long))))
      (λ e. get_or-set_other weight k i (pos 1) (pos 0) e ∙ h.ones i (omega arith));
  none = λ i q. get_or-set_other weight k i (pos 1) (pos 0) (omega arith) ∙ h.none i (omega arith);
}

pub marked-front : (k : ℕ) → k ≤ node_room → Marked (replicate k (pos 1) ++ drop k (replicate node_room (pos 0))) k
marked-front k few = let long = length-replicate k (pos 1) in rw (drop-replicate (pos 0) k node_room) (record {
  long = omega (
    arith,
    length-append (replicate k (pos 1)) (replicate (node_room - k) (pos 0)),
    long,
    length-replicate (node_room - k) (pos 0),
  );
  ones = λ i l. get_or-append (replicate k (pos 1)) (replicate (node_room - k) (pos 0)) (pos 0) i (omega arith)
      ∙ get_or-replicate k i (pos 1) (pos 0) l;
  none = λ i l. get_or-append_right (replicate k (pos 1)) (replicate (node_room - k) (pos 0)) k i (pos 0) long l
      ∙ get_or-all (node_room - k) _ (pos 0);
})

-- All m marks go to the last column.
pub marks-put : {weight : List ℤ} (m n : ℕ) → m ≤ stride → 1 ≤ n → n ≤ stride → Marked weight m
    → Weights m n (λ i. 1) (mark_of m n) (set weight (m + n - 1) (pos m))
unfolding max_bags max_side max_amount
marks-put {weight} m n p q r h = record {
  light = light_of (set weight (m + n - 1) (pos m)) (length-set weight _ _ ∙ h.long) small;
  rows = λ i l. other i (omega arith) ∙ h.ones i l;
  columns = λ j l. by_cases (ℕ_discrete j (n - 1))
      (λ e. let at : m + j ≡ m + n - 1 = omega arith in rw (at, eq-eqb j (n - 1) e) last)
      (λ e. rw (ne_eqb j (n - 1) e) (other (m + j) (omega arith) ∙ h.none (m + j) (omega arith)));
}
  where
    last : get_or (set weight (m + n - 1) (pos m)) (m + n - 1) (pos 0) ≡ pos m
    last = get_or-set_same weight (m + n - 1) (pos m) (pos 0) (omega (arith, h.long))

    other : (i : ℕ) → (i ≡ m + n - 1 → ⊥) → get_or (set weight (m + n - 1) (pos m)) i (pos 0) ≡ get_or weight i (pos 0)
    other i d = get_or-set_other weight (m + n - 1) i (pos m) (pos 0) d

    small : (j : ℕ) → nat_abs (get_or (set weight (m + n - 1) (pos m)) j (pos 0)) ≤ max_bags
    small j = by_cases (ℕ_discrete j (m + n - 1))
        (λ e. rw (e, last) (omega arith))
        (λ e. rw (other j e) (by_cases (dec_lt j m) (λ l. rw (h.ones j l) (omega arith)) (λ l. rw (h.none j (omega arith)) (omega arith))))

-- Masks as sets of their bits: what is in a mask that is made of others.
use Rattle.std.specs.Prelude.{◌≡◌, ◌↔◌, ◌≢◌, ◌⊎◌, ◌-◌, ◌<◌, ◌≤◌, ◌||◌, ◌&&◌}
use Rattle.prelude.specs.Words.{sym, ◌∙◌, inl, inr, ⊎_elim, by_cases, true, false≢true, ℕ, arith, ℕ_discrete, dec_lt}
use Rattle.prelude.specs.Words.{eqb-true, eq-eqb, ne_eqb, Bool, not, eqb, and-eq-true_iff, or-true}
use Rattle.std.specs.Int.Bits.{bit_and, bit_or}
use Rattle.tree.specs.Mask.{bit, has, put, has-put, unset, has-unset, has-zero}
use Rattle.tree.specs.MaskLaws.{first_bits_of, first_below, first_above, minus, bit-minus}
use Rattle.tree.specs.Bits.{Least, or_cases, has_rest, has-or, has-and}

pub in_bit : (x k : ℕ) → (has x k ≡ true) ↔ (bit x k ≡ 1)
in_bit x k = ((λ e. eqb-true (bit x k) 1 e), (λ e. eq-eqb (bit x k) 1 e))

pub in_none : {x : ℕ} (k : ℕ) → x ≡ 0 → ¬ (has x k ≡ true)
in_none k e h = false≢true (sym (has-zero k) ∙ rw e at h)

-- A mask with some bit is not 0.
pub in_some : (x k : ℕ) → has x k ≡ true → 0 < x
in_some x k h = by_cases (ℕ_discrete x 0) (λ e. absurd (in_none k e h)) (λ e. omega arith)

-- The bit that `first_bit` gives is the least.
pub least_of : {x r : ℕ} → (r < 64) × (bit x r ≡ 1) × ((k : ℕ) → k < r → bit x k ≡ 0) → Least x r
least_of h = record { on = h.1; off = h.2 }

-- What the tests of bits say of their parts.
either : (a b : Bool) → (a || b ≡ true) ↔ ((a ≡ true) ⊎ (b ≡ true))
either a b = (or_cases a b, ⊎_elim (λ e. rw e) (λ e. rw e (or-true a)))

but_for : (k j : ℕ) (b : Bool) → (not (eqb k j) && b ≡ true) ↔ ((k ≢ j) × (b ≡ true))
but_for k j b = by_cases (ℕ_discrete k j)
    (λ s. rw (eq-eqb k j s) (λ e. absurd (false≢true e), λ e. absurd (e.0 s)))
    (λ s. rw (ne_eqb k j s) (λ e. (s, e), λ e. e.1))

pub in_or : (a b k : ℕ) → (has (bit_or a b) k ≡ true) ↔ ((has a k ≡ true) ⊎ (has b k ≡ true))
in_or a b k = rw (has-or a b k) (either (has a k) (has b k))

pub in_and : (a b k : ℕ) → (has (bit_and a b) k ≡ true) ↔ ((has a k ≡ true) × (has b k ≡ true))
in_and a b k = rw (has-and a b k) (and-eq-true_iff (has a k) (has b k))

pub in_minus : (a b k : ℕ) → (has (minus a b) k ≡ true) ↔ ((has a k ≡ true) × ¬ (has b k ≡ true))
in_minus a b k = (
  (λ e. (
    (in_bit a k).1 (omega (arith, bit-minus a b k, (in_bit (minus a b) k).0 e)),
    λ s. absurd (omega (arith, bit-minus a b k, (in_bit (minus a b) k).0 e, (in_bit b k).0 s)),
  )),
  (λ e. (in_bit (minus a b) k).1 (let no : ¬ (bit b k ≡ 1) = λ s. e.1 ((in_bit b k).1 s) in omega (arith, bit-minus a b k, (in_bit a k).0 e.0))),
)

pub in_put : (x j k : ℕ) → (has (put x j) k ≡ true) ↔ ((has x k ≡ true) ⊎ (k ≡ j))
in_put x j k = rw (has-put x j k) (
  λ e. ⊎_elim (λ s. inr (eqb-true k j s)) inl ((either (eqb k j) (has x k)).0 e),
  λ e. (either (eqb k j) (has x k)).1 (⊎_elim inr (λ s. inl (eq-eqb k j s)) e),
)

pub in_unset : (x j k : ℕ) → (has (unset x j) k ≡ true) ↔ ((k ≢ j) × (has x k ≡ true))
in_unset x j k = rw (has-unset x j k) (but_for k j (has x k))

-- A mask without its least bit.
pub in_rest : (x r k : ℕ) → Least x r → (has (bit_and x (x - 1)) k ≡ true) ↔ ((k ≢ r) × (has x k ≡ true))
in_rest x r k w = rw (has_rest x r k w) (but_for k r (has x k))

-- The bits from k up to m.
pub in_between : (m k i : ℕ) → (has (minus (first_bits_of m) (first_bits_of k)) i ≡ true) ↔ ((k ≤ i) × (i < m))
in_between m k i = (
  (λ e. let (u, v) = (in_minus (first_bits_of m) (first_bits_of k) i).0 e in (
    by_cases (dec_lt i k) (λ l. absurd (v ((in_bit (first_bits_of k) i).1 (first_below k i l)))) (λ l. omega arith),
    by_cases (dec_lt i m) (λ l. l) (λ l. absurd (omega (arith, first_above m i (omega arith), (in_bit (first_bits_of m) i).0 u))),
  )),
  (λ e. (in_minus (first_bits_of m) (first_bits_of k) i).1 (
    (in_bit (first_bits_of m) i).1 (first_below m i e.1),
    λ s. absurd (omega (arith, first_above k i e.0, (in_bit (first_bits_of k) i).0 s)),
  )),
)

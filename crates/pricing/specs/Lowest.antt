-- The least of some numbers: taken number by number, kept where all of them rise or some fall, and the first place that has it.
use Rattle.std.specs.Prelude.{◌≡◌, ◌≢◌, ◌⊎◌, ◌+◌, ◌-◌, ◌<◌, ◌≤◌, ◌+ℤ◌}
use Rattle.prelude.specs.Words.{refl, sym, ap, ◌∙◌, inl, inr, ⊎_elim, by_cases, true, false, cond, ℕ, zero, suc, arith}
use Rattle.prelude.specs.Words.{add-one, ℕ_discrete, eq-or-lt_of_le, ne_eqb, ℤ, lt_z, le_z, clash, by_test}
use Rattle.std.proofs.lemmas.Int.{ints}
use Rattle.std.specs.Int.Bits.{bit_and}
use Rattle.std.specs.Prelude.{Option, Some, None, MatchOption, unwrap_or}
use Rattle.integers.specs.Integer.{◌≼◌, ◌≺◌}
use Rattle.integers.specs.Bridge.{to_z, eq-z, z-eq, z-add}
use Rattle.integers.specs.Tests.{lt_yes, lt_no}
use Rattle.tree.specs.Mask.{has, has-zero}
use Rattle.tree.specs.Bits.{Least, has_rest}

-- ---- the least of b and f 0, .., f (n − 1)

abbrev pub lesser : ℤ → ℤ → ℤ
lesser x y = cond (lt_z x y) x y

unfoldable pub lowest : ℤ → (ℕ → ℤ) → ℕ → ℤ
lowest b f zero = b
lowest b f (suc n) = let x = lowest b f n in lesser (f n) x

pub lowest-zero : (b : ℤ) (f : ℕ → ℤ) → lowest b f 0 ≡ b
unfolding lowest
lowest-zero b f = refl

pub lowest-one : (b : ℤ) (f : ℕ → ℤ) (n : ℕ) → lowest b f (n + 1) ≡ lesser (f n) (lowest b f n)
unfolding lowest
lowest-one b f n = rw (add-one, lowest)

-- r is that number: none is less, and it is one of them.
pub record Low (b : ℤ) (f : ℕ → ℤ) (n : ℕ) (r : ℤ) : Type 0 where
  pub cap : to_z r ≼ to_z b
  pub least : (k : ℕ) → k < n → to_z r ≼ to_z (f k)
  pub meets : (r ≡ b) ⊎ ((k : ℕ) × (k < n) × (f k ≡ r))

pub lowest-low : (b : ℤ) (f : ℕ → ℤ) (n : ℕ) → Low b f n (lowest b f n)
unfolding lowest
lowest-low b f zero = record { cap = omega arith; least = λ k l. absurd (omega arith); meets = inl refl }
lowest-low b f (suc n) = let x = lowest b f n in let w = lowest-low b f n in by_test (lt_z (f n) x)
    (λ e. rw e (record {
      cap = omega (arith, lt_yes (f n) x e, w.cap);
      least = λ k l. by_cases (ℕ_discrete k n) (λ s. rw s (omega arith)) (λ s. omega (arith, lt_yes (f n) x e, w.least k (omega arith)));
      meets = inr (n, omega arith, refl);
    }))
    (λ e. rw e (record {
      cap = w.cap;
      least = λ k l. by_cases (ℕ_discrete k n) (λ s. rw s (lt_no (f n) x e)) (λ s. w.least k (omega arith));
      meets = ⊎_elim inl (λ (k, l, s). inr (k, omega arith, s)) w.meets;
    }))

-- There is one such number.
low-only : {b : ℤ} {f : ℕ → ℤ} {n : ℕ} {r s : ℤ} → Low b f n r → Low b f n s → r ≡ s
low-only {b} {f} {n} {r} {s} v w = eq-z r s (omega (arith, below v w, below w v))
  where
    below : {r s : ℤ} → Low b f n r → Low b f n s → to_z r ≼ to_z s
    below {r} {s} v w = ⊎_elim (λ e. omega (arith, z-eq e, v.cap)) (λ (k, l, e). omega (arith, z-eq e, v.least k l)) w.meets

-- All numbers are raised by x, and b is another bound.
pub low-raised : {b c : ℤ} {f : ℕ → ℤ} {n : ℕ} {r : ℤ} (x : ℤ) → Low b f n r → to_z r ≺ to_z b → to_z (r +ℤ x) ≼ to_z c → Low c (λ k. f k +ℤ x) n (r +ℤ x)
low-raised {f = f} {r = r} x w below cap = record {
  cap = cap;
  least = λ k l. omega (arith, z-add r x, z-add (f k) x, w.least k l);
  meets = ⊎_elim (λ e. absurd (omega (arith, z-eq e))) (λ (k, l, e). inr (k, l, ap (λ y. y +ℤ x) e)) w.meets;
}

-- ---- some of the numbers fall

-- r is the least of s and of the numbers at those bits of `at` that are not in `bits`.
pub record LeastOver (f : ℕ → ℤ) (at bits : ℕ) (s r : ℤ) : Type 0 where
  pub cap : to_z r ≼ to_z s
  pub least : (k : ℕ) → has at k ≡ true → has bits k ≡ false → to_z r ≼ to_z (f k)
  pub meets : (r ≡ s) ⊎ ((k : ℕ) × (has at k ≡ true) × (f k ≡ r))

-- The numbers are taken in one by one ..
pub over_start : (f : ℕ → ℤ) (at : ℕ) (s : ℤ) → LeastOver f at at s s
over_start f at s = record { cap = omega arith; least = λ k e d. clash e d; meets = inl refl }

pub over_step : {f : ℕ → ℤ} {at bits j : ℕ} {s r : ℤ} → LeastOver f at bits s r → Least bits j → has at j ≡ true
    → LeastOver f at (bit_and bits (bits - 1)) s (lesser (f j) r)
over_step {f} {at} {bits} {j} {s} {r} w l on = by_test (lt_z (f j) r)
    (λ e. rw e (record {
      cap = omega (arith, lt_yes (f j) r e, w.cap);
      least = λ k p q. by_cases (ℕ_discrete k j) (λ d. rw d (omega arith)) (λ d. omega (arith, lt_yes (f j) r e, w.least k p (out k q d)));
      meets = inr (j, on, refl);
    }))
    (λ e. rw e (record {
      cap = w.cap;
      least = λ k p q. by_cases (ℕ_discrete k j) (λ d. rw d (lt_no (f j) r e)) (λ d. w.least k p (out k q d));
      meets = w.meets;
    }))
  where
    -- What is out of the mask now is j, or was before.
    out : (k : ℕ) → has (bit_and bits (bits - 1)) k ≡ false → k ≢ j → has bits k ≡ false
    out k e d = sym (rw (has_rest bits j k l, ne_eqb k j d)) ∙ e

-- .. and where s was the least of older numbers, of which those at `at` have not risen and the others are as they were, r is the least of them all.
pub over_end : {b : ℤ} {old new : ℕ → ℤ} {n at bits : ℕ} {s r : ℤ} → Low b old n s → ((k : ℕ) → has at k ≡ true → k < n)
    → ((k : ℕ) → has at k ≡ true → to_z (new k) ≼ to_z (old k)) → ((k : ℕ) → k < n → has at k ≡ false → new k ≡ old k)
    → LeastOver new at bits s r → bits ≡ 0 → r ≡ lowest b new n
over_end {b} {old} {new} {n} {at} {bits} {s} {r} w inside falls same o none = low-only now (lowest-low b new n)
  where
    least : (k : ℕ) → k < n → to_z r ≼ to_z (new k)
    least k l = by_test (has at k) (λ e. o.least k e (rw (none, has-zero k))) (λ e. rw (same k l e) (omega (arith, o.cap, w.least k l)))

    -- The older least is at k: if k is among those that fell, it is the least still.
    stays : r ≡ s → (k : ℕ) → k < n → old k ≡ s → new k ≡ r
    stays e k l d = by_test (has at k) (λ h. eq-z (new k) r (omega (arith, least k l, falls k h, z-eq d, z-eq e))) (λ h. same k l h ∙ d ∙ sym e)

    now : Low b new n r
    now = record {
      cap = omega (arith, o.cap, w.cap);
      least = least;
      meets = ⊎_elim
          (λ e. ⊎_elim (λ d. inl (e ∙ d)) (λ (k, l, d). inr (k, l, stays e k l d)) w.meets)
          (λ (k, h, e). inr (k, inside k h, e)) o.meets;
    }

-- ---- the place of the least

-- p is the first of the places below n where f is at most z; n where there is none.
pub record FirstAt (f : ℕ → ℤ) (z : ℤ) (n p : ℕ) : Type 0 where
  pub within : p ≤ n
  pub above : (k : ℕ) → k < p → to_z z ≺ to_z (f k)
  pub there : p < n → to_z (f p) ≼ to_z z

-- x is that place, or none.
abbrev pub FirstOf : (ℕ → ℤ) → ℤ → ℕ → Option ℕ → Type 0
FirstOf f z n x = MatchOption x (FirstAt f z n n) (λ p. (p < n) × FirstAt f z n p)

pub first_at : (f : ℕ → ℤ) (z : ℤ) (n : ℕ) (x : Option ℕ) → FirstOf f z n x → FirstAt f z n (unwrap_or x n)
first_at f z n None a = a
first_at f z n (Some p) a = a.1

-- The search for it, which has come from a place to p: no place between has such a number.
pub record Above (f : ℕ → ℤ) (z : ℤ) (n from p : ℕ) : Type 0 where
  pub within : p ≤ n + from
  pub above : (k : ℕ) → from ≤ k → k < p → to_z z ≺ to_z (f k)

pub above-start : (f : ℕ → ℤ) (z : ℤ) (n from : ℕ) → Above f z n from from
above-start f z n from = record { within = omega arith; above = λ k l r. absurd (omega arith) }

-- One order is the other turned round.
pub at-most : (a b : ℤ) → le_z a b ≡ true → lt_z b a ≡ false
at-most a b e = grind (arith, ints)

pub more : (a b : ℤ) → le_z a b ≡ false → lt_z b a ≡ true
more a b e = grind (arith, ints)

pub above_step : {f : ℕ → ℤ} {z : ℤ} {n from p : ℕ} → Above f z n from p → p < n → le_z (f p) z ≡ false
    → Above f z n from (p + 1)
above_step {f} {z} {p = p} w low e = record {
  within = omega arith;
  above = λ k l r. by_cases (ℕ_discrete k p) (λ s. rw s (lt_yes z (f p) (more (f p) z e))) (λ d. w.above k l
      (omega arith));
}

-- A search from the first place on ends there.
module _ {f : ℕ → ℤ} {z : ℤ} {n p : ℕ} (w : Above f z n 0 p) where
  first_above : (k : ℕ) → k < p → to_z z ≺ to_z (f k)
  first_above k l = w.above k (omega arith) l

  pub above_stop : p < n → le_z (f p) z ≡ true → (p < n) × FirstAt f z n p
  above_stop l e = (
    l,
    record {
      within = omega arith;
      above = first_above;
      there = λ q. lt_no z (f p) (at-most
          (f p) z e);
    },
  )

  pub above-end : n ≤ p → FirstAt f z n n
  above-end e = record {
    within = omega arith;
    above = λ k l. first_above k (omega arith);
    there = λ q. absurd
        (omega arith);
  }

-- p is the first of the places below n where f is least, and z is that number.
pub record FirstLow (f : ℕ → ℤ) (z : ℤ) (n p : ℕ) : Type 0 where
  pub inside : p < n
  pub is : f p ≡ z
  pub least : (k : ℕ) → k < n → to_z z ≼ to_z (f k)
  pub first : (k : ℕ) → k < p → to_z z ≺ to_z (f k)

-- There is a place where f is at most y, if y is no less than the least.
pub first-inside : {b : ℤ} {f : ℕ → ℤ} {n p : ℕ} {z y : ℤ} → Low b f n z → to_z z ≺ to_z b → to_z z ≼ to_z y → FirstAt f y n p → p < n
first-inside {n = n} {p} w h le a = ⊎_elim
    (λ (s : p ≡ n). ⊎_elim (λ r. absurd (omega (arith, z-eq r))) (λ (k, l, r). absurd (omega (arith, a.above k (omega arith), z-eq r))) w.meets)
    (λ l. l) (eq-or-lt_of_le {n = p} {m = n} a.within)

pub low_first : {b : ℤ} {f : ℕ → ℤ} {n p : ℕ} {z : ℤ} → Low b f n z → to_z z ≺ to_z b → FirstAt f z n p → FirstLow f z n p
low_first {b} {f} {n} {p} {z} w h a = let inside = first-inside w h (omega arith) a in
    record { inside = inside; is = eq-z (f p) z (omega (arith, a.there inside, w.least p inside)); least = w.least; first = a.above }

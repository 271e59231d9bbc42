-- Whole numbers of 64 bits: their magnitude, and the laws of their digits.
use Rattle.std.specs.Prelude.{◌≡◌, ◌∷◌, ◌-◌, ◌^◌, ◌≤◌, ◌<◌, ◌-ℤ◌}
use Rattle.prelude.specs.Words.{refl, sym, ap, ◌∙◌, true, false, true≢false, ℕ, suc, arith, T, ℤ, pos, negsuc, nat_abs}
use Rattle.prelude.specs.Words.{List, [], length, set}
use Rattle.prelude.specs.Words.{lt_z, mag, non_neg, le-ltb, clash}
use Rattle.std.specs.Int.{w64}
use Rattle.std.proofs.Common.{to_z, of_z, SFits, to_z-of_z}
use Rattle.transport.specs.Laws.RangeLaws.{back}
use Rattle.transport.specs.Text.{bytes, digits, whole_digits}
use Rattle.decimals.specs.Front.{FirstWritten, front-first}
use Rattle.grammar.specs.Longest.{whole_length}

flip : (n : ℕ) → negsuc 0 -ℤ negsuc n ≡ pos n
flip n = rw (le-ltb (suc n) 1 (omega arith)) (ap pos (omega arith))

module _ (z : ℤ) (p : mag z < 2 ^ 63) where
  abbrev turned : ℤ
  turned = negsuc 0 -ℤ to_z w64 (of_z w64 z)

  -- −1 − z of a negative z is one less than its magnitude.
  turned-is : lt_z z (pos 0) ≡ true → turned ≡ pos (nat_abs z - 1)
  turned-is h = rw (back w64 z p) (go z h)
    where
      go : (z : ℤ) → lt_z z (pos 0) ≡ true → negsuc 0 -ℤ z ≡ pos (nat_abs z - 1)
      go (pos n) h = clash h (le-ltb n 0 (omega arith))
      go (negsuc n) h = flip n ∙ ap pos (omega arith)

  pub turned-fits : lt_z z (pos 0) ≡ true → SFits w64 turned
  turned-fits h = rw (turned-is h) (record { sfits = go z p })
    where
      go : (z : ℤ) → mag z < 2 ^ 63 → nat_abs z - 1 < 2 ^ 63
      go (pos n) p = omega arith
      go (negsuc n) p = omega arith

  pub turned-back : lt_z z (pos 0) ≡ true → to_z w64 (of_z w64 turned) ≡ pos (nat_abs z - 1)
  turned-back h = to_z-of_z {w = w64} (turned-fits h) ∙ turned-is h

  pub magnitude_le : nat_abs z ≤ 2 ^ 63
  magnitude_le = go z p
    where
      go : (z : ℤ) → mag z < 2 ^ 63 → nat_abs z ≤ 2 ^ 63
      go (pos n) p = omega arith
      go (negsuc n) p = omega arith

pub magnitude_pos : (z : ℤ) → lt_z z (pos 0) ≡ true → 1 ≤ nat_abs z
magnitude_pos (pos n) h = clash h (le-ltb n 0 (omega arith))
magnitude_pos (negsuc n) h = omega arith

pub not_negative : (z : ℤ) → lt_z z (pos 0) ≡ false → T (non_neg z)
not_negative (pos n) h = tt
not_negative (negsuc n) h = absurd (true≢false h)

pub whole-negative : (z : ℤ) → lt_z z (pos 0) ≡ true → whole_digits z ≡ 45 ∷ digits (nat_abs z)
unfolding whole_digits bytes
whole-negative (pos n) h = clash h (le-ltb n 0 (omega arith))
whole-negative (negsuc n) h = refl

pub whole_positive : (z : ℤ) → lt_z z (pos 0) ≡ false → whole_digits z ≡ digits (nat_abs z)
unfolding whole_digits
whole_positive (pos n) h = refl
whole_positive (negsuc n) h = absurd (true≢false h)

-- The same of a number as the code tests it, whose magnitude is n.
module _ (z : ℤ) (n : ℕ) (fits : SFits w64 z) (is-n : n ≡ nat_abs z) where
  same : to_z w64 (of_z w64 z) ≡ z
  same = to_z-of_z fits

  pub text-negative : lt_z (to_z w64 (of_z w64 z)) (pos 0) ≡ true → whole_digits z ≡ 45 ∷ digits n
  text-negative h = whole-negative z (rw same at h) ∙ ap (λ k. 45 ∷ digits k) (sym is-n)

  -- The minus is written first, and then the magnitude in what is left of the output.
  pub minus-written : lt_z (to_z w64 (of_z w64 z)) (pos 0) ≡ true → (out : List ℕ)
      → length (whole_digits z) ≤ length out → FirstWritten (45 ∷ []) (digits n) out (set out 0 45) 1
  minus-written h out p =
      let room : length (45 ∷ digits n) ≤ length out = rw (text-negative h) at p in
      record { room = room; ends = refl; holds = front-first out 45 (omega arith) }

  pub text_positive : lt_z (to_z w64 (of_z w64 z)) (pos 0) ≡ false → whole_digits z ≡ digits n
  text_positive h = whole_positive z (rw same at h) ∙ ap digits (sym is-n)

-- A whole number of 64 bits has at most 20 bytes.
pub whole-few : (z : ℤ) → mag z < 2 ^ 63 → length (whole_digits z) ≤ 20
whole-few z p = whole_length 18 z (omega (arith, magnitude_le z p))

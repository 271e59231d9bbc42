-- Whole numbers: a number that was read, with the sign before it.
use Rattle.std.specs.Prelude.{◌≡◌, ◌∷◌, ◌+◌, ◌≤◌, ◌<◌, ◌^◌, ◌-ℤ◌, Result, Ok, Err}
use Rattle.prelude.specs.Words.{refl, sym, ap, ◌∙◌, Bool, true, false, cond, List, [], ℕ, zero, suc, arith, eqb, ℤ}
use Rattle.prelude.specs.Words.{pos, negsuc, neg_ℤ, length, drop, drop-drop, lt-ltb, by_test}
use Rattle.std.specs.Int.{w64}
use mir.Val.{to_z, of_z, SFits, bool_byte}
use Rattle.std.proofs.Common.{to_z-of_z}
use Rattle.std.proofs.Math.Facts.{to_z_pos}
use Rattle.grammar.specs.Exact.{by_reading}
use Rattle.grammar.specs.Number.{from_exact}
use Rattle.grammar.specs.Lines.{LF-plain, space_plain}
use Rattle.sections.specs.Lines.{ending}
use Rattle.transport.specs.Limits.{max_digits}
use Rattle.transport.specs.Laws.RangeLaws.{abs_neg, abs_fits}
use Rattle.transport.specs.SheetText.{Reading, stuck, got, Reader, ◌>>=◌, pure, is_digit, number_from, minus, signed, whole}
use Rattle.tokens.specs.declared.Token.{Token}
use Rattle.tokens.specs.declared.Stuck.{Stuck}
use Rattle.tokens.specs.Reading.{reading_of, place_of, byte_next, bind-got, bind-stuck, byte_inside}
use Rattle.tokens.specs.Reading.{end_reading, end-stuck, end_no, end_yes, closed-end}

-- A number that was read, after a minus or without one.
abbrev pub signed_taken : Bool → Result (Token ℕ) Stuck → Result (Token ℤ) Stuck
signed_taken negative (Ok token) = Ok (record { value = signed negative token.value; next = token.next })
signed_taken negative (Err stop) = Err stop

pub signed_reading : (text : List ℕ) (negative : Bool) (r : Result (Token ℕ) Stuck)
    → reading_of text (λ z. z) (signed_taken negative r) ≡ reading_of text (signed negative) r
signed_reading text negative (Ok token) = refl
signed_reading text negative (Err stop) = refl

pub signed-place : (negative : Bool) (r : Result (Token ℕ) Stuck) → place_of (signed_taken negative r) ≡ place_of r
signed-place negative (Ok token) = refl
signed-place negative (Err stop) = refl

-- A value that was read is below a limit.
abbrev pub ValueBelow : ℕ → Result (Token ℕ) Stuck → Type 0
ValueBelow limit (Ok token) = token.value < limit
ValueBelow limit (Err stop) = Unit {0}

ending_plain : (left : ℕ) → is_digit (ending left) ≡ false
unfolding ending
ending_plain left = by_test (eqb left 1) (λ e. rw e LF-plain) (λ e. rw e space_plain)

-- It has at most seven digits.
pub number-value : (text : List ℕ) (left low : ℕ) → low ≤ 1 → (t : List ℕ) (r : Result (Token ℕ) Stuck)
    → end_reading (ending left) (number_from low t) ≡ reading_of text (λ v. v) r → ValueBelow (2 ^ 63) r
unfolding max_digits
number-value text left low few t (Ok token) e =
    let closed = closed-end (ending left) (number_from low) t ∙ e in
    let exact = from_exact low few (ending left) (ending_plain left) in
    let read = exact.taken t token.value (drop token.next text) closed in
    omega (arith, read.member.0.1)
number-value text left low few t (Err stop) e = tt

-- ---- what was read, changed

unfoldable changed : {A B : Type 0} → (A → B) → Reading A → Reading B
changed f (stuck rest) = stuck rest
changed f (got x rest) = got (f x) rest

changed-pure : {A B : Type 0} (f : A → B) (r : Reader A) (t : List ℕ) → (r >>= λ x. pure (f x)) t ≡ changed f (r t)
unfolding changed pure
changed-pure f r t =
    by_reading (r t) (λ u e. rw e (bind-stuck r t u _ e)) (λ x u e. rw e (bind-got r t u _ x e))

changed-end : {A B : Type 0} (f : A → B) (end : ℕ) (r : Reading A)
    → end_reading end (changed f r) ≡ changed f (end_reading end r)
unfolding changed
changed-end f end (stuck rest) = end-stuck end rest ∙ ap (changed f) (sym (end-stuck end rest))
changed-end f end (got x t) = by_test (byte_next end t)
    (λ e. end_yes end (f x) t e ∙ ap (changed f) (sym (end_yes end x t e)))
    (λ e. end_no end (f x) t e ∙ ap (changed f) (sym (end_no end x t e)))

changed_reading : {A : Type 0} (text : List ℕ) (f : ℕ → A) (r : Result (Token ℕ) Stuck)
    → changed f (reading_of text (λ v. v) r) ≡ reading_of text f r
unfolding changed
changed_reading text f (Ok token) = refl
changed_reading text f (Err stop) = refl

-- ---- the sign before the number

-- One byte or none.
minus-next : (t : List ℕ) (b : Bool) → byte_next 45 t ≡ b → minus t ≡ got b (drop (cond b 1 0) t)
unfolding minus byte_next
minus-next [] true e = cc
minus-next [] false e = refl
minus-next (c ∷ t) true e = rw (minus, e)
minus-next (c ∷ t) false e = rw (minus, e)

-- The minus has one byte, and then the number is at least 1.
minus-size : (b : Bool) → bool_byte b ≡ cond b 1 0
minus-size true = refl
minus-size false = refl

pub minus-few : (b : Bool) → bool_byte b ≤ 1
minus-few true = omega arith
minus-few false = omega arith

pub minus-fits : (text : List ℕ) (at : ℕ) (b : Bool) → at ≤ length text → byte_next 45 (drop at text) ≡ b → at + bool_byte b ≤ length text
minus-fits text at true p e = omega (arith, byte_inside text at 45 e)
minus-fits text at false p e = omega arith

-- The minus is read, and then the number.
module _ (text : List ℕ) (at : ℕ) (b : Bool) (m : byte_next 45 (drop at text) ≡ b) where
  abbrev rest : List ℕ
  rest = drop (at + bool_byte b) text

  whole_is : whole (drop at text) ≡ (number_from (bool_byte b) >>= λ x. pure (signed b x)) rest
  unfolding whole
  whole_is = bind-got minus (drop at text) (drop (cond b 1 0) (drop at text)) _ b (minus-next (drop at text) b m)
      ∙ (rw (drop-drop (cond b 1 0) at text, minus-size b))

  pub whole_stuck : (u : List ℕ) → number_from (bool_byte b) rest ≡ stuck u → whole (drop at text) ≡ stuck u
  whole_stuck u e = whole_is ∙ bind-stuck (number_from (bool_byte b)) rest u _ e

  pub whole_got : (x : ℕ) (u : List ℕ) → number_from (bool_byte b) rest ≡ got x u
      → whole (drop at text) ≡ got (signed b x) u
  unfolding pure
  whole_got x u e = whole_is ∙ bind-got (number_from (bool_byte b)) rest u _ x e

-- The minus is read, and then the number with the byte that ends it.
pub whole_read : (text : List ℕ) (at end : ℕ) (b : Bool) (r : Result (Token ℕ) Stuck)
    → byte_next 45 (drop at text) ≡ b
    → end_reading end (number_from (bool_byte b) (drop (at + bool_byte b) text)) ≡ reading_of text (λ v. v) r
    → end_reading end (whole (drop at text)) ≡ reading_of text (signed b) r
whole_read text at end b r m e =
    let u = rest text at b m in
    let number : whole (drop at text) ≡ changed (signed b) (number_from (bool_byte b) u) =
    whole_is text at b m ∙ changed-pure (signed b) (number_from (bool_byte b)) u in
    ap (end_reading end) number
    ∙ changed-end (signed b) end (number_from (bool_byte b) u)
    ∙ ap (changed (signed b)) e ∙ changed_reading text (signed b) r

-- ---- signed numbers of 64 bits

module _ {x : ℕ} (p : x < 2 ^ 63) where
  pub number_fits : SFits w64 (pos x)
  number_fits = abs_fits w64 (pos x) p

  pub number-back : to_z w64 x ≡ pos x
  number-back = to_z_pos w64 p

  opposite_is : pos 0 -ℤ to_z w64 x ≡ neg_ℤ (pos x)
  opposite_is = rw number-back (go x)
    where
      go : (n : ℕ) → pos 0 -ℤ pos n ≡ neg_ℤ (pos n)
      go zero = refl
      go (suc n) = rw (lt-ltb 0 (suc n) (omega arith)) (ap negsuc (omega arith))

  pub opposite_fits : SFits w64 (pos 0 -ℤ to_z w64 x)
  opposite_fits = rw opposite_is (abs_fits w64 (neg_ℤ (pos x)) (omega (arith, abs_neg (pos x))))

  pub opposite_back : to_z w64 (of_z w64 (pos 0 -ℤ to_z w64 x)) ≡ neg_ℤ (pos x)
  opposite_back = to_z-of_z {w = w64} opposite_fits ∙ opposite_is

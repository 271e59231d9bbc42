-- A text at the front of an output: the bytes of the output past the text stay. So it is with a list of anything in a longer one.
use Rattle.std.specs.Prelude.{◌≡◌, ◌∷◌, ◌++◌, ◌+◌, ◌-◌, ◌≤◌, ◌<◌}
use Rattle.prelude.specs.Words.{refl, sym, ap, ◌∙◌, List, [], append-nil, append_assoc, ℕ, suc, arith, add-one, length}
use Rattle.prelude.specs.Words.{take, drop, set, get_or, length-append, length-drop, drop_of_length-le, length-take-le, take_all, take_at, drop_at, drop-drop}
use Rattle.prelude.specs.Words.{drop-cons, set_at}
use Rattle.std.proofs.Common.{take-add}
use Rattle.std.proofs.lemmas.Grind.{common_steps}
use borrow.Rule.Slice.PartMut.{mid_of, put_mid}

module _ {A : Type 0} where
  unfoldable pub front : List A → List A → List A
  front text out = text ++ drop (length text) out

pub front-nil : (out : List ℕ) → front [] out ≡ out
unfolding front
front-nil out = refl

pub length_front : (text out : List ℕ) → length text ≤ length out → length (front text out) ≡ length out
unfolding front
length_front text out p = omega (arith, length-append text (drop (length text) out), length-drop (length text) out)

pub front-take : (text out : List ℕ) (n : ℕ) → n ≡ length text → take n (front text out) ≡ text
unfolding front
front-take text out n e = take_at text (drop (length text) out) n (sym e)

-- One byte more.
pub front-byte : (text out : List ℕ) (n b : ℕ) → n ≡ length text → length text < length out → set (front text out) n b ≡ front (text ++ (b ∷ [])) out
unfolding front
front-byte text out n b e p =
    rw (
      drop-cons out (length text) 0 p,
      set_at text (get_or out (length text) 0) (drop (suc (length text)) out) b n (sym e),
      length-append,
      add-one,
      append_assoc,
    )

pub front-first : (out : List ℕ) (b : ℕ) → 0 < length out → set out 0 b ≡ front (b ∷ []) out
unfolding front
front-first (x ∷ out) b p = refl
front-first [] b p = absurd (omega arith)

-- ---- the part of a list from a place on, lent and come back

mid_tail : (n : ℕ) (xs : List ℕ) → mid_of n (length xs - n) xs ≡ drop n xs
mid_tail n xs = take_all (length xs - n) (drop n xs) (omega (arith, length-drop n xs))

put-tail : (n : ℕ) (xs ys : List ℕ) → put_mid n (length xs - n) xs ys ≡ take n xs ++ ys
put-tail n xs ys = rw (drop_of_length-le (drop n xs) {i = length xs - n} (omega (arith, length-drop n xs)), append-nil ys)

-- A second text in what a first one left of the output.
module _ (first out held : List ℕ) (n : ℕ) (e : n ≡ length first) (h : held ≡ front first out) where
  -- What is lent ..
  lent-rest : mid_of n (length held - n) held ≡ drop n out
  unfolding front
  lent-rest = mid_tail n held ∙ (rw (h, drop_at first (drop (length first) out) n (sym e), e))

  lent_length : length (mid_of n (length held - n) held) ≡ length out - n
  lent_length = ap length lent-rest ∙ length-drop n out

  -- .. and the output after it has come back with the second text.
  pub front-then : (second : List ℕ) → put_mid n (length held - n) held (front second (mid_of n (length held - n) held)) ≡ front (first ++ second) out
  unfolding front
  front-then second =
      put-tail n held (front second (mid_of n (length held - n) held))
      ∙ (rw (lent-rest, h, take_at first (drop (length first) out) n (sym e), e, drop-drop, length-append, append_assoc))

-- Two texts, one after the other.
pub first-room : (first second out : List ℕ) → length (first ++ second) ≤ length out → length first ≤ length out
first-room first second out p = omega (arith, length-append first second)

-- The output has room for both, and holds the first, which ends at n.
pub record FirstWritten (first second out held : List ℕ) (n : ℕ) : Type 0 where
  pub room : length (first ++ second) ≤ length out
  pub ends : n ≡ length first
  pub holds : held ≡ front first out

-- So it is after a call that writes the first.
pub begun : (first second : List ℕ) {out held : List ℕ} {n : ℕ} → length (first ++ second) ≤ length out
    → (n ≡ length first) × (held ≡ front first out) → FirstWritten first second out held n
begun first second p e = record { room = p; ends = e.0; holds = e.1 }

module _ {first second out held : List ℕ} {n : ℕ} (b : FirstWritten first second out held n) where
  pub second-start : n ≤ length held
  second-start = let r = first-room first second out b.room in omega (arith, b.ends, ap length b.holds ∙ length_front first out r)

  pub second-room : length second ≤ length (mid_of n (length held - n) held)
  second-room = omega (arith, b.room, b.ends, lent_length first out held n b.ends b.holds, length-append first second)

  pub both-length : (k : ℕ) → k ≡ length second → n + k ≡ length (first ++ second)
  both-length k e = omega (arith, b.ends, length-append first second)

  pub both-written : (after : List ℕ) → after ≡ front second (mid_of n (length held - n) held) → put_mid n (length held - n) held after
      ≡ front (first ++ second) out
  both-written after e = rw e (front-then first out held n b.ends b.holds second)

  -- So both stand there after a call that writes the second.
  pub both : (k : ℕ) (after : List ℕ) → let rest = mid_of n (length held - n) held in
      (k ≡ length second) × (after ≡ front second rest)
      → (n + k ≡ length (first ++ second)) × (put_mid n (length held - n) held after ≡ front (first ++ second) out)
  both k after e = (both-length k e.0, both-written after e.1)

-- ---- a text written piece by piece: what is written is its first `at` bytes

module _ (T : List ℕ) (at : ℕ) (piece rest : List ℕ) (p : at ≤ length T) (e : drop at T ≡ piece ++ rest) where
  pub piece_room : at + length piece ≤ length T
  piece_room = omega (arith, length-drop at T, ap length e, length-append piece rest)

  pub take_piece : take (at + length piece) T ≡ take at T ++ piece
  take_piece = take-add at (length piece) T ∙ (rw (e, take_at piece rest (length piece) refl))

  pub drop_piece : drop (at + length piece) T ≡ rest
  drop_piece = sym (drop-drop (length piece) at T) ∙ (rw (e, drop_at piece rest (length piece) refl))

  -- The output holds the first bytes, and the next piece comes in the rest of it.
  pub piece_next : (out held : List ℕ) → length T ≤ length out → held ≡ front (take at T) out → FirstWritten (take at T) piece out held at
  piece_next out held q h =
      let n : length (take at T) ≡ at = length-take-le at T p in
      record { room = omega (arith, length-append (take at T) piece, piece_room); ends = sym n; holds = h }

-- What a proof of pieces, one after the other, goes by.
pub ruleset pieces = (common_steps, length_front)

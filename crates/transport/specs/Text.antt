-- Bytes, numbers and lines of texts (paper 01, "Texts"). A text is a list of bytes.
use Rattle.std.specs.Prelude.{true, false, cond, List, [], ◌∷◌, ◌++◌, ℕ, zero, suc, ◌+◌, ◌/◌, ◌%◌, ltb, eqb, ℤ, pos, negsuc}
use Prim.Native.String.{String, [] as ε, ◌∷◌ as ◌◃◌}
use Prim.Native.Char.{code}
pub use Rattle.transport.specs.declared.ByteKind.{ByteKind}
pub use Rattle.transport.specs.declared.ByteKind.TheVariants.{Digit, Space, LineEnd, Letter, Other}
use Rattle.transport.specs.Lists.{within}

-- The bytes of a word.
unfoldable pub bytes : String → List ℕ
bytes ε = []
bytes (c ◃ s) = code c ∷ bytes s

-- The byte of a word of one character.
abbrev pub byte : String → ℕ
byte ε = 0
byte (c ◃ s) = code c

-- The kind of a byte; a line end is LF, and small letters are a to z.
unfoldable pub kind_of : ℕ → ByteKind
kind_of b =
    cond (within (byte "0") (byte "9") b) Digit
    (cond (eqb b (byte " ")) Space
    (cond (eqb b (byte "\n")) LineEnd
    (cond (within (byte "a") (byte "z") b) Letter
    Other)))

-- The digits of n, with at most `most` of them.
unfoldable pub digits_up_to : ℕ → ℕ → List ℕ
digits_up_to zero n = []
digits_up_to (suc most) n = elim (ltb n 10) [
  | true ↦ (byte "0" + n) ∷ []
  | false ↦ digits_up_to most (n / 10) ++ ((byte "0" + n % 10) ∷ [])
]

-- The decimal digits of a number, as many as it needs: none is a leading 0, and 0 is one digit.
unfoldable pub digits : ℕ → List ℕ
digits n = digits_up_to (suc n) n

-- Minus is `-`.
unfoldable pub whole_digits : ℤ → List ℕ
whole_digits (pos n) = digits n
whole_digits (negsuc n) = bytes "-" ++ digits (suc n)

-- The head of a section: its name and its count.
unfoldable pub head_line : String → ℕ → List ℕ
head_line name count = bytes name ++ bytes " " ++ digits count ++ bytes "\n"

unfoldable pub number_line : ℕ → List ℕ
number_line x = digits x ++ bytes "\n"

module _ {A : Type 0} where
  -- Numbers, each as `write` has it, with one space between, and LF.
  unfoldable pub row_line : (A → List ℕ) → List A → List ℕ
  row_line write [] = bytes "\n"
  row_line write (x ∷ []) = write x ++ bytes "\n"
  row_line write (x ∷ y ∷ ys) = write x ++ bytes " " ++ row_line write (y ∷ ys)

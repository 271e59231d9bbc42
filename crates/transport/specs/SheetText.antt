-- The sheet text, and the calls that write and read it (paper 01, "Texts" and "Calls and their refusals"; paper 02, Two).
use Rattle.std.specs.Prelude.{Bool, true, false, ◌&&◌, ◌||◌, cond, ℕ, zero, suc, ◌+◌, ◌*◌, ◌-◌, eqb, leb, ℤ, pos, neg_ℤ, length, take, drop}
use mathlib.Core.List.{List, [], ◌∷◌, ◌++◌, flat_map, flatten}
use Rattle.std.proofs.Math.Option.{some}
use Rattle.transport.specs.Lists.{within}
use Rattle.transport.specs.Limits.{max_sources, max_sinks, max_digits}
use Rattle.transport.specs.Refusals.{Refusal}
use Rattle.transport.specs.Sheet.{Sheet, roasteries, cafes, sheet_tests, number_tests}
use Rattle.transport.specs.Calls.{Answer, refused, unless, too_short}
use Rattle.transport.specs.Text.{bytes, byte, Digit, Space, LineEnd, Letter, Other, kind_of, whole_digits, head_line, number_line, row_line}

-- ---- writing

module _ {A : Type 0} where
  -- The first k rows of n numbers.
  unfoldable pub rows_of : ℕ → ℕ → List A → List (List A)
  rows_of zero n xs = []
  rows_of (suc k) n xs = take n xs ∷ rows_of k n (drop n xs)

-- `supply m` and m lines of one number; `demand n` and n lines of one number; `cost m` and m lines of n numbers, which may have a minus.
unfoldable pub sheet_text : Sheet → List ℕ
sheet_text S =
    head_line "supply" (roasteries S)
    ++ flat_map number_line S.supply
    ++ head_line "demand" (cafes S)
    ++ flat_map number_line S.demand
    ++ head_line "cost" (roasteries S)
    ++ flat_map (row_line whole_digits) (rows_of (roasteries S) (cafes S) S.cost)

-- The text, whose length is the call's answer. `room` is the length of the output.
unfoldable pub write_sheet_call : Sheet → ℕ → Answer (List ℕ)
write_sheet_call S room = unless (sheet_tests S ++ ((too_short room (length (sheet_text S)), Refusal.TooShort) ∷ [])) (sheet_text S)

-- ---- reading: a reader takes its part from the front of a text, or is stuck before the first byte that cannot come there

pub data Reading (A : Type 0) : Type 0 where
  stuck : List ℕ → Reading A
  got : A → List ℕ → Reading A

abbrev pub Reader : Type 0 → Type 0
Reader A = List ℕ → Reading A

infixl 10 ◌>>=◌ ◌>>◌
module _ {A B : Type 0} where
  -- One reader, and then another on the rest.
  unfoldable pub ◌>>=◌ : Reader A → (A → Reader B) → Reader B
  ◌>>=◌ r f t = elim (r t) [
    | stuck rest ↦ stuck rest
    | got a rest ↦ f a rest
  ]

  unfoldable pub ◌>>◌ : Reader A → Reader B → Reader B
  ◌>>◌ r s t = elim (r t) [
    | stuck rest ↦ stuck rest
    | got a rest ↦ s rest
  ]

module _ {A : Type 0} where
  unfoldable pub pure : A → Reader A
  pure a t = got a t

module _ {A : Type 0} where
  -- k times the same.
  unfoldable pub times : ℕ → Reader A → Reader (List A)
  times zero r = pure []
  times (suc k) r = do
    x ← r
    xs ← times k r
    pure (x ∷ xs)

-- One byte that passes the test.
unfoldable pub byte_that : (ℕ → Bool) → Reader ℕ
byte_that test [] = stuck []
byte_that test (b ∷ t) = cond (test b) (got b t) (stuck (b ∷ t))

-- These bytes.
unfoldable pub word : List ℕ → Reader (Unit {0})
word [] = pure tt
word (c ∷ cs) = do
  byte_that (eqb c)
  word cs

-- The end of the text.
unfoldable pub end : Reader (Unit {0})
end [] = got tt []
end (b ∷ t) = stuck (b ∷ t)

unfoldable pub is_digit : ℕ → Bool
is_digit b = elim (kind_of b) [
  | Digit ↦ true
  | Space ↦ false
  | LineEnd ↦ false
  | Letter ↦ false
  | Other ↦ false
]

unfoldable pub digit_value_of : ℕ → ℕ
digit_value_of b = b - byte "0"

-- At most k digits more of a number that begins with x, as long as the number passes the test.
unfoldable pub more_digits_of : (ℕ → Bool) → ℕ → ℕ → Reader ℕ
more_digits_of test zero x t = got x t
more_digits_of test (suc k) x [] = got x []
more_digits_of test (suc k) x (b ∷ t) = elim (is_digit b && test (x * 10 + digit_value_of b)) [
  | true ↦ more_digits_of test k (x * 10 + digit_value_of b) t
  | false ↦ got x (b ∷ t)
]

-- One to seven digits, the first at least `low`, with no leading 0 except 0 itself.
unfoldable pub number_from : ℕ → Reader ℕ
number_from low = do
  b ← byte_that (λ b. is_digit b && leb low (digit_value_of b))
  more_digits_of (λ x. true) (cond (eqb (digit_value_of b) 0) 0 (max_digits - 1)) (digit_value_of b)

-- A supply or demand.
unfoldable pub number : Reader ℕ
number = number_from 0

-- `-` or nothing: whether there is a minus.
unfoldable pub minus : Reader Bool
minus [] = got false []
minus (b ∷ t) = cond (eqb (byte "-") b) (got true t) (got false (b ∷ t))

-- A number after a minus, or without one.
abbrev pub signed : Bool → ℕ → ℤ
signed negative x = cond negative (neg_ℤ (pos x)) (pos x)

-- A cost: it may begin with `-`, never before 0.
unfoldable pub whole : Reader ℤ
whole = do
  negative ← minus
  x ← number_from (cond negative 1 0)
  pure (signed negative x)

-- m or n: from 1 to its limit, of one or two digits.
unfoldable pub side : ℕ → Reader ℕ
side most = do
  b ← byte_that (λ b. is_digit b && within 1 most (digit_value_of b))
  more_digits_of (within 1 most) 1 (digit_value_of b)

module _ {A : Type 0} where
  -- One number, and LF.
  unfoldable pub line : Reader A → Reader A
  line r = do
    x ← r
    word (bytes "\n")
    pure x

  -- n numbers with one space between, and LF.
  unfoldable pub row : Reader A → ℕ → Reader (List A)
  row r zero = do
    word (bytes "\n")
    pure []
  row r (suc zero) = do
    x ← line r
    pure (x ∷ [])
  row r (suc (suc n)) = do
    x ← r
    word (bytes " ")
    xs ← row r (suc n)
    pure (x ∷ xs)

-- Sections in their order, each after its count. Both row counts must be the same m.
unfoldable pub sheet_reader : Reader Sheet
sheet_reader = do
  word (bytes "supply ")
  m ← line (side max_sources)
  supply ← times m (line number)
  word (bytes "demand ")
  n ← line (side max_sinks)
  demand ← times n (line number)
  word (head_line "cost" m)
  rows ← times m (row whole n)
  end
  pure (record { supply = supply; demand = demand; cost = flatten rows })

-- 9 with its place if the text is not a sheet text; else what the tests say of the sheet that was read.
unfoldable pub read_with : (Sheet → List (Bool × Refusal)) → List ℕ → Answer Sheet
read_with tests text = elim (sheet_reader text) [
  | stuck rest ↦ refused (Refusal.NotSheetText (length text - length rest))
  | got S rest ↦ unless (tests S) S
]

-- The rooms are the lengths of the lent lists for supplies, demands and costs.
unfoldable pub read_tests : ℕ → ℕ → ℕ → Sheet → List (Bool × Refusal)
read_tests supplyRoom demandRoom costRoom S =
    number_tests S
    ++ ((too_short supplyRoom (roasteries S) || too_short demandRoom (cafes S) || too_short costRoom (roasteries S * cafes S), Refusal.TooShort)
    ∷ [])

unfoldable pub read_sheet_call : List ℕ → ℕ → ℕ → ℕ → Answer Sheet
read_sheet_call text supplyRoom demandRoom costRoom = read_with (read_tests supplyRoom demandRoom costRoom) text

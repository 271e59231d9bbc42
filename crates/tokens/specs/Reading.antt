-- What a reader of the code found, as a reading of the specification; and the readers' laws, by what comes next in the text.
use Rattle.std.specs.Prelude.{◌≡◌, ◌&&◌, ◌∷◌, ◌+◌, ◌*◌, ◌-◌, ◌≤◌, ◌<◌, ◌^◌, Result, Ok, Err}
use Rattle.prelude.specs.Words.{refl, sym, ◌∙◌, by_cases, Bool, true, false, not, cond, true≢false, List, [], ℕ, zero, suc}
use Rattle.prelude.specs.Words.{arith, ℕ_discrete, dec_lt, pow-suc, add-one, eqb, leb, length, drop, get_or, drop_of_length-le, drop-cons, drop-drop}
use Rattle.prelude.specs.Words.{ne_eqb, le-leb, lt-leb, by_test, clash}
use Rattle.std.proofs.Math.Nat.{pow-le-pow_right}
use Rattle.std.proofs.Common.{lt_of_lt_of_le}
use Rattle.std.specs.Result.{IsErrAnd}
use Rattle.std.proofs.lemmas.Result.{err_from_is_err_and}
use Rattle.transport.specs.Lists.{within}
use Rattle.transport.specs.Laws.ListLaws.{and_right}
use Rattle.transport.specs.Limits.{max_digits}
use Rattle.transport.specs.Text.{bytes, kind_of}
use Rattle.transport.specs.SheetText.{Reading, stuck, got, Reader, ◌>>=◌, ◌>>◌, pure, byte_that, word, is_digit, digit_value_of, more_digits_of}
use Rattle.transport.specs.SheetText.{number_from, side, line}
use Rattle.transport.specs.Laws.SheetLaws.{within-true, true-within, within_low, within-high}
use Rattle.transport.specs.declared.ByteKind.{ByteKind}
use Rattle.transport.specs.declared.ByteKind.TheVariants.{Digit, Space, LineEnd, Letter, Other}
use Rattle.grammar.specs.Closing.{closed_by}
use Rattle.grammar.specs.Exact.{by_reading}
use Rattle.grammar.specs.Digits.{digit-within}
use Rattle.sections.specs.Lines.{ending}
pub use Rattle.tokens.specs.declared.Token.{Token}
pub use Rattle.tokens.specs.declared.Stuck.{Stuck}

-- The rest of the text from a place on stands for the place. `f` gives the value that was read for
-- the one in the answer.
abbrev pub reading_of : {A B : Type 0} → List ℕ → (A → B) → Result (Token A) Stuck → Reading B
reading_of text f (Ok token) = got (f token.value) (drop token.next text)
reading_of text f (Err stop) = stuck (drop stop.0 text)

abbrev pub place_of : {A : Type 0} → Result (Token A) Stuck → ℕ
place_of (Ok token) = token.next
place_of (Err stop) = stop.0

-- The same of an answer that is only the place after what was read: the value that was read is x.
abbrev pub read_to : {B : Type 0} → List ℕ → B → Result ℕ Stuck → Reading B
read_to text x (Ok next) = got x (drop next text)
read_to text x (Err stop) = stuck (drop stop.0 text)

abbrev pub place_after : Result ℕ Stuck → ℕ
place_after (Ok next) = next
place_after (Err stop) = stop.0

-- What `?` hands on: where a reader within is stuck, so is the whole, at the same place.
module _ {B : Type 0} {whole : Reading B} (text : List ℕ) (stop : Stuck) where
  pub handed_on : {A : Type 0} (f : A → B) (r : Result (Token A) Stuck) → IsErrAnd r (λ s. s ≡ stop)
      → whole ≡ stuck (drop stop.0 text) → whole ≡ reading_of text f r
  handed_on f r e w = let p = err_from_is_err_and r e in rw (p.1, p.2) w

  pub handed_to : (x : B) (r : Result ℕ Stuck) → IsErrAnd r (λ s. s ≡ stop)
      → whole ≡ stuck (drop stop.0 text) → whole ≡ read_to text x r
  handed_to x r e w = let p = err_from_is_err_and r e in rw (p.1, p.2) w

-- A value that was read is a side.
abbrev pub ValueSide : ℕ → Result (Token ℕ) Stuck → Type 0
ValueSide most (Ok token) = (1 ≤ token.value) × (token.value ≤ most)
ValueSide most (Err stop) = Unit {0}

-- ---- what comes next

unfoldable pub kind_next : List ℕ → ByteKind
kind_next [] = Other
kind_next (b ∷ t) = kind_of b

unfoldable pub byte_next : ℕ → List ℕ → Bool
byte_next b [] = false
byte_next b (c ∷ t) = eqb b c

unfoldable pub digit_next : List ℕ → Bool
digit_next [] = false
digit_next (b ∷ t) = is_digit b

-- The test that every number passes.
abbrev pub always : ℕ → Bool
always x = true

module _ (text : List ℕ) (at : ℕ) where
  pub byte-end : (b : ℕ) → length text ≤ at → byte_next b (drop at text) ≡ false
  unfolding byte_next
  byte-end b p = rw (drop_of_length-le text {i = at} p)

  pub byte-here : (b : ℕ) → at < length text → byte_next b (drop at text) ≡ eqb b (get_or text at 0)
  unfolding byte_next
  byte-here b p = rw (drop-cons text at 0 p)

  pub kind_end : length text ≤ at → kind_next (drop at text) ≡ Other
  unfolding kind_next
  kind_end p = rw (drop_of_length-le text {i = at} p)

  pub kind_here : at < length text → kind_next (drop at text) ≡ kind_of (get_or text at 0)
  unfolding kind_next
  kind_here p = rw (drop-cons text at 0 p)

  digit-end : length text ≤ at → digit_next (drop at text) ≡ false
  unfolding digit_next
  digit-end p = rw (drop_of_length-le text {i = at} p)

  digit-here : at < length text → digit_next (drop at text) ≡ is_digit (get_or text at 0)
  unfolding digit_next
  digit-here p = rw (drop-cons text at 0 p)

  -- Where a byte comes next, the text goes on.
  pub byte_inside : (b : ℕ) → byte_next b (drop at text) ≡ true → at < length text
  byte_inside b e = by_cases (dec_lt at (length text)) (λ p. p) (λ p. clash e (byte-end b (omega arith)))

  pub drop-next : drop 1 (drop at text) ≡ drop (at + 1) text
  drop-next = drop-drop 1 at text

-- ---- kinds

abbrev kind_by : Bool → Bool → Bool → Bool → ByteKind
kind_by d s e l = cond d Digit (cond s Space (cond e LineEnd (cond l Letter Other)))

abbrev of_digit : ByteKind → Bool
of_digit k = elim k [ Digit ↦ true | Space ↦ false | LineEnd ↦ false | Letter ↦ false | Other ↦ false ]

-- The kind tells a digit.
pub digit-told : (t : List ℕ) (k : ByteKind) → kind_next t ≡ k → digit_next t ≡ of_digit k
unfolding kind_next digit_next is_digit
digit-told [] k e = rw (← e)
digit-told (b ∷ t) k e = rw (← e)

pub not_digit : (k : ByteKind) → (k ≡ Digit → ⊥) → of_digit k ≡ false
not_digit Digit n = absurd (n refl)
not_digit Space n = refl
not_digit LineEnd n = refl
not_digit Letter n = refl
not_digit Other n = refl

-- The kind tells the end of a number, which is the last of its line or not.
abbrev of_end : Bool → ByteKind → Bool
of_end last Digit = false
of_end last Space = not last
of_end last LineEnd = last
of_end last Letter = false
of_end last Other = false

pub not_end : (last : Bool) (k : ByteKind) → (k ≡ Space → ⊥) → (k ≡ LineEnd → ⊥) → of_end last k ≡ false
not_end last Digit s e = refl
not_end last Space s e = absurd (s refl)
not_end last LineEnd s e = absurd (e refl)
not_end last Letter s e = refl
not_end last Other s e = refl

pub end-told : (left : ℕ) (t : List ℕ) (k : ByteKind) → kind_next t ≡ k → byte_next (ending left) t ≡ of_end (eqb left 1) k
unfolding kind_next byte_next ending kind_of within
end-told left [] k e = rw (← e)
end-told left (b ∷ t) k e = rw (← e) (go (eqb left 1))
  where
    not-line-end : (d s l : Bool) → of_end true (kind_by d s false l) ≡ false
    not-line-end true s l = refl
    not-line-end false true l = refl
    not-line-end false false true = refl
    not-line-end false false false = refl

    not_space : (d e l : Bool) → of_end false (kind_by d false e l) ≡ false
    not_space true e l = refl
    not_space false true l = refl
    not_space false false true = refl
    not_space false false false = refl

    go : (last : Bool) → eqb (cond last 10 32) b ≡ of_end last (kind_of b)
    go true = by_cases (ℕ_discrete b 10) (λ e. rw e)
        (λ n. rw (ne_eqb 10 b (λ e. n (sym e)), ne_eqb b 10 n) (sym (not-line-end (within 48 57 b) (eqb b 32) (within 97 122 b))))
    go false = by_cases (ℕ_discrete b 32) (λ e. rw e)
        (λ n. rw (ne_eqb 32 b (λ e. n (sym e)), ne_eqb b 32 n) (sym (not_space (within 48 57 b) (eqb b 10) (within 97 122 b))))

-- A digit stands at this place of the text: a byte from `0` to `9`.
pub record DigitAt (text : List ℕ) (at : ℕ) : Type 0 where
  pub inside : at < length text
  pub digit : is_digit (get_or text at 0) ≡ true
  pub low : 48 ≤ get_or text at 0
  pub high : get_or text at 0 ≤ 57

pub digit_at : (text : List ℕ) (at : ℕ) → digit_next (drop at text) ≡ true → DigitAt text at
digit_at text at e = by_cases (dec_lt at (length text))
    (λ p. let d : is_digit (get_or text at 0) ≡ true = sym (digit-here text at p) ∙ e in
    let w = within-true 48 57 (get_or text at 0) (sym (digit-within (get_or text at 0)) ∙ d) in record { inside = p; digit = d; low = w.0; high = w.1 })
    (λ p. clash e (digit-end text at (omega arith)))

-- The digit d comes next.
pub record NextDigit (text : List ℕ) (at d : ℕ) : Type 0 where
  pub here : DigitAt text at
  pub value : d ≡ get_or text at 0 - 48

-- ---- one reader after another

module _ {A B : Type 0} (r : Reader A) (t rest : List ℕ) where
  pub then-got : (s : Reader B) (a : A) → r t ≡ got a rest → (r >> s) t ≡ s rest
  unfolding ◌>>◌
  then-got s a e = rw (◌>>◌, e)

  pub then-stuck : (s : Reader B) → r t ≡ stuck rest → (r >> s) t ≡ stuck rest
  unfolding ◌>>◌
  then-stuck s e = rw (◌>>◌, e)

  pub bind-got : (f : A → Reader B) (a : A) → r t ≡ got a rest → (r >>= f) t ≡ f a rest
  unfolding ◌>>=◌
  bind-got f a e = rw (◌>>=◌, e)

  pub bind-stuck : (f : A → Reader B) → r t ≡ stuck rest → (r >>= f) t ≡ stuck rest
  unfolding ◌>>=◌
  bind-stuck f e = rw (◌>>=◌, e)

module _ {A B : Type 0} (r : Reader A) (t : List ℕ) where
  -- A reader that gave a value had one from the reader that it begins with.
  pub bind-inside : (f : A → Reader B) (b : B) (rest : List ℕ) → (r >>= f) t ≡ got b rest → (a : A) × (u : List ℕ) × (r t ≡ got a u) × (f a u ≡ got b rest)
  bind-inside f b rest e = by_reading (r t)
      (λ u h. let s : (r >>= f) t ≡ stuck u = bind-stuck r t u f h in let z : ◌≡◌ {A = ℕ} 0 1 = cc in absurd (omega arith))
      (λ a u h. (a, u, h, sym (bind-got r t u f a h) ∙ e))

  -- What comes after matters only on what was read.
  pub bind-same : (f g : A → Reader B) → ((a : A) (u : List ℕ) → r t ≡ got a u → f a u ≡ g a u) → (r >>= f) t ≡ (r >>= g) t
  bind-same f g h = by_reading (r t) (λ u e. bind-stuck r t u f e ∙ sym (bind-stuck r t u g e))
      (λ a u e. bind-got r t u f a e ∙ h a u e ∙ sym (bind-got r t u g a e))

  pub then_same : (p q : Reader B) → ((a : A) (u : List ℕ) → r t ≡ got a u → p u ≡ q u) → (r >> p) t ≡ (r >> q) t
  unfolding ◌>>◌ ◌>>=◌
  then_same p q h = bind-same (λ a. p) (λ a. q) h

bind-on : {A B : Type 0} (r s : Reader A) (t u : List ℕ) (f : A → Reader B) → r t ≡ s u → (r >>= f) t ≡ (s >>= f) u
unfolding ◌>>=◌
bind-on r s t u f e = rw (◌>>=◌, e)

-- Three readers one after another, grouped either way.
module _ {A B C : Type 0} (r : Reader A) (g : B → Reader C) (t : List ℕ) where
  pub bind_assoc : (f : A → Reader B) → ((r >>= f) >>= g) t ≡ (r >>= λ a. f a >>= g) t
  bind_assoc f = by_reading (r t)
      (λ u e. bind-stuck (r >>= f) t u g (bind-stuck r t u f e) ∙ sym (bind-stuck r t u (λ a. f a >>= g) e))
      (λ a u e. bind-on (r >>= f) (f a) t u g (bind-got r t u f a e) ∙ sym (bind-got r t u (λ a. f a >>= g) a e))

  pub then_assoc : (s : Reader B) → ((r >> s) >>= g) t ≡ (r >> (s >>= g)) t
  unfolding ◌>>◌ ◌>>=◌
  then_assoc s = bind_assoc (λ a. s)

module _ (test : ℕ → Bool) (b : ℕ) (t : List ℕ) where
  byte_yes : test b ≡ true → byte_that test (b ∷ t) ≡ got b t
  unfolding byte_that
  byte_yes e = rw (byte_that, e)

  byte_no : test b ≡ false → byte_that test (b ∷ t) ≡ stuck (b ∷ t)
  unfolding byte_that
  byte_no e = rw (byte_that, e)

byte-none : (test : ℕ → Bool) → byte_that test [] ≡ stuck []
unfolding byte_that
byte-none test = refl

-- ---- words

pub word-nil : (t : List ℕ) → word [] t ≡ got tt t
unfolding word pure
word-nil t = refl

word-cons : (c : ℕ) (cs t : List ℕ) → word (c ∷ cs) t ≡ (byte_that (eqb c) >> word cs) t
unfolding word
word-cons c cs t = refl

pub word_yes : (c : ℕ) (cs t : List ℕ) → byte_next c t ≡ true → word (c ∷ cs) t ≡ word cs (drop 1 t)
unfolding byte_next
word_yes c cs [] e = absurd (true≢false (sym e))
word_yes c cs (b ∷ t) e = word-cons c cs (b ∷ t) ∙ then-got (byte_that (eqb c)) (b ∷ t) t (word cs) b (byte_yes (eqb c) b t e)

pub word_no : (c : ℕ) (cs t : List ℕ) → byte_next c t ≡ false → word (c ∷ cs) t ≡ stuck t
unfolding byte_next
word_no c cs [] e = word-cons c cs [] ∙ then-stuck (byte_that (eqb c)) [] [] (word cs) (byte-none (eqb c))
word_no c cs (b ∷ t) e = word-cons c cs (b ∷ t) ∙ then-stuck (byte_that (eqb c)) (b ∷ t) (b ∷ t) (word cs) (byte_no (eqb c) b t e)

-- ---- numbers

module _ (test : ℕ → Bool) (x : ℕ) where
  pub more-none : (t : List ℕ) → more_digits_of test 0 x t ≡ got x t
  unfolding more_digits_of
  more-none t = refl

  pub more_stop : (k : ℕ) (t : List ℕ) → digit_next t ≡ false → more_digits_of test k x t ≡ got x t
  unfolding more_digits_of digit_next
  more_stop zero t e = refl
  more_stop (suc k) [] e = refl
  more_stop (suc k) (b ∷ t) e = rw (more_digits_of, e)

  module _ (k : ℕ) {text : List ℕ} {at digit : ℕ} (d : NextDigit text at digit) where
    pub more-step : test (x * 10 + digit) ≡ true
        → more_digits_of test (suc k) x (drop at text) ≡ more_digits_of test k (x * 10 + digit) (drop (at + 1) text)
    unfolding more_digits_of digit_value_of
    more-step e =
        let h = rw d.value at e in
        rw (d.value, drop-cons text at 0 d.here.inside, more_digits_of, d.here.digit, h, add-one)

    pub more_over : test (x * 10 + digit) ≡ false → more_digits_of test (suc k) x (drop at text) ≡ got x (drop at text)
    unfolding more_digits_of digit_value_of
    more_over e = let h = rw d.value at e in rw (drop-cons text at 0 d.here.inside, more_digits_of, d.here.digit, h)

-- ---- a number by its first digit

-- The value of a first digit passes a test, as the reader of a number or of a side has it.
abbrev starts_by : (ℕ → Bool) → ℕ → Bool
starts_by test b = is_digit b && test (b - 48)

module _ (test : ℕ → Bool) where
  starts_none : (t : List ℕ) → digit_next t ≡ false → byte_that (starts_by test) t ≡ stuck t
  unfolding digit_next
  starts_none [] e = byte-none (starts_by test)
  starts_none (b ∷ t) e = byte_no (starts_by test) b t (rw e)

  module _ {text : List ℕ} {at : ℕ} (d : DigitAt text at) where
    starts_no : test (get_or text at 0 - 48) ≡ false → byte_that (starts_by test) (drop at text) ≡ stuck (drop at text)
    starts_no e = rw (drop-cons text at 0 d.inside) (byte_no (starts_by test) (get_or text at 0) (drop (suc at) text) (rw (d.digit, e)))

    starts_yes : test (get_or text at 0 - 48) ≡ true → byte_that (starts_by test) (drop at text) ≡ got (get_or text at 0) (drop (at + 1) text)
    starts_yes e = rw (drop-cons text at 0 d.inside, add-one) (byte_yes (starts_by test) (get_or text at 0) (drop (suc at) text) (rw (d.digit, e)))

-- The first digit decides how many may follow.
abbrev after_first : ℕ → Reader ℕ
after_first b = more_digits_of always (cond (eqb (b - 48) 0) 0 (max_digits - 1)) (b - 48)

module _ (low : ℕ) where
  number_is : (t : List ℕ) → number_from low t ≡ (byte_that (starts_by (leb low)) >>= after_first) t
  unfolding number_from digit_value_of
  number_is t = refl

  pub number-stuck : (t : List ℕ) → digit_next t ≡ false → number_from low t ≡ stuck t
  number-stuck t e = number_is t ∙ bind-stuck (byte_that (starts_by (leb low))) t t after_first (starts_none (leb low) t e)

  module _ {text : List ℕ} {at digit : ℕ} (d : NextDigit text at digit) where
    pub number-low : digit < low → number_from low (drop at text) ≡ stuck (drop at text)
    number-low p =
        number_is _ ∙ bind-stuck (byte_that (starts_by (leb low))) (drop at text) (drop at text) after_first
        (starts_no (leb low) d.here (lt-leb low _ (rw d.value at p)))

    first-digit : low ≤ digit → number_from low (drop at text)
        ≡ more_digits_of always (cond (eqb digit 0) 0 (max_digits - 1)) digit (drop (at + 1) text)
    first-digit p = rw d.value (number_is _
        ∙ bind-got (byte_that (starts_by (leb low))) (drop at text) (drop (at + 1) text) after_first (get_or text at 0)
        (starts_yes (leb low) d.here (le-leb low _ (rw d.value at p))))

    pub number-zero : low ≤ digit → digit ≡ 0 → number_from low (drop at text) ≡ got 0 (drop (at + 1) text)
    number-zero p e = first-digit p ∙ (rw e (more-none always 0 (drop (at + 1) text)))

    pub number_more : low ≤ digit → (digit ≡ 0 → ⊥)
        → number_from low (drop at text) ≡ more_digits_of always (max_digits - 1) digit (drop (at + 1) text)
    number_more p n = first-digit p ∙ (rw (ne_eqb digit 0 n))

-- ---- the value of digits

pub value-next : (x d k : ℕ) → x < 10 ^ k → d ≤ 9 → x * 10 + d < 10 ^ (k + 1)
value-next x d k p q = rw (add-one) (omega (arith, pow-suc 10 k))

-- A value of k digits is one of at most n.
pub value-fits : (x k n : ℕ) → x < 10 ^ k → k ≤ n → x < 10 ^ n
value-fits x k n p q = lt_of_lt_of_le p (pow-le-pow_right (omega arith) q)

-- ---- a number, and the byte that ends it

module _ {A : Type 0} where
  unfoldable pub end_reading : ℕ → Reading A → Reading A
  end_reading end (stuck rest) = stuck rest
  end_reading end (got x t) = elim (byte_next end t) [
    | true ↦ got x (drop 1 t)
    | false ↦ stuck t
  ]

module _ {A : Type 0} (end : ℕ) where
  pub end-stuck : (rest : List ℕ) → end_reading {A = A} end (stuck rest) ≡ stuck rest
  unfolding end_reading
  end-stuck rest = refl

  pub end_no : (x : A) (t : List ℕ) → byte_next end t ≡ false → end_reading end (got x t) ≡ stuck t
  unfolding end_reading
  end_no x t e = rw (end_reading, e)

  pub end_yes : (x : A) (t : List ℕ) → byte_next end t ≡ true → end_reading end (got x t) ≡ got x (drop 1 t)
  unfolding end_reading
  end_yes x t e = rw (end_reading, e)

-- A word of one byte, and then what comes after it.
module _ {B : Type 0} (c : ℕ) (s : Reader B) (t : List ℕ) where
  pub one_no : byte_next c t ≡ false → (word (c ∷ []) >> s) t ≡ stuck t
  one_no e = then-stuck (word (c ∷ [])) t t s (word_no c [] t e)

  pub one_yes : byte_next c t ≡ true → (word (c ∷ []) >> s) t ≡ s (drop 1 t)
  one_yes e = then-got (word (c ∷ [])) t (drop 1 t) s tt (word_yes c [] t e ∙ word-nil (drop 1 t))

module _ {A : Type 0} where
  -- What the grammar closes by a byte is what ends with it.
  pub closed-end : (c : ℕ) (r : Reader A) (t : List ℕ) → closed_by c r t ≡ end_reading c (r t)
  unfolding closed_by pure
  closed-end c r t = by_reading (r t)
      (λ u e. rw e (bind-stuck r t u _ e ∙ sym (end-stuck c u)))
      (λ x u e. rw e (bind-got r t u _ x e ∙ by_test (byte_next c u)
      (λ b. one_yes c (pure x) u b ∙ sym (end_yes c x u b))
      (λ b. one_no c (pure x) u b ∙ sym (end_no c x u b))))

  pub line-end : (r : Reader A) (t : List ℕ) → line r t ≡ end_reading 10 (r t)
  unfolding line closed_by bytes
  line-end r t = closed-end 10 r t

-- ---- sides, which are no greater than `most`

module _ (most : ℕ) where
  abbrev after_side : ℕ → Reader ℕ
  after_side b = more_digits_of (within 1 most) 1 (b - 48)

  side-is : (t : List ℕ) → side most t ≡ (byte_that (starts_by (within 1 most)) >>= after_side) t
  unfolding side digit_value_of
  side-is t = refl

  pub side-stuck : (t : List ℕ) → digit_next t ≡ false → side most t ≡ stuck t
  side-stuck t e = side-is t ∙ bind-stuck (byte_that (starts_by (within 1 most))) t t after_side (starts_none (within 1 most) t e)

  module _ {text : List ℕ} {at digit : ℕ} (d : NextDigit text at digit) where
    pub side-zero : digit ≡ 0 → side most (drop at text) ≡ stuck (drop at text)
    side-zero e = side-is _
        ∙ bind-stuck (byte_that (starts_by (within 1 most))) (drop at text) (drop at text) after_side
        (starts_no (within 1 most) d.here (within_low 1 most (get_or text at 0 - 48) (omega (arith, d.value))))

    -- A first digit other than 0 is a side, since limits are no less than 9.
    pub side-more : 9 ≤ most → (digit ≡ 0 → ⊥)
        → side most (drop at text) ≡ more_digits_of (within 1 most) 1 digit (drop (at + 1) text)
    side-more low n =
        let value : digit ≡ get_or text at 0 - 48 = d.value in
        let first : within 1 most (get_or text at 0 - 48) ≡ true =
        true-within 1 most (get_or text at 0 - 48) (omega arith) (omega (arith, d.here.high)) in
        rw value (side-is _
        ∙ bind-got (byte_that (starts_by (within 1 most))) (drop at text) (drop (at + 1) text) after_side (get_or text at 0)
        (starts_yes (within 1 most) d.here first))

-- ---- a side that was read is within its limits

module _ (test : ℕ → Bool) where
  starts_got : (t : List ℕ) (b : ℕ) (rest : List ℕ) → byte_that (starts_by test) t ≡ got b rest → starts_by test b ≡ true
  starts_got [] b rest e = let s = byte-none (starts_by test) in let z : ◌≡◌ {A = ℕ} 0 1 = cc in absurd (omega arith)
  starts_got (c ∷ t) b rest e = by_test (starts_by test c)
      (λ h. let s = byte_yes (starts_by test) c t h in let z : c ≡ b = cc in rw z at h)
      (λ h. let s = byte_no (starts_by test) c t h in let z : ◌≡◌ {A = ℕ} 0 1 = cc in absurd (omega arith))

-- What more digits make of a number passes the test that it passed.
more-passes : (test : ℕ → Bool) (k x : ℕ) (t : List ℕ) (m : ℕ) (rest : List ℕ) → test x ≡ true → more_digits_of test k x t ≡ got m rest → test m ≡ true
unfolding more_digits_of
more-passes test zero x t m rest p e = let z : x ≡ m = cc in rw z at p
more-passes test (suc k) x [] m rest p e = let z : x ≡ m = cc in rw z at p
more-passes test (suc k) x (b ∷ t) m rest p e = by_test (is_digit b && test (x * 10 + digit_value_of b))
    (λ h.
    let s : more_digits_of test (suc k) x (b ∷ t) ≡ more_digits_of test k (x * 10 + digit_value_of b) t = rw (more_digits_of, h) in
    more-passes test k (x * 10 + digit_value_of b) t m rest (and_right (is_digit b) (test (x * 10 + digit_value_of b)) h) (sym s ∙ e))
    (λ h.
    let s : more_digits_of test (suc k) x (b ∷ t) ≡ got x (b ∷ t) = rw (more_digits_of, h) in let z : x ≡ m = cc in rw z at p)

side-within : (most m : ℕ) (rest t : List ℕ) → side most t ≡ got m rest → within 1 most m ≡ true
side-within most m rest t e =
    let a = bind-inside (byte_that (starts_by (within 1 most))) t (after_side most) m rest (sym (side-is most t) ∙ e) in
    let first = and_right (is_digit a.0) (within 1 most (a.0 - 48)) (starts_got (within 1 most) t a.0 a.1 a.2) in
    more-passes (within 1 most) 1 (a.0 - 48) a.1 m rest first a.3

-- The value is the number's, whatever ends it.
end-value : (m : ℕ) (rest : List ℕ) (end : ℕ) (r : Reading ℕ) → end_reading end r ≡ got m rest → (u : List ℕ) × (r ≡ got m u)
unfolding end_reading
end-value m rest end (stuck u) e = let z : ◌≡◌ {A = ℕ} 0 1 = cc in absurd (omega arith)
end-value m rest end (got x u) e = by_test (byte_next end u)
    (λ h. let s : end_reading end (got x u) ≡ got x (drop 1 u) = end_yes end x u h in let z : x ≡ m = cc in (u, rw z))
    (λ h. let s : end_reading end (got x u) ≡ stuck u = end_no end x u h in let z : ◌≡◌ {A = ℕ} 0 1 = cc in absurd (omega arith))

pub line-side-within : (most m : ℕ) (rest t : List ℕ) → line (side most) t ≡ got m rest → within 1 most m ≡ true
line-side-within most m rest t e =
    let v = end-value m rest 10 (side most t) (sym (line-end (side most) t) ∙ e) in
    side-within most m v.0 t v.1

-- ---- kinds of bytes

module _ (b : ℕ) where
  pub kind_digit : 48 ≤ b → b ≤ 57 → kind_of b ≡ Digit
  unfolding kind_of
  kind_digit p q = rw (kind_of, true-within 48 57 b p q)

  pub kind_letter : 97 ≤ b → b ≤ 122 → kind_of b ≡ Letter
  unfolding kind_of
  kind_letter p q = rw (kind_of, within-high 48 57 b (omega arith), ne_eqb b 32 (λ e. omega arith), ne_eqb b 10 (λ e. omega arith), true-within 97 122 b p q)

  pub kind_other : within 48 57 b ≡ false → (b ≡ 32 → ⊥) → (b ≡ 10 → ⊥) → within 97 122 b ≡ false → kind_of b ≡ Other
  unfolding kind_of
  kind_other d s e l = rw (kind_of, d, ne_eqb b 32 s, ne_eqb b 10 e, l)

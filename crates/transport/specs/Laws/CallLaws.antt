-- Laws of Calls: the value or the first refusal, what a lent list then holds, and rooms.
use Rattle.std.specs.Prelude.{None, ◌≡◌, ◌↔◌, ◌||◌, ◌∷◌, ◌++◌, ◌*◌, ◌≤◌, ◌<◌}
use Rattle.prelude.specs.Words.{refl, sym, ◌∙◌, ap, Bool, true, false, true≢false, List, [], none, some, ℕ, arith}
use Rattle.prelude.specs.Words.{ltb-false, lt-ltb, le-ltb, length, drop, by_test, by_option, some≢none}
use Rattle.transport.specs.Refusals.{Refusal, place_of}
use Rattle.transport.specs.Sheet.{Sheet, roasteries, cafes, refusal}
use Rattle.transport.specs.Laws.SheetLaws.{refusal_yes, refusal_no, refusal-clear, refusal-pass, refusal-stands}
use Rattle.transport.specs.Calls.{refused, given, unless, lent_after, too_short, Solution}

-- ---- answers

pub refused≢given : {A : Type 0} {r : Refusal} {a : A} → refused r ≡ given a → ⊥
refused≢given e = let n : ◌≡◌ {A = ℕ} 0 1 = cc in omega arith

-- ---- the value, unless a test refuses

module _ {A : Type 0} (tests : List (Bool × Refusal)) (x : A) where
  pub unless-given : refusal tests ≡ none → unless tests x ≡ given x
  unfolding unless
  unless-given e = rw (e, unless)

  pub unless-refused : (k : Refusal) → refusal tests ≡ some k → unless tests x ≡ refused k
  unfolding unless
  unless-refused k e = rw (e, unless)

  pub unless-given_iff : (y : A) → (unless tests x ≡ given y) ↔ (refusal tests ≡ none) × (y ≡ x)
  unless-given_iff y = (
    (λ f. by_option (refusal tests) (λ e. (e, let same : y ≡ x = cc (unless-given e) in same))
        (λ k e. absurd (refused≢given (sym (unless-refused k e) ∙ f)))),
    (λ h. unless-given h.0 ∙ ap given (sym h.1)),
  )

  -- A refusal is one of the tests'.
  pub unless_refusal : (r : Refusal) → unless tests x ≡ refused r → refusal tests ≡ some r
  unless_refusal r f = by_option (refusal tests) (λ e. absurd (refused≢given (sym f ∙ unless-given e))) (λ k e.
      let same : k ≡ r = cc (unless-refused k e, f) in e ∙ ap some same)

-- ---- tests whose refusals have no place

-- A refusal that comes with no place.
pub record Placeless : Type 0 where
  pub reason : Refusal
  pub no_place : place_of reason ≡ None

-- The tests by their refusals alone.
unfoldable pub by_reasons : List (Bool × Placeless) → List (Bool × Refusal)
by_reasons [] = []
by_reasons (t ∷ ts) = (t.0, t.1.reason) ∷ by_reasons ts

-- What such a test refuses by has no place ..
pub refusal-placeless : (ts : List (Bool × Placeless)) (r : Refusal) → refusal (by_reasons ts) ≡ some r
    → place_of r ≡ None
unfolding refusal by_reasons
refusal-placeless [] r e = absurd (some≢none (sym e))
refusal-placeless (t ∷ ts) r e = by_test t.0
    (λ y.
    let same : t.1.reason ≡ r = cc (refusal_yes (t.0, t.1.reason) (by_reasons ts) y, e) in
    sym (ap place_of same) ∙ t.1.no_place)
    (λ n. refusal-placeless ts r (sym (refusal_no (t.0, t.1.reason) (by_reasons ts) n) ∙ e))

-- .. and so what they refuse a value by.
module _ {A : Type 0} (tests : List (Bool × Placeless)) (x : A) where
  pub unless_placeless : (r : Refusal) → unless (by_reasons tests) x ≡ refused r → place_of r ≡ None
  unless_placeless r f = refusal-placeless tests r (unless_refusal (by_reasons tests) x r f)

-- ---- one test more at the end

module _ (ts : List (Bool × Refusal)) (t : Bool × Refusal) where
  pub refusal-last : (refusal (ts ++ (t ∷ [])) ≡ none) ↔ (refusal ts ≡ none) × (t.0 ≡ false)
  unfolding refusal
  refusal-last = (
    (λ f. by_option (refusal ts) (λ e. (e, (refusal-clear t [] (sym (refusal-pass ts (t ∷ []) e) ∙ f)).0))
        (λ k e. absurd (some≢none (sym (refusal-stands ts (t ∷ []) k e) ∙ f)))),
    (λ h. refusal-pass ts (t ∷ []) h.0 ∙ refusal_no t [] h.1),
  )

module _ {A : Type 0} (tests : List (Bool × Refusal)) (last : Bool) (r : Refusal) (x : A) where
  pub unless-before : (k : Refusal) → refusal tests ≡ some k → unless (tests ++ ((last, r) ∷ [])) x ≡ refused k
  unless-before k e = unless-refused (tests ++ ((last, r) ∷ [])) x k (refusal-stands tests ((last, r) ∷ []) k e)

  pub unless-last : refusal tests ≡ none → last ≡ true → unless (tests ++ ((last, r) ∷ [])) x ≡ refused r
  unless-last e t =
      unless-refused (tests ++ ((last, r) ∷ [])) x r (refusal-pass tests ((last, r) ∷ []) e ∙ refusal_yes (last, r) [] t)

  pub unless-none : refusal tests ≡ none → last ≡ false → unless (tests ++ ((last, r) ∷ [])) x ≡ given x
  unless-none e t = unless-given (tests ++ ((last, r) ∷ [])) x ((refusal-last tests (last, r)).1 (e, t))

-- ---- lent lists

module _ {A B : Type 0} (part : A → List B) where
  pub lent-refused : (k : Refusal) (old : List B) → lent_after part (refused k) old ≡ old
  unfolding lent_after
  lent-refused k old = refl

  pub lent-given : (x : A) (old : List B) → lent_after part (given x) old ≡ part x ++ drop (length (part x)) old
  unfolding lent_after
  lent-given x old = refl

-- ---- rooms

pub room_iff : (room needed : ℕ) → (too_short room needed ≡ false) ↔ (needed ≤ room)
unfolding too_short
room_iff room needed = (ltb-false room needed, le-ltb room needed)

pub short_yes : (room needed : ℕ) → room < needed → too_short room needed ≡ true
unfolding too_short
short_yes room needed p = lt-ltb room needed p

pub short_no : (room needed : ℕ) → needed ≤ room → too_short room needed ≡ false
short_no room needed p = (room_iff room needed).1 p

or-false_iff : (a b : Bool) → (a || b ≡ false) ↔ (a ≡ false) × (b ≡ false)
or-false_iff true b = (λ e. absurd (true≢false e), λ h. h.0)
or-false_iff false b = (λ e. (refl, e), λ h. h.1)

-- Three lent lists.
pub rooms_iff : (a x b y c z : ℕ) → (too_short a x || too_short b y || too_short c z ≡ false) ↔ (x ≤ a) × (y ≤ b) × (z ≤ c)
rooms_iff a x b y c z = (
  λ e.
      let h = (or-false_iff (too_short a x || too_short b y) (too_short c z)).0 e in
      let k = (or-false_iff (too_short a x) (too_short b y)).0 h.0 in
      ((room_iff a x).0 k.0, (room_iff b y).0 k.1, (room_iff c z).0 h.1),
  λ h.
      (or-false_iff (too_short a x || too_short b y) (too_short c z)).1
      ((or-false_iff (too_short a x) (too_short b y)).1 ((room_iff a x).1 h.0, (room_iff b y).1 h.1), (room_iff c z).1 h.2),
)

-- The solution fills m, n and m × n places of the lent lists.
pub record Fills (S : Sheet) (s : Solution) : Type 0 where
  pub u : length s.u ≡ roasteries S
  pub v : length s.v ≡ cafes S
  pub plan : length s.plan ≡ roasteries S * cafes S

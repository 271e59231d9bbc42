-- What a test or an option decides.
use Rattle.std.specs.Prelude.{◌≡◌, refl, Bool, true, false, ℕ}
use Rattle.std.proofs.Common.{sym, ◌∙◌, true≢false, arith}
use Rattle.std.proofs.Math.Option.{Option, some, none}

-- A statement that holds whichever way a test goes ..
pub by_test : {P : Type 0} (b : Bool) → (b ≡ true → P) → (b ≡ false → P) → P
by_test true here there = here refl
by_test false here there = there refl

-- .. or whatever an option has.
pub by_option : {A P : Type 0} (o : Option A) → (o ≡ none → P) → ((x : A) → o ≡ some x → P) → P
by_option none here there = here refl
by_option (some x) here there = there x refl

-- No test goes both ways.
pub clash : {P : Type 0} {b : Bool} → b ≡ true → b ≡ false → P
clash e f = absurd (true≢false (sym e ∙ f))

-- Something is not nothing.
pub some≢none : {A : Type 0} {a : A} → some a ≡ none → ⊥
some≢none e = let z : ◌≡◌ {A = ℕ} 0 1 = cc in omega arith

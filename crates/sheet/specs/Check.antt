-- The answer of the sheet check.
use Rattle.std.specs.Prelude.{◌≡◌, Ok, Err, ⊤}
use Rattle.std.specs.declared.result.Result.{Result}
use Rattle.prelude.specs.Words.{refl, Option, none, some, ℕ, arith}
use Rattle.transport.specs.declared.Refusal.{Refusal}

-- The answer for what the tests refuse: nothing, or a refusal.
unfoldable pub check_answer : Option Refusal → Result ⊤ Refusal
check_answer none = Ok tt
check_answer (some r) = Err r

-- Accepted exactly where nothing is refused, and refused with the test's refusal.
pub check-none : check_answer none ≡ Ok tt
unfolding check_answer
check-none = refl

pub check-some : (r : Refusal) → check_answer (some r) ≡ Err r
unfolding check_answer
check-some r = refl

pub accepted-none : (o : Option Refusal) → check_answer o ≡ Ok tt → o ≡ none
unfolding check_answer
accepted-none none e = refl
accepted-none (some k) e = let z : ◌≡◌ {A = ℕ} 0 1 = cc in absurd (omega arith)

pub refused-some : (o : Option Refusal) (r : Refusal) → check_answer o ≡ Err r → o ≡ some r
unfolding check_answer
refused-some none r e = let z : ◌≡◌ {A = ℕ} 0 1 = cc in absurd (omega arith)
refused-some (some j) r e = let z : j ≡ r = cc in rw z

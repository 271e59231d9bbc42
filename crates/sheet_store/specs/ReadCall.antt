-- Read sheet: a sheet that was read and is stored, and the call case by case.
use Rattle.std.specs.Prelude.{Ok, Err, ◌↔◌, ◌≡◌, ◌*◌, ◌-◌, ◌≤◌, ◌&&◌, ◌||◌}
use Rattle.prelude.specs.Words.{refl, List, ℕ, arith, Bool, true, false, and-eq-true_iff, none, some}
use Rattle.prelude.specs.Words.{ℤ, length, drop, length-drop, by_test}
use Rattle.std.specs.declared.result.Result.{Result}
use Rattle.transport.specs.declared.Counts.{Counts}
use Rattle.transport.specs.declared.Refusal.{Refusal}
use Rattle.transport.specs.Sheet.{Sheet as SheetRecord, roasteries, cafes, refusal, number_tests}
use Rattle.transport.specs.Calls.{Answer, refused, given, unless, lent_after, too_short}
use Rattle.transport.specs.Answers.{result_of, counts_of, read_answer}
use Rattle.transport.specs.SheetText.{stuck, got, sheet_reader, read_with, read_tests, read_sheet_call}
use Rattle.transport.specs.Laws.CallLaws.{unless-before, unless-last, unless-none, rooms_iff}
use Rattle.decimals.specs.Front.{front}

-- ---- rooms

pub all_fit : (a b c : Bool) → a && b && c ≡ true → (a ≡ true) × (b ≡ true) × (c ≡ true)
all_fit a b c e =
    let h = (and-eq-true_iff (a && b) c).0 e in
    let k = (and-eq-true_iff a b).0 h.0 in
    (k.0, k.1, h.1)

-- ---- a sheet that was read

-- The answer, and what the lent lists then hold.
abbrev Filled : Answer SheetRecord → List ℕ → List ℕ → List ℤ → Result Counts Refusal → List ℕ → List ℕ → List ℤ → Type 0
Filled a supply demand cost r supplyAfter demandAfter costAfter =
    (r ≡ read_answer a)
    × (supplyAfter ≡ lent_after (λ S. S.supply) a supply)
    × (demandAfter ≡ lent_after (λ S. S.demand) a demand)
    × (costAfter ≡ lent_after (λ S. S.cost) a cost)

abbrev Stored : SheetRecord → List ℕ → List ℕ → List ℤ → Result Counts Refusal → List ℕ → List ℕ → List ℤ → Type 0
Stored S supply demand cost = Filled (unless (read_tests (length supply) (length demand) (length cost) S) S) supply demand cost

module _ (supply demand : List ℕ) (cost : List ℤ) where
  filled-refused : (a : Answer SheetRecord) (k : Refusal) → a ≡ refused k → Filled a supply demand cost (Err k) supply demand cost
  unfolding read_answer result_of lent_after
  filled-refused a k e = rw e (refl, refl, refl, refl)

  filled-given : (a : Answer SheetRecord) (S : SheetRecord) → a ≡ given S → Filled a supply demand cost
      (Ok (record { sources = length S.supply; sinks = length S.demand })) (front S.supply supply) (front S.demand demand) (front S.cost cost)
  unfolding read_answer result_of counts_of lent_after front roasteries cafes
  filled-given a S e = rw e (refl, refl, refl, refl)

  module _ (S : SheetRecord) where
    abbrev tight : Bool
    tight = too_short (length supply) (roasteries S) || too_short (length demand) (cafes S) || too_short (length cost) (roasteries S * cafes S)

    pub stored_number : (k : Refusal) → refusal (number_tests S) ≡ some k → Stored S supply demand cost (Err k) supply demand cost
    unfolding read_tests
    stored_number k e = filled-refused _ k (unless-before (number_tests S) tight Refusal.TooShort S k e)

    -- Each lent list has room for the sheet's.
    abbrev pub Roomy : Type 0
    Roomy = (length S.supply ≤ length supply) × (length S.demand ≤ length demand) × (length S.cost ≤ length cost)

    module _ (e : refusal (number_tests S) ≡ none) (whole : length S.cost ≡ length S.supply * length S.demand) where
      tight_no : (tight ≡ false) ↔ Roomy
      unfolding roasteries cafes
      tight_no = rw (← whole) (rooms_iff (length supply) (length S.supply) (length demand) (length S.demand) (length cost) (length S.cost))

      pub stored_tight : ¬ Roomy → Stored S supply demand cost (Err Refusal.TooShort) supply demand cost
      unfolding read_tests
      stored_tight f = filled-refused _ Refusal.TooShort (unless-last (number_tests S) tight Refusal.TooShort S e
          (by_test tight (λ y. y) (λ n. absurd (f (tight_no.0 n)))))

      pub stored_given : Roomy → Stored S supply demand cost (Ok (record { sources = length S.supply; sinks = length S.demand }))
          (front S.supply supply) (front S.demand demand) (front S.cost cost)
      unfolding read_tests
      stored_given f = filled-given _ S (unless-none (number_tests S) tight Refusal.TooShort S e (tight_no.1 f))

-- ---- the call

module _ (text : List ℕ) (a b c : ℕ) where
  call-stuck : (place : ℕ) → place ≤ length text → sheet_reader text ≡ stuck (drop place text) → read_sheet_call text a b c
      ≡ refused (Refusal.NotSheetText place)
  unfolding read_sheet_call read_with
  call-stuck place p e = let n : length text - length (drop place text) ≡ place = omega (arith, length-drop place text) in rw (read_with, e, n)

  call-got : (S : SheetRecord) (rest : List ℕ) → sheet_reader text ≡ got S rest → read_sheet_call text a b c ≡ unless (read_tests a b c S) S
  unfolding read_sheet_call read_with
  call-got S rest e = rw (read_with, e)

module _ (text supply demand : List ℕ) (cost : List ℤ) where
  -- What the call answers, and what it leaves in the lent lists.
  abbrev pub Read : Result Counts Refusal → List ℕ → List ℕ → List ℤ → Type 0
  Read = Filled (read_sheet_call text (length supply) (length demand) (length cost)) supply demand cost

  pub read_stuck : (place : ℕ) → place ≤ length text → sheet_reader text ≡ stuck (drop place text) → Read (Err (Refusal.NotSheetText place)) supply demand cost
  unfolding read_answer result_of counts_of lent_after
  read_stuck place p e = rw (call-stuck text (length supply) (length demand) (length cost) place p e) (refl, refl, refl, refl)

  pub read_got : (S : SheetRecord) (rest : List ℕ) → sheet_reader text ≡ got S rest → (r : Result Counts Refusal) (s d : List ℕ) (c : List ℤ)
      → Stored S supply demand cost r s d c → Read r s d c
  read_got S rest e r s d c h = rw (call-got text (length supply) (length demand) (length cost) S rest e) h

-- Read sheet and write sheet: when they succeed, that they undo each other, and what refusal 9 says.
use Rattle.std.specs.Prelude.{is_none, ◌≡◌, ◌↔◌, ◌||◌, ◌⊎◌, ◌*◌, ◌-◌, ◌≤◌}
use Rattle.prelude.specs.Words.{refl, sym, ◌∙◌, ap, Bool, true, false, List, [], none, some, ℕ, suc, arith, mul-le-mul, dec_le, length}
use Rattle.prelude.specs.Words.{take, take_all, by_cases, inl, inr, ⊎_elim, true≢false}
use Rattle.transport.specs.Limits.{max_sources, max_sinks, max_text}
use Rattle.transport.specs.declared.Refusal.{Refusal}
use Rattle.transport.specs.Refusals.{place_of}
use Rattle.transport.specs.Lists.{all}
use Rattle.transport.specs.Sheet.{Sheet, roasteries, cafes, refusal, sheet_tests, number_tests, bad_amount, bad_cost, lacking, crowded, idle}
use Rattle.transport.specs.Calls.{refused, given, unless, too_short}
use Rattle.transport.specs.SheetText.{stuck, got, sheet_text, sheet_reader, write_sheet_call, read_with, read_tests, read_sheet_call}
use Rattle.transport.specs.Laws.SheetLaws.{accepted, passes, refusal-other}
use Rattle.transport.specs.Statements.{Accepted, SheetTextOf, Place, Undo}
use Rattle.transport.specs.Laws.CallLaws.{refusal-last, unless-given_iff, unless_refusal, room_iff, rooms_iff, refused≢given}
use Rattle.transport.specs.Laws.CallLaws.{unless-refused, Placeless, by_reasons, refusal-placeless}
use Rattle.grammar.specs.Numbers.{within_iff}
use Rattle.grammar.specs.Exact.{stuck≢got, by_reading}
use Rattle.grammar.specs.Place.{reader_iff, place, place_unique, place-cut}
use Rattle.grammar.specs.Longest.{text-length}
use Rattle.grammar.specs.Refusals.{text-accepted, accepted-text}

-- ---- write sheet

-- Write sheet succeeds exactly if the sheet check accepts the sheet and the output is no shorter than the text, which it then gives.
write_sheet_iff : (S : Sheet) (room : ℕ) (text : List ℕ)
    → (write_sheet_call S room ≡ given text) ↔ Accepted S × (length (sheet_text S) ≤ room) × (text ≡ sheet_text S)
unfolding write_sheet_call
write_sheet_iff S room text = (
  λ e.
      let h = (unless-given_iff _ (sheet_text S) text).0 e in let k = (refusal-last (sheet_tests S) short).0 h.0 in
      (accepted S k.0, fits.0 k.1, h.1),
  λ h. (unless-given_iff _ (sheet_text S) text).1 ((refusal-last (sheet_tests S) short).1 (passes h.0, fits.1 h.1), h.2),
)
  where
    short : Bool × Refusal
    short = (too_short room (length (sheet_text S)), Refusal.TooShort)

    fits : (too_short room (length (sheet_text S)) ≡ false) ↔ (length (sheet_text S) ≤ room)
    fits = room_iff room (length (sheet_text S))

-- ---- read sheet

module _ (tests : Sheet → List (Bool × Refusal)) (text : List ℕ) where
  pub read_got : (S : Sheet) (rest : List ℕ) → sheet_reader text ≡ got S rest → read_with tests text ≡ unless (tests S) S
  unfolding read_with
  read_got S rest e = rw (e, read_with)

  pub read_stuck : (rest : List ℕ) → sheet_reader text ≡ stuck rest
      → read_with tests text ≡ refused (Refusal.NotSheetText (length text - length rest))
  unfolding read_with
  read_stuck rest e = rw (e, read_with)

  -- Of a sheet text, reading gives what the tests say of its sheet.
  pub read_text : (S : Sheet) → SheetTextOf S text → read_with tests text ≡ unless (tests S) S
  read_text S h = read_got S [] ((reader_iff text S []).1 (refl, h))

  -- Reading succeeds exactly on the text of a sheet that no test refuses.
  read_iff : (S : Sheet) → (read_with tests text ≡ given S) ↔ SheetTextOf S text × (refusal (tests S) ≡ none)
  read_iff S = (
    λ f. by_reading (sheet_reader text) (λ rest e. absurd (refused≢given (sym (read_stuck rest e) ∙ f)))
        (λ R rest e. let h = (unless-given_iff (tests R) R S).0 (sym (read_got R rest e) ∙ f) in rw h.1 (((reader_iff text R rest).0 e).1, h.0)),
    λ h. read_text S h.0 ∙ (unless-given_iff (tests S) S S).1 (h.1, refl),
  )

  -- A text that no sheet has is refused by 9 with its place (`Statements.Place`), whatever is
  -- tested ..
  pub nine_from : (p : ℕ) → ((S : Sheet) → SheetTextOf S text → ⊥) × Place text p
      → read_with tests text ≡ refused (Refusal.NotSheetText p)
  nine_from p (none_is, h) = by_reading (sheet_reader text)
      (λ rest e. rw (← place_unique text _ p (place text rest e) h) (read_stuck rest e))
      (λ R rest e. absurd (none_is R ((reader_iff text R rest).0 e).1))

  -- .. and no text besides, unless it is the text of a sheet that a test refuses so.
  pub nine_or : (p : ℕ)
      → (read_with tests text ≡ refused (Refusal.NotSheetText p))
      ↔ (((S : Sheet) → SheetTextOf S text → ⊥) × Place text p)
      ⊎ ((S : Sheet) × SheetTextOf S text × (refusal (tests S) ≡ some (Refusal.NotSheetText p)))
  nine_or p = (
    λ f. by_reading (sheet_reader text)
        (λ rest e.
        let same : length text - length rest ≡ p = cc (read_stuck rest e, f) in
        inl (λ S h. stuck≢got (sym e ∙ (reader_iff text S []).1 (refl, h)), rw same at (place text rest e)))
        (λ R rest e.
        inr (R, ((reader_iff text R rest).0 e).1, unless_refusal (tests R) R _ (sym (read_got R rest e) ∙ f))),
    λ h. ⊎_elim (nine_from p) (λ (S, h, e). read_text S h ∙ unless-refused (tests S) S _ e) h,
  )

  -- Where the tests refuse no sheet so, 9 comes exactly on a text that is no sheet text.
  pub nine_unless : ((S : Sheet) (p : ℕ) → refusal (tests S) ≡ some (Refusal.NotSheetText p) → ⊥) → (p : ℕ)
      → (read_with tests text ≡ refused (Refusal.NotSheetText p))
      ↔ ((S : Sheet) → SheetTextOf S text → ⊥) × Place text p
  nine_unless other p = (
    λ f. ⊎_elim (λ h. h) (λ (S, h, e). absurd (other S p e)) ((nine_or p).0 f),
    nine_from p,
  )

-- Reading gives refusal 9 exactly on a text that is no sheet text, and with it the place. The
-- refusals of the tests have none.
pub nine_iff : (tests : Sheet → List (Bool × Placeless)) (text : List ℕ) (p : ℕ)
    → (read_with (λ S. by_reasons (tests S)) text ≡ refused (Refusal.NotSheetText p))
    ↔ ((S : Sheet) → SheetTextOf S text → ⊥) × Place text p
nine_iff tests text = nine_unless (λ S. by_reasons (tests S)) text (λ S p e.
    true≢false (ap is_none (sym (refusal-placeless (tests S) (Refusal.NotSheetText p) e))))

-- Of read sheet, and of what the program reads.
pub read_nine : (text : List ℕ) (a b c p : ℕ)
    → (read_sheet_call text a b c ≡ refused (Refusal.NotSheetText p)) ↔ ((S : Sheet) → SheetTextOf S text → ⊥) × Place text p
unfolding read_sheet_call read_tests number_tests all bad_amount bad_cost lacking crowded idle
read_nine text a b c = nine_unless (read_tests a b c) text (λ S. refusal-other (read_tests a b c S) (others S))
  where
    others : (S : Sheet) → all (λ t. is_none (place_of t.1)) (read_tests a b c S) ≡ true
    others S = refl

pub shown_nine : (text : List ℕ) (p : ℕ)
    → (read_with number_tests text ≡ refused (Refusal.NotSheetText p)) ↔ ((S : Sheet) → SheetTextOf S text → ⊥) × Place text p
unfolding number_tests all bad_amount bad_cost lacking crowded idle
shown_nine text = nine_unless number_tests text (λ S. refusal-other (number_tests S) (others S))
  where
    others : (S : Sheet) → all (λ t. is_none (place_of t.1)) (number_tests S) ≡ true
    others S = refl

-- A text is read exactly if it is a sheet text, of a sheet within the limits that is neither lacking nor crowded, and the lent lists are long enough.
pub read_sheet_iff : (text : List ℕ) (a b c : ℕ) (S : Sheet) → (read_sheet_call text a b c ≡ given S)
    ↔ SheetTextOf S text × Accepted S × (roasteries S ≤ a) × (cafes S ≤ b) × (roasteries S * cafes S ≤ c)
unfolding read_sheet_call read_tests
read_sheet_iff text a b c S = (
  λ e.
      let h = (read_iff (read_tests a b c) text S).0 e in let k = (refusal-last (number_tests S) short).0 h.1 in let r = rooms.0 k.1 in
      (h.0, (text-accepted S h.0.sheet).0 k.0, r.0, r.1, r.2),
  λ h. (read_iff (read_tests a b c) text S).1
      (h.0, (refusal-last (number_tests S) short).1 ((text-accepted S h.0.sheet).1 h.1, rooms.1 (h.2, h.3, h.4))),
)
  where
    short : Bool × Refusal
    short = (too_short a (roasteries S) || too_short b (cafes S) || too_short c (roasteries S * cafes S), Refusal.TooShort)

    rooms : (short.0 ≡ false) ↔ (roasteries S ≤ a) × (cafes S ≤ b) × (roasteries S * cafes S ≤ c)
    rooms = rooms_iff a (roasteries S) b (cafes S) c (roasteries S * cafes S)

-- ---- both ways round

-- Writing and reading undo each other, with room for any sheet text and any sheet. No two texts are compared: the reader is exact (`Exact`), so it takes a text
-- with a sheet exactly if the text is that sheet's. What was written is the text of its sheet, hence read as that sheet; and what was read is the text of the
-- sheet that it gives, hence what is written of it.
pub undo : Undo (λ S. write_sheet_call S max_text) (λ text. read_sheet_call text max_sources max_sinks (max_sources * max_sinks))
undo = record {
  read_written = λ S text e.
      let h = (write_sheet_iff S max_text text).0 e in let t = accepted-text S h.0 in
      let m = ((within_iff 1 max_sources (roasteries S)).0 t.sides.0).1 in let n = ((within_iff 1 max_sinks (cafes S)).0 t.sides.1).1 in
      (read_sheet_iff text max_sources max_sinks (max_sources * max_sinks) S).1 (record { sheet = t; written = h.2 }, h.0, m, n, mul-le-mul m n);
  write_read = λ text S e.
      let h = (read_sheet_iff text max_sources max_sinks (max_sources * max_sinks) S).0 e in
      (write_sheet_iff S max_text text).1 (h.1, text-length S h.0.sheet, h.0.written);
}

-- ---- the first 9,757 bytes

-- What a text that is longer than any sheet text is refused by stands in its first 9,757 bytes: reading those gives the same answer as reading the whole.
pub read_cut : (tests : Sheet → List (Bool × Refusal)) (text : List ℕ) → read_with tests (take (suc max_text) text) ≡ read_with tests text
read_cut tests text = by_cases (dec_le (length text) (suc max_text)) (λ l. rw (take_all (suc max_text) text l)) (λ l. by_reading (sheet_reader text)
    (λ rest e. let h = place-cut text rest e (omega arith) in
    read_stuck tests (take (suc max_text) text) h.0 h.1 ∙ rw h.2 (sym (read_stuck tests text rest e)))
    (λ S rest e. let h = ((reader_iff text S rest).0 e).1 in absurd (omega (arith, ap length h.written, text-length S h.sheet))))

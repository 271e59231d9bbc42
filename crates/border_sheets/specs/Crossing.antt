-- The answers of start, read sheet and the two writers cross the border as Border says.
use Rattle.std.specs.Prelude.{◌≡◌, Ok, Err, Some, None, is_none}
use Rattle.std.specs.declared.result.Result.{Result}
use Rattle.std.specs.declared.option.Option.{Option}
use Rattle.std.specs.Option.{unwrap_or}
use Rattle.prelude.specs.Words.{refl, Bool, true, some, List, ℕ}
use Rattle.transport.specs.declared.Refusal.{Refusal}
use Rattle.transport.specs.Refusals.{number, place_of}
use Rattle.transport.specs.declared.Counts.{Counts}
use Rattle.transport.specs.declared.Tableau.{Tableau}
use Rattle.transport.specs.declared.Cell.{Cell}
use Rattle.transport.specs.Lists.{all}
use Rattle.transport.specs.Sheet.{Sheet, refusal}
use Rattle.transport.specs.Tableau.{no_tableau}
use Rattle.transport.specs.Calls.{Answer, refused, given, unless}
use Rattle.transport.specs.Laws.SheetLaws.{refusal-other}
use Rattle.transport.specs.Laws.CallLaws.{unless_refusal}
use Rattle.transport.specs.Answers.{result_of, counts_of, start_answer, read_answer, write_answer}
use Rattle.border.specs.declared.StartOut.{StartOut}
use Rattle.border.specs.declared.ReadOut.{ReadOut}
use Rattle.border.specs.declared.WriteOut.{WriteOut}
use Rattle.border.specs.Border.{start_out_of, read_out_of, write_out_of}

-- Where no test refuses by the place of a text, no refusal has one: of tests as they stand, where
-- `CallLaws.unless_placeless` has it of tests that are made so.
module _ {A : Type 0} (tests : List (Bool × Refusal)) (x : A)
    (other : all (λ t. is_none (place_of t.1)) tests ≡ true) where
  placeless : (r : Refusal) → refusal tests ≡ some r → place_of r ≡ None
  placeless Refusal.Sides e = refl
  placeless Refusal.CostCount e = refl
  placeless Refusal.Amount e = refl
  placeless Refusal.Cost e = refl
  placeless Refusal.Lacking e = refl
  placeless Refusal.NotBelonging e = refl
  placeless Refusal.Unfinished e = refl
  placeless Refusal.TooShort e = refl
  placeless (Refusal.NotSheetText p) e = absurd (refusal-other tests other p e)
  placeless Refusal.Crowded e = refl
  placeless Refusal.Idle e = refl
  placeless Refusal.BadEdit e = refl

  pub unless_placeless : (r : Refusal) → unless tests x ≡ refused r → place_of r ≡ None
  unless_placeless r f = placeless r (unless_refusal tests x r f)

abbrev pub started : Result Tableau Refusal → StartOut
started (Ok t) = record { refusal = 0; tableau = t }
started (Err r) = record { refusal = number r; tableau = no_tableau }

pub started-is : (a : Answer (List Cell)) → started (start_answer a) ≡ start_out_of a
unfolding start_answer result_of start_out_of
started-is (refused r) = refl
started-is (given T) = refl

abbrev pub read_as : Result Counts Refusal → ReadOut
read_as (Ok counts) = record { refusal = 0; sources = counts.sources; sinks = counts.sinks; place = 0 }
read_as (Err r) = record { refusal = number r; sources = 0; sinks = 0; place = unwrap_or (place_of r) 0 }

pub read_is : (a : Answer Sheet) → read_as (read_answer a) ≡ read_out_of a
unfolding read_answer result_of counts_of read_out_of
read_is (refused r) = go (place_of r) refl
  where
    go : (o : Option ℕ) → place_of r ≡ o → read_as (Err r) ≡ read_out_of (refused r)
    go None e = rw (e, read_out_of)
    go (Some p) e = rw (e, read_out_of)
read_is (given S) = refl

abbrev pub written : Result ℕ Refusal → WriteOut
written (Ok k) = record { refusal = 0; length = k }
written (Err r) = record { refusal = number r; length = 0 }

pub written_is : (a : Answer (List ℕ)) → written (write_answer a) ≡ write_out_of a
unfolding write_answer result_of write_out_of
written_is (refused r) = refl
written_is (given t) = refl

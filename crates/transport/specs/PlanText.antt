-- The plan text, write plan, and what the program prints (paper 01, "Texts").
use Rattle.std.specs.Prelude.{Some, None, not, cond, ℕ, suc, eqb, ℤ, length, take}
use mathlib.Core.List.{List, [], ◌∷◌, ◌++◌, flat_map}
use Rattle.transport.specs.Lists.{keep, at}
use Rattle.transport.specs.Limits.{max_text}
use Rattle.transport.specs.Problem.{Lane, lanes, place}
use Rattle.transport.specs.Refusals.{Refusal, number, place_of}
use Rattle.transport.specs.Sheet.{Sheet, roasteries, cafes, sheet_tests, number_tests}
use Rattle.transport.specs.Calls.{Answer, refused, given, unless, too_short, solution}
use Rattle.transport.specs.Text.{bytes, digits, whole_digits, head_line, number_line, row_line}
use Rattle.transport.specs.SheetText.{read_with}

-- A price or a cost on its line.
unfoldable pub whole_line : ℤ → List ℕ
whole_line z = whole_digits z ++ bytes "\n"

-- The bags that a plan carries on a lane, among n columns.
unfoldable pub carried : ℕ → List ℕ → Lane → ℕ
carried n plan l = at plan (place n l.row l.col)

-- The lanes that carry a bag, in sheet order.
unfoldable pub used : ℕ → ℕ → List ℕ → List Lane
used m n plan = keep (λ l. not (eqb (carried n plan l) 0)) (lanes m n)

-- Source, sink (both from 1) and bags.
unfoldable pub lane_line : ℕ → List ℕ → Lane → List ℕ
lane_line n plan l = row_line digits (suc l.row ∷ suc l.col ∷ carried n plan l ∷ [])

-- The cost; the rounds; the prices u; the prices v; and the lanes that carry a bag. The sections' names are the paper's.
unfoldable pub plan_text : Sheet → List ℕ
plan_text S =
    let a = solution S in
    let ls = used (roasteries S) (cafes S) a.plan in
    head_line "total" 1 ++ whole_line a.cost
    ++ head_line "rounds" 1 ++ number_line a.rounds
    ++ head_line "roasteries" (roasteries S) ++ flat_map whole_line a.u
    ++ head_line "cafes" (cafes S) ++ flat_map whole_line a.v
    ++ head_line "lanes" (length ls) ++ flat_map (lane_line (cafes S) a.plan) ls

-- Write plan gives the plan text of the solved sheet; it refuses what write sheet refuses. `room` is the length of the output.
unfoldable pub write_plan_call : Sheet → ℕ → Answer (List ℕ)
write_plan_call S room = unless (sheet_tests S ++ ((too_short room (length (plan_text S)), Refusal.TooShort) ∷ [])) (plan_text S)

-- ---- the program

-- `refused N`, or `refused 9 P` with the place P, and LF.
unfoldable pub refused_line : Refusal → List ℕ
refused_line r = bytes "refused " ++ (elim (place_of r) [
  | None ↦ number_line (number r)
  | Some p ↦ row_line digits (number r ∷ p ∷ [])
])

-- What the program prints, given what stands on its standard input, of which it reads at most 9,757 bytes: one more than the longest sheet text.
unfoldable pub printed : List ℕ → List ℕ
printed input = elim (read_with number_tests (take (suc max_text) input)) [
  | refused r ↦ refused_line r
  | given S ↦ plan_text S
]

-- Not of the paper: a text for an output of `room` bytes is all of it, or nothing where it is longer.
unfoldable pub fitting : ℕ → List ℕ → List ℕ
fitting room text = cond (too_short room (length text)) [] text

-- What is put at the front of an output of `room` bytes for what stands on the standard input.
unfoldable pub shown : List ℕ → ℕ → List ℕ
shown input room = fitting room (printed input)

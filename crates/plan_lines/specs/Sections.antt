-- The plan text by its sections, from the figures that they show.
use Rattle.std.specs.Prelude.{◌≡◌, ◌∷◌, ◌++◌, ◌+◌, ◌*◌, ◌≤◌}
use Rattle.prelude.specs.Words.{List, [], flat_map, append_assoc, append-nil, ℕ, arith, ℤ, length, length-append}
use Prim.Native.String.{String}
use Rattle.plan_lines.specs.declared.plan_sections.Figures.{Figures}
use Rattle.transport.specs.Sheet.{Sheet, roasteries, cafes}
use Rattle.transport.specs.Text.{bytes, digits, whole_digits, head_line, number_line}
use Rattle.transport.specs.Calls.{Solution, solution}
use Rattle.transport.specs.PlanText.{whole_line, used, lane_line, plan_text}
use Rattle.transport.specs.Laws.CallLaws.{Fills}
use Rattle.sections.specs.Lines.{ended, section_text, lines_from, section_of, head-line, number_lines, whole_lines}
use Rattle.plan_lines.specs.Lanes.{used_text, used_count_of, used-whole}

abbrev pub figures_text : Figures → List ℕ
figures_text f = section_text whole_digits (bytes "total ") 1 1 (f.total ∷ []) ++ section_text digits (bytes "rounds ") 1 1 (f.rounds ∷ [])

-- Prices, one in a line, after their count.
abbrev pub price_section : List ℕ → List ℤ → List ℕ
price_section name zs = section_text whole_digits name (length zs) 1 zs

abbrev pub prices_text : List ℤ → List ℤ → List ℕ
prices_text u v = price_section (bytes "roasteries ") u ++ price_section (bytes "cafes ") v

-- The lanes of a plan of n columns that carry a bag, after their count.
abbrev pub lanes_text : ℕ → ℕ → List ℕ → List ℕ
lanes_text count n plan = bytes "lanes " ++ ended digits count 10 ++ used_text n plan (length plan)

-- Each café has a price, and a column in the plan.
unfoldable pub plan_sections_of : Figures → List ℤ → List ℤ → List ℕ → List ℕ
plan_sections_of f u v plan = figures_text f ++ (prices_text u v ++ lanes_text f.used (length v) plan)

-- Its length, section by section.
pub sections_length : (f : Figures) (u v : List ℤ) (plan : List ℕ) → length (plan_sections_of f u v plan) ≡
    length (section_text whole_digits (bytes "total ") 1 1 (f.total ∷ [])) + length (section_text digits (bytes "rounds ") 1 1 (f.rounds ∷ []))
    + length (price_section (bytes "roasteries ") u) + length (price_section (bytes "cafes ") v) + length (bytes "lanes " ++ ended digits f.used 10)
    + length (used_text (length v) plan (length plan))
unfolding plan_sections_of
sections_length f u v plan = simp length-append (omega arith)

-- ---- of a solution

-- What the plan text of a solution shows in one number each.
abbrev figures_for : Solution → Figures
figures_for a = record { total = a.cost; rounds = a.rounds; used = used_count_of a.plan (length a.plan) }

-- A section of lines of one number, of whatever kind: `line` writes a number with LF, `write` without.
module _ {A : Type 0} (line write : A → List ℕ) (same : (xs : List A) → flat_map line xs ≡ lines_from write 1 1 xs) (name : String) where
  column_section : (count : ℕ) (xs : List A) → head_line name count ++ flat_map line xs ≡ section_text write (bytes name ++ bytes " ") count 1 xs
  column_section count xs = rw (same xs) (section_of write name count 1 xs)

  one_section : (x : A) → head_line name 1 ++ line x ≡ section_text write (bytes name ++ bytes " ") 1 1 (x ∷ [])
  unfolding flat_map
  one_section x = rw (← append-nil (line x)) (column_section 1 (x ∷ []))

-- A section of prices, whose count is m.
prices_section : (name : String) (m : ℕ) (zs : List ℤ) → length zs ≡ m → head_line name m ++ flat_map whole_line zs ≡ price_section (bytes name ++ bytes " ") zs
prices_section name m zs e = rw (← e) (column_section whole_line whole_digits whole_lines name (length zs) zs)

-- The lanes that a plan uses.
lanes_section : (m n : ℕ) (plan : List ℕ) → 1 ≤ n → length plan ≡ m * n →
    head_line "lanes" (length (used m n plan)) ++ flat_map (lane_line n plan) (used m n plan) ≡ lanes_text (used_count_of plan (length plan)) n plan
unfolding bytes
lanes_section m n plan p e = let whole = used-whole n plan m p e in rw (whole.0, whole.1, head-line)

regroup : (a b c d e f g h i j : List ℕ) → a ++ b ++ c ++ d ++ e ++ f ++ g ++ h ++ i ++ j ≡ a ++ b ++ (c ++ d) ++ (e ++ f ++ (g ++ h) ++ (i ++ j))
regroup a b c d e f g h i j = simp append_assoc

-- The plan text is the sections of the solution: its figures, its prices, and the lanes that its plan uses.
pub plan_sections : (S : Sheet) → 1 ≤ cafes S → Fills S (solution S) → let a = solution S in plan_text S ≡ plan_sections_of (figures_for a) a.u a.v a.plan
unfolding plan_text plan_sections_of bytes
plan_sections S p fills = let a = solution S in let m = roasteries S in let n = cafes S in
    rw (
      regroup,
      one_section whole_line whole_digits whole_lines "total" a.cost,
      one_section number_line digits number_lines "rounds" a.rounds,
      prices_section "roasteries" m a.u fills.u,
      prices_section "cafes" n a.v fills.v,
      lanes_section m n a.plan p fills.plan,
      fills.v,
    )

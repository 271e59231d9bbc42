-- The sections of the sheet text.
use Rattle.std.specs.Prelude.{◌≡◌, ◌++◌, ◌+◌, ◌*◌, ◌≤◌}
use Rattle.prelude.specs.Words.{refl, List, append_assoc, ℕ, ℤ, arith, length, length-append}
use Rattle.transport.specs.Text.{bytes, digits, whole_digits}
use Rattle.transport.specs.Sheet.{Sheet, roasteries, cafes}
use Rattle.transport.specs.SheetText.{sheet_text}
use Rattle.transport.specs.Limits.{max_sources, max_sinks}
use Rattle.transport.specs.Statements.{Accepted}
use Rattle.sheet.specs.Refusals.{sinks-some, costs-whole}
use Rattle.decimals.specs.Front.{pieces}
use Rattle.sections.specs.Lines.{section_text, section_of, length_section, number_lines, lines_rows}

abbrev pub supply_section : List ℕ → List ℕ
supply_section supply = section_text digits (bytes "supply ") (length supply) 1 supply

abbrev pub demand_section : List ℕ → List ℕ
demand_section demand = section_text digits (bytes "demand ") (length demand) 1 demand

-- m lines of n numbers.
abbrev pub cost_section : ℕ → ℕ → List ℤ → List ℕ
cost_section m n cost = section_text whole_digits (bytes "cost ") m n cost

regroup : (a b c d e f : List ℕ) → a ++ b ++ c ++ d ++ e ++ f ≡ a ++ b ++ (c ++ d ++ (e ++ f))
regroup a b c d e f = simp append_assoc

-- The sheet text is the three of them.
pub sheet_sections : (S : Sheet) → 1 ≤ length S.demand → length S.cost ≡ length S.supply * length S.demand
    → sheet_text S ≡ supply_section S.supply ++ (demand_section S.demand ++ cost_section (length S.supply) (length S.demand) S.cost)
unfolding sheet_text roasteries cafes bytes
sheet_sections S p e =
    let m = length S.supply in
    let n = length S.demand in
    rw (
      number_lines S.supply,
      number_lines S.demand,
      lines_rows whole_digits m n S.cost p e,
      regroup,
      section_of digits "supply" m 1 S.supply,
      section_of digits "demand" n 1 S.demand,
      section_of whole_digits "cost" m n S.cost,
    )

-- ---- of an accepted sheet

module _ {S : Sheet} (a : Accepted S) where
  pub accepted-sections : sheet_text S
      ≡ supply_section S.supply ++ (demand_section S.demand ++ cost_section (length S.supply) (length S.demand) S.cost)
  accepted-sections = sheet_sections S (sinks-some S a.limits) (costs-whole S a.limits)

  pub accepted_length : length (sheet_text S) ≡ length (supply_section S.supply) + length (demand_section S.demand)
      + length (cost_section (length S.supply) (length S.demand) S.cost)
  accepted_length = rw accepted-sections (simp length-append (omega arith))

pub roasteries-are : (S : Sheet) → roasteries S ≡ length S.supply
unfolding roasteries
roasteries-are S = refl

pub cafes-are : (S : Sheet) → cafes S ≡ length S.demand
unfolding cafes
cafes-are S = refl

pub most-sources : max_sources ≡ 32
unfolding max_sources
most-sources = refl

pub most-sinks : max_sinks ≡ 32
unfolding max_sinks
most-sinks = refl

-- What a proof of its sections goes by.
pub ruleset parts = (pieces, length_section, accepted_length, roasteries-are, cafes-are, most-sources, most-sinks)

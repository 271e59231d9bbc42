-- Each way out is a case of `refusal`; what is left of the tests is check_numbers.
use Rattle.std.specs.Prelude.{◌≡◌, ◌≤◌}
use Rattle.prelude.specs.Words.{sym, ◌∙◌, true, arith, length, not-true, not-false, eq-eqb, ne_eqb, rules}
use Rattle.transport.specs.Lists.{within}
use Rattle.transport.specs.Limits.{max_sources, max_sinks}
use Rattle.transport.specs.Sheet.{Sheet, sheet_of}
use Rattle.transport.specs.Laws.SheetLaws.{within-true}
use Rattle.transport.specs.Laws.Sound.{sources-room, sinks-room}
use Rattle.sheet.specs.Check.{check-some}
use Rattle.sheet.specs.Laws.{sides_product}
use Rattle.sheet.specs.Refusals.{refused-sources, refused-sinks, refused-length, sheet-numbers}
use Rattle.sheet.proofs.check_sheet.Statement.{statement}
use Rattle.sheet.proofs.check_sheet.Tie as tie

abbrev S : tie.After-side_fits → Sheet
S c = let a = c.before.before.before.args in sheet_of a.supply.now a.demand.now a.cost.now

sources-fit : (c : tie.Else-not-side_fits) → within 1 max_sources (length (S c.before).supply) ≡ true
unfolding max_sources
sources-fit c = sym c.before.side_fits.ensures ∙ not-false _ c.if-not-side_fits.false-raw

abbrev sources : tie.Else-not-side_fits-2 → tie.Else-not-side_fits
sources c = c.before.before

sinks-fit : (c : tie.Else-not-side_fits-2) → within 1 max_sinks (length (S (sources c).before).demand) ≡ true
unfolding max_sinks
sinks-fit c = sym c.before.side_fits-2.ensures ∙ not-false _ c.if-not-side_fits-2.false-raw

-- Both sides are within their limits.
fit : (c : tie.Else-not-side_fits-2) → (length (S (sources c).before).supply ≤ max_sources) × (length (S (sources c).before).demand ≤ max_sinks)
fit c = ((within-true 1 max_sources _ (sources-fit (sources c))).1, (within-true 1 max_sinks _ (sinks-fit c)).1)

returns : tie.Need-returns-then-not-side_fits
unfolding max_sources
returns c = rw (refused-sources (S c.before) (sym c.before.side_fits.ensures ∙ not-true _ c.if-not-side_fits.true-raw), check-some)

returns-2 : tie.Need-returns-then-not-side_fits-2
unfolding max_sinks
returns-2 c =
    let s = c.before.before in
    rw (refused-sinks (S s.before) (sources-fit s) (sym c.before.side_fits-2.ensures ∙ not-true _ c.if-not-side_fits-2.true-raw), check-some)

returns-3 : tie.Need-returns-then-cost-m
returns-3 c =
    let s = sources c.before in
    rw (refused-length (S s.before) (sources-fit s) (sinks-fit c.before) (ne_eqb _ _ c.if-cost-m.true), check-some)

returns-4 : tie.Need-returns
returns-4 c =
    let s = sources c.before.before in
    rw (sheet-numbers (S s.before) (sources-fit s) (sinks-fit c.before.before) (eq-eqb _ _ c.before.if-cost-m.false)) c.check_numbers.ensures

pub check_sheet_spec : {M : Type 1} → statement M
check_sheet_spec =
    tie.close (tie.spec (λ c κs. search rules) returns (λ c κs. search rules) returns-2
    (λ c. record { fits = sides_product _ _ (fit c).0 (fit c).1 }) returns-3
    (λ c κs. (omega (arith, fit c.before, sources-room), omega (arith, fit c.before, sinks-room))) returns-4)

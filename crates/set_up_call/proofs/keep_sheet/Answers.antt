-- Each list stands at the front of its array.
use Rattle.std.specs.Prelude.{◌≤◌}
use Rattle.prelude.specs.Words.{arith, rules, length, mul-le-mul, List, ℕ, ℤ}
use Rattle.transport.specs.Limits.{max_sources, max_sinks}
use Rattle.transport.specs.Sheet.{roasteries, cafes, sheet_of}
use Rattle.transport.specs.Statements.{Accepted}
use Rattle.set_up_call.specs.SetUp.{struct_copied}
use Rattle.set_up_call.proofs.keep_sheet.Goals as goal

-- The lists are no longer than the arrays.
few : (supply demand : List ℕ) (cost : List ℤ) → Accepted (sheet_of supply demand cost)
    → (length supply ≤ 32) × (length demand ≤ 32) × (length cost ≤ 1024)
unfolding max_sources max_sinks roasteries cafes
few supply demand cost ok =
    let limits = ok.limits in
    let product = mul-le-mul limits.roasteries_high limits.cafes_high in
    (limits.roasteries_high, limits.cafes_high, omega (arith, limits.cost_length, product))

pub slice_bounds-supplies-end : goal.slice_bounds-supplies-end
slice_bounds-supplies-end c = let l = (few _ _ _ c.requires).0 in search rules

pub slice_bounds-copy_from_slice-end : goal.slice_bounds-copy_from_slice-end
slice_bounds-copy_from_slice-end c = let l = (few _ _ _ c.requires).0 in search rules

pub copy_from_slice-requires : goal.copy_from_slice-requires
copy_from_slice-requires c = let l = (few _ _ _ c.requires).0 in search rules

pub slice_bounds-demands-end : goal.slice_bounds-demands-end
slice_bounds-demands-end c = let l = (few _ _ _ c.requires).1 in search rules

pub slice_bounds-copy_from_slice-end-2 : goal.slice_bounds-copy_from_slice-end-2
slice_bounds-copy_from_slice-end-2 c = let l = (few _ _ _ c.requires).1 in search rules

pub copy_from_slice-requires-2 : goal.copy_from_slice-requires-2
copy_from_slice-requires-2 c = let l = (few _ _ _ c.requires).1 in search rules

pub slice_bounds-costs-end : goal.slice_bounds-costs-end
slice_bounds-costs-end c = let l = (few _ _ _ c.requires).2 in search rules

pub slice_bounds-copy_from_slice-end-3 : goal.slice_bounds-copy_from_slice-end-3
slice_bounds-copy_from_slice-end-3 c = let l = (few _ _ _ c.requires).2 in search rules

pub copy_from_slice-requires-3 : goal.copy_from_slice-requires-3
copy_from_slice-requires-3 c = let l = (few _ _ _ c.requires).2 in search rules

pub returns : goal.returns
returns c =
    let a = c.args in
    struct_copied a.supply.now a.demand.now a.cost.now
    (rw c.copy_from_slice.ensures.after) (rw c.copy_from_slice-2.ensures.after) (rw c.copy_from_slice-3.ensures.after)

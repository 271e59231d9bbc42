-- Each way out is a case of write plan.
use Rattle.transport.specs.Text.{bytes}
use Rattle.transport.specs.Sheet.{sheet_of}
use Rattle.display.specs.Shown.{shown-written, shown-short, shown-refused}
use Rattle.display.proofs.show_plan.Goals as goal

pub returns-in-Ok : goal.returns-in-Ok
returns-in-Ok c =
    let S = sheet_of c.args.supply.now c.args.demand.now c.args.cost.now in
    let e = c.in-Ok.ensures in
    shown-written S c.args.out.now _ _ e.0 e.1

pub returns-in-TooShort : goal.returns-in-TooShort
returns-in-TooShort c =
    let S = sheet_of c.args.supply.now c.args.demand.now c.args.cost.now in
    let e = rw c.in-TooShort.is at c.in-Err.ensures in
    shown-short S c.args.out.now _ e.0 e.1

pub returns-in_default : goal.returns-in_default
unfolding bytes
returns-in_default c =
    let S = sheet_of c.args.supply.now c.args.demand.now c.args.cost.now in
    let e = c.in-Err.ensures in
    let t = shown-refused S c.args.out.now _ _ c.in_default.not-TooShort e.0 e.1 in
    rw (t.0, ← t.1) (rw c.number.ensures at c.show_refusal.ensures)

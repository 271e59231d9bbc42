use Rattle.std.specs.Prelude.{◌≡◌, ◌<◌}
use Rattle.prelude.specs.Words.{◌∙◌, arith, rules, get_or, pos}
use mir.Syntax.{w32}
use mir.Val.{to_z, of_z}
use mir.Facts.{to_z-of_z}
use Rattle.integers.specs.Tests.{lt_yes}
use Rattle.pricing.specs.Lowest.{lowest, first_at, at-most, more}
use Rattle.pricing.specs.Scan.{row_reduced, rows_fit, scanned_no, scanned_yes, scanned_row}
use Rattle.pricing.proofs.scan.entering.Goals as goal
use Rattle.pricing.proofs.scan.entering.Goals.{After-least_reduced-reduced, After-unwrap_or-row}

pub least_reduced-reduced-requires : goal.least_reduced-reduced-requires
least_reduced-reduced-requires c = rows_fit c.requires.in_range c.requires.slacks

pub first_row-requires : goal.first_row-requires
first_row-requires c = rows_fit c.requires.in_range c.requires.slacks

-- The least reduced cost, as the code keeps it.
least-is : (c : After-least_reduced-reduced) → let a = c.args in
    to_z w32 (of_z w32 c.least_reduced-reduced.result) ≡ lowest (pos 0) (row_reduced a.slack.now a.price.now) a.m
least-is c = to_z-of_z {w = w32} (search rules) ∙ c.least_reduced-reduced.ensures

pub returns-then-reduced-ge0 : goal.returns-then-reduced-ge0
returns-then-reduced-ge0 c =
    let best = to_z w32 (of_z w32 c.least_reduced-reduced.result) in
    scanned_no c.requires.in_range c.requires.slacks best (least-is
    (goal.at.returns-then-reduced-ge0 c).After-least_reduced-reduced)
    (at-most (pos 0) best c.if-reduced-ge0.true)

-- There is a row, also where it is sought by another number below 0.
inside : (c : After-unwrap_or-row) → c.unwrap_or-row.result < c.args.m
inside c =
    let best = to_z w32 (of_z w32 c.least_reduced-reduced.result) in
    let low = more (pos 0) best c.if-reduced-ge0.false in
    let is : best ≡ lowest (pos 0) (row_reduced c.args.slack.now c.args.price.now) c.args.m =
    to_z-of_z {w = w32} (search rules) ∙ c.least_reduced-reduced.ensures in
    rw c.unwrap_or-row.ensures (scanned_row c.requires.in_range c.requires.slacks best is low
    (omega (arith, lt_yes best (pos 0) low)) (first_at _ _ _ c.first_row.result c.first_row.ensures))

pub bounds-slack-row : goal.bounds-slack-row
bounds-slack-row c = omega (arith, inside (goal.at.bounds-slack-row c).After-unwrap_or-row, c.requires.in_range.rows)

pub first_column-requires-clause-row_lt_m : goal.first_column-requires-clause-row_lt_m
first_column-requires-clause-row_lt_m c = inside (goal.at.first_column-requires-clause-row_lt_m c).After-unwrap_or-row

pub returns : goal.returns
returns c =
    let best = to_z w32 (of_z w32 c.least_reduced-reduced.result) in
    let low = more (pos 0) best c.if-reduced-ge0.false in
    let slack = get_or c.args.slack.now c.unwrap_or-row.result (pos 0) in
    let back : to_z w32 (of_z w32 slack) ≡ slack = search rules in
    let row = rw (← c.unwrap_or-row.ensures) at (first_at _ _ _ c.first_row.result c.first_row.ensures) in
    let col = rw (← c.unwrap_or-col.ensures, back) at (first_at _ _ _ c.first_column.result c.first_column.ensures) in (
      low,
      scanned_yes c.requires.in_range c.requires.slacks best (least-is
          (goal.at.returns c).After-least_reduced-reduced) low
          c.unwrap_or-row.result row c.unwrap_or-col.result col,
    )

-- Every row from where the search began up to `row` has a greater number.
use Rattle.pricing.specs.Lowest.{Above}
use Rattle.pricing.specs.Scan.{row_reduced}
use Rattle.pricing.proofs.scan.first_row.Given as goal

abbrev pub invariant-loop-row : goal.invariant-loop-row
invariant-loop-row l = Above (row_reduced l.slack l.price) l.reduced l.m l.initial.row l.row

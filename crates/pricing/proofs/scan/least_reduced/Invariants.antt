-- The least of the rows before i.
use Rattle.std.proofs.Common.{◌≡◌, pos}
use Rattle.pricing.specs.Lowest.{lowest}
use Rattle.pricing.specs.Scan.{row_reduced}
use Rattle.pricing.proofs.scan.least_reduced.Given as goal

abbrev pub invariant-loop-i : goal.invariant-loop-i
invariant-loop-i l = l.least ≡ lowest (pos 0) (row_reduced l.slack l.price) l.i

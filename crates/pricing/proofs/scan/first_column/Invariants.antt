-- Every column from where the search began up to `col` has a greater slack.
use Rattle.tree.specs.Layout.{slack_at}
use Rattle.pricing.specs.Lowest.{Above}
use Rattle.pricing.proofs.scan.first_column.Given as goal

abbrev pub invariant-loop-col : goal.invariant-loop-col
invariant-loop-col l = Above (slack_at l.cost l.price l.m l.row) l.slack l.n l.initial.col l.col

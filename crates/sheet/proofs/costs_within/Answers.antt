-- What `all` tests of each cost is what `all` of the definition tests.
use Rattle.std.proofs.Common.{rules, ◌≡◌, true, ◌≤◌, pos, neg_ℤ, length, ℕ, ◌<◌, ◌↔◌, slice_index_or}
use Rattle.transport.specs.Lists.{all, within_z}
use Rattle.transport.specs.Limits.{max_cost}
use Rattle.transport.specs.Laws.ListLaws.{all_decided}
use Rattle.sheet.proofs.costs_within.Goals as goal

pub returns : goal.returns
unfolding within_z max_cost
returns c =
    let costs = c.args.costs.now in
    let fits = within_z (neg_ℤ (pos max_cost)) (pos max_cost) in
    let each : (c.all.result ≡ true) ↔ ((k : ℕ) → k < length costs → fits (slice_index_or costs k (pos 0)) ≡ true) = search rules in
    all_decided fits c.all.result costs (pos 0) each

-- What `all` tests of each amount is what `all` of the definition tests.
use Rattle.std.proofs.Common.{rules, ◌≡◌, true, ◌≤◌, length, ℕ, ◌<◌, ◌↔◌, slice_index_or}
use Rattle.transport.specs.Lists.{all, at_most}
use Rattle.transport.specs.Limits.{max_amount}
use Rattle.transport.specs.Laws.ListLaws.{all_decided}
use Rattle.sheet.proofs.amounts_within.Goals as goal

pub returns : goal.returns
unfolding at_most max_amount
returns c =
    let amounts = c.args.amounts.now in
    let each : (c.all.result ≡ true) ↔ ((k : ℕ) → k < length amounts → at_most max_amount (slice_index_or amounts k 0) ≡ true) = search rules in
    all_decided (at_most max_amount) c.all.result amounts 0 each

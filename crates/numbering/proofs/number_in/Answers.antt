-- The first place at which the party stands is its number, since no other one is the same.
use Rattle.std.proofs.Common.{◌≡◌, ℕ, ◌<◌, List, Option, Some, None, MatchOption, length, get_or, rules, sym, ap, ◌∙◌}
use Rattle.transport.specs.Limits.{max_side}
use Rattle.transport.specs.Lists.{at}
use Rattle.numbering.specs.Numbers.{Growing, number_in, number_in-at, number_in-none}
use Rattle.numbering.proofs.number_in.Goals as goal

found : {own : List ℕ} (party : ℕ) → Growing own → (r : Option ℕ)
    → MatchOption r ((k : ℕ) → k < length own → get_or own k 0 ≡ party → ⊥)
    (λ k. (k < length own) × (get_or own k 0 ≡ party))
    → MatchOption r (number_in own party ≡ max_side) (λ k. (k < length own) × (k ≡ number_in own party))
unfolding at
found {own} party g None none = number_in-none own party none
found {own} party g (Some k) (l, e) = (l, sym (number_in-at g k l) ∙ ap (number_in own) e)

pub returns : goal.returns
returns c = found c.args.party c.requires c.position.result (search rules)

-- At the end no byte comes next, and before it the byte at the place does.
use Rattle.std.specs.Prelude.{◌≡◌, ◌≤◌, ◌<◌, Option, Some, None, MatchOption}
use Rattle.std.specs.Option.{option_eq}
use Rattle.std.specs.Cmp.{nat_eq_equiv}
use Rattle.std.proofs.Common.{Bor}
use Rattle.prelude.specs.Words.{sym, ap, ◌∙◌, ℕ, List, length, drop, get_or, eqb}
use Rattle.tokens.specs.Reading.{byte_next, byte-end, byte-here}
use Rattle.tokens.proofs.bytes.byte_at.Goals as goal

told : (text : List ℕ) (at : ℕ) (b : Bor ℕ) (o : Option (Bor ℕ))
    → MatchOption o (length text ≤ at) (λ x. (at < length text) × ((d : ℕ) → x.now ≡ get_or text at d))
    → option_eq {T = Bor ℕ} (λ x y. eqb x.now y.now) o (Some b) ≡ byte_next b.now (drop at text)
told text at b None p = sym (byte-end text at b.now p)
told text at b (Some x) p = nat_eq_equiv.symm x.now b.now ∙ ap (eqb b.now) (p.1 0) ∙ sym (byte-here text at b.now p.0)

pub returns : goal.returns
returns c = c.eq.ensures ∙ told _ _ _ _ c.get.ensures.lookup.3

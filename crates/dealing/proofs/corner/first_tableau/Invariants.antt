-- The rule stands at cell k of the start, and the array holds the cells before it.
use Rattle.std.specs.Prelude.{◌≡◌, ◌+◌}
use Rattle.transport.specs.Tableau.{start}
use Rattle.dealing.specs.Corner.{costless, DealtTo}
use Rattle.dealing.specs.Filling.{filled}
use Rattle.dealing.proofs.corner.first_tableau.Given as goal

abbrev pub invariant-loop-k : goal.invariant-loop-k
invariant-loop-k l =
    (l.k ≡ l.at.row + l.at.col)
    × DealtTo (costless l.supply l.demand) l.at
    × (l.t.cells ≡ filled (start (costless l.supply l.demand)) l.k)

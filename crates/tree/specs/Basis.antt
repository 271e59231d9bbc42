-- What a basis in the arrays stands for.
use Rattle.std.specs.Prelude.{◌≡◌, ℕ, List, replicate}
use Rattle.transport.specs.Leaf.{Strike}
use Rattle.tree.specs.declared.Basis.{Basis}
use Rattle.tree.specs.Layout.{node_room, strikes_of}

-- Its first strikes.
abbrev pub struck_off : Basis → ℕ → List Strike
struck_off b count = strikes_of b.leaf b.other b.lane count

-- The arrays before any strike.
abbrev pub no_strikes : Basis
no_strikes =
    let zeros = replicate node_room 0 in
    record { leaf = zeros; other = zeros; lane = zeros; path = zeros; sub = zeros }

-- Between the two no strike has changed, or no end of a strike.
abbrev pub SameStrikes : Basis → Basis → Type 0
SameStrikes b c = (c.leaf ≡ b.leaf) × (c.other ≡ b.other) × (c.lane ≡ b.lane)

abbrev pub SameEnds : Basis → Basis → Type 0
SameEnds b c = (c.leaf ≡ b.leaf) × (c.other ≡ b.other)

-- Between the two no cut has changed: no path, and no side of a lane.
abbrev pub SameCuts : Basis → Basis → Type 0
SameCuts b c = (c.path ≡ b.path) × (c.sub ≡ b.sub)

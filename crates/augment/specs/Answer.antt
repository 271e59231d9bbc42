-- What the search answers.
use Rattle.std.specs.Prelude.{Result, Ok, Err}
use Rattle.prelude.specs.Words.{List, ℕ}
use Rattle.integers.specs.Integer.{Z}
use Rattle.network.specs.Settling.{Stuck}
use Rattle.tree.specs.Mask.{has}
use Rattle.augment.specs.Bags.{InMask}
use Rattle.augment.specs.Sought.{Hits}
use Rattle.augment.specs.declared.search.Target.{Target}
use Rattle.augment.specs.declared.way.Goal.{Goal}
use Rattle.augment.specs.declared.way.Way.{Way}

-- A goal is reached, or the lane is stuck.
abbrev pub Answers : ℕ → ℕ → Target → (ℕ → ℕ → Z) → List ℕ → Result Goal ℕ → Way → Type 0
Answers m n t x tight (Ok goal) way = Hits m n t x tight goal.position goal.column way
Answers m n t x tight (Err cols) way = Stuck m n (InMask tight) x t.row t.col (has cols)

-- How rounds begin: a tableau laid out over arrays, with the costs of its problem by column, becomes what a run keeps. What one round gives.
use Rattle.std.specs.Prelude.{◌+◌, ◌-◌, ◌<◌, ◌≤◌, ◌≡◌}
use Rattle.prelude.specs.Words.{ℕ, arith, ◌∙◌, Bool, true, cond, List, Memᴰ, ℤ, pos, length, get_or}
use Rattle.integers.specs.Bridge.{z-eq}
use Rattle.transport.specs.Problem.{Problem, sources, sinks, Lane, lane_cost}
use Rattle.transport.specs.Laws.Sound.{Sound}
use Rattle.transport.specs.Tableau.{basis_for}
use Rattle.transport.specs.Leaf.{strikes}
use Rattle.transport.specs.Belonging.{spans, cells_belong}
use Rattle.transport.specs.Potential.{potential, is_finished_of, potential_by}
use Rattle.transport.specs.Round.{next}
use Rattle.transport.specs.Statements.{Belongs}
use Rattle.transport.specs.declared.Cell.{Cell}
use Rattle.tableaux.specs.Lanes.{Fits}
use Rattle.tableaux.specs.Striking.{step_of, leaf-below}
use Rattle.tableaux.specs.Potentials.{potential-off, potential-root, potential-tight, potential-only, potential_any}
use Rattle.tableaux.specs.Belonging.{belongs_iff, fits_of, spans_of}
use Rattle.tree.specs.Layout.{node_room, cost_of, strikes_of, StrikesInRoom}
use Rattle.tree.specs.Strikes.{strikes-room}
use Rattle.cuts.specs.Planting.{Tree}
use Rattle.board.specs.Arrays.{Sides, sound-sides, Loaded, Board}
use Rattle.cost_grid.specs.Costs.{Costed}
use Rattle.pricing.specs.Slacks.{Slacks}
use Rattle.rounds.specs.Kept.{Prices, Priced, Kept}

-- The tableau T of the problem P is laid out over the arrays: its amounts, the strikes of its basis, and the costs of P by column.
pub record Begun (P : Problem) (T : List Cell) (q e cost : List ℤ) (leaf other tree : List ℕ) (m n : ℕ) : Type 0 where
  pub sound : Sound P
  pub rows : m ≡ sources P
  pub columns : n ≡ sinks P
  pub belongs : cells_belong P T ≡ true
  pub costs : Costed P cost
  pub loaded : Loaded m n T q e leaf other tree

module _ {P : Problem} {T : List Cell} {q e cost : List ℤ} {leaf other tree : List ℕ} {m n : ℕ} (d : Begun P T q e cost leaf other tree m n) where
  pub begun-belongs : Belongs P T
  begun-belongs = (belongs_iff P T d.sound.sources_low d.sound.sinks_low).0 d.belongs

  pub begun-sides : Sides m n
  begun-sides = sound-sides d.sound d.rows d.columns

  pub begun-room : StrikesInRoom leaf other tree (m + n - 1)
  begun-room = strikes-room m n leaf other tree (m + n - 1) begun-sides.rows_high begun-sides.cols_high d.loaded.long d.loaded.struck

  fits : Fits m n (basis_for T)
  fits = rw (d.rows, d.columns) (fits_of d.sound begun-belongs)

  spanned : spans m n (basis_for T) ≡ true
  spanned = rw (d.rows, d.columns) (spans_of d.sound begun-belongs)

  begun-board : {sub path : List ℕ} → Tree m n (basis_for T) sub path tree → Board P T q e sub path tree m n
  begun-board grown = record { sound = d.sound; rows = d.rows; columns = d.columns; belongs = d.belongs; amounts = d.loaded.amounts; tree = grown }

  -- The potentials by any strikes, from the costs by column, are the prices.
  module _ {price : List ℤ} (long : length price ≡ node_room)
      (by : (k : ℕ) → k < node_room → get_or price k (pos 0) ≡ potential_by (cost_of cost) (strikes_of leaf other tree (m + n - 1)) k) where
    begun-prices : Prices P T price m n
    unfolding potential lane_cost
    begun-prices = record { long = long; are = are; none = none }
      where
        are : (k : ℕ) → k < m + n → get_or price k (pos 0) ≡ potential P T k
        are k l = let same : (t : Lane) → Memᴰ t (basis_for T) → cost_of cost t ≡ lane_cost P t =
            λ t r. let (x, y) = fits t r in d.costs.lanes t.row t.col (omega (arith, d.rows)) (omega (arith, d.columns)) in
            let low : 1 ≤ m = begun-sides.rows_low in
            by k (omega (arith, begun-sides.rows_high, begun-sides.cols_high)) ∙ potential_any low fits spanned (cost_of cost) d.loaded.struck k l
            ∙ potential-only low fits spanned (lane_cost P) (potential_by (cost_of cost) (strikes m n (basis_for T)))
            (potential-root low fits spanned (cost_of cost))
            (λ t r. omega (arith, potential-tight low fits spanned (cost_of cost) t r, z-eq (same t r))) k l ∙ rw (d.rows, d.columns)

        none : (k : ℕ) → m + n ≤ k → k < node_room → get_or price k (pos 0) ≡ pos 0
        none k l r = by k r ∙ potential-off (cost_of cost) (strikes_of leaf other tree (m + n - 1)) k
            (λ t h s. let (later, st) = step_of d.loaded.struck.peels t h in omega (arith, leaf-below st))

    pub begun-priced : Priced P T cost price m n
    begun-priced = record {
      sound = d.sound;
      rows = d.rows;
      columns = d.columns;
      belongs = d.belongs;
      costs = d.costs;
      prices = begun-prices;
    }

    module _ {sub path : List ℕ} (grown : Tree m n (basis_for T) sub path tree) where
      pub begun_kept : {slack : List ℤ} → Slacks cost price m n slack → Kept P T q e cost price slack sub path tree m n
      begun_kept s = record { board = begun-board grown; costs = d.costs; prices = begun-prices; slacks = s }

-- Whether T is finished. The arrays hold the tableau H, with its prices.
pub record Verdict (P : Problem) (T H : List Cell) (q e price : List ℤ) (tree : List ℕ) (m n : ℕ) (finished : Bool) : Type 0 where
  pub done : is_finished_of P T ≡ finished
  pub sub : List ℕ
  pub path : List ℕ
  pub board : Board P H q e sub path tree m n
  pub prices : (k : ℕ) → k < m + n → get_or price k (pos 0) ≡ potential P H k

pub verdict : {P : Problem} {T H : List Cell} {q e cost price slack : List ℤ} {sub path tree : List ℕ} {m n : ℕ} {finished : Bool}
    → is_finished_of P T ≡ finished → Kept P H q e cost price slack sub path tree m n → Verdict P T H q e price tree m n finished
verdict {sub = sub} {path} f k = record { done = f; sub = sub; path = path; board = k.board; prices = k.prices.are }

-- T is looked at; or the round on it is made, after which the arrays hold it still, or the next tableau if it is not finished.
abbrev pub Judged : (P : Problem) (T : List Cell) (q e price : List ℤ) (tree : List ℕ) (m n : ℕ) → Bool → Type 0
Judged P T = Verdict P T T

abbrev pub Rounded : (P : Problem) (T : List Cell) (q e price : List ℤ) (tree : List ℕ) (m n : ℕ) → Bool → Type 0
Rounded P T q e price tree m n finished = Verdict P T (cond finished T (next P T)) q e price tree m n finished

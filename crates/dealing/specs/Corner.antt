-- The corner rule step by step: where it stands, what it puts there, where it goes on, and that its numbers stay small.
use Rattle.std.specs.Prelude.{◌+◌, ◌*◌, ◌-◌, ◌≤◌, ◌<◌, ◌≡◌, ◌∷◌, ◌≤ℤ◌}
use Rattle.prelude.specs.Words.{ℕ, zero, suc, arith, add-suc, suc-add, refl, sym, ap, ◌∙◌, Bool, true, false, cond, List}
use Rattle.prelude.specs.Words.{eqb, pos, neg_ℤ, nat_abs, length, drop, get_or, replicate, length-replicate, drop-cons, by_test}
pub use Rattle.dealing.specs.declared.corner.Corner.{Corner}
use Rattle.std.specs.Int.{w64}
use Rattle.std.proofs.Common.{to_z}
use mir.Facts.{to_z_pos}
use Rattle.transport.specs.Lists.{at_z}
use Rattle.transport.specs.Limits.{max_side, max_amount, max_cells, max_bags, cost_below, cost_above}
use Rattle.transport.specs.Problem.{Problem, sources, sinks}
use Rattle.transport.specs.Laws.Sound.{Sound, supply-most, demand-most}
use Rattle.transport.specs.Amount.{Fit, subtract, less, smaller, paired_supply_of, paired_demand_of}
use Rattle.transport.specs.Laws.RangeLaws.{abs_diff, PairWithin}
use Rattle.transport.specs.Tableau.{no_cell, basis_size, corner, start}
use Rattle.transport.specs.Laws.ProblemLaws.{problem}
use Rattle.transport.specs.declared.Pair.{Pair}
use Rattle.transport.specs.declared.Cell.{Cell}
use Rattle.integers.specs.Bridge.{z-neg, le-z}
use Rattle.tableaux.specs.Starting.{smaller-row, smaller-column, corner-right, corner-down, State, begin, state-right, state-down, size-suc, start-belongs}

-- ---- costs play no part

at_zeros : (n k : ℕ) → at_z (replicate n (pos 0)) k ≡ pos 0
unfolding at_z
at_zeros zero k = refl
at_zeros (suc n) zero = refl
at_zeros (suc n) (suc k) = at_zeros n k

-- The problem of these supplies and demands whose lanes cost nothing.
abbrev pub costless : List ℕ → List ℕ → Problem
costless supply demand = problem supply demand (replicate (length supply * length demand) (pos 0))

module _ (P : Problem) where
  abbrev free : Problem
  free = costless P.supply P.demand

  low_zeros : (n l : ℕ) → neg_ℤ (pos cost_below) ≤ℤ at_z (replicate n (pos 0)) l
  low_zeros n l = rw (at_zeros n l) (le-z (neg_ℤ (pos cost_below)) (pos 0) (omega (arith, z-neg (pos cost_below))))

  high_zeros : (n l : ℕ) → at_z (replicate n (pos 0)) l ≤ℤ pos cost_above
  high_zeros n l = rw (at_zeros n l) (le-z (pos 0) (pos cost_above) (omega arith))

  pub sound-costless : Sound P → Sound free
  unfolding sources sinks
  sound-costless ok = record {
    sources_low = ok.sources_low;
    sources_high = ok.sources_high;
    sinks_low = ok.sinks_low;
    sinks_high = ok.sinks_high;
    cost_length = length-replicate _ (pos 0);
    supply_low = ok.supply_low;
    demand_low = ok.demand_low;
    bags = ok.bags;
    balance = ok.balance;
    cost_low = low_zeros (length P.supply * length P.demand);
    cost_high = high_zeros (length P.supply * length P.demand);
  }

  -- With its sides changed it is sound too.
  pub sound-turned : Sound P → Sound (costless P.demand P.supply)
  unfolding sources sinks
  sound-turned ok = record {
    sources_low = ok.sinks_low;
    sources_high = ok.sinks_high;
    sinks_low = ok.sources_low;
    sinks_high = ok.sources_high;
    cost_length = length-replicate _ (pos 0);
    supply_low = ok.demand_low;
    demand_low = ok.supply_low;
    bags = omega (arith, ok.bags, ok.balance);
    balance = sym ok.balance;
    cost_low = low_zeros (length P.demand * length P.supply);
    cost_high = high_zeros (length P.demand * length P.supply);
  }

  corner-costless : (left i j : ℕ) (s d : Pair) → corner free left i j s d ≡ corner P left i j s d
  unfolding corner paired_supply_of paired_demand_of sources sinks
  corner-costless zero i j s d = refl
  corner-costless (suc left) i j s d = by_test (less d s)
      (λ e. rw (corner-right free left i j s d e))
      (λ e. rw (corner-down free left i j s d e))

  pub start-costless : start free ≡ start P
  unfolding start paired_supply_of paired_demand_of sources sinks
  start-costless = corner-costless _ 0 0 _ _

-- ---- the rule

-- A number of bags is read from its bits as it is.
pub bags-whole : {n : ℕ} → n ≤ max_bags → to_z w64 n ≡ pos n
unfolding max_bags max_side max_amount
bags-whole {n} l = to_z_pos w64 {n = n} (omega arith)

abbrev pub first_corner_of : Problem → Corner
first_corner_of P = record { row = 0; col = 0; supply = paired_supply_of P 0; demand = paired_demand_of P 0 }

abbrev pub cell_of : Corner → Cell
cell_of p = record { row = p.row; col = p.col; amount = smaller p.supply p.demand }

-- In the next column, or in the next row.
abbrev to_right : Problem → Corner → Corner
to_right P p = record { row = p.row; col = suc p.col; supply = subtract p.supply p.demand; demand = paired_demand_of P (suc p.col) }

abbrev to_down : Problem → Corner → Corner
to_down P p = record { row = suc p.row; col = p.col; supply = paired_supply_of P (suc p.row); demand = subtract p.demand p.supply }

unfoldable pub next_corner : Problem → Corner → Corner
next_corner P p = cond (less p.demand p.supply) (to_right P p) (to_down P p)

pub next-right : (P : Problem) (p : Corner) → less p.demand p.supply ≡ true → next_corner P p ≡ to_right P p
unfolding next_corner
next-right P p e = rw e

pub next_down : (P : Problem) (p : Corner) → less p.demand p.supply ≡ false → next_corner P p ≡ to_down P p
unfolding next_corner
next_down P p e = rw e

-- One cell further on.
pub next-number : (P : Problem) (p : Corner) → (next_corner P p).row + (next_corner P p).col ≡ p.row + p.col + 1
next-number P p = by_test (less p.demand p.supply)
    (λ e. rw (next-right P p e) (omega arith))
    (λ e. rw (next_down P p e) (omega arith))

abbrev corner_from : Problem → ℕ → Corner → List Cell
corner_from P left p = corner P left p.row p.col p.supply p.demand

abbrev StateAt : Problem → ℕ → Corner → Type 0
StateAt P left p = State P left p.row p.col p.supply p.demand

corner-next : (P : Problem) (left : ℕ) (p : Corner) → corner_from P (suc left) p ≡ cell_of p ∷ corner_from P left (next_corner P p)
corner-next P left p = by_test (less p.demand p.supply)
    (λ e. rw (next-right P p e, smaller-column p.supply p.demand e) (corner-right P left p.row p.col p.supply p.demand e))
    (λ e. rw (next_down P p e, smaller-row p.supply p.demand e) (corner-down P left p.row p.col p.supply p.demand e))

-- ---- how far the rule has dealt

-- The rule has dealt up to p: the cells of the start from number row + col on are those that it
-- puts from p on. Each step so far added at most max_bags to the sizes of the two pairs.
pub record DealtTo (P : Problem) (p : Corner) : Type 0 where
  pub left : ℕ
  pub state : State P left p.row p.col p.supply p.demand
  pub cells : drop (p.row + p.col) (start P) ≡ corner P (suc left) p.row p.col p.supply p.demand
  pub bags : nat_abs p.supply.q + nat_abs p.demand.q ≤ (p.row + p.col + 2) * max_bags
  pub marks : nat_abs p.supply.e + nat_abs p.demand.e ≤ (p.row + p.col + 2) * max_bags

module _ (P : Problem) (ok : Sound P) where
  supply-size : (i : ℕ) → PairWithin max_bags (paired_supply_of P i)
  unfolding paired_supply_of max_bags max_side max_amount
  supply-size i = record { q = supply-most ok i; e = omega arith }

  demand-size : (j : ℕ) → PairWithin max_bags (paired_demand_of P j)
  unfolding paired_demand_of max_bags max_amount max_side
  demand-size j = record { q = demand-most ok j; e = go (eqb j (sinks P - 1)) }
    where
      go : (b : Bool) → cond b (sources P) 0 ≤ max_bags
      go true = omega (arith, ok.sources_high)
      go false = omega arith

  pub dealt_to-first : DealtTo P (first_corner_of P)
  unfolding start
  dealt_to-first = record {
    left = basis_size (sources P) (sinks P) - 1;
    state = begin P ok _ (size-suc P ok);
    cells = rw (← size-suc P ok) refl;
    bags = omega (arith, (supply-size 0).q, (demand-size 0).q);
    marks = omega (arith, (supply-size 0).e, (demand-size 0).e);
  }

  pub length-start : length (start P) ≡ sources P + sinks P - 1
  unfolding basis_size
  length-start = (start-belongs P ok).count

  module _ (p : Corner) (st : DealtTo P p) where
    -- The two pairs can be taken from each other.
    pub dealt_to_fit : Fit p.supply p.demand × Fit p.demand p.supply
    unfolding max_side max_bags max_amount
    dealt_to_fit = omega (arith, st.bags, st.marks, st.state.size, ok.sources_high, ok.sinks_high)

    -- Its cell has a place in the array.
    pub dealt_to-room : p.row + p.col < max_cells
    unfolding max_cells max_side
    dealt_to-room = omega (arith, st.state.size, ok.sources_high, ok.sinks_high)

    cut : drop (p.row + p.col) (start P) ≡ get_or (start P) (p.row + p.col) no_cell ∷ drop (suc (p.row + p.col)) (start P)
    cut = drop-cons (start P) (p.row + p.col) no_cell (omega (arith, length-start, st.state.size))

    put : drop (p.row + p.col) (start P) ≡ cell_of p ∷ corner_from P st.left (next_corner P p)
    put = st.cells ∙ corner-next P st.left p

    pub dealt_to-cell : get_or (start P) (p.row + p.col) no_cell ≡ cell_of p
    dealt_to-cell = cc (cut, put)

    -- The cells after it.
    rest : drop (suc (p.row + p.col)) (start P) ≡ corner_from P st.left (next_corner P p)
    rest = cc (cut, put)

    -- At a cell that is not the last.
    module _ (more : p.row + p.col + 2 < sources P + sinks P) where
      later : st.left ≡ suc (st.left - 1)
      later = omega (arith, st.state.size)

      here : StateAt P (suc (st.left - 1)) p
      here = rw later at st.state

      module _ (e : less p.demand p.supply ≡ true) where
        right : StateAt P (st.left - 1) (to_right P p)
        right = state-right P ok (st.left - 1) p.row p.col p.supply p.demand here e

        pub right-inside : p.col + 1 < sinks P
        right-inside = omega (arith, right.column)

        dealt_to-right : DealtTo P (to_right P p)
        unfolding subtract
        dealt_to-right = record {
          left = st.left - 1;
          state = right;
          cells = rw (← later, add-suc) (rest ∙ ap (corner_from P st.left) (next-right P p e));
          bags = omega (arith, st.bags, abs_diff p.supply.q p.demand.q, (demand-size (suc p.col)).q);
          marks = omega (arith, st.marks, abs_diff p.supply.e p.demand.e, (demand-size (suc p.col)).e);
        }

      module _ (e : less p.demand p.supply ≡ false) where
        down : StateAt P (st.left - 1) (to_down P p)
        down = state-down P ok (st.left - 1) p.row p.col p.supply p.demand here e

        pub down-inside : p.row + 1 < sources P
        down-inside = omega (arith, down.row)

        dealt_to-down : DealtTo P (to_down P p)
        unfolding subtract
        dealt_to-down = record {
          left = st.left - 1;
          state = down;
          cells = rw (← later, suc-add) (rest ∙ ap (corner_from P st.left) (next_down P p e));
          bags = omega (arith, st.bags, abs_diff p.demand.q p.supply.q, (supply-size (suc p.row)).q);
          marks = omega (arith, st.marks, abs_diff p.demand.e p.supply.e, (supply-size (suc p.row)).e);
        }

      pub dealt_to-next : DealtTo P (next_corner P p)
      dealt_to-next = by_test (less p.demand p.supply)
          (λ e. rw (next-right P p e) (dealt_to-right e))
          (λ e. rw (next_down P p e) (dealt_to-down e))

-- Rounds (paper 01, "Prices and rounds", second paragraph): the entering lane, the loop's signs, the step, the pivot; and runs of rounds.
use Rattle.std.specs.Prelude.{Bool, true, false, not, cond, List, [], ◌∷◌, map, ℕ, zero, suc, ◌+◌, ◌*◌, eqb, ltb, ℤ, pos, negsuc, ◌-ℤ◌}
use Rattle.std.specs.Int.Signed.{lt_z}
use Rattle.transport.specs.Lists.{keep, first_least, total}
use Rattle.transport.specs.Limits.{cost_below, cost_above}
use Rattle.transport.specs.Problem.{Problem, sources, sinks, Lane, lanes, place}
use Rattle.transport.specs.Amount.{Pair, add, subtract, less}
use Rattle.transport.specs.Tableau.{Cell, lane_of, with_amount, basis_for, same_lane, no_cell}
use Rattle.transport.specs.Leaf.{Strike, strikes}
use Rattle.transport.specs.Potential.{reduced_cost, is_finished_of}

-- The entering lane: of least reduced cost, and of several the first in sheet order.
unfoldable pub entering : Problem → List Cell → Lane
entering P T =
    first_least (λ k l. lt_z (reduced_cost P T k) (reduced_cost P T l)) (lane_of no_cell) (lanes (sources P) (sinks P))

-- ---- the loop's signs

-- The weights with y taken from node k.
unfoldable pub take_from : (ℕ → ℤ) → ℕ → ℤ → ℕ → ℤ
take_from weight k y = λ j. elim (eqb j k) [
  | true ↦ weight j -ℤ y
  | false ↦ weight j
]

-- What each lane carries so that every node gets its weight, forwards through the strikes: a leaf's lane carries the leaf's whole weight, which is taken from
-- both ends of the lane.
unfoldable pub flow : (ℕ → ℤ) → List Strike → Lane → ℤ
flow weight [] l = pos 0
flow weight (s ∷ ss) l =
    let y = weight s.leaf in
    elim (same_lane l s.lane) [
      | true ↦ y
      | false ↦ flow (take_from (take_from weight s.leaf y) s.other y) ss l
    ]

-- The sign of each basic cell on the loop that the entering lane closes, 0 off the loop: a plus at the entering lane takes 1 from both its nodes, and the basic
-- cells make up for it.
unfoldable pub sign : ℕ → List Strike → Lane → Lane → ℤ
sign m ss enter = flow (take_from (take_from (λ k. pos 0) enter.row (pos 1)) (m + enter.col) (pos 1)) ss

-- ---- the step and the pivot

-- The cell that leaves: of the minus cells, the one with the smallest pair.
unfoldable pub leaving : (Lane → ℤ) → List Cell → Cell
leaving sign_of T = first_least (λ a b. less a.amount b.amount) no_cell (keep (λ c. lt_z (sign_of (lane_of c)) (pos 0)) T)

-- What the step makes of a pair, by the sign of its cell.
unfoldable pub gain : ℤ → Pair → Pair → Pair
gain (pos zero) step a = a
gain (pos (suc k)) step a = add a step
gain (negsuc k) step a = subtract a step

unfoldable pub shift : (Lane → ℤ) → Pair → Cell → Cell
shift sign_of step c = with_amount (lane_of c) (gain (sign_of (lane_of c)) step c.amount)

-- A cell put into its place in sheet order.
unfoldable pub insert : ℕ → Cell → List Cell → List Cell
insert n c [] = c ∷ []
insert n c (d ∷ ds) =
    let rest = d ∷ insert n c ds in
    cond (ltb (place n c.row c.col) (place n d.row d.col)) (c ∷ d ∷ ds) rest

-- The tableau after the lane has entered: the entering cell holds the step, and the cell that held the step is gone.
unfoldable pub pivot : ℕ → ℕ → List Cell → Lane → List Cell
pivot m n T enter =
    let sign_of = sign m (strikes m n (basis_for T)) enter in
    let out = leaving sign_of T in
    insert n (with_amount enter out.amount) (map (shift sign_of out.amount) (keep (λ c. not (same_lane (lane_of c) (lane_of out))) T))

-- ---- the round

unfoldable pub next : Problem → List Cell → List Cell
next P T = pivot (sources P) (sinks P) T (entering P T)

-- A run of rounds: whether it finished within its allowance (else it is spent), the last tableau and the rounds made.
pub record Run : Type 0 where
  pub finished : Bool
  pub tableau : List Cell
  pub rounds : ℕ

unfoldable pub run : Problem → ℕ → List Cell → Run
run P zero T = record { finished = is_finished_of P T; tableau = T; rounds = 0 }
run P (suc allowance) T = elim (is_finished_of P T) [
  | true ↦ record { finished = true; tableau = T; rounds = 0 }
  | false ↦
      let r = run P allowance (next P T) in
      record { finished = r.finished; tableau = r.tableau; rounds = suc r.rounds }
]

-- More rounds than any run makes: what all amounts are worth, times the range of costs. (That every run finishes within it is a theorem.)
unfoldable pub round_bound : Problem → ℕ
round_bound P = (cost_below + cost_above) * ((2 * sources P + 1) * total P.supply + sources P)

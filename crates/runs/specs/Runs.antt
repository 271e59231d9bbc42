-- Runs on what is kept: what falls in each round, and how they end.
use Rattle.std.specs.Prelude.{◌+◌, ◌*◌, ◌-◌, ◌<◌, ◌≡◌}
use Rattle.prelude.specs.Words.{ℕ, zero, suc, arith, mul-le-mul_left, refl, ap, ◌∙◌, Bool, true, false, List, ℤ, pos, get_or, clash}
use Rattle.integers.specs.Integer.{Z, ◌≈◌, ◌⊗◌}
use Rattle.integers.specs.Bridge.{to_z}
use Rattle.integers.specs.SumLaws.{sum₂_cong}
use Rattle.network.specs.Flow as network
use Rattle.network.specs.Pivot.{valued}
use Rattle.transport.specs.Limits.{cost_below}
use Rattle.transport.specs.Problem.{Problem, sources, sinks}
use Rattle.transport.specs.Potential.{potential, is_finished_of}
use Rattle.transport.specs.Round.{next, run, round_bound}
use Rattle.transport.specs.declared.Cell.{Cell}
use Rattle.tableaux.specs.PlanView as plan
use Rattle.tableaux.specs.TableauView.{bags_at, marks_at}
use Rattle.tableaux.specs.Pivoting.{measure}
use Rattle.tableaux.specs.Running.{run-done, run_none, run_more}
use Rattle.tableaux.specs.Ending.{most_value, all_value-high, raised, raised-nonneg, next-falls, run_ends}
use Rattle.tree.specs.Layout.{stride}
use Rattle.board.specs.Arrays as arrays
use Rattle.board.specs.declared.Board.{Board}
use Rattle.board.specs.Drawing.{board-belongs}
use Rattle.rounds.specs.Kept.{Kept}
use Rattle.rounds.specs.Begun.{Begun, begun-belongs}

-- ---- what falls

abbrev on_lane : List ℤ → ℕ → ℕ → Z
on_lane xs i j = to_z (get_or xs (i * stride + j) (pos 0))

abbrev cost_on : List ℤ → ℕ → ℕ → Z
cost_on cost i j = to_z (get_or cost (j * stride + i) (pos 0))

-- The valued cost of the amounts, read off the arrays; and raised by its lower bound, so that it is a natural number.
abbrev lane_value : List ℤ → List ℤ → List ℤ → ℕ → ℕ → Z
lane_value q e cost m n = network.cost m n (cost_on cost) (valued m (on_lane q) (on_lane e))

abbrev pub board_value : List ℤ → List ℤ → List ℤ → ℕ → ℕ → ℕ
board_value q e cost m n = let x = lane_value q e cost m n in x.up + cost_below * most_value - x.dn

module _ {P : Problem} {T : List Cell} {q e cost price slack : List ℤ} {sub path tree : List ℕ} {m n : ℕ}
    (k : Kept P T q e cost price slack sub path tree m n) where
  board-value : lane_value q e cost m n ≈ measure P (plan.costs P) T
  board-value = let b = k.board in
      rw (b.rows, b.columns) (sum₂_cong (sources P) (sinks P) (λ i j. valued (sources P) (on_lane q) (on_lane e) i j ⊗ cost_on cost i j)
      (λ i j. valued (sources P) (bags_at T) (marks_at T) i j ⊗ plan.costs P i j)
      (λ i j x y. rw (
        b.amounts.bags i j (omega (arith, b.rows)) (omega (arith, b.columns)),
        b.amounts.marks i j (omega (arith, b.rows)) (omega (arith, b.columns)),
        k.costs.lanes i j x y,
      )))

pub value-falls : {P : Problem} {T : List Cell} {q q' e e' cost price price' slack slack' : List ℤ} {sub sub' path path' tree tree' : List ℕ} {m n : ℕ}
    → Kept P T q e cost price slack sub path tree m n → is_finished_of P T ≡ false → Kept P (next P T) q' e' cost price' slack' sub' path' tree' m n
    → board_value q' e' cost m n < board_value q e cost m n
unfolding raised
value-falls k f k' = omega (
  arith,
  board-value k,
  board-value k',
  next-falls k.board.sound (board-belongs k.board) f,
  raised-nonneg k.board.sound (board-belongs k'.board),
  mul-le-mul_left cost_below (all_value-high k.board.sound),
)

-- ---- a run

-- The run of an allowance on T has come to the tableau that is kept: `made` rounds are made, and what is left is a run from there.
pub record Going (P : Problem) (T : List Cell) (allowance : ℕ) (q e cost price slack : List ℤ) (sub path tree : List ℕ) (m n left made : ℕ) : Type 0 where
  pub here : List Cell
  pub kept : Kept P here q e cost price slack sub path tree m n
  pub done : (run P allowance T).finished ≡ (run P left here).finished
  pub tableau : (run P allowance T).tableau ≡ (run P left here).tableau
  pub rounds : (run P allowance T).rounds ≡ made + (run P left here).rounds

abbrev pub GoingOn : Problem → List Cell → ℕ → Board → (cost price slack : List ℤ) → (m n left made : ℕ) → Type 0
GoingOn P T allowance b cost price slack m n left made = Going P T allowance b.amounts.q b.amounts.e cost price slack
    b.basis.sub b.basis.path b.basis.lane m n left made

-- The run has ended after `made` rounds, and the arrays hold its last tableau ..
pub record Ended (P : Problem) (T : List Cell) (allowance : ℕ) (q e : List ℤ) (tree : List ℕ) (m n : ℕ) (finished : Bool) (made : ℕ) : Type 0 where
  pub done : (run P allowance T).finished ≡ finished
  pub rounds : (run P allowance T).rounds ≡ made
  pub sub : List ℕ
  pub path : List ℕ
  pub board : arrays.Board P (run P allowance T).tableau q e sub path tree m n

-- .. with its prices.
pub record Ran (P : Problem) (T : List Cell) (allowance : ℕ) (q e price : List ℤ) (tree : List ℕ) (m n : ℕ) (finished : Bool) (made : ℕ) : Type 0 where
  pub ended : Ended P T allowance q e tree m n finished made
  pub prices : (k : ℕ) → k < m + n → get_or price k (pos 0) ≡ potential P (run P allowance T).tableau k

-- The same, of a board.
abbrev pub EndedOn : Problem → List Cell → ℕ → Board → ℕ → ℕ → Bool → ℕ → Type 0
EndedOn P T allowance b m n finished made = Ended P T allowance b.amounts.q b.amounts.e b.basis.lane m n finished made

abbrev pub RanOn : Problem → List Cell → ℕ → Board → List ℤ → ℕ → ℕ → Bool → ℕ → Type 0
RanOn P T allowance b price m n finished made =
    Ran P T allowance b.amounts.q b.amounts.e price b.basis.lane m n finished made

-- A run of the bound of rounds comes to a finished tableau.
pub begun-ends : {P : Problem} {T : List Cell} {q e cost : List ℤ} {leaf other tree : List ℕ} {m n : ℕ} → Begun P T q e cost leaf other tree m n
    → (run P (round_bound P) T).finished ≡ true
begun-ends {T = T} d = run_ends d.sound T (begun-belongs d)

run_no_more : (P : Problem) (T : List Cell) → run P 0 T ≡ record { finished = is_finished_of P T; tableau = T; rounds = 0 }
unfolding run
run_no_more P T = refl

module _ {P : Problem} {T : List Cell} {allowance : ℕ} {q e cost price slack : List ℤ} {sub path tree : List ℕ} {m n : ℕ} where
  pub going_start : Kept P T q e cost price slack sub path tree m n → Going P T allowance q e cost price slack sub path tree m n allowance 0
  going_start k = record { here = T; kept = k; done = refl; tableau = refl; rounds = omega arith }

  module _ {left made : ℕ} (g : Going P T allowance q e cost price slack sub path tree m n left made) where
    -- One round more, on a tableau that is not finished.
    pub going_next : {q' e' price' slack' : List ℤ} {sub' path' tree' : List ℕ} (k : ℕ) → left ≡ suc k → is_finished_of P g.here ≡ false
        → Kept P (next P g.here) q' e' cost price' slack' sub' path' tree' m n
        → Going P T allowance q' e' cost price' slack' sub' path' tree' m n k (made + 1)
    going_next k s f b = let r = ap (λ (a : ℕ). run P a g.here) s ∙ run_more P k g.here f in
        record {
          here = next P g.here;
          kept = b;
          done = g.done ∙ ap (λ x. x.finished) r;
          tableau = g.tableau ∙ ap (λ x. x.tableau) r;
          rounds = omega (arith, g.rounds, ap (λ x. x.rounds) r);
        }

    -- A run that is done has a round left as long as the tableau is not finished.
    pub going_left : (run P allowance T).finished ≡ true → is_finished_of P g.here ≡ false → 0 < left
    going_left d f = go left refl
      where
        go : (k : ℕ) → left ≡ k → 0 < left
        go zero z = clash d (g.done ∙ ap (λ (a : ℕ). (run P a g.here).finished) z ∙ ap (λ x. x.finished) (run_none P g.here f))
        go (suc k) s = omega arith

    module _ {q' e' price' slack' : List ℤ} {sub' path' tree' : List ℕ} {finished : Bool}
        (b : Kept P g.here q' e' cost price' slack' sub' path' tree' m n) where
      ran : run P left g.here ≡ record { finished = finished; tableau = g.here; rounds = 0 } → Ran P T allowance q' e' price' tree' m n finished made
      ran r = let t : (run P allowance T).tableau ≡ g.here = g.tableau ∙ ap (λ x. x.tableau) r in
          record {
            ended = record {
              done = g.done ∙ ap (λ x. x.finished) r;
              rounds = omega (arith, g.rounds, ap (λ x. x.rounds) r);
              sub = sub';
              path = path';
              board = rw t b.board;
            };
            prices = rw t b.prices.are;
          }

      -- It ends where the tableau is finished, and where no rounds are left.
      pub ran-done : finished ≡ true → is_finished_of P g.here ≡ true → Ran P T allowance q' e' price' tree' m n finished made
      ran-done s f = ran (run-done P left g.here f ∙ rw s)

      pub ran_out : left ≡ 0 → is_finished_of P g.here ≡ finished → Ran P T allowance q' e' price' tree' m n finished made
      ran_out z f = ran (ap (λ (a : ℕ). run P a g.here) z ∙ run_no_more P g.here ∙ rw f)

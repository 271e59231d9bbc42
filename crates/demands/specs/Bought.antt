-- What is bought, from the contract of solve.
use Rattle.std.specs.declared.result.Result.{Result}
use Rattle.std.specs.Prelude.{Ok, Err, ◌≡◌, ◌↔◌, ◌⊎◌, ◌*◌}
use Rattle.prelude.specs.Words.{refl, sym, ap, ◌∙◌, inl, inr, by_cases, List, ℕ, arith, dec_lt, ℕ_discrete, ℤ, length, take, drop, take_at}
use Rattle.prelude.specs.Words.{drop_at, Dec-and, ⊎_elim}
use Rattle.transport.specs.declared.Refusal.{Refusal}
use Rattle.transport.specs.declared.SolveAnswer.{SolveAnswer}
use Rattle.transport.specs.Lists.{total}
use Rattle.transport.specs.Limits.{max_side}
use Rattle.transport.specs.Sheet.{Sheet, roasteries, cafes}
use Rattle.transport.specs.Calls.{Answer, refused, given, lent_after, Solution, solve_call}
use Rattle.transport.specs.Answers.{result_of, solve_shown, solve_answer}
use Rattle.transport.specs.Statements.{WithinLimits, Balanced, Lacking, Crowded, Idle, Best, BestExactly, LongEnough, Bought}
use Rattle.transport.specs.Laws.CallLaws.{Fills}
use Rattle.reduction.specs.Balanced.{best_exactly}
use Rattle.demands.specs.Demand3.{Solved, demand3, solve-fills}

solved≢refused : {s : SolveAnswer} {r : Refusal} → Ok s ≡ Err r → ⊥
solved≢refused e = let n : ◌≡◌ {A = ℕ} 0 1 = cc in omega arith

-- A lent list after a result of which a part fills n places: these places, and the rest.
module _ {A B : Type 0} (part : A → List B) (x : A) (n : ℕ) (e : length (part x) ≡ n) (old : List B) where
  pub lent-filled : take n (lent_after part (given x) old) ≡ part x
  unfolding lent_after
  lent-filled = take_at (part x) (drop (length (part x)) old) n e

  lent-beyond : drop n (lent_after part (given x) old) ≡ drop n old
  unfolding lent_after
  lent-beyond = drop_at (part x) (drop (length (part x)) old) n e ∙ ap (λ (t : ℕ). drop t old) e

-- ---- the fields, for any answer of the paper

gives-best : (S : Sheet) (a : Answer Solution) (plan : List ℕ) → Solved S a
    → (cost : ℤ) × (rounds : ℕ) × (solve_answer a ≡ Ok (record { cost = cost; rounds = rounds }))
    × Best S (take (roasteries S * cafes S) (lent_after (λ s. s.plan) a plan)) cost
unfolding solve_answer result_of solve_shown
gives-best S a plan h =
    let s = h.found in
    let front = lent-filled (λ s. s.plan) s (roasteries S * cafes S) h.best.meets.quantities plan in
    (s.cost, s.rounds, rw h.answered, rw (h.answered, front) h.best)

-- The sheets that are refused are lacking, crowded or idle, since all others are solved; and each of the three has its number.
refuses_exactly : (S : Sheet) (a : Answer Solution) → (¬ Lacking S → ¬ Crowded S → ¬ Idle S → Solved S a) × (Lacking S → a ≡ refused Refusal.Lacking)
    × (Crowded S → a ≡ refused Refusal.Crowded) × (Idle S → ¬ Crowded S → a ≡ refused Refusal.Idle)
    → (k : Refusal) → (solve_answer a ≡ Err k)
    ↔ ((k ≡ Refusal.Lacking) × Lacking S) ⊎ ((k ≡ Refusal.Crowded) × Crowded S) ⊎ ((k ≡ Refusal.Idle) × Idle S × ¬ Crowded S)
unfolding solve_answer result_of solve_shown
refuses_exactly S a h k = (
  (λ e. by_cases (dec_lt (total S.supply) (total S.demand))
      (λ l. let five : k ≡ Refusal.Lacking = cc (ap solve_answer (h.1 l), e) in inl (five, l))
      (λ l. by_cases (Dec-and (dec_lt (total S.demand) (total S.supply)) (ℕ_discrete (cafes S) max_side))
      (λ c. let ten : k ≡ Refusal.Crowded = cc (ap solve_answer (h.2 c), e) in inr (inl (ten, c)))
      (λ c. by_cases (ℕ_discrete (total S.demand) 0)
      (λ i. let eleven : k ≡ Refusal.Idle = cc (ap solve_answer (h.3 i c), e) in inr (inr (eleven, i, c)))
      (λ i. absurd (solved≢refused (sym (ap solve_answer (h.0 l c i).answered) ∙ e)))))),
  ⊎_elim (λ (five, l). rw (h.1 l, five)) (⊎_elim (λ (ten, c). rw (h.2 c, ten)) (λ (eleven, i, c). rw (h.3 i c, eleven))),
)

leaves_all : (a : Answer Solution) (u v : List ℤ) (plan : List ℕ) (k : Refusal) → solve_answer a ≡ Err k
    → (lent_after (λ s. s.u) a u ≡ u) × (lent_after (λ s. s.v) a v ≡ v) × (lent_after (λ s. s.plan) a plan ≡ plan)
unfolding solve_answer result_of solve_shown lent_after
leaves_all (refused r) u v plan k e = (refl, refl, refl)
leaves_all (given s) u v plan k e = absurd (solved≢refused e)

leaves-rest : (S : Sheet) (a : Answer Solution) (u v : List ℤ) (plan : List ℕ) → ((s : Solution) → a ≡ given s → Fills S s)
    → (cost : ℤ) (rounds : ℕ) → solve_answer a ≡ Ok (record { cost = cost; rounds = rounds })
    → (drop (roasteries S) (lent_after (λ s. s.u) a u) ≡ drop (roasteries S) u) × (drop (cafes S) (lent_after (λ s. s.v) a v) ≡ drop (cafes S) v)
    × (drop (roasteries S * cafes S) (lent_after (λ s. s.plan) a plan) ≡ drop (roasteries S * cafes S) plan)
unfolding solve_answer result_of solve_shown
leaves-rest S (refused r) u v plan h cost rounds e = absurd (solved≢refused (sym e))
leaves-rest S (given s) u v plan h cost rounds e =
    let f = h s refl in (
      lent-beyond (λ s. s.u) s (roasteries S) f.u u,
      lent-beyond (λ s. s.v) s (cafes S) f.v v,
      lent-beyond (λ s. s.plan) s (roasteries S * cafes S) f.plan plan,
    )

-- ---- the call

-- The four equations are the contract of solve.
pub bought : (S : Sheet) (r : Result SolveAnswer Refusal) (u v : List ℤ) (plan : List ℕ) (uAfter vAfter : List ℤ) (planAfter : List ℕ)
    → r ≡ solve_answer (solve_call S (length u) (length v) (length plan))
    → uAfter ≡ lent_after (λ s. s.u) (solve_call S (length u) (length v) (length plan)) u
    → vAfter ≡ lent_after (λ s. s.v) (solve_call S (length u) (length v) (length plan)) v
    → planAfter ≡ lent_after (λ s. s.plan) (solve_call S (length u) (length v) (length plan)) plan → Bought S r u v plan uAfter vAfter planAfter
bought S r u v plan uAfter vAfter planAfter answered u_held v_held plan_held =
    let a = solve_call S (length u) (length v) (length plan) in
    let d = demand3 S (length u) (length v) (length plan) in
    rw (answered, u_held, v_held, plan_held)
    (record {
      solved = λ w l enough room wanting. gives-best S a plan ((d w l).0 enough room wanting);
      refuses = λ w l. refuses_exactly S a (d w l);
      numbers = (refl, refl, refl);
      unchanged = leaves_all a u v plan;
      rest = leaves-rest S a u v plan (solve-fills S (length u) (length v) (length plan));
    })

-- On balanced sheets that want anything this is what was bought before One: solve gives a plan that is best in 01's own words, and refuses none of them.
pub bought-balanced : {S : Sheet} {r : Result SolveAnswer Refusal} {u v : List ℤ} {plan : List ℕ} {uAfter vAfter : List ℤ} {planAfter : List ℕ}
    → Bought S r u v plan uAfter vAfter planAfter → WithinLimits S → LongEnough S (length u) (length v) (length plan) → Balanced S → ¬ Idle S
    → ((cost : ℤ) × (rounds : ℕ) × (r ≡ Ok (record { cost = cost; rounds = rounds })) × BestExactly S (take (roasteries S * cafes S) planAfter) cost)
    × ((k : Refusal) → ¬ (r ≡ Err k))
bought-balanced {S} {planAfter} b w l e wanting =
    let (cost, rounds, solved, best) = b.solved w l (λ lacking. omega arith) (λ crowded. omega (arith, crowded.0)) wanting in (
      (cost, rounds, solved, (best_exactly e (take (roasteries S * cafes S) planAfter) cost).0 best),
      λ k refused. solved≢refused (sym solved ∙ refused),
    )

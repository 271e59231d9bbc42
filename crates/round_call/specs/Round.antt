-- Round, case by case: the answers of the call.
use Rattle.std.specs.Prelude.{◌≡◌, ◌++◌, Ok, Err}
use Rattle.prelude.specs.Words.{refl, arith, Bool, true, false, cond, none, some, List, ℕ, ℤ, pos}
use Rattle.prelude.specs.Words.{length-take, take, drop, replicate}
use Rattle.transport.specs.declared.Refusal.{Refusal}
use Rattle.transport.specs.declared.RoundAnswer.{RoundAnswer}
use Rattle.transport.specs.declared.Cell.{Cell}
use Rattle.transport.specs.declared.Tableau.{Tableau}
use Rattle.transport.specs.Limits.{max_side}
use Rattle.transport.specs.Sheet.{Sheet, roasteries, cafes, refusal}
use Rattle.transport.specs.Extended.{extended}
use Rattle.transport.specs.Parties.{problem_of}
use Rattle.transport.specs.Tableau.{tableau_of}
use Rattle.transport.specs.Potential.{is_finished_of}
use Rattle.transport.specs.OwnNumbers.{own, roastery_price_of, cafe_price_of, roastery_prices, cafe_prices}
use Rattle.transport.specs.Round.{next}
use Rattle.transport.specs.Calls.{refused, given, finished, round, tableau_tests, inside, round_call}
use Rattle.transport.specs.Laws.CallLaws.{unless-given, unless-refused}
use Rattle.transport.specs.Answers.{prices, result_of, round_shown, round_answer}
use Rattle.transport.specs.Statements.{Accepted}
use Rattle.parties.specs.declared.Parties.{Parties}
use Rattle.parties.specs.Parties.{NumbersOf}
use Rattle.dealing.specs.Filling.{padded_fill}
use Rattle.price_lists.specs.Prices.{NodesPriced}
use Rattle.rounds.specs.Begun.{Rounded}
use Rattle.rounds.specs.PricesShown.{rounded-small}

-- The answer, of any tableau: the prices of a finished one, or the next one under own numbers.
module _ (S : Sheet) (T : List Cell) where
  pub round-finished : is_finished_of (problem_of S) T ≡ true
      → round_answer (given (finished (roastery_prices S T) (cafe_prices S T))) ≡ round_answer (given (round S T))
  unfolding round
  round-finished f = rw (f, round)

  pub round-moved : is_finished_of (problem_of S) T ≡ false
      → {t : Tableau} → t ≡ tableau_of (own (extended S) (next (problem_of S) T))
      → Ok (RoundAnswer.Moved t) ≡ round_answer (given (round S T))
  unfolding round_answer round_shown result_of round
  round-moved f x = rw (x, f, round)

pub round-refused : (r : Refusal) → Err r ≡ round_answer (refused r)
unfolding round_answer result_of
round-refused r = refl

module _ (S : Sheet) (t : Tableau) where
  -- What the tests refuse, the call refuses.
  pub round-refuses : (r : Refusal) → refusal (tableau_tests S t) ≡ some r → round_call S t ≡ refused r
  unfolding round_call
  round-refuses r e = unless-refused (tableau_tests S t) (round S (inside S t)) r e

  pub call-refused : (r : Refusal) → refusal (tableau_tests S t) ≡ some r → Err r ≡ round_answer (round_call S t)
  call-refused r e = rw (round-refuses r e) (round-refused r)

  -- Else it gives the round on the tableau among those left.
  module _ (e : refusal (tableau_tests S t) ≡ none) where
    pub round-given : round_call S t ≡ given (round S (inside S t))
    unfolding round_call
    round-given = unless-given (tableau_tests S t) (round S (inside S t)) e

    pub call-finished : is_finished_of (problem_of S) (inside S t) ≡ true
        → Ok (round_shown (finished (roastery_prices S (inside S t)) (cafe_prices S (inside S t))))
        ≡ round_answer (round_call S t)
    unfolding round_answer result_of
    call-finished f = rw round-given (round-finished S (inside S t) f)

    pub call-moved : is_finished_of (problem_of S) (inside S t) ≡ false
        → Ok (RoundAnswer.Moved (tableau_of (own (extended S) (next (problem_of S) (inside S t)))))
        ≡ round_answer (round_call S t)
    call-moved f = rw round-given (round-moved S (inside S t) f refl)

-- The answer with the prices of a finished tableau, which were written in lists of zeros.
pub round-prices : (S : Sheet) (T : List Cell) {x y : List ℤ}
    → x ≡ roastery_prices S T ++ drop (roasteries S) (replicate max_side (pos 0))
    → y ≡ cafe_prices S T ++ drop (cafes S) (replicate max_side (pos 0))
    → RoundAnswer.Finished x y ≡ round_shown (finished (roastery_prices S T) (cafe_prices S T))
unfolding round_shown prices roastery_prices cafe_prices
round-prices S T f g =
    rw (f, g, padded_fill (roastery_price_of (extended S) T), padded_fill (cafe_price_of (extended S) T))

-- After a round: what the prices are of, under the own numbers that a call lends; the same tableau
-- if it is finished.
pub round-priced : {S : Sheet} → Accepted S → {p : Parties} → NumbersOf S p
    → {T : List Cell} {q e price : List ℤ} {tree : List ℕ} {done : Bool}
    → Rounded (problem_of S) T q e price tree p.rows p.columns done
    → {rows columns : List ℕ} → rows ≡ take p.rows p.row_numbers → columns ≡ take p.columns p.column_numbers
    → NodesPriced S (cond done T (next (problem_of S) T)) rows columns price
round-priced ok {p} h r rows_are columns_are =
    let rows = length-take p.rows p.row_numbers in
    let columns = length-take p.columns p.column_numbers in
    rw (rows_are, columns_are) (record {
      accepted = ok;
      rows = h.row_numbers;
      cols = h.column_numbers;
      prices = λ k l. r.prices k (omega (arith, rows, columns));
      small = λ k l. rounded-small r k (omega (arith, rows, columns));
    })

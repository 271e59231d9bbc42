-- Any two finished tableaux that belong to the same sheet have the same prices, those of struck
-- parties among them (02, Five and Fourteen).
use Rattle.std.specs.Prelude.{◌≡◌, ◌∷◌, ◌≤◌, ◌-ℤ◌}
use Rattle.prelude.specs.Words.{refl, sym, ap, ◌∙◌, true, List, [], map, Memᴰ, Memᴰ-head}
use Rattle.prelude.specs.Words.{Memᴰ-tail, ℕ, arith, ℤ, by_test, subst}
use Rattle.transport.specs.declared.Cell.{Cell}
use Rattle.transport.specs.Lists.{at, least_for}
use Rattle.transport.specs.Problem.{Problem, sinks, lane_cost}
use Rattle.transport.specs.Sheet.{Sheet, roasteries, cafes}
use Rattle.transport.specs.Extended.{extended}
use Rattle.transport.specs.Parties.{is_left, rows_left_of, columns_left, struck, problem_of}
use Rattle.transport.specs.Potential.{is_finished_of}
use Rattle.transport.specs.OwnNumbers.{row_price_of, column_price_of, cafe_price_of, roastery_price_of, roastery_prices, cafe_prices}
use Rattle.transport.specs.Statements.{Accepted, Belongs, EqualPrices}
use Rattle.transport.specs.Laws.ListLaws.{table_cong, member-place}
use Rattle.transport.specs.Laws.ProblemLaws.{lane}
use Rattle.transport.specs.Laws.PartiesLaws.{is-left, left_at, among-left, struck-sources, struck-sinks}
use Rattle.transport.specs.Laws.Sound.{Sound}
use Rattle.transport.proofs.Sound.{sound, rows_left}
use Rattle.tableaux.specs.EqualPotentials.{equal_potentials}
use Rattle.reduction.specs.OwnBelonging.{belongs-struck}
use Rattle.demands.specs.GivenPrices.{cafe-left, cafe-struck, roastery_left, roastery_struck, cost_less_row}
use Rattle.demands.specs.GivenPrices.{cost_less_cafe}

map_cong : {A B : Type 0} (f g : A → B) (xs : List A) → ((x : A) → Memᴰ x xs → f x ≡ g x) → map f xs ≡ map g xs
map_cong f g [] h = refl
map_cong f g (x ∷ xs) h = rw (h x (Memᴰ-head refl), map_cong f g xs (λ y m. h y (Memᴰ-tail m)))

-- The price of a party left is the potential of its node, and potentials are equal. The price of a
-- struck party is made from costs and the prices of the others, first those of the cafés.
module _ (E : Problem) (ok : Sound (struck E)) {T U : List Cell} (w : Belongs (struck E) T) (x : Belongs (struck E) U)
    (done : is_finished_of (struck E) T ≡ true) (also : is_finished_of (struck E) U ≡ true) where
  row-equal : (i : ℕ) → 1 ≤ at E.supply i → row_price_of E T i ≡ row_price_of E U i
  unfolding row_price_of rows_left_of
  row-equal i some =
      let inside = (among-left E.supply i some).inside in
      equal_potentials ok w x done also _ (omega (arith, inside, struck-sources E))

  column-equal : (j : ℕ) → 1 ≤ at E.demand j → column_price_of E T j ≡ column_price_of E U j
  unfolding column_price_of columns_left
  column-equal j some =
      let inside = (among-left E.demand j some).inside in
      equal_potentials ok w x done also _ (omega (arith, inside, struck-sinks E))

  cafe-equal : (j : ℕ) → cafe_price_of E T j ≡ cafe_price_of E U j
  unfolding rows_left_of at
  cafe-equal j = by_test (is_left E.demand j)
      (λ e. cafe-left E T j e ∙ column-equal j (is-left E.demand j e) ∙ sym (cafe-left E U j e))
      (λ e.
      let each : (i : ℕ) → Memᴰ i (rows_left_of E) → cost_less_row E T j i ≡ cost_less_row E U j i = λ i m.
      let (k, l, s) = member-place 0 m in
      let some = subst (λ (h : ℕ). 1 ≤ at E.supply h) s (left_at E.supply k l).1 in
      ap (λ (u : ℤ). lane_cost E (lane i j) -ℤ u) (row-equal i some) in
      cafe-struck E T j e
      ∙ ap least_for (map_cong (cost_less_row E T j) (cost_less_row E U j) (rows_left_of E) each)
      ∙ sym (cafe-struck E U j e))

  roastery_equal : (i : ℕ) → roastery_price_of E T i ≡ roastery_price_of E U i
  roastery_equal i = by_test (is_left E.supply i)
      (λ e. roastery_left E T i e ∙ row-equal i (is-left E.supply i e) ∙ sym (roastery_left E U i e))
      (λ e.
      let each : (j : ℕ) → cost_less_cafe E T i j ≡ cost_less_cafe E U i j =
      λ j. ap (λ (v : ℤ). lane_cost E (lane i j) -ℤ v) (cafe-equal j) in
      roastery_struck E T i e
      ∙ ap least_for (table_cong (sinks E) (cost_less_cafe E T i) (cost_less_cafe E U i) (λ j l. each j))
      ∙ sym (roastery_struck E U i e))

-- Of tableaux of the parties left ..
pub given-equal : (S : Sheet) → Sound (problem_of S) → {T U : List Cell} → Belongs (problem_of S) T
    → Belongs (problem_of S) U
    → is_finished_of (problem_of S) T ≡ true → is_finished_of (problem_of S) U ≡ true
    → (roastery_prices S T ≡ roastery_prices S U) × (cafe_prices S T ≡ cafe_prices S U)
unfolding roastery_prices cafe_prices problem_of
given-equal S ok w x done also = (
  table_cong (roasteries S) _ _ (λ i l. roastery_equal (extended S) ok w x done also i),
  table_cong (cafes S) _ _ (λ j l. cafe-equal (extended S) ok w x done also j),
)

-- .. and of tableaux under own numbers, as the paper says of them that they belong.
pub equal-prices : {S : Sheet} → Accepted S → EqualPrices S
unfolding problem_of extended rows_left_of
equal-prices {S} ok = record {
  same = λ T U w x done also.
      let struck = belongs-struck (extended S) T (rows_left ok) w in
      let other = belongs-struck (extended S) U (rows_left ok) x in
      given-equal S (sound ok) struck other done also;
}

-- The prices of a tableau that belongs, in the paper's words: they are prices, and the only ones.
use Rattle.std.specs.Prelude.{◌≡◌, ◌+◌, ◌<◌}
use Rattle.prelude.specs.Words.{sym, ◌∙◌, List, ℕ, arith, ℤ, pos}
use Rattle.integers.specs.Bridge.{to_z, z-add, z-eq, eq-z}
use Rattle.transport.specs.Lists.{at_z}
use Rattle.transport.specs.Problem.{Problem, sources, sinks, lane_cost}
use Rattle.transport.specs.Potential.{potential, source_prices_of, sink_prices}
use Rattle.transport.specs.Statements.{Basic, Belongs, PricesOf, OnlyPrices}
use Rattle.transport.specs.Laws.ListLaws.{get_or-table}
use Rattle.transport.specs.Laws.Sound.{Sound}
use Rattle.transport.specs.Laws.ProblemLaws.{lane}
use Rattle.transport.specs.declared.Cell.{Cell}
use Rattle.network.specs.Joined.{potentials_unique}
use Rattle.tableaux.specs.Belonging.{fits_of, spans_of, prices-tight}
use Rattle.tableaux.specs.Potentials.{potential-root}

module _ {P : Problem} {T : List Cell} (ok : Sound P) (w : Belongs P T) where
  -- Any two prices of the tableau are the same: its cells join all nodes.
  same-prices : {u v x y : ℕ → ℤ} → PricesOf P T u v → PricesOf P T x y → ((i : ℕ) → i < sources P → x i ≡ u i) × ((j : ℕ) → j < sinks P → y j ≡ v j)
  same-prices {u} {v} {x} {y} a b =
      let (rows, columns) = potentials_unique w.joined (λ i j. to_z (lane_cost P (lane i j)))
      (λ i. to_z (x i)) (λ j. to_z (y j)) (λ i. to_z (u i)) (λ j. to_z (v j))
      (λ i j hi hj s. omega (arith, z-eq (b.tight i j s), z-add (x i) (y j)))
      (λ i j hi hj s. omega (arith, z-eq (a.tight i j s), z-add (u i) (v j)))
      (z-eq (b.root ∙ sym a.root)) in
      ((λ i l. eq-z (x i) (u i) (rows i l)), (λ j l. eq-z (y j) (v j) (columns j l)))

  -- The potentials of the nodes are the prices ..
  pub only-prices : OnlyPrices P T (potential P T) (λ j. potential P T (sources P + j))
  unfolding potential
  only-prices =
      let own : PricesOf P T (potential P T) (λ j. potential P T (sources P + j)) = record {
        root = potential-root ok.sources_low (fits_of ok w) (spans_of ok w) (lane_cost P);
        tight = λ i j s. eq-z _ _ (omega (arith, prices-tight ok w i j s, z-add (potential P T i) (potential P T (sources P + j))));
      } in
      record { are = own; only = λ x y b. same-prices own b }

  -- .. and so are the lists that a round and solve give.
  source_price : (i : ℕ) → i < sources P → at_z (source_prices_of P T) i ≡ potential P T i
  unfolding at_z source_prices_of
  source_price i l = get_or-table (potential P T) (sources P) i (pos 0) l

  sink_price : (j : ℕ) → j < sinks P → at_z (sink_prices P T) j ≡ potential P T (sources P + j)
  unfolding at_z sink_prices
  sink_price j l = get_or-table (λ j. potential P T (sources P + j)) (sinks P) j (pos 0) l

  pub listed-prices : OnlyPrices P T (at_z (source_prices_of P T)) (at_z (sink_prices P T))
  listed-prices =
      let inside : (i j : ℕ) → Basic T i j → (i < sources P) × (j < sinks P) = λ i j b. rw (← b.row, ← b.column) (w.on_sheet b.index b.below) in
      let own : PricesOf P T (at_z (source_prices_of P T)) (at_z (sink_prices P T)) = record {
        root = source_price 0 ok.sources_low ∙ only-prices.are.root;
        tight = λ i j s. let (l, h) = inside i j s in rw (source_price i l, sink_price j h) (only-prices.are.tight i j s);
      } in
      record { are = own; only = λ x y b. same-prices own b }

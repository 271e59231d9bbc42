-- Paired amounts (paper 01, "Paired amounts"): q bags and e marks, the small number of source 001.
use Rattle.std.specs.Prelude.{Bool, false, ◌&&◌, ◌||◌, cond, List, [], ◌∷◌, ℕ, ◌+◌, ◌-◌, ◌^◌, ◌<◌, eqb, ℤ, pos, negsuc, nat_abs, ◌+ℤ◌, ◌-ℤ◌}
use Rattle.std.specs.Int.Signed.{lt_z}
pub use Rattle.transport.specs.declared.Pair.{Pair}
use Rattle.transport.specs.Lists.{at}
use Rattle.transport.specs.Problem.{Problem, sources, sinks}

unfoldable pub eq_z : ℤ → ℤ → Bool
eq_z (pos a) (pos b) = eqb a b
eq_z (pos a) (negsuc b) = false
eq_z (negsuc a) (pos b) = false
eq_z (negsuc a) (negsuc b) = eqb a b

-- (0, 0)
unfoldable pub nothing : Pair
nothing = record { q = pos 0; e = pos 0 }

-- Pairs add and subtract part by part ..
unfoldable pub add : Pair → Pair → Pair
add a b = record { q = a.q +ℤ b.q; e = a.e +ℤ b.e }

unfoldable pub subtract : Pair → Pair → Pair
subtract a b = record { q = a.q -ℤ b.q; e = a.e -ℤ b.e }

-- .. and compare by q first, then by e.
unfoldable pub less : Pair → Pair → Bool
less a b = lt_z a.q b.q || (eq_z a.q b.q && lt_z a.e b.e)

unfoldable pub same : Pair → Pair → Bool
same a b = eq_z a.q b.q && eq_z a.e b.e

unfoldable pub smaller : Pair → Pair → Pair
smaller a b = cond (less b a) b a

unfoldable pub add_up : List Pair → Pair
add_up [] = nothing
add_up (a ∷ more) = add a (add_up more)

-- Not of the paper: both parts of the sum and of the difference of a and b are within 64 bits.
pub record Fit (a b : Pair) : Type 0 where
  pub q : nat_abs a.q + nat_abs b.q < 2 ^ 63
  pub e : nat_abs a.e + nat_abs b.e < 2 ^ 63

-- Each supply s becomes (s, 1).
unfoldable pub paired_supply_of : Problem → ℕ → Pair
paired_supply_of P i = record { q = pos (at P.supply i); e = pos 1 }

-- Each demand d becomes (d, 0), but the last becomes (d, m).
unfoldable pub paired_demand_of : Problem → ℕ → Pair
paired_demand_of P j = record { q = pos (at P.demand j); e = pos (cond (eqb j (sinks P - 1)) (sources P) 0) }

-- The output holds the digits from place `at` on, and those before are the digits of what is left
-- of the number.
use Rattle.std.proofs.Common.{◌≡◌, ◌≤◌, ◌++◌, length, take, drop}
use Rattle.transport.specs.Text.{digits}
use Rattle.decimals.proofs.U64Decimal.write_text.Given as goal

abbrev pub invariant-loop-rest : goal.invariant-loop-rest
invariant-loop-rest l = (l.at ≤ l.count) × (length l.out ≡ length l.initial.out)
    × (take l.at (digits l.self) ≡ digits l.rest)
    × (drop l.at l.out ≡ drop l.at (digits l.self) ++ drop l.count l.initial.out)

abbrev pub decreases-loop-rest : goal.decreases-loop-rest
decreases-loop-rest l = l.at

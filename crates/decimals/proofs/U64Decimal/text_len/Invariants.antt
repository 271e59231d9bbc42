-- The count so far and the digits of what is left make up the digits of the number, one of them
-- counted twice.
use Rattle.std.proofs.Common.{◌+◌, ◌≡◌, ◌≤◌, length}
use Rattle.transport.specs.Text.{digits}
use Rattle.decimals.proofs.U64Decimal.text_len.Given as goal

abbrev pub invariant-loop-rest : goal.invariant-loop-rest
invariant-loop-rest l = (l.count + l.rest ≤ l.self + 1)
    × (l.count + length (digits l.rest) ≡ length (digits l.self) + 1)

abbrev pub decreases-loop-rest : goal.decreases-loop-rest
decreases-loop-rest l = l.rest

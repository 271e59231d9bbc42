-- What was read lies in the buffer, and what is printed fits the output.
use Rattle.std.proofs.Common.{arith, sym, take}
use Rattle.prelude.specs.Words.{length-take-le}
use Rattle.transport.specs.Limits.{max_plan_text}
use Rattle.display.specs.Longest.{printed-length}
use Rattle.panel.proofs.main.Goals as goal

pub answer-len-requires : goal.answer-len-requires
unfolding max_plan_text
answer-len-requires c = omega arith

pub slice_bounds-out-end : goal.slice_bounds-out-end
unfolding max_plan_text
slice_bounds-out-end c = omega (arith, c.answer-len.ensures.0, printed-length (take c.in-Ok.count c.read_input.new.buffer))

pub slice_bounds-write_all-end : goal.slice_bounds-write_all-end
slice_bounds-write_all-end c = sym (length-take-le _ _ (slice_bounds-out-end c.before))

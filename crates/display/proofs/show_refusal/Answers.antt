-- Too short, or written.
use Rattle.std.proofs.Common.{arith}
use Rattle.decimals.specs.Fitting.{put-nothing, put_whole}
use Rattle.display.proofs.show_refusal.Goals as goal

pub returns-then-out-head_len : goal.returns-then-out-head_len
returns-then-out-head_len c = put-nothing _ c.args.out.now (omega arith)

pub returns : goal.returns
returns c = put_whole _ c.args.out.now _ _ (omega arith) c.write_head.ensures

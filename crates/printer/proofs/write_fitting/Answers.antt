-- Too short, or written.
use Rattle.std.proofs.Common.{arith}
use Rattle.decimals.specs.Fitting.{put-nothing, put_whole}
use Rattle.printer.proofs.write_fitting.Goals as goal

pub returns-then-out-text_len : goal.returns-then-out-text_len
returns-then-out-text_len g c = put-nothing (g.T.Decimal.text c.args.number) c.args.out.now (omega arith)

pub returns : goal.returns
returns g c = put_whole (g.T.Decimal.text c.args.number) c.args.out.now _ _ (omega arith) c.write_text.ensures

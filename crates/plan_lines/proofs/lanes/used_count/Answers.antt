use Rattle.std.proofs.Common.{rules}
use Rattle.plan_lines.specs.Lanes.{count_all}
use Rattle.plan_lines.proofs.lanes.used_count.Goals as goal

pub returns : goal.returns
returns c = rw count_all (search rules)

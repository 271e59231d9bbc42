use Rattle.prelude.specs.Words.{arith}
use Rattle.tight.specs.Tight.{tight-more}
use Rattle.tight.proofs.tight_lanes.Goals as goal

pub loop-i-preserved : goal.loop-i-preserved
loop-i-preserved c = tight-more c.loop-i.invariant (omega (arith, c.requires.rows)) c.tight_in_row.ensures

use Rattle.rounds.specs.Kept.{kept-priced, kept-range, scanned_done}
use Rattle.rounds.specs.Begun.{verdict}
use Rattle.rounds.proofs.round.is_finished.Goals as goal

pub entering-requires-clause-in_range : goal.entering-requires-clause-in_range
entering-requires-clause-in_range c =
    let (P, T, q, e, d) = c.requires in
    kept-range (c.begin-slack.ensures.kept P T q e d)

pub returns-clause-judged : goal.returns-clause-judged
returns-clause-judged c P T q e d =
    let k = c.begin-slack.ensures.kept P T q e d in
    verdict (scanned_done (kept-priced k) _ _ c.entering.ensures c.is_none.ensures) k

-- With the cells a tree, the two flows decide.
use Rattle.prelude.specs.Words.{sym, ◌∙◌}
use Rattle.tree.specs.Strikes.{strikes-room, strikes-distinct}
use Rattle.belonging.specs.Spread.{list_sides, sound_modest, balanced-is}
use Rattle.belonging.proofs.balances.Goals as goal

pub weigh_bags-bags-requires : goal.weigh_bags-bags-requires
weigh_bags-bags-requires c = sound_modest c.requires.sound.1

pub weigh_marks-marks-requires : goal.weigh_marks-marks-requires
weigh_marks-marks-requires c = let s = list_sides c.requires.sound.1 in (s.rows_high, s.cols_low, s.cols_high)

-- The strikes are within their room, and no lane comes twice.
pub flows_match-requires-clause-strikes_in_room : goal.flows_match-requires-clause-strikes_in_room
flows_match-requires-clause-strikes_in_room c =
    let s = list_sides c.requires.sound.1 in
    let (T, h) = c.requires.balancing in
    strikes-room _ _ _ _ _ _ s.rows_high s.cols_high h.long h.spanning.struck

pub flows_match-requires-clause-lanes_apart : goal.flows_match-requires-clause-lanes_apart
flows_match-requires-clause-lanes_apart c = strikes-distinct _ _ _ _ _ _ c.requires.balancing.1.spanning.struck.peels

pub flows_match-requires-then-flows_match-clause-strikes_in_room :
    goal.flows_match-requires-then-flows_match-clause-strikes_in_room
flows_match-requires-then-flows_match-clause-strikes_in_room c =
    let s = list_sides c.requires.sound.1 in
    let (T, h) = c.requires.balancing in
    strikes-room _ _ _ _ _ _ s.rows_high s.cols_high h.long h.spanning.struck

pub flows_match-requires-then-flows_match-clause-lanes_apart :
    goal.flows_match-requires-then-flows_match-clause-lanes_apart
flows_match-requires-then-flows_match-clause-lanes_apart c =
    strikes-distinct _ _ _ _ _ _ c.requires.balancing.1.spanning.struck.peels

pub returns-then-flows_match : goal.returns-then-flows_match
returns-then-flows_match c cost T h =
    let is = balanced-is _ _ cost h.amounts _ _ _ _ h.spanning c.requires.sound.1.balance c.weigh_bags-bags.ensures
    c.weigh_marks-marks.ensures in
    c.flows_match-then-flows_match.ensures ∙ sym (is ∙ rw (← c.if-flows_match.ensures))

pub returns-else-flows_match : goal.returns-else-flows_match
returns-else-flows_match c cost T h =
    let is = balanced-is _ _ cost h.amounts _ _ _ _ h.spanning c.requires.sound.1.balance c.weigh_bags-bags.ensures
    c.weigh_marks-marks.ensures in
    c.if-flows_match.false ∙ sym (is ∙ rw (← c.if-flows_match.ensures))

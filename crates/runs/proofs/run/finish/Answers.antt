use Rattle.std.specs.Prelude.{◌+◌, ◌-◌}
use Rattle.prelude.specs.Words.{arith, rules, refl, ◌∙◌}
use Rattle.transport.specs.Round.{round_bound}
use Rattle.tableaux.specs.Ending.{round_bound-fits}
use Rattle.rounds.specs.Kept.{kept-still, kept_next}
use Rattle.runs.specs.Runs.{begun-ends, going_next, going_left, ran-done, value-falls}
use Rattle.runs.proofs.run.finish.Goals as goal

pub overflow_add-made : goal.overflow_add-made
overflow_add-made c =
    let (P, T, d) = c.requires in
    let g = c.loop-slack.invariant.going P T d in
    let r = c.advance.ensures.advanced P g.here g.kept in
    omega (arith, going_left g (begun-ends d) (r.done ∙ c.loop-slack-test.true), round_bound-fits d.sound)

pub loop-slack-smaller : goal.loop-slack-smaller
loop-slack-smaller c =
    let (P, T, d) = c.requires in
    let g = c.loop-slack.invariant.going P T d in
    let r = c.advance.ensures.advanced P g.here g.kept in
    value-falls g.kept (r.done ∙ c.loop-slack-test.true) (kept_next r c.loop-slack-test.true)

pub loop-slack-preserved : goal.loop-slack-preserved
loop-slack-preserved c = record {
  same_ends = search rules;
  going = λ P T d.
      let l = c.loop-slack in
      let g = l.invariant.going P T d in
      let r = c.advance.ensures.advanced P g.here g.kept in
      let f = r.done ∙ c.loop-slack-test.true in
      going_next g (round_bound P - (l.made + 1)) (omega (arith, going_left g (begun-ends d) f)) f
      (kept_next r c.loop-slack-test.true);
}

pub returns-clause-ran : goal.returns-clause-ran
returns-clause-ran c P T d =
    let g = c.loop-slack.invariant.going P T d in
    let r = c.advance.ensures.advanced P g.here g.kept in
    ran-done g (kept-still r c.loop-slack-test.false) refl (r.done ∙ c.loop-slack-test.false)

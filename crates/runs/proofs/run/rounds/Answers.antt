use Rattle.std.specs.Prelude.{◌+◌, ◌-◌, ◌≡◌}
use Rattle.prelude.specs.Words.{arith, rules, refl, ◌∙◌}
use Rattle.rounds.specs.Kept.{kept-priced, kept-range, scanned_done, kept-still, kept_next}
use Rattle.runs.specs.Runs.{going_next, ran-done, ran_out}
use Rattle.runs.proofs.run.rounds.Goals as goal

pub returns-then-advance-clause-ran : goal.returns-then-advance-clause-ran
returns-then-advance-clause-ran c P T d =
    let g = c.loop-made.invariant.going P T d in
    let r = c.advance.ensures.advanced P g.here g.kept in
    ran-done g (kept-still r c.if-advance.true) refl (r.done ∙ c.if-advance.true)

pub loop-made-preserved : goal.loop-made-preserved
loop-made-preserved c = record {
  same_ends = search rules;
  going = λ P T d.
      let l = c.loop-made in
      let g = l.invariant.going P T d in
      let r = c.advance.ensures.advanced P g.here g.kept in
      let f = c.if-advance.false in
      going_next g (c.args.allowance - (l.made + 1)) (omega arith) (r.done ∙ f) (kept_next r f);
}

pub entering-requires-clause-in_range : goal.entering-requires-clause-in_range
entering-requires-clause-in_range c =
    let (P, T, d) = c.requires in
    kept-range (c.loop-made.invariant.going P T d).kept

pub returns-clause-ran : goal.returns-clause-ran
returns-clause-ran c P T d =
    let g = c.loop-made.invariant.going P T d in
    let all : c.loop-made.made ≡ c.args.allowance = omega arith in
    let done = scanned_done (kept-priced g.kept) _ _ c.entering.ensures c.is_none.ensures in
    rw all at (ran_out g g.kept (omega arith) done)

use Rattle.std.proofs.Common.{refl, ◌∙◌, rules}
use borrow.Author.Tests.{tests}
use Rattle.session.specs.Sessions.{SessionState.Shut}
use Rattle.replay.proofs.Replaying.{through_nothing, through_closed, until_opened}
use Rattle.replay.proofs.closed.replay_closed.Goals as goal

pub loop-frame-init : goal.loop-frame-init
loop-frame-init g c = record {
  through = through_nothing (Shut (g.M.CellMemory.cells c.args.memory.now)) c.args.text.now c.args.out.now 0 (search rules);
  spare = refl;
  name = refl;
}

pub returns-then-is_some-clause-until : goal.returns-then-is_some-clause-until
returns-then-is_some-clause-until g c =
    until_opened _ (g.M.CellMemory.cells c.loop-frame.memory) (g.M.CellMemory.cells c.answer_closed-end.new.memory) _ _ c.loop-frame.rest.now c.loop-frame.out _ _ _ _ c.first-frame.result.0 c.answer_closed-end.result.1
    c.loop-frame.invariant.through (search (rules, tests)) c.first-frame.ensures.frame c.first-frame.ensures.rest
    (rw c.in-Some.is at c.answer_closed-end.ensures.replies) (search rules)

pub loop-frame-preserved : goal.loop-frame-preserved
loop-frame-preserved g c = record {
  through =
      through_closed _ (g.M.CellMemory.cells c.loop-frame.memory) (g.M.CellMemory.cells c.answer_closed-end.new.memory) _ _ c.loop-frame.rest.now c.loop-frame.out _ _ _ _ c.first-frame.result.0 c.answer_closed-end.result.1
      c.loop-frame.invariant.through (search (rules, tests)) c.first-frame.ensures.frame c.first-frame.ensures.rest
      (rw c.in-Some.is at c.answer_closed-end.ensures.replies) (search rules);
  spare = c.answer_closed-end.ensures.spare ∙ c.loop-frame.invariant.spare;
  name = c.answer_closed-end.ensures.name ∙ c.loop-frame.invariant.name;
}

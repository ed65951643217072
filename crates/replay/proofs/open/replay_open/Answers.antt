use Rattle.std.proofs.Common.{refl, ◌∙◌, rules}
use borrow.Author.Tests.{tests}
use Rattle.stepper.specs.Runs.{state_of}
use Rattle.session.specs.Sessions.{SessionState.Running}
use Rattle.replay.proofs.Replaying.{through_nothing, through_more}
use Rattle.replay.proofs.open.replay_open.Goals as goal

pub loop-rest-init : goal.loop-rest-init
loop-rest-init g c = record {
  through = through_nothing (Running (state_of g.M.CellMemory.cells c.args.run.now)) c.args.text.now c.args.out.now c.args.at c.requires;
  spare = refl;
  name = refl;
}

pub loop-rest-preserved : goal.loop-rest-preserved
loop-rest-preserved g c = record {
  through =
      through_more _ (Running (state_of g.M.CellMemory.cells c.loop-rest.run)) (Running (state_of g.M.CellMemory.cells c.answer_open.new.run))
      _ _ c.loop-rest.rest.now c.loop-rest.out _ _ _ _ _ c.first-frame.result.0
      c.loop-rest.invariant.through (search (rules, tests)) c.first-frame.ensures.frame c.first-frame.ensures.rest c.in-Some.ensures.replies;
  spare = c.answer_open.ensures.spare ∙ c.loop-rest.invariant.spare;
  name = c.answer_open.ensures.name ∙ c.loop-rest.invariant.name;
}

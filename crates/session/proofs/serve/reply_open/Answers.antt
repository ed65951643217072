use Rattle.stepper.specs.Runs.{state_of}
use Rattle.session.specs.Sessions.{SessionState.Running}
use Rattle.session.proofs.Serving.{ended}
use Rattle.session.proofs.serve.reply_open.Goals as goal

pub returns : goal.returns
returns g c =
    ended (Running (state_of g.M.CellMemory.cells c.args.run.now)) c.args.frame c.args.at c.args.out.now c.answer_open.new.out c.answer_open.result _ c.unwrap_or.result
    c.answer_open.ensures.replies c.requires c.unwrap_or.ensures

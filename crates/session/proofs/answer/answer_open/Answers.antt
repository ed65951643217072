use Rattle.stepper.specs.Runs.{state_of}
use Rattle.session.specs.Sessions.{SessionState.Running}
use Rattle.session.proofs.Answering.{no_frame_into}
use Rattle.session.proofs.answer.answer_open.Goals as goal

pub returns-in-Err-clause-replies : goal.returns-in-Err-clause-replies
returns-in-Err-clause-replies g c =
    rw c.in-Err.is (no_frame_into (Running (state_of g.M.CellMemory.cells c.args.run.now)) _ c.args.at c.args.out.now _ _ c.put_reply.ensures)

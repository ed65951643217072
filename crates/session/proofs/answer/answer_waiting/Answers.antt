use Rattle.session.specs.Sessions.{SessionState.Shut}
use Rattle.session.proofs.Answering.{no_frame_into}
use Rattle.session.proofs.answer.answer_waiting.Goals as goal

pub returns-in-Err-clause-replies : goal.returns-in-Err-clause-replies
returns-in-Err-clause-replies g c =
    rw c.in-Err.is (no_frame_into (Shut (g.M.CellMemory.cells c.args.memory)) _ c.args.at c.args.out.now _ _ c.put_reply.ensures)

use Rattle.std.proofs.Common.{Ok, refl, arith}
use Rattle.frames.specs.declared.frame.Frame.TheVariants as frame
use Rattle.frames.specs.declared.reply.Reply.TheVariants.{ToOpen}
use Rattle.session.specs.Sessions.{SessionState.Shut}
use Rattle.session.proofs.Answering.{into, opening_full}
use Rattle.session.proofs.answer.begin_run.Goals as goal

pub returns-then-out-at-clause-replies : goal.returns-then-out-at-clause-replies
returns-then-out-at-clause-replies g c =
    (refl, refl, opening_full (g.M.CellMemory.cells c.args.memory) c.args.opening c.args.at _ c.requires (omega arith))

pub returns-clause-replies : goal.returns-clause-replies
returns-clause-replies g c =
    into (Shut (g.M.CellMemory.cells c.args.memory)) (Ok (frame.Open c.args.opening)) c.args.at (ToOpen c.open-opened.result.code) c.args.out.now _ _ _
    c.open-opened.ensures.opens c.requires (omega arith) c.put_reply.ensures

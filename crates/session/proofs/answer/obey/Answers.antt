use Rattle.std.proofs.Common.{◌-◌, ◌≤◌, Ok, length, refl, arith, ap, ◌∙◌}
use Rattle.frames.specs.declared.frame.Frame.TheVariants as frame
use Rattle.frames.specs.declared.reply.Reply.TheVariants.{ToOpen, ToBegin}
use Rattle.stepper.specs.Runs.{state_of}
use Rattle.session.specs.Served.{line_len}
use Rattle.session.specs.Sessions.{SessionState.Running}
use Rattle.session.proofs.Answering.{into, turns_into, running_full, shown_into}
use Rattle.session.proofs.answer.obey.Goals as goal

pub returns-then-out-at-clause-replies : goal.returns-then-out-at-clause-replies
returns-then-out-at-clause-replies g c =
    (refl, refl, running_full (state_of g.M.CellMemory.cells c.args.run.now) c.args.frame c.args.at _ c.requires (rw (← c.line_len.ensures) c.if-out-at.true))

pub returns-in-Begin-clause-replies : goal.returns-in-Begin-clause-replies
returns-in-Begin-clause-replies g c =
    let room : 5 ≤ length c.args.out.now - c.args.at = omega (arith, c.line_len.ensures ∙ ap line_len c.in-Begin.is) in
    rw c.in-Begin.is (into (Running (state_of g.M.CellMemory.cells c.args.run.now)) (Ok (frame.Begin c.in-Begin.call)) c.args.at (ToBegin c.begin.result) c.args.out.now _ _ _
    c.begin.ensures.begins c.requires room c.put_reply-in-Begin.ensures)

pub returns-in-Open-clause-replies : goal.returns-in-Open-clause-replies
returns-in-Open-clause-replies g c =
    let room : 5 ≤ length c.args.out.now - c.args.at = omega (arith, c.line_len.ensures ∙ ap line_len c.in-Open.is) in
    rw c.in-Open.is (into (Running (state_of g.M.CellMemory.cells c.args.run.now)) (Ok (frame.Open c.in-Open.opening)) c.args.at (ToOpen c.reopen.result) c.args.out.now _ _ _
    c.reopen.ensures.opens c.requires room c.put_reply-in-Open.ensures)

pub returns-in-Take-clause-replies : goal.returns-in-Take-clause-replies
returns-in-Take-clause-replies g c =
    rw c.in-Take.is (shown_into (state_of g.M.CellMemory.cells c.args.run.now) _ c.in-Take.worker c.args.at c.args.out.now _ _ c.show.ensures.after c.show.ensures.line)

pub returns-in-Turns-clause-replies : goal.returns-in-Turns-clause-replies
returns-in-Turns-clause-replies g c =
    let room : 7 ≤ length c.args.out.now - c.args.at = omega (arith, c.line_len.ensures ∙ ap line_len c.in-Turns.is) in
    rw c.in-Turns.is (turns_into (state_of g.M.CellMemory.cells c.args.run.now) c.in-Turns.worker c.in-Turns.count c.args.at c.turns.result c.args.out.now _ _ _
    c.turns.ensures.turns c.requires room c.put_reply.ensures)

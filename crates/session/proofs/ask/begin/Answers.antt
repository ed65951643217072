use Rattle.std.proofs.Common.{◌≡◌, None, Ok, ap, ◌∙◌, rules}
use Rattle.frames.specs.declared.reply.Reply.TheVariants.{ToBegin}
use Rattle.frames.specs.Replies.{reply_line}
use Rattle.stepper.specs.Runs.{state_of}
use Rattle.machine.specs.Requests.{call_to_begin}
use Rattle.session.specs.Answers.{code_of}
use Rattle.session.specs.Sessions.{SessionState.Running}
use Rattle.session.proofs.CodesOf.{code_of_same}
use Rattle.session.proofs.Keeping.{begin_keeps}
use Rattle.session.proofs.ask.begin.Goals as goal

pub returns-in_err-begin-clause-begins : goal.returns-in_err-begin-clause-begins
returns-in_err-begin-clause-begins g c =
    let m : c.from_residual.result ≡ code_of c.begin.result = search rules in
    record {
      reply = ap (λ code. reply_line (ToBegin code)) (m ∙ code_of_same c.begin.result (call_to_begin (state_of g.M.CellMemory.cells c.args.run.now) c.args.begin) c.begin.ensures.answer);
      session = ap Running c.begin.ensures.after;
      promise = begin_keeps c.args.begin (state_of g.M.CellMemory.cells c.args.run.now);
    }

pub returns-clause-begins : goal.returns-clause-begins
returns-clause-begins g c =
    let m : Ok None ≡ code_of c.begin.result = search rules in
    record {
      reply = ap (λ code. reply_line (ToBegin code)) (m ∙ code_of_same c.begin.result (call_to_begin (state_of g.M.CellMemory.cells c.args.run.now) c.args.begin) c.begin.ensures.answer);
      session = ap Running c.begin.ensures.after;
      promise = begin_keeps c.args.begin (state_of g.M.CellMemory.cells c.args.run.now);
    }

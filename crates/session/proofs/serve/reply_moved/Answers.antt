use Rattle.std.proofs.Common.{◌≡◌, Some, sym, ap, ◌∙◌, subst}
use Rattle.session.specs.Sessions.{session_of, session_in}
use Rattle.session.specs.Served.{Written}
use Rattle.session.proofs.Serving.{ended}
use Rattle.session.proofs.serve.reply_moved.Goals as goal

pub returns-clause-written : goal.returns-clause-written
returns-clause-written g c =
    let e : c.args.slot.now ≡ Some c.in-Some.session = sym c.take.ensures.value ∙ c.in-Some.is in
    subst (λ d. Written d c.args.frame c.args.at c.args.out.now c.answer-answered.new.out c.unwrap_or.result (session_of g.M.CellMemory.cells c.answer-answered.result.session)) (ap (session_in g.M.CellMemory.cells) (sym e))
    (ended (session_of g.M.CellMemory.cells c.in-Some.session) c.args.frame c.args.at c.args.out.now c.answer-answered.new.out c.answer-answered.result.end _ c.unwrap_or.result
    c.answer-answered.ensures.replies c.requires.room c.unwrap_or.ensures)

use Rattle.std.proofs.Common.{rules}
use Rattle.stepper.specs.Runs.{state_of}
use Rattle.session.proofs.GivingBack.{back, looked}
use Rattle.session.proofs.ask.shown.Goals as goal

pub returns-clause-page : goal.returns-clause-page
returns-clause-page g c =
    looked (state_of g.M.CellMemory.cells c.args.run.now) (state_of g.M.CellMemory.cells c.take.new.self) c.args.worker _ c.take.result c.page-page.result
    c.take.ensures.answer c.in_ok-ticket.was c.take.ensures.after c.page-page.ensures.answer

pub returns-clause-after : goal.returns-clause-after
returns-clause-after g c =
    back (state_of g.M.CellMemory.cells c.args.run.now) _ _ _ c.args.worker _ c.take.result
    c.take.ensures.answer c.in_ok-ticket.was c.take.ensures.after c.page-page.ensures.after (search rules)

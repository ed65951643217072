use Rattle.promise.proofs.Contracts.{opening_kept}
use Rattle.stepper.proofs.Starting.{ready_starts}
use Rattle.stepper.proofs.run.Run.reopen.Goals as goal

pub returns-in_err-prepare-clause-promise : goal.returns-in_err-prepare-clause-promise
returns-in_err-prepare-clause-promise g c = opening_kept _ _

pub returns-clause-promise : goal.returns-clause-promise
returns-clause-promise g c = opening_kept _ _

pub returns-clause-starts : goal.returns-clause-starts
returns-clause-starts g c =
    ready_starts (g.M.CellMemory.cells c.args.self.now.memory) _ c.args.sizes _ c.in_ok-prepare.field-0 c.prepare.result c.prepare.ensures.answer c.in_ok-prepare.was c.prepare.ensures.after c.fresh-self.ensures

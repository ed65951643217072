use Rattle.promise.proofs.Contracts.{opening_kept}
use Rattle.stepper.proofs.Starting.{ready_starts}
use Rattle.stepper.proofs.run.Run.open.Goals as goal

pub returns-in-Ok-clause-starts : goal.returns-in-Ok-clause-starts
returns-in-Ok-clause-starts g c =
    ready_starts (g.M.CellMemory.cells c.args.memory) _ c.args.sizes _ c.in-Ok.field-0 c.prepare.result c.prepare.ensures.answer c.in-Ok.is c.prepare.ensures.after c.fresh.ensures

pub returns-in-Ok-clause-promise : goal.returns-in-Ok-clause-promise
returns-in-Ok-clause-promise g c = opening_kept _ _

pub returns-in-Err-clause-promise : goal.returns-in-Err-clause-promise
returns-in-Err-clause-promise g c = opening_kept _ _

use Rattle.stepper.specs.Runs.{state_of}
use Rattle.stepper.proofs.Asking.{asked}
use Rattle.stepper.proofs.run.Run.best.Goals as goal

pub returns-clause-answer : goal.returns-clause-answer
returns-clause-answer g c =
    asked (state_of g.M.CellMemory.cells c.args.self.now) c.args.self.now.room c.args.ticket.now _ c.in_ok-cells.ensures.answer _ _ _ _ _ _ _
    c.as_slice.ensures.cells c.keys.ensures.answer c.new.ensures.cells c.new.ensures.keys c.best.ensures.answer

use Rattle.std.proofs.Common.{Ok, Err, refl}
use Rattle.stepper.specs.Runs.{state_of}
use Rattle.session.proofs.ask.turns.Goals as goal

pub returns-in-Ok-clause-turns : goal.returns-in-Ok-clause-turns
returns-in-Ok-clause-turns g c = record {
  several = Ok c.in-Ok.several;
  state = state_of g.M.CellMemory.cells c.turns.new.self;
  made = c.in-Ok.ensures.made;
  reply = refl;
  session = refl;
  promise = c.in-Ok.ensures.promise;
}

pub returns-in-Err-clause-turns : goal.returns-in-Err-clause-turns
returns-in-Err-clause-turns g c = record {
  several = Err c.in-Err.refusal;
  state = state_of g.M.CellMemory.cells c.turns.new.self;
  made = c.in-Err.ensures.made;
  reply = refl;
  session = refl;
  promise = c.in-Err.ensures.promise;
}

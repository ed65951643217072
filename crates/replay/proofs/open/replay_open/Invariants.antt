use Rattle.std.proofs.Common.{◌≡◌, length}
use Rattle.stepper.specs.Runs.{state_of, memory_of}
use Rattle.session.specs.Sessions.{SessionState.Running}
use Rattle.replay.specs.Replayed.{Through}
use Rattle.replay.proofs.open.replay_open.Given as goal

abbrev pub invariant-loop-rest : goal.invariant-loop-rest
invariant-loop-rest g l = record {
  through :
      Through (Running (state_of g.M.CellMemory.cells l.initial.run)) l.initial.rest l.initial.out l.out l.initial.n l.n l.rest
      (Running (state_of g.M.CellMemory.cells l.run));
  spare : g.M.CellMemory.spare (memory_of l.run) ≡ g.M.CellMemory.spare (memory_of l.initial.run);
  name : g.M.CellMemory.name (memory_of l.run) ≡ g.M.CellMemory.name (memory_of l.initial.run);
}

abbrev pub decreases-loop-rest : goal.decreases-loop-rest
decreases-loop-rest g l = length l.rest

use Rattle.std.proofs.Common.{◌≡◌, length}
use Rattle.session.specs.Sessions.{SessionState.Shut}
use Rattle.replay.specs.Replayed.{Through}
use Rattle.replay.proofs.closed.replay_closed.Given as goal

abbrev pub invariant-loop-frame : goal.invariant-loop-frame
invariant-loop-frame g l = record {
  through :
      Through (Shut (g.M.CellMemory.cells l.initial.memory)) l.initial.rest l.initial.out l.out 0 l.n l.rest
      (Shut (g.M.CellMemory.cells l.memory));
  spare : g.M.CellMemory.spare l.memory ≡ g.M.CellMemory.spare l.initial.memory;
  name : g.M.CellMemory.name l.memory ≡ g.M.CellMemory.name l.initial.memory;
}

abbrev pub decreases-loop-frame : goal.decreases-loop-frame
decreases-loop-frame g l = length l.rest

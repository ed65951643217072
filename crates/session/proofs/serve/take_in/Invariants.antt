use Rattle.std.proofs.Common.{◌≡◌, ◌-◌, ◌≤◌, length, take, IsSome}
use Rattle.session.specs.Sessions.{session_in}
use Rattle.session.specs.Feeding.{Carries}
use Rattle.session.proofs.serve.take_in.Given as goal

abbrev pub invariant-loop-used : goal.invariant-loop-used
invariant-loop-used g l = record {
  carries : Carries (session_in g.M.CellMemory.cells l.initial.slot) l.initial.held (take l.used l.bytes) l.held (take l.end l.out) (session_in g.M.CellMemory.cells l.slot);
  used : l.used ≤ length l.bytes;
  within : l.end ≤ length l.out;
  some : l.used ≡ 0 → l.end ≡ 0;
  there : IsSome l.slot;
}

abbrev pub decreases-loop-used : goal.decreases-loop-used
decreases-loop-used g l = length l.bytes - l.used

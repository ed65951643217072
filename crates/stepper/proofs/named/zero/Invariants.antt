use Rattle.std.proofs.Common.{◌≡◌}
use Rattle.machine.specs.Effects.{zeroed}
use Rattle.stepper.proofs.named.zero.Given as goal

abbrev pub invariant-loop-k : goal.invariant-loop-k
invariant-loop-k g l = record {
  cells : g.M.CellMemory.cells l.memory ≡ zeroed (g.M.CellMemory.cells l.initial.memory) l.start l.k;
  spare : g.M.CellMemory.spare l.memory ≡ g.M.CellMemory.spare l.initial.memory;
  name : g.M.CellMemory.name l.memory ≡ g.M.CellMemory.name l.initial.memory;
}

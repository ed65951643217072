use Rattle.std.proofs.Common.{◌≡◌, take, drop}
use Rattle.stepper.proofs.pages.copy.Given as goal

abbrev pub invariant-loop-k : goal.invariant-loop-k
invariant-loop-k g l = record {
  copied : take l.k l.out ≡ take l.k (drop l.start (g.M.CellMemory.cells l.initial.memory));
  after : g.M.CellMemory.cells l.memory ≡ g.M.CellMemory.cells l.initial.memory;
  spare : g.M.CellMemory.spare l.memory ≡ g.M.CellMemory.spare l.initial.memory;
  name : g.M.CellMemory.name l.memory ≡ g.M.CellMemory.name l.initial.memory;
}

use Rattle.std.proofs.Common.{◌≡◌, ℕ, ◌<◌, None}
use Rattle.stepper.specs.Runs.{state_of}
use Rattle.machine.specs.Turns.{answer_at}
use Rattle.machine.specs.Several.{after}
use Rattle.stepper.proofs.run.Run.make_turns.Given as goal

abbrev pub invariant-loop-i : goal.invariant-loop-i
invariant-loop-i g l = record {
  state : state_of g.M.CellMemory.cells l.self ≡ after (state_of g.M.CellMemory.cells l.initial.self) l.index.index l.i;
  quiet : (k : ℕ) → k < l.i → answer_at (after (state_of g.M.CellMemory.cells l.initial.self) l.index.index k) l.index.index ≡ None;
  spare : g.M.CellMemory.spare l.self.memory ≡ g.M.CellMemory.spare l.initial.self.memory;
  name : g.M.CellMemory.name l.self.memory ≡ g.M.CellMemory.name l.initial.self.memory;
}

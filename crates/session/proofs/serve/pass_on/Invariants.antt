use Rattle.std.proofs.Common.{length, IsSome}
use Rattle.session.specs.Sessions.{session_in}
use Rattle.session.proofs.Passing.{PassesOn}
use Rattle.session.proofs.serve.pass_on.Given as goal

abbrev pub invariant-loop-rest : goal.invariant-loop-rest
invariant-loop-rest g l = record {
  passes : PassesOn (session_in g.M.CellMemory.cells l.initial.slot) l.initial.held l.bytes l.rest l.held (g.W.Write.contents l.initial.output) (g.W.Write.contents l.output) (session_in g.M.CellMemory.cells l.slot);
  there : IsSome l.slot;
}

abbrev pub decreases-loop-rest : goal.decreases-loop-rest
decreases-loop-rest g l = length l.rest

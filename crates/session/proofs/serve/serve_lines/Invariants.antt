use Rattle.std.proofs.Common.{IsSome}
use Rattle.session.specs.Sessions.{session_in}
use Rattle.session.specs.Service.{Serving}
use Rattle.session.proofs.serve.serve_lines.Given as goal

abbrev pub invariant-loop : goal.invariant-loop
invariant-loop g l = record {
  serving : Serving (session_in g.M.CellMemory.cells l.initial.slot) (g.R.Read.remaining l.initial.input) (g.R.Read.remaining l.input) (g.W.Write.contents l.initial.output) (g.W.Write.contents l.output) l.held (session_in g.M.CellMemory.cells l.slot);
  there : IsSome l.slot;
}

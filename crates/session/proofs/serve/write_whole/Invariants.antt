use Rattle.session.proofs.Passing.{Partly}
use Rattle.session.proofs.serve.write_whole.Given as goal

abbrev pub invariant-loop : goal.invariant-loop
invariant-loop g l = Partly (g.W.Write.contents l.initial.output) (g.W.Write.contents l.output) l.bytes l.rest

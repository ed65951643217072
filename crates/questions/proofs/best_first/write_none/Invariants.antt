use Rattle.std.proofs.Common.{None}
use Rattle.questions.specs.Search.{Written}
use Rattle.questions.proofs.best_first.write_none.Given as goal

abbrev pub invariant-loop-k : goal.invariant-loop-k
invariant-loop-k g l = Written g.T.From.from_gives (λ k. None) l.k l.initial.out l.out

use Rattle.questions.specs.Search.{value_at, listed_at, Picked}
use Rattle.questions.proofs.best_first.pick.Given as goal

abbrev pub invariant-loop-k : goal.invariant-loop-k
invariant-loop-k g l = Picked g.M.Measure.scale (listed_at l.labels) (value_at l.labels) l.k l.found

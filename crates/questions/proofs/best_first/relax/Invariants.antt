use Rattle.std.proofs.Common.{◌≡◌, ℕ}
use Rattle.questions.specs.Search.{value_at, listed_at, Relaxed}
use Rattle.questions.proofs.best_first.relax.Given as goal

abbrev pub invariant-loop-j : goal.invariant-loop-j
invariant-loop-j g l =
    Relaxed g.M.Measure.scale (g.G.GraphView.graph l.page) l.from l.k l.j (value_at l.initial.labels) (value_at l.labels) ×
    ((j : ℕ) → listed_at l.labels j ≡ listed_at l.initial.labels j)

use Rattle.questions.specs.Search.{value_at, listed_at, Written}
use Rattle.questions.proofs.Counting.{unlisted}
use Rattle.questions.proofs.Searching.{Searched, listed_value}
use Rattle.questions.proofs.best_first.search.Given as goal

abbrev pub invariant-loop-k : goal.invariant-loop-k
invariant-loop-k g l =
    Searched g.M.Measure.scale (g.G.GraphView.graph l.page) l.n l.start (listed_at l.labels) (value_at l.labels) ×
    Written g.T.From.from_gives (listed_value (listed_at l.labels) (value_at l.labels)) l.n l.initial.out l.out

abbrev pub decreases-loop-k : goal.decreases-loop-k
decreases-loop-k g l = unlisted (listed_at l.labels) l.n

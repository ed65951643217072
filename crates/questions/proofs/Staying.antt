-- A walk from a key that is shown leads through keys that are shown.
use Rattle.questions.specs.Graph.{Graph, JoinsShown, here, on}
use Rattle.questions.specs.Laws.{WalksShown}

pub walks_shown : {g : Graph} → JoinsShown g → WalksShown g
walks_shown joins s k shown here = shown
walks_shown joins s k shown (on {k = i} {j} w p e) = (joins i j w e).1

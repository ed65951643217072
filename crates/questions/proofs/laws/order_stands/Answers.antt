use Rattle.questions.proofs.Distances.{distances_never_fall}
use Rattle.questions.proofs.OneOrder.{order_fixed}
use Rattle.questions.proofs.laws.order_stands.Goals as goal

pub returns : goal.returns
returns c = record { fixed = order_fixed; distances = distances_never_fall }

use Rattle.std.proofs.Common.{false}
use Rattle.questions.proofs.Copies.{part_of_copies}
use Rattle.questions.proofs.breadth_first.order.Goals as goal

pub spread-requires-clause-by_index : goal.spread-requires-clause-by_index
spread-requires-clause-by_index g c = λ k. part_of_copies _ 64 k false

-- The answers to the questions from a key.
use Rattle.std.specs.Prelude.{ℕ, ◌<◌, None, slice_index_or}
use Rattle.questions.specs.Graph.{Graph}
use Rattle.questions.specs.Measures.{total_scale, weakest_scale}
use Rattle.questions.specs.Best.{Entered}
use Rattle.questions.specs.Order.{key, BreadthFirst}
use Rattle.ask.specs.declared.answers.Answers.{Answers}

-- the keys that walks from s reach, breadth first, and for each of n keys the best values of the walks to it
pub record AnswersFrom (g : Graph) (n s : ℕ) (a : Answers) : Type 0 where
  pub order : BreadthFirst g s (key a.listed) a.count
  pub total : (k : ℕ) → k < n → Entered total_scale g s k (slice_index_or a.total k None)
  pub weakest : (k : ℕ) → k < n → Entered weakest_scale g s k (slice_index_or a.weakest k None)

-- Breadth first, neighbours rising.
use Rattle.std.specs.Prelude.{◌≡◌, ℕ, ◌<◌, ◌≤◌, ◌⊎◌, List, Some, None, Option, Ok, Err, Result, ◌≢◌, slice_index}
use Rattle.questions.specs.declared.unanswered.Unanswered.{Unanswered}
use Rattle.questions.specs.Graph.{Graph, Walk}

-- the key at a place of the list
abbrev pub key : List ℕ → ℕ → ℕ
key xs p = slice_index xs p

abbrev pub Edge : Graph → ℕ → ℕ → Type 0
Edge g i j = (w : ℕ) × (g.edge i j ≡ Some w)

-- q is the first place of a key with an edge to k
abbrev pub Earliest : Graph → (ℕ → ℕ) → ℕ → ℕ → Type 0
Earliest g xs q k = Edge g (xs q) k × ((r : ℕ) → r < q → Edge g (xs r) k → ⊥)

-- the first c places of the list xs hold the keys that walks from s reach, breadth first
pub record BreadthFirst (g : Graph) (s : ℕ) (xs : ℕ → ℕ) (c : ℕ) : Type 0 where
  -- the start first, the reached keys and no others, each once
  pub start : (0 < c) × (xs 0 ≡ s)
  pub reached : (p : ℕ) → p < c → Walk g s (xs p)
  pub all : (k : ℕ) → Walk g s k → (p : ℕ) × (p < c) × (xs p ≡ k)
  pub once : (p q : ℕ) → p < q → q < c → xs p ≢ xs q
  -- for every other key, the earlier place of the earliest key with an edge to it; they stand by these places, and by key
  pub from : ℕ → ℕ
  pub earliest : (p : ℕ) → 0 < p → p < c → (from p < p) × Earliest g xs (from p) (xs p)
  pub ordered : (p q : ℕ) → 0 < p → p < q → q < c → (from p < from q) ⊎ ((from p ≡ from q) × (xs p < xs q))

-- the key at a place of c listed keys, if there is one
abbrev pub Listed : List ℕ → ℕ → ℕ → Option ℕ → Type 0
Listed xs c p None = c ≤ p
Listed xs c p (Some k) = (p < c) × (k ≡ key xs p)

-- the area holds the list, and past it what it held before
pub record Ordered (g : Graph) (s c : ℕ) (old new : List ℕ) : Type 0 where
  pub list : BreadthFirst g s (key new) c
  pub others : (p : ℕ) → c ≤ p → key new p ≡ key old p

-- a question that is not answered leaves the area as it was
abbrev pub OrderedOr : Result ℕ Unanswered → Graph → ℕ → List ℕ → List ℕ → Type 0
OrderedOr (Ok c) g s old new = Ordered g s c old new
OrderedOr (Err e) g s old new = new ≡ old

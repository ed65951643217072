-- What the definitions of the answers come to.
use Rattle.std.specs.Prelude.{◌≡◌, ℕ, ◌+◌, ◌<◌, ◌≤◌, true, Option}
use Rattle.questions.specs.Graph.{Graph, Walk, here, on}
use Rattle.questions.specs.Measures.{Scale}
use Rattle.questions.specs.Best.{Entered}
use Rattle.questions.specs.Order.{BreadthFirst}

-- there is one entry that a key can have
abbrev pub EntryFixed : Scale → Type 0
EntryFixed m = (g : Graph) (s k : ℕ) (x y : Option ℕ) → Entered m g s k x → Entered m g s k y → x ≡ y

-- there is one breadth-first list
abbrev pub OrderFixed : Type 0
OrderFixed = (g : Graph) (s : ℕ) (xs ys : ℕ → ℕ) (c d : ℕ) → BreadthFirst g s xs c → BreadthFirst g s ys d → (c ≡ d) × ((p : ℕ) → p < c → xs p ≡ ys p)

-- walks from a key that is shown lead to keys that are shown
abbrev pub WalksShown : Graph → Type 0
WalksShown g = (s k : ℕ) → g.has s ≡ true → Walk g s k → g.has k ≡ true

-- the number of edges of a walk
abbrev pub edges : {g : Graph} {s k : ℕ} → Walk g s k → ℕ
edges here = 0
edges (on w p e) = edges p + 1

-- d is the least number of edges of a walk from s to k
pub record Distance (g : Graph) (s k d : ℕ) : Type 0 where
  pub walk : Walk g s k
  pub count : edges walk ≡ d
  pub least : (p : Walk g s k) → d ≤ edges p

-- along a breadth-first list the distances from the start never fall
abbrev pub DistancesNeverFall : Type 0
DistancesNeverFall =
    (g : Graph) (s : ℕ) (xs : ℕ → ℕ) (c : ℕ) → BreadthFirst g s xs c →
    (p q d e : ℕ) → p < q → q < c → Distance g s (xs p) d → Distance g s (xs q) e → d ≤ e

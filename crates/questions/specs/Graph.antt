-- Keys, weighted edges between them, and walks.
use Rattle.std.specs.Prelude.{◌≡◌, ℕ, ◌<◌, Bool, true, Some, Option}

-- a set of keys, and for each ordered pair a weight or nothing
pub record Graph : Type 0 where
  pub has : ℕ → Bool
  pub edge : ℕ → ℕ → Option ℕ

-- every edge joins keys below n
abbrev pub Inside : Graph → ℕ → Type 0
Inside g n = (i j w : ℕ) → g.edge i j ≡ Some w → (i < n) × (j < n)

-- every edge joins keys that are shown
abbrev pub JoinsShown : Graph → Type 0
JoinsShown g = (i j w : ℕ) → g.edge i j ≡ Some w → (g.has i ≡ true) × (g.has j ≡ true)

-- a walk along edges, from s
pub data Walk (g : Graph) (s : ℕ) : ℕ → Type 0 where
  here : Walk g s s
  on : {k j : ℕ} (w : ℕ) → Walk g s k → g.edge k j ≡ Some w → Walk g s j

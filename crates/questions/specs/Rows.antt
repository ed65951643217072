-- The row of a key: an entry for each key, rising.
use Rattle.std.specs.Prelude.{◌≡◌, ℕ, ◌+◌, ◌<◌, ◌≤◌, Some, None, Option}
use Rattle.questions.specs.Graph.{Graph}

-- of a row of n entries, the one at j comes next, if one is left: the key j, and the weight of the edge to it or nothing
abbrev pub NextEntry : Graph → ℕ → ℕ → ℕ → Option (ℕ × Option ℕ) → ℕ → Type 0
NextEntry g k n j None after = (n ≤ j) × (after ≡ j)
NextEntry g k n j (Some (i, weight)) after = (j < n) × (after ≡ j + 1) × (i ≡ j) × (weight ≡ g.edge k j)

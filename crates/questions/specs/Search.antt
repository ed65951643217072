-- What one step of the search does.
use Rattle.std.specs.Prelude.{◌≡◌, ℕ, ◌<◌, ◌≤◌, Bool, true, false, if◌then◌else◌, List, Some, None, Option, nat_lt, slice_get, slice_index_or}
use Rattle.questions.specs.declared.best_first.Label.{Label}
use Rattle.questions.specs.Graph.{Graph}
use Rattle.questions.specs.Measures.{Scale, NoBetter}

-- the label of a key that no walk has reached
abbrev pub blank : Label
blank = record { value = None; listed = false }

-- the best value found so far of the walks to a key, if one was found
abbrev pub value_at : List Label → ℕ → Option ℕ
value_at xs k = (slice_index_or xs k blank).value

-- whether a key is listed
abbrev pub listed_at : List Label → ℕ → Bool
listed_at xs k = (slice_index_or xs k blank).listed

-- the flag of a key
abbrev pub flag : List Bool → ℕ → Bool
flag bs k = slice_index_or bs k false

-- has the value v, and is not listed
abbrev pub Open : (ℕ → Bool) → (ℕ → Option ℕ) → ℕ → ℕ → Type 0
Open L d k v = (d k ≡ Some v) × (L k ≡ false)

-- of the open keys below n, the one with the best value, the lowest of equal ones, and its value
abbrev pub Picked : Scale → (ℕ → Bool) → (ℕ → Option ℕ) → ℕ → Option (ℕ × ℕ) → Type 0
Picked m L d n None = (k v : ℕ) → k < n → Open L d k v → ⊥
Picked m L d n (Some (b, v)) = (b < n) × Open L d b v ×
    ((k w : ℕ) → k < n → Open L d k w → NoBetter m w v) ×
    ((k w : ℕ) → k < b → Open L d k w → m.better v w ≡ true)

-- the value of a key, once it was offered v over an edge, or over none
abbrev pub offered : Scale → ℕ → Option ℕ → Option ℕ → Option ℕ
offered m v x None = x
offered m v None (Some w) = Some (m.extend v w)
offered m v (Some u) (Some w) = Some (if m.better (m.extend v w) u then m.extend v w else u)

-- the keys below n have been offered the value v, extended over the edges from k
abbrev pub Relaxed : Scale → Graph → ℕ → ℕ → ℕ → (ℕ → Option ℕ) → (ℕ → Option ℕ) → Type 0
Relaxed m g v k n d e = (j : ℕ) → e j ≡ (if nat_lt j n then offered m v (d j) (g.edge k j) else d j)

-- the values of the keys below n stand in the area, in its form, and past them what it held before
pub record Written {A : Type 0} (Form : Option ℕ → A → Type 0) (d : ℕ → Option ℕ) (n : ℕ) (old new : List A) : Type 0 where
  pub front : (k : ℕ) → k < n → (y : A) × (slice_get new k ≡ Some y) × Form (d k) y
  pub others : (k : ℕ) → n ≤ k → slice_get new k ≡ slice_get old k

-- Measures and their laws.
use Rattle.std.specs.Prelude.{◌≡◌, ℕ, ◌+◌, ◌-◌, min, Bool, false, ◌⊎◌, nat_lt}

-- a start, an extension by a weight, and an order
pub record Scale : Type 0 where
  pub first : ℕ
  pub extend : ℕ → ℕ → ℕ
  pub better : ℕ → ℕ → Bool

abbrev pub NoBetter : Scale → ℕ → ℕ → Type 0
NoBetter m u v = m.better u v ≡ false

pub record Lawful (m : Scale) : Type 0 where
  -- the order is total, and two values of which neither is better are the same
  pub total : (u v : ℕ) → NoBetter m u v ⊎ NoBetter m v u
  pub transitive : (u v w : ℕ) → NoBetter m u v → NoBetter m v w → NoBetter m u w
  pub same : (u v : ℕ) → NoBetter m u v → NoBetter m v u → u ≡ v
  -- extending never makes a value better
  pub never_better : (v w : ℕ) → NoBetter m (m.extend v w) v
  -- extending two values by one weight keeps their order
  pub keeps : (u v w : ℕ) → NoBetter m u v → NoBetter m (m.extend u w) (m.extend v w)

-- from 0, adds the weight, or what is left up to 4,294,967,295; less is better
abbrev pub total_scale : Scale
total_scale = record { first = 0; extend = λ v w. v + min w (4294967295 - v); better = λ u v. nat_lt u v }

-- from 4,294,967,295, the lesser of value and weight; more is better
abbrev pub weakest_scale : Scale
weakest_scale = record { first = 4294967295; extend = λ v w. min v w; better = λ u v. nat_lt v u }

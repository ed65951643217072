-- A text written into an area of bytes.
use Rattle.std.specs.Prelude.{◌≡◌, ℕ, ◌+◌, ◌<◌, ◌≤◌, List, ◌++◌, length, take, drop, Some, None, Option}

-- a text written from a place on, to its end at n; what stands in front and behind stays
pub record Put (at : ℕ) (text old new : List ℕ) (n : ℕ) : Type 0 where
  pub grows : at ≤ n
  pub within : n ≤ length new
  pub front : take n new ≡ take at old ++ text
  pub behind : drop n new ≡ drop n old

-- a text written from a place on, to its end; where it does not fit whole, nothing
abbrev pub PutWhole : ℕ → List ℕ → List ℕ → List ℕ → Option ℕ → Type 0
PutWhole at text old new None = (new ≡ old) × (length old < at + length text)
PutWhole at text old new (Some n) = Put at text old new n

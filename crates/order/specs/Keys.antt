-- Keys: where calls stand in the order of a run.
use Rattle.std.specs.Prelude.{ℕ, ◌+◌, ◌*◌, ◌<◌, ◌≤◌, ◌⊎◌}

-- a stamp, then a time, then a third part; keys compare from the left. The third part of a raise, and of a change that stands at its own time,
-- is the bound of the times; that of a call right after a change is greater
pub record Key : Type 0 where
  pub stamp : ℕ
  pub time : ℕ
  pub part : ℕ

-- times are below a bound, and third parts below twice the bound
pub record Bounded (bound : ℕ) (k : Key) : Type 0 where
  pub time : k.time < bound
  pub part : k.part < 2 * bound

-- a key as one number; the numbers of bounded keys compare as the keys do
unfoldable pub number : ℕ → Key → ℕ
number bound k = (k.stamp * bound + k.time) * (2 * bound) + k.part

-- the key k fits a call that began at b and was finished at a, or is unfinished at a
pub record Fits (clock : ℕ → ℕ) (k : Key) (b a : ℕ) : Type 0 where
  -- neither its time nor its stamp is of a moment after a
  pub time : k.time ≤ a
  pub stamp : k.stamp ≤ clock a
  -- its time or its stamp is of no moment before b
  pub since : (b ≤ k.time) ⊎ (clock b < k.stamp)
  -- its stamp is the clock at its time, or one that the clock had later
  pub fair : clock k.time ≤ k.stamp

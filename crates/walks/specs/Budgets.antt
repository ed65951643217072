-- How many turns a snapshot or reach takes.
use Rattle.std.specs.Prelude.{◌≡◌, ℕ, zero, suc, ◌+◌, ◌*◌, ◌<◌, ◌≤◌, if◌then◌else◌, ◌⊎◌, ◌==◌}
use Rattle.std.specs.declared.ops.ControlFlow.TheVariants.{Break}
use Rattle.codes.specs.declared.answer.Answer.{Answer}
use Rattle.layout.specs.declared.names.Head.{Head}
use Rattle.layout.specs.declared.names.Head.TheVariants as head
use Rattle.layout.specs.Rows.{no_row}
use Rattle.places.specs.declared.place.Survey.{Survey}
use Rattle.walks.specs.Courses.{Course, Laws}
use Rattle.walks.specs.Surveys.{Surveyor, Surveying, turn_of, TurnDone, goes_to}

-- the sum of f over the numbers below n
unfoldable pub sum_below : ℕ → (ℕ → ℕ) → ℕ
sum_below zero f = 0
sum_below (suc n) f = sum_below n f + f n

module _ (c : Course) where
  -- how many rows are in the chain of the head h at time k: one if it is a row at the start, and one for each time that it moved
  unfoldable pub links_over : ℕ → Head → ℕ
  links_over zero h = if (c.at 0).head h == no_row then 0 else 1
  links_over (suc k) h = links_over k h + (if (c.at (suc k)).head h == (c.at k).head h then 0 else 1)

-- how many rows are in the chains of all keys and pairs
unfoldable pub rows_in : Course → ℕ → ℕ → ℕ
rows_in c n k = sum_below n (λ i. links_over c k (head.Vertex i)) + sum_below n (λ a. sum_below n (λ j. links_over c k (head.Edge a j)))

-- the turns of a call are counted
pub record Counted (c : Course) (n top : ℕ) (v : Survey) (began now : ℕ) (at : ℕ → Surveyor) (turns : ℕ → ℕ) : Type 0 where
  pub run : Surveying c n top v began now at
  pub from : turns began ≡ 0
  pub counts : (k : ℕ) → began ≤ k → k < now → ((at (suc k) ≡ at k) × (turns (suc k) ≡ turns k)) ⊎
      ((turn_of n top (c.at k) (at k) ≡ goes_to (at (suc k))) × TurnDone top (c.at k) (c.at (suc k)) (at k) × (turns (suc k) ≡ suc (turns k)))

-- a snapshot or reach of n keys takes at most 1 + 8 · n · n turns, and one for each row that is in a chain
abbrev pub limit : ℕ → ℕ → ℕ
limit n rows = 1 + 8 * (n * n) + rows

-- so far, and with a turn that answers
pub record WithinLimit (c : Course) (n top now : ℕ) (at : ℕ → Surveyor) (turns : ℕ → ℕ) : Type 0 where
  pub sofar : turns now ≤ limit n (rows_in c n now)
  pub answered : (a : Answer) → TurnDone top (c.at now) (c.at (suc now)) (at now) → (turn_of n top (c.at now) (at now)).out ≡ Break a → suc (turns now) ≤ limit n (rows_in c n (suc now))

abbrev pub TurnsFit : Type 0
TurnsFit = (c : Course) (n : ℕ) → Laws c n → (top : ℕ) (v : Survey) (began now : ℕ) (at : ℕ → Surveyor) (turns : ℕ → ℕ) →
    Counted c n top v began now at turns → began ≤ now → WithinLimit c n top now at turns

-- What holds of a run from one time to a later one.
use Rattle.std.specs.Prelude.{◌≡◌, ℕ, zero, ◌<◌, ◌≤◌, ◌⊎◌}
use Rattle.layout.specs.declared.names.Kind.{Kind}
use Rattle.layout.specs.declared.names.Kind.TheVariants.{Edge}
use Rattle.layout.specs.declared.names.Field.{Field}
use Rattle.layout.specs.declared.names.Field.TheVariants.{Ins, Del}
use Rattle.layout.specs.declared.names.Head.{Head}
use Rattle.layout.specs.declared.names.Cell.TheVariants as cell
use Rattle.layout.specs.Layout.{Named}
use Rattle.places.specs.declared.mark.Mark.TheVariants.{NotEnded, Stamp}
use Rattle.places.specs.declared.place.Change.{Change}
use Rattle.places.specs.Touches.{change_head, head_kind}
use Rattle.laws.specs.Clean.{IsStamp}
use Rattle.runs.specs.Runs.{RunInTime}
use Rattle.runs.specs.Views.{number_at, clock_at, head_at, mark_at, LinkedAt}
use Rattle.runs.specs.Steps.{LinkStep}

-- something held at a time before k
pub record Before (k : ℕ) (P : ℕ → Type 0) : Type 0 where
  pub time : ℕ
  pub before : time < k
  pub held : P time

module _ (R : RunInTime) where
  -- turn p linked row r at a head
  pub record LinkStepAtHead (p : ℕ) (h : Head) (r : ℕ) : Type 0 where
    pub change : Change
    pub head : change_head change ≡ h
    pub step : LinkStep R p change r

  pub record TimeLaws (t u : ℕ) : Type 0 where
    -- the clock never falls
    pub clock : clock_at R t ≤ clock_at R u
    -- linked rows stay linked
    pub linked : (c : Kind) (r : ℕ) → LinkedAt R t c r → LinkedAt R u c r
    -- a stamp stays, and what is pending or a stamp is never again not ended
    pub stamp : (c : Kind) (f : Field) (r n : ℕ) → LinkedAt R t c r → mark_at R t c f r ≡ Stamp n → mark_at R u c f r ≡ Stamp n
    pub begun : (c : Kind) (f : Field) (r : ℕ) → LinkedAt R t c r → ¬ (mark_at R t c f r ≡ NotEnded) → ¬ (mark_at R u c f r ≡ NotEnded)
    -- older, source, target and weight of a linked row stay
    pub older : (c : Kind) (r : ℕ) → LinkedAt R t c r → number_at R u (cell.Older c r) ≡ number_at R t (cell.Older c r)
    pub source : (r : ℕ) → LinkedAt R t Edge r → number_at R u (cell.Source r) ≡ number_at R t (cell.Source r)
    pub target : (r : ℕ) → LinkedAt R t Edge r → number_at R u (cell.Target r) ≡ number_at R t (cell.Target r)
    pub weight : (r : ℕ) → LinkedAt R t Edge r → number_at R u (cell.Weight r) ≡ number_at R t (cell.Weight r)
    -- a head is as it was, or is a row that was linked there since
    pub head : (h : Head) → Named R.sizes (cell.Head h) → (head_at R u h ≡ head_at R t h) ⊎ Before u (λ p. (t ≤ p) × LinkStepAtHead p h (head_at R u h))

  -- a row that is linked at the start is the row of a head; it bears a stamp up to the clock, and has not ended
  pub record OldRow (c : Kind) (r : ℕ) : Type 0 where
    pub head : Head
    pub named : Named R.sizes (cell.Head head)
    pub kind : head_kind head ≡ c
    pub is : head_at R zero head ≡ r
    pub number : ℕ
    pub stamp : mark_at R zero c Ins r ≡ Stamp number
    pub low : number ≤ clock_at R zero
    pub alive : mark_at R zero c Del r ≡ NotEnded

  pub record LastingLaws : Type 0 where
    pub times : (t u : ℕ) → t ≤ u → TimeLaws t u
    -- the clock is 1 to T
    pub clock : (k : ℕ) → IsStamp R.sizes (clock_at R k)
    -- the rows at the start are those of its heads
    pub old_row : (c : Kind) (r : ℕ) → LinkedAt R zero c r → OldRow c r
    pub old_head : (h : Head) → Named R.sizes (cell.Head h) → 0 < head_at R zero h → LinkedAt R zero (head_kind h) (head_at R zero h)
    -- a head that is a row was so at the start, or was linked there before
    pub head : (k : ℕ) (h : Head) → Named R.sizes (cell.Head h) → 0 < head_at R k h → (head_at R k h ≡ head_at R zero h) ⊎ Before k (λ p. LinkStepAtHead p h (head_at R k h))
    -- a linked row was linked at the start or before
    pub linked : (k : ℕ) (c : Kind) (r : ℕ) → LinkedAt R k c r → LinkedAt R zero c r ⊎ Before k (λ p. (h : Head) × (head_kind h ≡ c) × LinkStepAtHead p h r)
    -- ins of a linked row is pending or a stamp
    pub filled : (k : ℕ) (c : Kind) (r : ℕ) → LinkedAt R k c r → ¬ (mark_at R k c Ins r ≡ NotEnded)

abbrev pub RunsLast : Type 0
RunsLast = (R : RunInTime) → LastingLaws R

-- The best values of walks.
use Rattle.std.specs.Prelude.{◌≡◌, ℕ, ◌<◌, ◌≤◌, List, Some, None, Option, Ok, Err, Result, slice_get}
use Rattle.questions.specs.declared.unanswered.Unanswered.{Unanswered}
use Rattle.questions.specs.Graph.{Graph, Walk, here, on}
use Rattle.questions.specs.Measures.{Scale, NoBetter}

-- the value of a walk
abbrev pub along : (m : Scale) {g : Graph} {s k : ℕ} → Walk g s k → ℕ
along m here = m.first
along m (on w p e) = m.extend (along m p) w

-- v is the best value over walks from s to k
pub record Best (m : Scale) (g : Graph) (s k v : ℕ) : Type 0 where
  pub walk : Walk g s k
  pub value : along m walk ≡ v
  pub none_better : (p : Walk g s k) → NoBetter m (along m p) v

-- the entry of k: the best value over walks to k, or none where there is no walk
abbrev pub Entered : Scale → Graph → ℕ → ℕ → Option ℕ → Type 0
Entered m g s k (Some v) = Best m g s k v
Entered m g s k None = Walk g s k → ⊥

-- the area holds the entries of the n keys, in its form, and past them what it held before
pub record Answered {A : Type 0} (Form : Option ℕ → A → Type 0) (m : Scale) (g : Graph) (n s : ℕ) (old new : List A) : Type 0 where
  pub keys : (k : ℕ) → k < n → (x : Option ℕ) × (y : A) × (slice_get new k ≡ Some y) × Form x y × Entered m g s k x
  pub others : (k : ℕ) → n ≤ k → slice_get new k ≡ slice_get old k

-- a question that is not answered leaves the area as it was
abbrev pub AnsweredOr : {A : Type 0} → Result (Unit {0}) Unanswered → (Option ℕ → A → Type 0) → Scale → Graph → ℕ → ℕ → List A → List A → Type 0
AnsweredOr (Ok u) Form m g n s old new = Answered Form m g n s old new
AnsweredOr (Err e) Form m g n s old new = new ≡ old

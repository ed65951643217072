-- The run of one snapshot gives what is owed.
use Rattle.std.proofs.Common.{◌≡◌, ℕ, zero, suc, ◌<◌, ◌≤◌, ◌≢◌, ◌⊎◌, refl, ap, inl, inr, arith}
use Rattle.layout.specs.declared.names.Field.{Field}
use Rattle.layout.specs.declared.names.Field.TheVariants.{Ins, Del}
use Rattle.layout.specs.declared.names.Head.{Head}
use Rattle.layout.specs.declared.names.Head.TheVariants as head
use Rattle.places.specs.Touches.{head_kind}
use Rattle.places.specs.declared.mark.Mark.TheVariants.{Stamp}
use Rattle.places.specs.Marks.{mark_of}
use Rattle.places.specs.declared.place.Survey.TheVariants.{Snapshot}
use Rattle.walks.specs.Memory.{mark_in}
use Rattle.walks.specs.Surveys.{turn_of, TurnDone, goes_to, Surveying}
use Rattle.walks.specs.Courses.{Old}
use Rattle.walks.specs.Steps.{CourseLinkStep, CourseStepLinked, MarkMoves, stays, stamps, Steps}
use Rattle.walks.specs.Worked.{memory_at, course, surveyor_at, Worked}

rises : (k : ℕ) → (memory_at k).clock ≤ (memory_at (suc k)).clock
rises zero = omega arith
rises (suc zero) = omega arith
rises (suc (suc zero)) = omega arith
rises (suc (suc (suc k))) = omega arith

never_before : (q : ℕ) → q ≤ 0 → (memory_at q).head (head.Vertex 0) ≢ 1
never_before zero l e = omega arith
never_before (suc q) l e = omega arith

first_link : CourseLinkStep course 1 0 (head.Vertex 0) 1
first_link = record { row = omega arith; is = refl; fresh = never_before; under = refl; ins = refl; del = refl; over = record { key = omega arith; over = inl refl } }

heads : (k : ℕ) (h : Head) → ((memory_at (suc k)).head h ≡ (memory_at k).head h) ⊎ CourseLinkStep course 1 k h ((memory_at (suc k)).head h)
heads zero (head.Vertex zero) = inr first_link
heads zero (head.Vertex (suc i)) = inl refl
heads zero (head.Edge i j) = inl refl
heads (suc zero) (head.Vertex zero) = inl refl
heads (suc zero) (head.Vertex (suc i)) = inl refl
heads (suc zero) (head.Edge i j) = inl refl
heads (suc (suc zero)) (head.Vertex zero) = inl refl
heads (suc (suc zero)) (head.Vertex (suc i)) = inl refl
heads (suc (suc zero)) (head.Edge i j) = inl refl
heads (suc (suc (suc k))) h = inl refl

none_old : (h : Head) (r : ℕ) → Old course h r → ⊥
none_old (head.Vertex zero) r o = omega (arith, o.row, o.is)
none_old (head.Vertex (suc i)) r o = omega (arith, o.row, o.is)
none_old (head.Edge i j) r o = omega (arith, o.row, o.is)

marks : (k : ℕ) (h : Head) (f : Field) (r : ℕ) → CourseStepLinked course 1 k h r → MarkMoves course 1 k h f r (mark_in (memory_at k) (head_kind h) f r) (mark_in (memory_at (suc k)) (head_kind h) f r)
marks zero h f r (inl o) = absurd (none_old h r o)
marks zero h f r (inr w) = absurd (omega (arith, w.before))
marks (suc zero) (head.Vertex i) Ins r w = stamps 1 1 refl refl (omega arith) w (λ q. grind arith) refl
marks (suc zero) (head.Vertex i) Del r w = stays refl
marks (suc zero) (head.Edge i j) f r w = stays refl
marks (suc (suc zero)) (head.Vertex i) Ins r w = stays refl
marks (suc (suc zero)) (head.Vertex i) Del r w = stays refl
marks (suc (suc zero)) (head.Edge i j) f r w = stays refl
marks (suc (suc (suc k))) h f r w = stays refl

-- what never changes
same : (k : ℕ) → ((memory_at k).older ≡ course.older) × ((memory_at k).source ≡ course.source) × ((memory_at k).target ≡ course.target) × ((memory_at k).weight ≡ course.weight)
same zero = (refl, refl, refl, refl)
same (suc zero) = (refl, refl, refl, refl)
same (suc (suc zero)) = (refl, refl, refl, refl)
same (suc (suc (suc k))) = (refl, refl, refl, refl)

stamps_of : (k : ℕ) → mark_of (memory_at k).clock ≡ Stamp (memory_at k).clock
stamps_of zero = refl
stamps_of (suc zero) = refl
stamps_of (suc (suc zero)) = refl
stamps_of (suc (suc (suc k))) = refl

steps : Steps course 1
steps = record {
  clock_rises = rises;
  clock_stamps = stamps_of;
  old = λ h r o. absurd (none_old h r o);
  heads = heads;
  marks = marks;
  older = λ k h r w. ap (λ f. f (head_kind h) r) (same k).0;
  source = λ k i j r w. ap (λ f. f r) (same k).1;
  target = λ k i j r w. ap (λ f. f r) (same k).2;
  weight = λ k i j r w. ap (λ f. f r) (same k).3;
}

turns : (k : ℕ) → 2 ≤ k → k < 5 → (surveyor_at (suc k) ≡ surveyor_at k) ⊎
    ((turn_of 1 9 (memory_at k) (surveyor_at k) ≡ goes_to (surveyor_at (suc k))) × TurnDone 9 (memory_at k) (memory_at (suc k)) (surveyor_at k))
turns zero l m = absurd (omega arith)
turns (suc zero) l m = absurd (omega arith)
turns (suc (suc zero)) l m = inr (refl, λ q. refl)
turns (suc (suc (suc zero))) l m = inr (refl, tt)
turns (suc (suc (suc (suc zero)))) l m = inr (refl, tt)
turns (suc (suc (suc (suc (suc k))))) l m = absurd (omega arith)

surveying : Surveying course 1 9 Snapshot 2 5 surveyor_at
surveying = record { some_key = omega arith; few_keys = omega arith; fits = tt; starts = refl; turns = turns }

pub worked : Worked
worked = record { steps = steps; turns = surveying; answer = refl; shows = refl }

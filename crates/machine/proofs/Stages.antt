-- Which turns lead to the second and third stage of settling a field: only those of the stage before, on the same field.
-- And a worker in its call is idle only after its answer.
use Rattle.std.proofs.Common.{rules, ◌≡◌, ℕ, eqb, Some, None, Option, refl}
use Rattle.std.proofs.lemmas.Bool.{eqb-true, cond_both}
use Rattle.std.specs.declared.ops.ControlFlow.TheVariants.{Continue, Break}
use Rattle.codes.specs.declared.answer.Answer.{Answer}
use Rattle.places.specs.declared.place.Stage.TheVariants as stage
use Rattle.places.specs.declared.place.Place.{Place}
use Rattle.places.specs.declared.place.Place.TheVariants as place
use Rattle.places.specs.declared.place.Hand.{Hand}
use Rattle.places.specs.Moved.{Next, Next as next}
use Rattle.places.specs.Marks.{pending, mark_of}
use Rattle.places.specs.Flows.{Flow}
use Rattle.places.specs.Rules.{absent}
use Rattle.places.specs.Nexts.{number_of, settle_on, settled, next_of}
use Rattle.books.specs.Walked.{WalkOutcome, walked_at}
use Rattle.machine.specs.declared.worker.Worker.{Worker}
use Rattle.machine.specs.Workers.{at, finishes, finished, with_book, arrived, flow_answer, followed}
use Rattle.machine.proofs.Starts.{Starts, StartsFlow, StartsNext, absent_starts, link_done_starts, end_done_starts, raise_done_starts, walked_head_starts, walked_ins_starts, settled_starts, walked_at_starts}

-- a place that one turn from place p, which gave g, leads to
abbrev pub Staged : Place → Option ℕ → Place → Type 0
Staged p g place.Idle = p ≡ place.Idle
Staged p g (place.Settle stage.Clock q) = (p ≡ place.Settle stage.First q) × (number_of g ≡ pending)
Staged p g (place.Settle (stage.Swap n) q) = (p ≡ place.Settle stage.Clock q) × (n ≡ number_of g)
Staged p g (place.Raise v) = ⊥
Staged p g q = Unit {0}

abbrev StagedFlow : Place → Option ℕ → Flow → Type 0
StagedFlow p g (Continue q) = Staged p g q
StagedFlow p g (Break a) = Unit {0}

abbrev pub StagedNext : Place → Option ℕ → Next → Type 0
StagedNext p g (next.Moved o) = StagedFlow p g o
StagedNext p g n = Unit {0}

-- where a turn that gave an answer, or none, leaves its worker
abbrev pub StagedOr : Place → Option ℕ → Option Answer → Place → Type 0
StagedOr p g None q = Staged p g q
StagedOr p g (Some a) q = q ≡ place.Idle

module _ (p : Place) (g : Option ℕ) where
  starts_staged : (q : Place) → Starts q → Staged p g q
  starts_staged place.Idle s = absurd s
  starts_staged (place.Settle stage.First q) s = tt
  starts_staged (place.Settle st q) s = absurd s
  starts_staged (place.Raise v) s = absurd s
  starts_staged q s = tt

  out_staged : (o : Flow) → StartsFlow o → StagedFlow p g o
  out_staged (Continue q) s = starts_staged q s
  out_staged (Break a) s = tt

  next_starts_staged : (n : Next) → StartsNext n → StagedNext p g n
  next_starts_staged (next.Moved o) s = out_staged o s
  next_starts_staged n s = tt

pub next_staged : (p : Place) (h : Hand) (g : Option ℕ) → StagedNext p g (next_of p h g)
next_staged place.Idle h g = refl
next_staged (place.Head l) h g = let a : StagedFlow (place.Head l) g (absent l 0) = out_staged _ g _ (absent_starts l 0) in search rules
next_staged (place.Settle stage.First q) h g =
    cond_both (eqb (number_of g) pending) (settle_on stage.Clock q) (settled q h (mark_of (number_of g))) (StagedNext (place.Settle stage.First q) g)
    (λ e. (refl, eqb-true (number_of g) pending e)) (λ _. next_starts_staged _ g _ (settled_starts q h _))
next_staged (place.Settle stage.Clock q) h g = (refl, refl)
next_staged (place.Settle (stage.Swap n) q) h g = tt
next_staged (place.Settle stage.Reread q) h g = next_starts_staged _ g _ (settled_starts q h _)
next_staged (place.Link c b) h g = next_starts_staged _ g _ (link_done_starts c h.spare _)
next_staged (place.End c r) h g = out_staged _ g _ (end_done_starts _ c r)
next_staged (place.LostHead i) h g = tt
next_staged (place.Raise v) h g = next_starts_staged _ g _ (raise_done_starts v g)
next_staged (place.WalkHead k) h g = next_starts_staged _ g _ (walked_head_starts k _)
next_staged (place.WalkOlder k r) h g = next_starts_staged _ g _ (walked_ins_starts k r h _)

-- the worker's place after the turn
module _ (p : Place) (g : Option ℕ) where
  arrived_staged : (v : Worker) (o : Flow) → StagedFlow p g o → StagedOr p g (flow_answer o) (arrived v o).place
  arrived_staged v (Continue q) s = s
  arrived_staged v (Break a) s = cond_both (finishes a) (finished v) (at v place.Idle) (λ u. u.place ≡ place.Idle) (λ _. refl) (λ _. refl)

  pub followed_staged : (n : ℕ) (v : Worker) (h : Hand) (x : Next) → StagedNext p g x → StagedOr p g (followed n v h x).answer (followed n v h x).worker.place
  followed_staged n v h (next.Moved o) s = arrived_staged v o s
  followed_staged n v h (next.Linked c r) s = tt
  followed_staged n v h (next.Raised k t) s = tt
  followed_staged n v h (next.Walked k r) s =
      let o : WalkOutcome = walked_at v.book k.survey k.job n r h in
      arrived_staged (with_book v o.book) o.out (out_staged p g o.out (walked_at_starts v.book k.survey k.job n r h))

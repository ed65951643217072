-- The states of a run up to now are a memory as walks asks.
use Rattle.std.proofs.Common.{◌≡◌, ℕ, suc, ◌<◌, ◌≤◌, ◌≢◌, ◌⊎◌, min, true, false, sym, ap, ◌∙◌, subst, subst₂, inl, inr, ⊎_elim, arith}
use Rattle.std.proofs.lemmas.Bool.{cases_lt}
use Rattle.layout.specs.declared.names.Kind.{Kind}
use Rattle.layout.specs.declared.names.Field.{Field}
use Rattle.layout.specs.declared.names.Field.TheVariants.{Ins, Del}
use Rattle.layout.specs.declared.sizes.Sizes.{Sizes}
use Rattle.layout.specs.declared.names.Head.{Head}
use Rattle.layout.specs.declared.names.Head.TheVariants as head
use Rattle.layout.specs.declared.names.Cell.TheVariants as cell
use Rattle.layout.specs.Layout.{Named}
use Rattle.places.specs.Touches.{head_kind, change_head, settled_field}
use Rattle.places.specs.declared.mark.Mark.{Mark}
use Rattle.places.specs.declared.mark.Mark.TheVariants.{NotEnded, Pending, Stamp}
use Rattle.places.specs.declared.place.Purpose.{Purpose}
use Rattle.places.specs.declared.place.Stage.TheVariants as stage
use Rattle.places.specs.declared.place.Place.TheVariants as place
use Rattle.runs.specs.Runs.{RunInTime}
use Rattle.runs.specs.Views.{number_at, clock_at, head_at, mark_at, LinkedAt}
use Rattle.runs.specs.Steps.{TurnAt, HeadSteps, HeadSteps.stays as heads_stay, HeadSteps.moves as heads_move, MarkSteps, MarkSteps.same as marks_stay, MarkSteps.settled as marks_settled, MarkSteps.ended as marks_ended}
use Rattle.runs.specs.Known.{FromClock, Known}
use Rattle.runs.specs.Purposes.{purpose_kind, purpose_field, purpose_row}
use Rattle.runs.specs.Reasons.{WorkerKnows, WorkerKnows.free, WorkerKnows.busy}
use Rattle.laws.specs.Clean.{Stands as Standing}
use Rattle.walks.specs.Memory.{head_inside, mark_in, memory_of}
use Rattle.walks.specs.Courses.{Course, Old}
use Rattle.walks.specs.Steps.{CourseLinkStep, CourseStepLinked, MarkMoves, stays, ends, stamps, OldEdge, OldOf, OldStart, Steps}
use Rattle.walks.specs.Histories.{run_course, RunsGiveSteps}
use Rattle.walks.proofs.Histories.{inside_or, head_outside, at_time, head_then, still, OldComes, old_comes, link_comes, linked_then}
use Rattle.walks.proofs.RunSteps.{links_of}
use Rattle.runs.proofs.Kept.{settled_is}
use Rattle.runs.proofs.TurnSteps.{mark_stamp}
use Rattle.runs.proofs.Steps.{stamps_at, runs_step as step}
use Rattle.runs.proofs.Times.{runs_last as last}
use Rattle.runs.proofs.Knows.{runs_know as know}

same_names : {g h : Kind} {f e : Field} {r q : ℕ} → cell.Stamp g f r ≡ cell.Stamp h e q → (g ≡ h) × (f ≡ e) × (r ≡ q)
same_names x = (cc, cc, cc)

module _ (R : RunInTime) (now : ℕ) where
  abbrev c : Course
  c = run_course R now

  abbrev n : ℕ
  n = R.sizes.keys

  -- the number in hand is what the clock was once the field was pending
  from_clock : (k w x : ℕ) (p : Purpose) (g : Kind) (f : Field) (r : ℕ) → TurnAt R k w (place.Settle (stage.Swap x) p) → settled_field p ≡ cell.Stamp g f r → FromClock R k g f r x
  from_clock k w x p g f r t e = by_worker ((know R).workers k w t.within)
    where
      by_names : FromClock R k (purpose_kind p) (purpose_field p) (purpose_row p) x → FromClock R k g f r x
      by_names h =
          let same = same_names (sym (settled_is p) ∙ e) in
          subst (λ y. FromClock R k g f y x) same.2 (subst (λ y. FromClock R k g y (purpose_row p) x) same.1 (subst (λ y. FromClock R k y (purpose_field p) (purpose_row p) x) same.0 h))

      by_worker : WorkerKnows R k w → FromClock R k g f r x
      by_worker (free u i) = absurd (let y : place.Settle (stage.Swap x) p ≡ place.Idle = sym t.place ∙ i in cc)
      by_worker (busy b y u h i o) = by_names ((subst (Known R k b) t.place o).0.0)

  -- a row that is linked at time a was linked before
  linked_before : (k a : ℕ) (h : Head) (r : ℕ) → CourseStepLinked c n k h r → LinkedAt R a (head_kind h) r → CourseStepLinked c n a h r
  linked_before k a h r (inl o) l = inl o
  linked_before k a h r (inr w) l = inr (record { time = w.time; before = ⊎_elim (λ (u : w.time < a). u) (λ (u : a ≤ w.time). absurd (late u)) (cases_lt w.time a); was = w.was })
    where
      late : a ≤ w.time → ⊥
      late u =
          let b = (link_comes R now w.time h r w.was).by in
          b.step.fresh (subst (λ g. LinkedAt R w.time (head_kind g) r) (sym b.head) (((last R).times a w.time u).linked (head_kind h) r l))

  module _ (k : ℕ) (h : Head) (f : Field) (r : ℕ) (w : CourseStepLinked c n k h r) (l : k < now) where
    abbrev Moves : Mark → Mark → Type 0
    Moves x y = MarkMoves c n k h f r x y

    settles : (x : ℕ) → FromClock R k (head_kind h) f r x → mark_at R k (head_kind h) f r ≡ Pending → mark_at R (suc k) (head_kind h) f r ≡ Stamp x → Moves (mark_at R k (head_kind h) f r) (mark_at R (suc k) (head_kind h) f r)
    settles x o p q =
        let a = o.time in
        let u = o.held.1 in
        let later = (last R).times u.time a (omega (arith, u.before)) in
        let linked = later.linked (head_kind h) r u.held.0 in
        let begun = later.begun (head_kind h) f r u.held.0 (λ e. no_pending (sym u.held.1 ∙ e)) in
        stamps x a p q (omega (arith, o.before)) (linked_before k a h r w linked)
        (subst (λ m. mark_in (memory_of (R.state m)) (head_kind h) f r ≢ NotEnded) (at_time R now a (omega (arith, o.before))) begun)
        (subst (λ m. clock_at R m ≡ x) (at_time R now a (omega (arith, o.before))) o.held.0)
      where
        no_pending : Pending ≡ NotEnded → ⊥
        no_pending e = absurd cc

    by_step : MarkSteps R k (head_kind h) f r (mark_at R k (head_kind h) f r) (mark_at R (suc k) (head_kind h) f r) → Moves (mark_at R k (head_kind h) f r) (mark_at R (suc k) (head_kind h) f r)
    by_step (marks_stay e) = stays e
    by_step (marks_settled v x p t e i q y) = settles x (from_clock k v x p (head_kind h) f r t e) q y
    by_step (marks_ended v d t e g x y) = ends x y

    mark_moves : Moves (mark_in (c.at k) (head_kind h) f r) (mark_in (c.at (suc k)) (head_kind h) f r)
    mark_moves =
        let linked = subst (λ m. LinkedAt R m (head_kind h) r) (sym (at_time R now k (omega arith))) (linked_then R now k h r w) in
        subst₂ (λ i j. Moves (mark_in (memory_of (R.state i)) (head_kind h) f r) (mark_in (memory_of (R.state j)) (head_kind h) f r))
        (at_time R now k (omega arith)) (at_time R now (suc k) l) (by_step ((step R k).marks (head_kind h) f r linked))

  marks : (k : ℕ) (h : Head) (f : Field) (r : ℕ) → CourseStepLinked c n k h r → MarkMoves c n k h f r (mark_in (c.at k) (head_kind h) f r) (mark_in (c.at (suc k)) (head_kind h) f r)
  marks k h f r w = ⊎_elim (λ (l : k < now). mark_moves k h f r w l) (λ (l : now ≤ k). stays (ap (λ m. mark_in (memory_of (R.state m)) (head_kind h) f r) (still R now k l))) (cases_lt k now)

  heads : (k : ℕ) (h : Head) → ((c.at (suc k)).head h ≡ (c.at k).head h) ⊎ CourseLinkStep c n k h ((c.at (suc k)).head h)
  heads k h = ⊎_elim early (λ (l : now ≤ k). inl (ap (λ m. (memory_of (R.state m)).head h) (still R now k l))) (cases_lt k now)
    where
      by_head : k < now → Named R.sizes (cell.Head h) → HeadSteps R k h (head_at R (suc k) h) → ((c.at (suc k)).head h ≡ (c.at k).head h) ⊎ CourseLinkStep c n k h ((c.at (suc k)).head h)
      by_head l m (heads_stay e) = inl (head_then R now (suc k) h l m ∙ e ∙ sym (head_then R now k h (omega arith) m))
      by_head l m (heads_move d q s) =
          let at_head : Named R.sizes (cell.Head (change_head d)) = subst (λ g. Named R.sizes (cell.Head g)) (sym q) m in
          inr (subst₂ (CourseLinkStep c n k) q (sym (head_then R now (suc k) h l m)) (links_of R now k l d _ s at_head))

      early : k < now → ((c.at (suc k)).head h ≡ (c.at k).head h) ⊎ CourseLinkStep c n k h ((c.at (suc k)).head h)
      early l = ⊎_elim (λ (m : Named R.sizes (cell.Head h) × (head_inside R.sizes h ≡ true)). by_head l m.0 ((step R k).heads h m.0))
          (λ (m : head_inside R.sizes h ≡ false). inl (head_outside R (min (suc k) now) h m ∙ sym (head_outside R (min k now) h m))) (inside_or R.sizes h)

  -- a row from before the start
  old_head_of : (i r : ℕ) → i < n → head_at R 0 (head.Vertex i) ≡ r → 0 < r → Old c (head.Vertex i) r
  old_head_of i r k e l = record { row = l; is = head_then R now 0 (head.Vertex i) (omega arith) k ∙ e }

  old_edge : (i j r : ℕ) → OldComes R now (head.Edge i j) r → 0 < r → OldEdge c n i j r
  old_edge i j r x l =
      let k : (i < (R.state 0).sizes.keys) × (j < (R.state 0).sizes.keys) = subst (λ (z : Sizes). (i < z.keys) × (j < z.keys)) (sym R.start) x.named in
      let a = R.clean.joined i j k.0 k.1 (omega (arith, x.is)) in
      let laws = (last R).times 0 (min now now) (omega arith) in
      let s : c.source r ≡ head_at R 0 (head.Vertex i) = laws.source r x.linked ∙ subst (λ q. number_at R 0 (cell.Source q) ≡ head_at R 0 (head.Vertex i)) x.is a.source in
      let t : c.target r ≡ head_at R 0 (head.Vertex j) = laws.target r x.linked ∙ subst (λ q. number_at R 0 (cell.Target q) ≡ head_at R 0 (head.Vertex j)) x.is a.target in
      let w : 1 ≤ number_at R 0 (cell.Weight r) = subst (λ q. 1 ≤ number_at R 0 (cell.Weight q)) x.is a.weight.0 in
      record {
        from = x.named.0;
        to = x.named.1;
        apart = a.apart;
        weight = omega (arith, laws.weight r x.linked, w);
        source = old_head_of i (c.source r) x.named.0 (sym s) (omega (arith, s, a.from));
        target = old_head_of j (c.target r) x.named.1 (sym t) (omega (arith, t, a.to));
      }

  old_of : (h : Head) (r : ℕ) → OldComes R now h r → 0 < r → OldOf c n h r
  old_of (head.Vertex i) r x l = x.named
  old_of (head.Edge i j) r x l = old_edge i j r x l

  old_low : (h : Head) (r : ℕ) → OldComes R now h r → 0 < r → number_at R 0 (cell.Stamp (head_kind h) Ins r) ≤ clock_at R 0
  old_low h r x l =
      ⊎_elim (λ (e : head_at R 0 h ≡ 0). absurd (omega (arith, x.is)))
      (λ (s : Standing (R.state 0) h). subst (λ q. number_at R 0 (cell.Stamp (head_kind h) Ins q) ≤ clock_at R 0) x.is s.born)
      (R.clean.heads h (subst (λ (z : Sizes). Named z (cell.Head h)) (sym R.start) x.named))

  old_stamp : (h : Head) (r : ℕ) (x : OldComes R now h r) → 0 < r → mark_at R 0 (head_kind h) Ins r ≡ Stamp (number_at R 0 (cell.Stamp (head_kind h) Ins r))
  old_stamp h r x l =
      ⊎_elim (λ (e : head_at R 0 h ≡ 0). absurd (omega (arith, x.is)))
      (λ (s : Standing (R.state 0) h).
      let y : ℕ = number_at R 0 (cell.Stamp (head_kind h) Ins r) in
      let one : 1 ≤ y = subst (λ q. 1 ≤ number_at R 0 (cell.Stamp (head_kind h) Ins q)) x.is s.stamp in
      mark_stamp y ((stamps_at R 0).apart y (one, omega (arith, old_low h r x l, R.clean.clock.1))))
      (R.clean.heads h (subst (λ (z : Sizes). Named z (cell.Head h)) (sym R.start) x.named))

  old_start : (h : Head) (r : ℕ) → Old c h r → OldStart c n h r
  old_start h r o =
      let x = old_comes R now h r o in
      let row = (last R).old_row (head_kind h) r x.linked in
      let zero_is = at_time R now 0 (omega arith) in
      record {
        under = ((last R).times 0 (min now now) (omega arith)).older (head_kind h) r x.linked ∙ under x;
        born = record { number = number_at R 0 (cell.Stamp (head_kind h) Ins r); is = subst (λ m. mark_in (memory_of (R.state m)) (head_kind h) Ins r ≡ Stamp (number_at R 0 (cell.Stamp (head_kind h) Ins r))) zero_is (old_stamp h r x o.row) };
        low = subst (λ m. number_at R 0 (cell.Stamp (head_kind h) Ins r) ≤ clock_at R m) zero_is (old_low h r x o.row);
        alive = subst (λ m. mark_in (memory_of (R.state m)) (head_kind h) Del r ≡ NotEnded) zero_is row.alive;
        of = old_of h r x o.row;
      }
    where
      under : OldComes R now h r → number_at R 0 (cell.Older (head_kind h) r) ≡ 0
      under x =
          ⊎_elim (λ (e : head_at R 0 h ≡ 0). absurd (omega (arith, x.is, o.row)))
          (λ (s : Standing (R.state 0) h). subst (λ q. number_at R 0 (cell.Older (head_kind h) q) ≡ 0) x.is s.alone)
          (R.clean.heads h (subst (λ (z : Sizes). Named z (cell.Head h)) (sym R.start) x.named))

  run_steps : Steps c n
  run_steps = record {
    clock_rises = λ k. ((last R).times (min k now) (min (suc k) now) (omega arith)).clock;
    clock_stamps = λ k. mark_stamp (clock_at R (min k now)) ((stamps_at R (min k now)).apart (clock_at R (min k now)) (stamps_at R (min k now)).clock);
    old = old_start;
    heads = heads;
    marks = marks;
    older = λ k h r w. sym (((last R).times (min k now) (min now now) (omega arith)).older (head_kind h) r (linked_then R now k h r w));
    source = λ k i j r w. sym (((last R).times (min k now) (min now now) (omega arith)).source r (linked_then R now k (head.Edge i j) r w));
    target = λ k i j r w. sym (((last R).times (min k now) (min now now) (omega arith)).target r (linked_then R now k (head.Edge i j) r w));
    weight = λ k i j r w. sym (((last R).times (min k now) (min now now) (omega arith)).weight r (linked_then R now k (head.Edge i j) r w));
  }

pub runs_give_steps : RunsGiveSteps
runs_give_steps R now = run_steps R now

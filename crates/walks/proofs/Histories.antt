-- The states of a run up to now, as a course: the times at which it moves, and what heads and linked rows are.
use Rattle.std.proofs.Common.{◌≡◌, ℕ, suc, ◌<◌, ◌≤◌, ◌≢◌, ◌⊎◌, min, Bool, true, false, cond, ltb, ◌&&◌, sym, refl, ap, ◌∙◌, subst, inl, inr, ⊎_elim, arith}
use Rattle.std.proofs.lemmas.Bool.{ltb-true, lt-ltb, and_parts, cases_lt}
use Rattle.layout.specs.declared.sizes.Sizes.{Sizes}
use Rattle.layout.specs.declared.names.Kind.{Kind}
use Rattle.layout.specs.declared.names.Field.{Field}
use Rattle.layout.specs.declared.names.Head.{Head}
use Rattle.layout.specs.declared.names.Head.TheVariants as head
use Rattle.layout.specs.declared.names.Cell.TheVariants as cell
use Rattle.layout.specs.Layout.{Named}
use Rattle.layout.specs.Rows.{no_row}
use Rattle.places.specs.Touches.{head_kind}
use Rattle.places.specs.declared.mark.Mark.TheVariants.{Stamp}
use Rattle.runs.specs.Runs.{RunInTime}
use Rattle.runs.specs.Views.{head_at, LinkedAt}
use Rattle.runs.specs.Steps.{HeadSteps, HeadSteps.stays, HeadSteps.moves}
use Rattle.runs.specs.Times.{LinkStepAtHead}
use Rattle.runs.specs.Known.{StampedAt}
use Rattle.walks.specs.Memory.{mark_in, head_inside, memory_of}
use Rattle.walks.specs.Courses.{Course, CourseStamped, Old}
use Rattle.walks.specs.Steps.{CourseLinkStep, CourseStepLinked}
use Rattle.walks.specs.Histories.{run_course}
use Rattle.runs.proofs.Steps.{sizes_at, runs_step as step}
use Rattle.runs.proofs.Times.{runs_last as last}

-- a head is one of the sizes, or outside
pub inside_or : (z : Sizes) (h : Head) → (Named z (cell.Head h) × (head_inside z h ≡ true)) ⊎ (head_inside z h ≡ false)
inside_or z (head.Vertex i) = by_test (ltb i z.keys) refl
  where
    by_test : (t : Bool) → ltb i z.keys ≡ t → ((i < z.keys) × (ltb i z.keys ≡ true)) ⊎ (ltb i z.keys ≡ false)
    by_test true e = inl (ltb-true i z.keys e, e)
    by_test false e = inr e
inside_or z (head.Edge i j) = by_test (ltb i z.keys && ltb j z.keys) refl
  where
    by_test : (t : Bool) → (ltb i z.keys && ltb j z.keys) ≡ t → (((i < z.keys) × (j < z.keys)) × ((ltb i z.keys && ltb j z.keys) ≡ true)) ⊎ ((ltb i z.keys && ltb j z.keys) ≡ false)
    by_test true e = (let p = and_parts (ltb i z.keys) (ltb j z.keys) e in inl ((ltb-true i z.keys p.0, ltb-true j z.keys p.1), e))
    by_test false e = inr e

pub inside : (z : Sizes) (h : Head) → Named z (cell.Head h) → head_inside z h ≡ true
inside z (head.Vertex i) n = lt-ltb i z.keys n
inside z (head.Edge i j) n = rw (lt-ltb i z.keys n.0, lt-ltb j z.keys n.1) refl

module _ (R : RunInTime) where
  -- a head of the sizes holds what its cell holds, a head outside no row
  pub head_named : (k : ℕ) (h : Head) → Named R.sizes (cell.Head h) → (memory_of (R.state k)).head h ≡ head_at R k h
  head_named k h n = ap (λ z. cond (head_inside z h) (head_at R k h) no_row) (sizes_at R k) ∙ ap (λ t. cond t (head_at R k h) no_row) (inside R.sizes h n)

  pub head_outside : (k : ℕ) (h : Head) → head_inside R.sizes h ≡ false → (memory_of (R.state k)).head h ≡ no_row
  head_outside k h e = ap (λ z. cond (head_inside z h) (head_at R k h) no_row) (sizes_at R k) ∙ ap (λ t. cond t (head_at R k h) no_row) e

  module _ (now : ℕ) where
    abbrev c : Course
    c = run_course R now

    pub at_time : (k : ℕ) → k ≤ now → k ≡ min k now
    at_time k l = omega arith

    pub head_then : (k : ℕ) (h : Head) → k ≤ now → Named R.sizes (cell.Head h) → (c.at k).head h ≡ head_at R k h
    head_then k h l n = subst (λ m. (memory_of (R.state m)).head h ≡ head_at R k h) (at_time k l) (head_named k h n)

    -- from now on nothing moves
    pub still : (k : ℕ) → now ≤ k → min (suc k) now ≡ min k now
    still k l = omega arith

    -- a link of the course is a step of the run before now, which links the row at a head of the sizes
    pub record Comes (p : ℕ) (h : Head) (r : ℕ) : Type 0 where
      pub early : p < now
      pub named : Named R.sizes (cell.Head h)
      pub by : LinkStepAtHead R p h r

    moved : (p : ℕ) (h : Head) (r : ℕ) → p < now → Named R.sizes (cell.Head h) → head_at R (suc p) h ≡ r → head_at R p h ≢ r → LinkStepAtHead R p h r
    moved p h r l n e m = by_step ((step R p).heads h n)
      where
        by_step : HeadSteps R p h (head_at R (suc p) h) → LinkStepAtHead R p h r
        by_step (stays q) = absurd (m (sym q ∙ e))
        by_step (moves d q s) = subst (LinkStepAtHead R p h) e (record { change = d; head = q; step = s })

    pub comes : (p : ℕ) (h : Head) (r : ℕ) → 0 < r → (c.at (suc p)).head h ≡ r → (c.at p).head h ≢ r → Comes p h r
    comes p h r o e m = ⊎_elim in_time after (cases_lt p now)
      where
        in_time : p < now → Comes p h r
        in_time l = ⊎_elim
            (λ (n : Named R.sizes (cell.Head h) × (head_inside R.sizes h ≡ true)).
            record { early = l; named = n.0; by = moved p h r l n.0 (sym (head_then (suc p) h l n.0) ∙ e) (λ q. m (head_then p h (omega arith) n.0 ∙ q)) })
            (λ (n : head_inside R.sizes h ≡ false). absurd (omega (arith, o, e, head_outside (min (suc p) now) h n)))
            (inside_or R.sizes h)

        after : now ≤ p → Comes p h r
        after l = absurd (m (ap (λ k. (memory_of (R.state k)).head h) (sym (still p l)) ∙ e))

    pub link_comes : (p : ℕ) (h : Head) (r : ℕ) → CourseLinkStep c R.sizes.keys p h r → Comes p h r
    link_comes p h r l = comes p h r l.row l.is (l.fresh p (omega arith))

    pub linked_by : (p : ℕ) (h : Head) (r : ℕ) → LinkStepAtHead R p h r → LinkedAt R (suc p) (head_kind h) r
    linked_by p h r b = subst (λ g. LinkedAt R (suc p) (head_kind g) r) b.head b.step.linked

    -- a row from before the start is that of a head of the sizes
    pub record OldComes (h : Head) (r : ℕ) : Type 0 where
      pub named : Named R.sizes (cell.Head h)
      pub is : head_at R 0 h ≡ r
      pub linked : LinkedAt R 0 (head_kind h) r

    pub old_comes : (h : Head) (r : ℕ) → Old c h r → OldComes h r
    old_comes h r o = ⊎_elim named outside (inside_or R.sizes h)
      where
        named : Named R.sizes (cell.Head h) × (head_inside R.sizes h ≡ true) → OldComes h r
        named n =
            let e : head_at R 0 h ≡ r = sym (head_then 0 h (omega arith) n.0) ∙ o.is in
            record { named = n.0; is = e; linked = subst (LinkedAt R 0 (head_kind h)) e ((last R).old_head h n.0 (omega (arith, o.row, e))) }

        outside : head_inside R.sizes h ≡ false → OldComes h r
        outside n = absurd (omega (arith, o.row, o.is, head_outside (min 0 now) h n))

    -- what was linked is linked
    pub linked_then : (k : ℕ) (h : Head) (r : ℕ) → CourseStepLinked c R.sizes.keys k h r → LinkedAt R (min k now) (head_kind h) r
    linked_then k h r (inl o) = let x = old_comes h r o in ((last R).times 0 (min k now) (omega arith)).linked (head_kind h) r x.linked
    linked_then k h r (inr w) =
        let x = link_comes w.time h r w.was in
        ((last R).times (suc w.time) (min k now) (omega (arith, w.before, x.early))).linked (head_kind h) r (linked_by w.time h r x.by)

    pub stamped_then : (k : ℕ) (g : Kind) (f : Field) (r : ℕ) → k ≤ now → StampedAt R k g f r → CourseStamped c k g f r
    stamped_then k g f r l s = record { number = s.number; is = subst (λ m. mark_in (memory_of (R.state m)) g f r ≡ Stamp s.number) (at_time k l) s.is }

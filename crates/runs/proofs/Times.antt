-- What holds of a run from one time to a later one, by induction over time.
use Rattle.std.proofs.Common.{◌≡◌, ℕ, zero, suc, ◌<◌, ◌≤◌, ◌⊎◌, sym, refl, ap, ◌∙◌, subst, inl, inr, ⊎_elim, arith}
use Rattle.std.proofs.lemmas.Bool.{cases_lt}
use Rattle.layout.specs.declared.names.Kind.{Kind}
use Rattle.layout.specs.declared.names.Kind.TheVariants.{Edge}
use Rattle.layout.specs.declared.names.Field.{Field}
use Rattle.layout.specs.declared.names.Field.TheVariants.{Ins, Del}
use Rattle.layout.specs.declared.names.Head.{Head}
use Rattle.layout.specs.declared.names.Cell.TheVariants as cell
use Rattle.layout.specs.declared.sizes.Sizes.{Sizes}
use Rattle.layout.specs.Layout.{Named}
use Rattle.places.specs.declared.mark.Mark.{Mark}
use Rattle.places.specs.declared.mark.Mark.TheVariants.{NotEnded, Pending, Stamp}
use Rattle.places.specs.Touches.{change_head, head_kind}
use Rattle.places.specs.Marks.{mark_of, pending}
use Rattle.laws.specs.Clean.{IsStamp, Stands}
use Rattle.laws.proofs.Clean.{top_of, clean_heads}
use Rattle.laws.specs.Stamps.{Holds, Holds.not_ended, Holds.waits, Holds.stamped}
use Rattle.runs.specs.Runs.{RunInTime}
use Rattle.runs.specs.Views.{number_at, clock_at, head_at, mark_at, LinkedAt}
use Rattle.runs.specs.Steps.{HeadSteps, HeadSteps.stays, HeadSteps.moves, MarkSteps, MarkSteps.same, MarkSteps.settled, MarkSteps.ended, LinkStepOfKind}
use Rattle.runs.specs.Times.{Before, LinkStepAtHead, TimeLaws, OldRow, LastingLaws, RunsLast}
use Rattle.runs.proofs.TurnSteps.{mark_stamp}
use Rattle.runs.proofs.Steps.{stamps_at, runs_step as step}
use Rattle.laws.proofs.StampRuns.{runs_stamp as stamp}

-- what each step keeps holds at each later time
pub kept_from : (P : ℕ → Type 0) (t : ℕ) → P t → ((j : ℕ) → t ≤ j → P j → P (suc j)) → (u : ℕ) → t ≤ u → P u
kept_from P t h more zero l = let e : t ≡ zero = omega arith in subst P e h
kept_from P t h more (suc u) l =
    ⊎_elim (λ (a : t < suc u). more u (omega arith) (kept_from P t h more u (omega arith)))
    (λ (a : suc u ≤ t). let e : t ≡ suc u = omega arith in subst P e h) (cases_lt t (suc u))

pub before_later : {k u : ℕ} {P : ℕ → Type 0} → k ≤ u → Before k P → Before u P
before_later l h = record { time = h.time; before = omega arith; held = h.held }

pub stamp_step : {R : RunInTime} {k : ℕ} {c : Kind} {f : Field} {r n : ℕ} {x y : Mark} → MarkSteps R k c f r x y → x ≡ Stamp n → y ≡ Stamp n
stamp_step (same e) s = e ∙ s
stamp_step (settled w n p a e i q g) s = absurd cc
stamp_step (ended w d a e i q g) s = absurd cc

pub begun_step : {R : RunInTime} {k : ℕ} {c : Kind} {f : Field} {r : ℕ} {x y : Mark} → MarkSteps R k c f r x y → ¬ (x ≡ NotEnded) → ¬ (y ≡ NotEnded)
begun_step (same e) s g = s (sym e ∙ g)
begun_step (settled w n p a e i q h) s g = absurd cc
begun_step (ended w d a e i q h) s g = s q

module _ (R : RunInTime) where
  linked_later : (t u : ℕ) → t ≤ u → (c : Kind) (r : ℕ) → LinkedAt R t c r → LinkedAt R u c r
  linked_later t u l c r h = kept_from (λ j. LinkedAt R j c r) t h (λ j a. (step R j).linked c r) u l

  clock_later : (t u : ℕ) → t ≤ u → clock_at R t ≤ clock_at R u
  clock_later t u l = kept_from (λ j. clock_at R t ≤ clock_at R j) t (omega arith) (λ j a h. omega (arith, h, (step R j).clock)) u l

  -- what each step keeps of a linked row
  row_later : (P : ℕ → Type 0) (c : Kind) (r t : ℕ) → LinkedAt R t c r → P t → ((j : ℕ) → LinkedAt R j c r → P j → P (suc j)) → (u : ℕ) → t ≤ u → P u
  row_later P c r t k h more u l = kept_from P t h (λ j a. more j (linked_later t j a c r k)) u l

  -- the head is as it was, or was linked since
  abbrev Comes : ℕ → Head → ℕ → Type 0
  Comes t h u = (head_at R u h ≡ head_at R t h) ⊎ Before u (λ p. (t ≤ p) × LinkStepAtHead R p h (head_at R u h))

  comes_step : (t : ℕ) (h : Head) (j : ℕ) → t ≤ j → HeadSteps R j h (head_at R (suc j) h) → Comes t h j → Comes t h (suc j)
  comes_step t h j a (moves d e s) c = inr (record { time = j; before = omega arith; held = (a, record { change = d; head = e; step = s }) })
  comes_step t h j a (stays e) (inl g) = inl (e ∙ g)
  comes_step t h j a (stays e) (inr p) = inr (record { time = p.time; before = omega (arith, p.before); held = (p.held.0, subst (LinkStepAtHead R p.time h) (sym e) p.held.1) })

  comes : (t u : ℕ) → t ≤ u → (h : Head) → Named R.sizes (cell.Head h) → Comes t h u
  comes t u l h n = kept_from (Comes t h) t (inl refl) (λ j a. comes_step t h j a ((step R j).heads h n)) u l

  pub time_laws : (t u : ℕ) → t ≤ u → TimeLaws R t u
  time_laws t u l = record {
    clock = clock_later t u l;
    linked = linked_later t u l;
    stamp = λ c f r n k e. row_later (λ j. mark_at R j c f r ≡ Stamp n) c r t k e (λ j a. stamp_step ((step R j).marks c f r a)) u l;
    begun = λ c f r k n. row_later (λ j. ¬ (mark_at R j c f r ≡ NotEnded)) c r t k n (λ j a. begun_step ((step R j).marks c f r a)) u l;
    older = λ c r k. row_later (λ j. number_at R j (cell.Older c r) ≡ number_at R t (cell.Older c r)) c r t k refl (λ j a e. (step R j).older c r a ∙ e) u l;
    source = λ r k. row_later (λ j. number_at R j (cell.Source r) ≡ number_at R t (cell.Source r)) Edge r t k refl (λ j a e. (step R j).source r a ∙ e) u l;
    target = λ r k. row_later (λ j. number_at R j (cell.Target r) ≡ number_at R t (cell.Target r)) Edge r t k refl (λ j a e. (step R j).target r a ∙ e) u l;
    weight = λ r k. row_later (λ j. number_at R j (cell.Weight r) ≡ number_at R t (cell.Weight r)) Edge r t k refl (λ j a e. (step R j).weight r a ∙ e) u l;
    head = comes t u l;
  }

module _ (R : RunInTime) where
  ins_holds : (z : Sizes) (x : ℕ) → ((n : ℕ) → IsStamp z n → ¬ (n ≡ 0) × ¬ (n ≡ pending)) → Holds z Ins x → ¬ (mark_of x ≡ NotEnded)
  ins_holds z x a (not_ended e q) g = absurd cc
  ins_holds z x a (waits e) g = let p : mark_of x ≡ Pending = ap mark_of e in absurd cc
  ins_holds z x a (stamped i) g = let p : mark_of x ≡ Stamp x = mark_stamp x (a x i) in absurd cc

  -- the rows at the start
  start_stamp : (h : Head) → Stands (R.state 0) h → mark_at R zero (head_kind h) Ins (head_at R zero h) ≡ Stamp (number_at R zero (cell.Stamp (head_kind h) Ins (head_at R zero h)))
  start_stamp h x = let n : ℕ = number_at R zero (cell.Stamp (head_kind h) Ins (head_at R zero h)) in mark_stamp n ((stamps_at R zero).apart n (x.stamp, omega (arith, x.born, R.clean.clock.1)))

  old_row : (c : Kind) (r : ℕ) → LinkedAt R zero c r → OldRow R c r
  old_row c r l =
      let t = top_of (R.state 0) R.clean c r l in
      record {
        head = t.head;
        named = subst (λ z. Named z (cell.Head t.head)) R.start t.named;
        kind = t.kind;
        is = t.is;
        number = number_at R zero (cell.Stamp c Ins r);
        stamp = subst (λ (j : Kind). mark_at R zero j Ins r ≡ Stamp (number_at R zero (cell.Stamp j Ins r))) t.kind
            (subst (λ n. mark_at R zero (head_kind t.head) Ins n ≡ Stamp (number_at R zero (cell.Stamp (head_kind t.head) Ins n))) t.is (start_stamp t.head t.stands));
        low = subst (λ (j : Kind). number_at R zero (cell.Stamp j Ins r) ≤ clock_at R zero) t.kind (subst (λ n. number_at R zero (cell.Stamp (head_kind t.head) Ins n) ≤ clock_at R zero) t.is t.stands.born);
        alive = subst (λ (j : Kind). mark_at R zero j Del r ≡ NotEnded) t.kind (subst (λ n. mark_at R zero (head_kind t.head) Del n ≡ NotEnded) t.is (ap mark_of t.stands.alive));
      }

  old_head : (h : Head) → Named R.sizes (cell.Head h) → 0 < head_at R zero h → LinkedAt R zero (head_kind h) (head_at R zero h)
  old_head h n l =
      ⊎_elim (λ (e : head_at R zero h ≡ 0). absurd (omega arith)) (λ (x : LinkedAt R zero (head_kind h) (head_at R zero h)). x)
      (clean_heads (R.state 0) R.clean h (subst (λ z. Named z (cell.Head h)) (sym R.start) n))

  head_linked : (k : ℕ) (h : Head) → Named R.sizes (cell.Head h) → 0 < head_at R k h → (head_at R k h ≡ head_at R zero h) ⊎ Before k (λ p. LinkStepAtHead R p h (head_at R k h))
  head_linked k h n l =
      ⊎_elim (λ (e : head_at R k h ≡ head_at R zero h). inl e)
      (λ (p : Before k (λ p. (zero ≤ p) × LinkStepAtHead R p h (head_at R k h))). inr (record { time = p.time; before = p.before; held = p.held.1 }))
      ((time_laws R zero k (omega arith)).head h n)

  abbrev LinkedBefore : ℕ → Kind → ℕ → Type 0
  LinkedBefore k c r = Before k (λ p. (h : Head) × (head_kind h ≡ c) × LinkStepAtHead R p h r)

  was_linked : (k : ℕ) (c : Kind) (r : ℕ) → LinkedAt R k c r → LinkedAt R zero c r ⊎ LinkedBefore k c r
  was_linked zero c r l = inl l
  was_linked (suc k) c r l =
      ⊎_elim
      (λ (o : LinkedAt R k c r). ⊎_elim (λ (x : LinkedAt R zero c r). inl x) (λ (x : LinkedBefore k c r). inr (before_later (omega arith) x)) (was_linked k c r o))
      (λ (m : LinkStepOfKind R k c r). inr (record { time = k; before = omega arith; held = (change_head m.change, m.kind, record { change = m.change; head = refl; step = m.step }) }))
      ((step R k).news c r l)

  pub lasting_laws : LastingLaws R
  lasting_laws = record {
    times = time_laws R;
    clock = λ k. subst (λ z. IsStamp z (clock_at R k)) ((stamps_at R k).sizes ∙ R.start) (stamps_at R k).clock;
    old_row = old_row;
    old_head = old_head;
    head = head_linked;
    linked = was_linked;
    filled = λ k c r l. ins_holds (R.state k).sizes (number_at R k (cell.Stamp c Ins r)) (stamps_at R k).apart ((stamps_at R k).fields c Ins r l);
  }

pub runs_last : RunsLast
runs_last R = lasting_laws R

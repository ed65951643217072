-- Each step of the course of a run does what a step may do.
use Rattle.std.proofs.Common.{◌≡◌, ℕ, suc, ◌<◌, ◌≤◌, ◌≢◌, ◌⊎◌, min, Ok, Err, sym, ap, ◌∙◌, subst, inl, inr, ⊎_elim, arith}
use Rattle.std.proofs.lemmas.Bool.{cases_eq}
use Rattle.layout.specs.declared.names.Kind.{Kind}
use Rattle.layout.specs.declared.names.Kind.TheVariants as kind
use Rattle.layout.specs.declared.names.Field.TheVariants.{Ins, Del}
use Rattle.layout.specs.declared.names.Head.{Head}
use Rattle.layout.specs.declared.names.Head.TheVariants as head
use Rattle.layout.specs.declared.names.Cell.TheVariants as cell
use Rattle.layout.specs.Layout.{Named}
use Rattle.layout.specs.Rows.{no_row}
use Rattle.places.specs.Touches.{head_kind, change_head, change_kind}
use Rattle.places.specs.declared.mark.Mark.TheVariants.{NotEnded, Pending, Stamp}
use Rattle.places.specs.declared.place.Op.TheVariants.{Add}
use Rattle.places.specs.declared.place.Bound.{Bound}
use Rattle.places.specs.declared.place.Change.{Change}
use Rattle.places.specs.declared.place.Change.TheVariants as change
use Rattle.places.specs.declared.place.Look.TheVariants as look
use Rattle.places.specs.declared.place.Call.{Call}
use Rattle.places.specs.declared.place.Place.TheVariants as place
use Rattle.runs.specs.Runs.{RunInTime}
use Rattle.runs.specs.Views.{number_at, head_at, LinkedAt}
use Rattle.runs.specs.Steps.{LinkStep}
use Rattle.runs.specs.Times.{Before, LinkStepAtHead}
use Rattle.runs.specs.Known.{StampedAt, Dead, Shut, KnownLink, Saw, Half, Firm, Known, BoundTo}
use Rattle.runs.specs.Purposes.{InCall, change_call}
use Rattle.runs.specs.Reasons.{WorkerKnows, WorkerKnows.free, WorkerKnows.busy, BegunBy}
use Rattle.walks.specs.Memory.{mark_in, memory_of}
use Rattle.walks.specs.Courses.{Course, CourseStamped}
use Rattle.walks.specs.Steps.{Replaced, EdgeLinks, VertexLinks, LinksOver, CourseLinkStep}
use Rattle.walks.specs.Histories.{run_course}
use Rattle.walks.proofs.Begun.{AddsEdge, begun_adds}
use Rattle.laws.proofs.Owned.{linked_row}
use Rattle.walks.proofs.Histories.{at_time, head_then, stamped_then}
use Rattle.runs.proofs.Times.{runs_last as last}
use Rattle.runs.proofs.Knows.{runs_know as know}
use Rattle.runs.proofs.Ends.{runs_events as events}

-- what is known of a change that links at time k
pub record KnownChange (R : RunInTime) (k : ℕ) (d : Change) : Type 0 where
  pub began : ℕ
  pub why : KnownLink R k began d (head_at R k (change_head d))
  pub call : Call
  pub is : change_call Add d ≡ call
  pub begun : (w : ℕ) × BegunBy R k w began call

pub adds_edge : (R : RunInTime) (k : ℕ) (d : Bound) → KnownChange R k (change.Edge d) → AddsEdge d.pair
adds_edge R k d h =
    let b = h.begun.1 in
    begun_adds (R.state h.began) b.begin d.pair (b.call ∙ ap (λ (x : Call). Ok x) (sym h.is))

module _ (R : RunInTime) (now : ℕ) where
  abbrev c : Course
  c = run_course R now

  abbrev n : ℕ
  n = R.sizes.keys

  known_change : (k : ℕ) (d : Change) (r : ℕ) → LinkStep R k d r → KnownChange R k d
  known_change k d r s = by_worker ((know R).workers k s.worker s.turn.within)
    where
      by_worker : WorkerKnows R k s.worker → KnownChange R k d
      by_worker (free e i) = absurd (let x : place.Link d (head_at R k (change_head d)) ≡ place.Idle = sym s.turn.place ∙ i in cc)
      by_worker (busy b x e g i o) = record {
        began = b;
        why = subst (Known R k b) s.turn.place o;
        call = x;
        is = subst (λ p. InCall p x) s.turn.place i;
        begun = (s.worker, g);
      }

  -- a row whose del bears a stamp was born
  born : (k : ℕ) (g : Kind) (r : ℕ) → LinkedAt R k g r → StampedAt R k g Del r → StampedAt R k g Ins r
  born k g r l d =
      let p = (events R).ended k g r l (λ e. no_stamp (sym d.is ∙ e)) in
      let x = p.held in
      let was : LinkedAt R p.time g r = subst (λ f. LinkedAt R p.time f r) x.kind x.event.linked in
      let b : StampedAt R p.time g Ins r = subst (λ f. StampedAt R p.time f Ins r) x.kind x.event.born in
      record { number = b.number; is = ((last R).times p.time k (omega (arith, p.before))).stamp g Ins r b.number was b.is }
    where
      no_stamp : Stamp d.number ≡ NotEnded → ⊥
      no_stamp e = absurd cc

  module _ (k : ℕ) (l : k < now) where
    over_vertex : (i : ℕ) → Named R.sizes (cell.Head (head.Vertex i)) → KnownChange R k (change.Vertex i) → VertexLinks c n k i
    over_vertex i m h = record { key = m; over = ⊎_elim none dead h.why.1 }
      where
        same : (c.at k).head (head.Vertex i) ≡ head_at R k (head.Vertex i)
        same = head_then R now k (head.Vertex i) (omega arith) m

        none : head_at R k (head.Vertex i) ≡ 0 → ((c.at k).head (head.Vertex i) ≡ no_row) ⊎
            (CourseStamped c k kind.Vertex Ins ((c.at k).head (head.Vertex i)) × CourseStamped c k kind.Vertex Del ((c.at k).head (head.Vertex i)))
        none e = inl (same ∙ e)

        dead : Dead R k (head_at R k (head.Vertex i)) → ((c.at k).head (head.Vertex i) ≡ no_row) ⊎
            (CourseStamped c k kind.Vertex Ins ((c.at k).head (head.Vertex i)) × CourseStamped c k kind.Vertex Del ((c.at k).head (head.Vertex i)))
        dead d = inr (subst (λ x. CourseStamped c k kind.Vertex Ins x × CourseStamped c k kind.Vertex Del x) (sym same) (
          stamped_then R now k kind.Vertex Ins _ (omega arith) (born k kind.Vertex _ d.linked d.ended),
          stamped_then R now k kind.Vertex Del _ (omega arith) d.ended,
        ))

    -- what an edge row is bound to now is what it was bound to
    source_then : (t e : ℕ) → t ≤ now → LinkedAt R t kind.Edge e → c.source e ≡ number_at R t (cell.Source e)
    source_then t e u x = ((last R).times t (min now now) (omega arith)).source e x

    target_then : (t e : ℕ) → t ≤ now → LinkedAt R t kind.Edge e → c.target e ≡ number_at R t (cell.Target e)
    target_then t e u x = ((last R).times t (min now now) (omega arith)).target e x

    weight_then : (t e : ℕ) → t ≤ now → LinkedAt R t kind.Edge e → c.weight e ≡ number_at R t (cell.Weight e)
    weight_then t e u x = ((last R).times t (min now now) (omega arith)).weight e x

    module _ (d : Bound) (r : ℕ) (s : LinkStep R k (change.Edge d) r) where
      source_is : c.source r ≡ d.source
      source_is = source_then (suc k) r l s.linked ∙ s.bound.0

      target_is : c.target r ≡ d.target
      target_is = target_then (suc k) r l s.linked ∙ s.bound.1

      weight_is : c.weight r ≡ d.pair.weight
      weight_is = weight_then (suc k) r l s.linked ∙ s.bound.2

      -- a row that is not the edge
      replaced : (e : ℕ) → Shut R k e d → Replaced c n k e r
      replaced e h = ⊎_elim ended unbound h.why
        where
          ended : StampedAt R k kind.Edge Del e → Replaced c n k e r
          ended x = inl (stamped_then R now k kind.Edge Del e (omega arith) x)

          other : ¬ (BoundTo R k e d) → c.source e ≡ c.source r → c.target e ≢ c.target r
          other f x y = f (sym (source_then k e (omega arith) h.linked) ∙ x ∙ source_is, sym (target_then k e (omega arith) h.linked) ∙ y ∙ target_is)

          unbound : ¬ (BoundTo R k e d) → Replaced c n k e r
          unbound f = inr (⊎_elim (λ (x : c.source e ≡ c.source r). inr (other f x)) (λ (x : ¬ (c.source e ≡ c.source r)). inl x) (cases_eq (c.source e) (c.source r)))

      over_edge : Named R.sizes (cell.Head (head.Edge d.pair.from d.pair.to)) → KnownChange R k (change.Edge d) → EdgeLinks c n k d.pair.from d.pair.to r
      over_edge m h = record {
        from = m.0;
        to = m.1;
        apart = adds.apart;
        weight = omega (arith, adds.weight, weight_is);
        read = saw.time;
        reads = head_then R now saw.time pair (omega (arith, saw.before, half.before, firm.before)) m ∙ saw.held.1 ∙ sym same;
        source = record {
          time = half.time;
          after = omega (arith, saw.before);
          before = omega (arith, half.before, firm.before);
          is = head_then R now half.time (head.Vertex d.pair.from) (omega (arith, half.before, firm.before)) m.0 ∙ half.held.1.head ∙ sym source_is;
          row = omega (arith, source_is, (linked_row (R.state half.time) kind.Vertex d.source half.held.1.linked).0);
        };
        target = record {
          time = firm.time;
          after = omega (arith, saw.before, half.before);
          before = omega (arith, firm.before);
          is = head_then R now firm.time (head.Vertex d.pair.to) (omega (arith, firm.before)) m.1 ∙ firm.held.1.head ∙ sym target_is;
          row = omega (arith, target_is, (linked_row (R.state firm.time) kind.Vertex d.target firm.held.1.linked).0);
        };
        over = ⊎_elim (λ (e : head_at R k pair ≡ 0). inl (same ∙ e)) (λ (x : Shut R k (head_at R k pair) d). inr (subst (λ e. CourseStamped c k kind.Edge Ins e × Replaced c n k e r) (sym same) (shut x))) h.why.1;
      }
        where
          pair : Head
          pair = head.Edge d.pair.from d.pair.to

          adds : AddsEdge d.pair
          adds = adds_edge R k d h

          same : (c.at k).head pair ≡ head_at R k pair
          same = head_then R now k pair (omega arith) m

          firm : Firm R k h.began Add d (Err (head_at R k pair))
          firm = h.why.0

          half : Half R firm.time h.began Add d (Err (head_at R k pair))
          half = firm.held.2

          saw : Saw R half.time h.began (look.Edge Add d) (head_at R k pair)
          saw = half.held.2.0

          shut : Shut R k (head_at R k pair) d → CourseStamped c k kind.Edge Ins (head_at R k pair) × Replaced c n k (head_at R k pair) r
          shut x = (stamped_then R now k kind.Edge Ins _ (omega arith) x.born, replaced _ x)

    over_of : (d : Change) (r : ℕ) → LinkStep R k d r → Named R.sizes (cell.Head (change_head d)) → LinksOver c n k (change_head d) r
    over_of (change.Vertex i) r s m = over_vertex i m (known_change k (change.Vertex i) r s)
    over_of (change.Edge d) r s m = over_edge d r s m (known_change k (change.Edge d) r s)

    -- a row that is linked was no head before
    fresh : (d : Change) (r : ℕ) → LinkStep R k d r → Named R.sizes (cell.Head (change_head d)) → 0 < r → (q : ℕ) → q ≤ k → (c.at q).head (change_head d) ≢ r
    fresh d r s m o q u e = ⊎_elim old later ((last R).head q (change_head d) m (omega (arith, o, here)))
      where
        here : head_at R q (change_head d) ≡ r
        here = sym (head_then R now q (change_head d) (omega arith) m) ∙ e

        old : head_at R q (change_head d) ≡ head_at R 0 (change_head d) → ⊥
        old x =
            let was : LinkedAt R 0 (change_kind d) r = subst (LinkedAt R 0 (change_kind d)) (sym x ∙ here) ((last R).old_head (change_head d) m (omega (arith, o, here, x))) in
            s.fresh (((last R).times 0 k (omega arith)).linked (change_kind d) r was)

        later : Before q (λ t. LinkStepAtHead R t (change_head d) (head_at R q (change_head d))) → ⊥
        later y =
            let p : Before q (λ t. LinkStepAtHead R t (change_head d) r) = subst (λ x. Before q (λ t. LinkStepAtHead R t (change_head d) x)) here y in
            let was : LinkedAt R (suc p.time) (change_kind d) r = subst (λ g. LinkedAt R (suc p.time) (head_kind g) r) p.held.head p.held.step.linked in
            s.fresh (((last R).times (suc p.time) k (omega (arith, p.before))).linked (change_kind d) r was)

    pub links_of : (d : Change) (r : ℕ) → LinkStep R k d r → Named R.sizes (cell.Head (change_head d)) → CourseLinkStep c n k (change_head d) r
    links_of d r s m = record {
      row = o;
      is = head_then R now (suc k) (change_head d) l m ∙ s.head;
      fresh = fresh d r s m o;
      under = ((last R).times (suc k) (min now now) (omega arith)).older (change_kind d) r s.linked ∙ s.older ∙ sym (head_then R now k (change_head d) (omega arith) m);
      ins = subst (λ t. mark_in (memory_of (R.state t)) (change_kind d) Ins r ≡ Pending) (at_time R now (suc k) l) s.ins;
      del = subst (λ t. mark_in (memory_of (R.state t)) (change_kind d) Del r ≡ NotEnded) (at_time R now (suc k) l) s.del;
      over = over_of d r s m;
    }
      where
        o : 0 < r
        o = (linked_row (R.state (suc k)) (change_kind d) r s.linked).0

-- Each linked row has its link, and each that has ended its end; and the laws of both.
use Rattle.std.proofs.Common.{◌≡◌, ℕ, zero, suc, ◌⊎◌, sym, refl, ap, ◌∙◌, subst, inl, inr, ⊎_elim, arith}
use Rattle.layout.specs.declared.names.Kind.{Kind}
use Rattle.layout.specs.declared.names.Kind.TheVariants.{Edge}
use Rattle.layout.specs.declared.names.Head.{Head}
use Rattle.places.specs.declared.place.Bound.{Bound}
use Rattle.places.specs.declared.place.Change.TheVariants as change
use Rattle.layout.specs.declared.names.Field.TheVariants.{Ins, Del}
use Rattle.places.specs.declared.mark.Mark.{Mark}
use Rattle.places.specs.declared.mark.Mark.TheVariants.{NotEnded, Pending, Stamp}
use Rattle.places.specs.Touches.{head_kind}
use Rattle.runs.specs.Runs.{RunInTime}
use Rattle.runs.specs.Views.{mark_at, LinkedAt}
use Rattle.runs.specs.Steps.{MarkSteps, MarkSteps.same, MarkSteps.settled, MarkSteps.ended}
use Rattle.runs.specs.Times.{Before, LinkStepAtHead}
use Rattle.runs.specs.Known.{StampedAt, BoundTo, LinkEvent}
use Rattle.runs.proofs.Heads.{link_event}
use Rattle.runs.specs.Steps.{LinkStepOfKind}
use Rattle.runs.specs.Events.{LinkEventOfKind, EndEventOfKind, EventLaws, RunsEvents}
use Rattle.runs.proofs.Times.{before_later}
use Rattle.runs.proofs.Events.{worker_knows, turn_known, link_range, end_range, link_once, end_once, link_order, order_from, old_not_linked}
use Rattle.runs.proofs.EdgeEvents.{since_link, old_edge_of, edge_order}
use Rattle.runs.proofs.Steps.{runs_step as step}
use Rattle.runs.proofs.Times.{runs_last as last}

module _ (R : RunInTime) where
  linking_of : (k : ℕ) (c : Kind) (r : ℕ) → LinkedAt R k c r → LinkedAt R 0 c r ⊎ Before k (LinkEventOfKind R c r)
  linking_of k c r l = go ((last R).linked k c r l)
    where
      go : LinkedAt R 0 c r ⊎ Before k (λ p. (h : Head) × (head_kind h ≡ c) × LinkStepAtHead R p h r) → LinkedAt R 0 c r ⊎ Before k (LinkEventOfKind R c r)
      go (inl o) = inl o
      go (inr p) =
          let x = p.held.2 in
          let e = link_event R k (worker_knows R k) p.time p.before x.change r x.step in
          inr (record { time = p.time; before = p.before; held = record { began = e.0; change = x.change; kind = ap head_kind x.head ∙ p.held.1; event = e.1 } })

  -- the turn in which del left 0
  ends_now : (k : ℕ) (c : Kind) (r : ℕ) → LinkedAt R k c r → mark_at R k c Del r ≡ NotEnded → ¬ (mark_at R (suc k) c Del r ≡ NotEnded) → EndEventOfKind R c r k
  ends_now k c r l e n = go ((step R k).marks c Del r l)
    where
      go : MarkSteps R k c Del r (mark_at R k c Del r) (mark_at R (suc k) c Del r) → EndEventOfKind R c r k
      go (same q) = absurd (n (q ∙ e))
      go (settled w m p t i s x y) = let z : NotEnded ≡ Pending = sym e ∙ x in absurd cc
      go (ended w d t i g x y) =
          let h = turn_known R t (λ q. absurd cc) in
          record { began = h.0; change = d; kind = i; event = record { worker = w; turn = t; whose = h.1; before = subst (λ (u : Kind). mark_at R k u Del r ≡ NotEnded) (sym i) x; after = subst (λ (u : Kind). mark_at R (suc k) u Del r ≡ Pending) (sym i) y; linked = subst (λ (u : Kind). LinkedAt R k u r) (sym i) l; born = h.2.0; why = h.2.1 } }

  abbrev EndedBy : ℕ → Kind → ℕ → Type 0
  EndedBy k c r = LinkedAt R k c r → ¬ (mark_at R k c Del r ≡ NotEnded) → Before k (EndEventOfKind R c r)

  mark_cases : (m : Mark) → (m ≡ NotEnded) ⊎ ¬ (m ≡ NotEnded)
  mark_cases NotEnded = inl refl
  mark_cases Pending = inr (λ e. absurd cc)
  mark_cases (Stamp n) = inr (λ e. absurd cc)

  ended_next : (k : ℕ) (c : Kind) (r : ℕ) → EndedBy k c r → EndedBy (suc k) c r
  ended_next k c r h l n =
      ⊎_elim
      (λ (o : LinkedAt R k c r).
      ⊎_elim (λ (e : mark_at R k c Del r ≡ NotEnded). record { time = k; before = omega arith; held = ends_now k c r o e n })
      (λ (a : ¬ (mark_at R k c Del r ≡ NotEnded)). before_later (omega arith) (h o a)) (mark_cases (mark_at R k c Del r)))
      (λ (m : LinkStepOfKind R k c r). absurd (n (subst (λ (u : Kind). mark_at R (suc k) u Del r ≡ NotEnded) m.kind m.step.del)))
      ((step R k).news c r l)

  ending_of : (k : ℕ) (c : Kind) (r : ℕ) → EndedBy k c r
  ending_of zero c r = λ l n. absurd (n ((last R).old_row c r l).alive)
  ending_of (suc k) c r = ended_next k c r (ending_of k c r)

  edge_old : (e q a f : ℕ) (c : Bound) → LinkedAt R 0 Edge e → LinkEvent R q a (change.Edge c) f → BoundTo R 0 e c → StampedAt R q Edge Del e
  edge_old e q a f c l y x = let o = old_edge_of R e l in edge_order R o.since y x.0 x.1 (omega arith)

  pub event_laws : EventLaws R
  event_laws = record {
    linked = linking_of;
    old_fresh = λ c r p l x. old_not_linked R c r l x.kind x.event;
    ended = ending_of;
    link_once = λ c r p q x y. link_once R x.event y.event (x.kind ∙ sym y.kind);
    end_once = λ c r p q x y. end_once R x.event y.event (x.kind ∙ sym y.kind);
    link_stamp = λ c r p t n x l e. link_range R x.event t l n (subst (λ (u : Kind). mark_at R t u Ins r ≡ Stamp n) (sym x.kind) e);
    end_stamp = λ c r p t n x l e. end_range R x.event t l n (subst (λ (u : Kind). mark_at R t u Del r ≡ Stamp n) (sym x.kind) e);
    vertex_order = λ p b i r q a s x y l. link_order R x y l;
    vertex_old = λ i r q a s n e l y. order_from R i r 0 n e l (omega arith) y;
    edge_order = λ p b e q a f d c x y s t l. edge_order R (since_link R x) y s t l;
    edge_old = edge_old;
  }

pub runs_events : RunsEvents
runs_events R = event_laws R

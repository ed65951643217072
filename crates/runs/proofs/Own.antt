-- What a worker knows after a turn at each place.
use Rattle.std.proofs.Common.{rules, ◌≡◌, ℕ, suc, ◌<◌, Bool, true, false, cond, eqb, Some, None, Option, sym, refl, ap, ◌∙◌, subst, arith}
use Rattle.std.proofs.lemmas.Bool.{eqb-true, ne_eqb, cond_both}
use Rattle.std.specs.declared.ops.ControlFlow.TheVariants.{Continue, Break}
use Rattle.codes.specs.declared.answer.Answer.TheVariants.{RowsSpent}
use Rattle.layout.specs.declared.names.Kind.TheVariants.{Edge}
use Rattle.layout.specs.declared.names.Field.TheVariants.{Ins, Del}
use Rattle.layout.specs.declared.names.Cell.{Cell}
use Rattle.layout.specs.declared.names.Cell.TheVariants as cell
use Rattle.layout.specs.declared.sizes.Sizes.{Sizes}
use Rattle.places.specs.declared.mark.Mark.TheVariants.{NotEnded, Pending, Stamp}
use Rattle.places.specs.declared.place.Op.TheVariants.{Add, Remove}
use Rattle.places.specs.declared.place.Look.{Look}
use Rattle.places.specs.declared.place.Look.TheVariants as look
use Rattle.places.specs.declared.place.Change.{Change}
use Rattle.places.specs.declared.place.Change.TheVariants as change
use Rattle.places.specs.declared.place.Call.{Call}
use Rattle.places.specs.declared.place.Call.TheVariants as call
use Rattle.places.specs.declared.place.Survey.{Survey}
use Rattle.places.specs.declared.place.Walk.{Walk}
use Rattle.places.specs.declared.place.Purpose.{Purpose}
use Rattle.places.specs.declared.place.Purpose.TheVariants as purpose
use Rattle.places.specs.declared.place.Stage.{Stage}
use Rattle.places.specs.declared.place.Stage.TheVariants as stage
use Rattle.places.specs.declared.place.Place.{Place}
use Rattle.places.specs.declared.place.Place.TheVariants as place
use Rattle.places.specs.declared.place.Touch.TheVariants as touch
use Rattle.places.specs.Marks.{pending, mark_of}
use Rattle.places.specs.Moved.{Next, Next as next}
use Rattle.places.specs.Rules.{first, absent, lost_link, end_done}
use Rattle.places.specs.Touches.{look_head, change_head, change_kind, job_kind, settled_field}
use Rattle.places.specs.Walks.{walked_head}
use Rattle.places.specs.Nexts.{settle_on, settled, raise_done}
use Rattle.machine.specs.declared.request.Request.TheVariants.{Turn}
use Rattle.machine.specs.States.{State}
use Rattle.machine.specs.Effects.{linked_cells}
use Rattle.machine.specs.Workers.{at, counted}
use Rattle.machine.specs.Turns.{worker_at, hand_of, next_at, followed_at, turned}
use Rattle.laws.specs.Changes.{next_own, number_in}
use Rattle.laws.specs.Fits.{FitPurpose, FitPlace}
use Rattle.laws.specs.Sound.{Sound}
use Rattle.laws.specs.Clean.{IsStamp}
use Rattle.runs.specs.Runs.{RunInTime}
use Rattle.runs.specs.Views.{head_at, mark_at}
use Rattle.runs.specs.Seen.{open_at}
use Rattle.runs.specs.Steps.{LinkStep}
use Rattle.runs.specs.Times.{Before, TimeLaws}
use Rattle.runs.specs.Purposes.{purpose_kind, purpose_field, purpose_row, purpose_call, purpose_made, change_call, look_call, InCall, place_made}
use Rattle.runs.specs.Known.{TurnOf, StampedAt, KnownStage, Have, KnownPurpose, KnownLink, KnownEnd, LinkEvent, EndEvent, Known}
use Rattle.runs.specs.Reasons.{Why.rows_spent, WorkerKnows}
use Rattle.runs.proofs.Goods.{Good}
use Rattle.runs.proofs.Turns.{next_from, next_is, LinkTurn, LinkTurn.spent, LinkTurn.lost, LinkTurn.won, link_turn}
use Rattle.runs.proofs.TurnSteps.{mark_stamp}
use Rattle.runs.proofs.Times.{before_later}
use Rattle.runs.proofs.Kept.{end_later, purpose_later, purpose_linked, settled_is}
use Rattle.runs.proofs.Heads.{moved_since}
use Rattle.runs.proofs.Looks.{mark_settled, laws, now, stamped_next, nothing_zero, goes}
use Rattle.runs.proofs.Settled.{GoodNext, HandFor, ins_walked, finish}
use Rattle.runs.proofs.Swaps.{mark_zero, mark_pending, swap_done, swap_number}
use Rattle.runs.proofs.Steps.{runs_step as step}
use Rattle.runs.proofs.Times.{runs_last as last}
use Rattle.laws.proofs.Owned.{linked_row}

-- the turn of worker w, in the call that began at b, at time k
module _ (R : RunInTime) (k : ℕ) (knows : (j : ℕ) → j < suc k → (w : ℕ) → w < R.sizes.workers → WorkerKnows R j w) (b : ℕ) (started : TurnOf R k b) (same_sizes : (R.state k).sizes ≡ R.sizes)
    (w : ℕ) (asked : R.request k ≡ Turn w) (whose : open_at R k w ≡ Some b) (within : w < R.sizes.workers) (here : w < (R.state k).sizes.workers) (z : Sound (R.state k)) (after : R.state (suc k) ≡ turned (R.state k) w)
    (apart : (n : ℕ) → IsStamp R.sizes n → ¬ (n ≡ 0) × ¬ (n ≡ pending))
    (won_step : (d : Change) (h r : ℕ) → (worker_at (R.state k) w).place ≡ place.Link d h → next_own (R.state k) w (change_kind d) ≡ Some r → number_in (R.state k) (cell.Head (change_head d)) ≡ h
    → (followed_at (R.state k) w).worker ≡ at (counted (worker_at (R.state k) w) (change_kind d)) (place.Settle stage.First (purpose.Own Ins d r)) → (turned (R.state k) w).cells ≡ linked_cells (R.state k).sizes (R.state k).cells d h r → LinkStep R k d r) where
  abbrev s : State
  s = R.state k

  abbrev law : TimeLaws R k (suc k)
  law = laws R k knows b started

  abbrev Nexts : Call → Place → Next → Type 0
  Nexts c p x = GoodNext R k knows b started same_sizes c (place_made p) x

  at_now : {P : ℕ → Type 0} → P k → Before (suc k) P
  at_now h = now R k knows b started h

  next_number : (c : Cell) (y : ℕ) → number_in (turned s w) c ≡ y → number_in (R.state (suc k)) c ≡ y
  next_number c y e = subst (λ u. number_in u c ≡ y) (sym after) e

  -- a head is read
  heads : (l : Look) (h : ℕ) → head_at R k (look_head l) ≡ h → Have R k b l → GoodNext R k knows b started same_sizes (look_call l) None (cond (eqb h 0) (next.Moved (absent l 0)) (next.Moved (first (purpose.Look Ins l h))))
  heads l h e n =
      cond_both (eqb h 0) (next.Moved (absent l 0)) (next.Moved (first (purpose.Look Ins l h))) (GoodNext R k knows b started same_sizes (look_call l) None)
      (λ v. goes R k knows b started l 0 (at_now (started, e ∙ eqb-true h 0 v, n)) (nothing_zero R k knows b started l))
      (λ v. ((tt, at_now (started, e, n)), refl))

  -- settling
  hand_for : (st : Stage) (p : Purpose) → FitPurpose s p → HandFor R k knows b started same_sizes p (hand_of s.sizes s.cells w (worker_at s w) (place.Settle st p))
  hand_for st (purpose.Look Del (look.Edge o d) r) f =
      let n : ¬ (r ≡ 0) = λ x. omega (arith, (linked_row s Edge r f.1.linked).0) in
      (rw (ne_eqb r 0 n) refl, rw (ne_eqb r 0 n) refl)
  hand_for st p f = tt

  field_mark : (p : Purpose) → mark_at R k (purpose_kind p) (purpose_field p) (purpose_row p) ≡ mark_of (number_in s (settled_field p))
  field_mark p = ap (λ c. mark_of (number_in s c)) (sym (settled_is p))

  known_next : (p : Purpose) → FitPurpose s p → KnownPurpose R k b p → KnownPurpose R (suc k) b p
  known_next p f n = purpose_later R k (suc k) (omega arith) law b p f n

  first_turn : (p : Purpose) → FitPurpose s p → KnownPurpose R k b p → (x : ℕ) → number_in s (settled_field p) ≡ x
      → GoodNext R k knows b started same_sizes (purpose_call p) (purpose_made p) (cond (eqb x pending) (settle_on stage.Clock p) (settled p (hand_of s.sizes s.cells w (worker_at s w) (place.Settle stage.First p)) (mark_of x)))
  first_turn p f n x e =
      let l = purpose_linked s p f in
      let m : mark_at R k (purpose_kind p) (purpose_field p) (purpose_row p) ≡ mark_of x = field_mark p ∙ ap mark_of e in
      cond_both (eqb x pending) (settle_on stage.Clock p) (settled p (hand_of s.sizes s.cells w (worker_at s w) (place.Settle stage.First p)) (mark_of x)) (GoodNext R k knows b started same_sizes (purpose_call p) (purpose_made p))
      (λ v. let waits : mark_at R k (purpose_kind p) (purpose_field p) (purpose_row p) ≡ Pending = m ∙ ap mark_of (eqb-true x pending v) in
      (((at_now (l, waits), law.begun (purpose_kind p) (purpose_field p) (purpose_row p) l (λ y. let q : Pending ≡ NotEnded = sym waits ∙ y in absurd cc)), known_next p f n), refl))
      (λ v. finish R k knows b started same_sizes p _ (mark_of x) f (hand_for stage.First p f) m (mark_pending x v) n)

  abbrev field_of : Purpose → Cell
  field_of p = cell.Stamp (purpose_kind p) (purpose_field p) (purpose_row p)

  swap_stamps : (p : Purpose) (m : ℕ) → (worker_at s w).place ≡ place.Settle (stage.Swap m) p → FitPurpose s p → KnownStage R k (purpose_kind p) (purpose_field p) (purpose_row p) (stage.Swap m) → StampedAt R (suc k) (purpose_kind p) (purpose_field p) (purpose_row p)
  swap_stamps p m e f n = go (eqb (number_in s (field_of p)) pending) refl
    where
      then : number_in (turned s w) (field_of p) ≡ cond (eqb (number_in s (field_of p)) pending) m (number_in s (field_of p))
      then =
          swap_number s w z (place.Settle (stage.Swap m) p) e (field_of p) pending m (ap (λ c. touch.Swap c pending m) (settled_is p)) (Continue (place.Settle stage.Reread p)) (next_is s w (place.Settle (stage.Swap m) p) e)
          (linked_row s (purpose_kind p) (purpose_row p) (purpose_linked s p f))

      m_stamp : IsStamp R.sizes m
      m_stamp = subst (IsStamp R.sizes) n.0.held.0 ((last R).clock n.0.time)

      go : (v : Bool) → eqb (number_in s (field_of p)) pending ≡ v → StampedAt R (suc k) (purpose_kind p) (purpose_field p) (purpose_row p)
      go true v = record { number = m; is = ap mark_of (next_number (field_of p) m (then ∙ rw v refl)) ∙ mark_stamp m (apart m m_stamp) }
      go false v =
          stamped_next R k knows b started (purpose_kind p) (purpose_field p) (purpose_row p) (purpose_linked s p f)
          (mark_settled R k (purpose_kind p) (purpose_field p) (purpose_row p) (mark_at R k (purpose_kind p) (purpose_field p) (purpose_row p)) refl n.1 (mark_pending (number_in s (field_of p)) v))

  settles : (st : Stage) (p : Purpose) → (worker_at s w).place ≡ place.Settle st p → FitPurpose s p → KnownStage R k (purpose_kind p) (purpose_field p) (purpose_row p) st → KnownPurpose R k b p → Nexts (purpose_call p) (place.Settle st p) (next_from s w (place.Settle st p))
  settles stage.First p e f g n = first_turn p f n _ refl
  settles stage.Clock p e f g n = (((at_now (refl, before_later (omega arith) g.0), law.begun (purpose_kind p) (purpose_field p) (purpose_row p) (purpose_linked s p f) g.1), known_next p f n), refl)
  settles (stage.Swap m) p e f g n = ((swap_stamps p m e f g, known_next p f n), refl)
  settles stage.Reread p e f g n =
      finish R k knows b started same_sizes p _ (mark_of (number_in s (settled_field p))) f (hand_for stage.Reread p f) (field_mark p)
      (λ y. let q : Stamp g.number ≡ Pending = sym g.is ∙ field_mark p ∙ y in absurd cc) n

  -- links
  spent_good : (d : Change) → Good R (suc k) b (change_call Add d) None (Break RowsSpent)
  spent_good (change.Vertex i) = rows_spent (change.Vertex i) refl refl refl (at_now started)
  spent_good (change.Edge d) = rows_spent (change.Edge d) refl refl refl (at_now started)

  lost_good : (d : Change) (h : ℕ) → ¬ (number_in s (cell.Head (change_head d)) ≡ h) → KnownLink R k b d h → Good R (suc k) b (change_call Add d) None (lost_link d)
  lost_good (change.Vertex i) h a n = (at_now (record { time = n.0.time; before = n.0.before; held = (n.0.held.0, λ y. a (sym y ∙ n.0.held.1)) }), refl)
  lost_good (change.Edge d) h a n = (tt, refl)

  won_good : (d : Change) (h r : ℕ) → (worker_at s w).place ≡ place.Link d h → number_in s (cell.Head (change_head d)) ≡ h → LinkStep R k d r → KnownLink R k b d h → Good R (suc k) b (change_call Add d) None (Continue (place.Settle stage.First (purpose.Own Ins d r)))
  won_good d h r e g st n =
      let same_turn : Turn st.worker ≡ Turn w = sym st.turn.asked ∙ asked in
      let same_worker : st.worker ≡ w = cc in
      let ev : LinkEvent R k b d r = record { step = st; whose = ap (open_at R k) same_worker ∙ whose; why = subst (KnownLink R k b d) (sym g) n } in
      ((tt, (at_now (started, ev), λ y. let q : Pending ≡ NotEnded = sym st.ins ∙ y in absurd cc)), refl)

  links : (d : Change) (h : ℕ) → (worker_at s w).place ≡ place.Link d h → KnownLink R k b d h → Nexts (change_call Add d) (place.Link d h) (next_at s w)
  links d h e n = go (link_turn s w z here d h e)
    where
      go : LinkTurn s w d h → Nexts (change_call Add d) (place.Link d h) (next_at s w)
      go (spent q x) = subst (Nexts (change_call Add d) (place.Link d h)) (sym x) (spent_good d)
      go (lost r q a x) = subst (Nexts (change_call Add d) (place.Link d h)) (sym x) (lost_good d h a n)
      go (won r q g x v c) = subst (Nexts (change_call Add d) (place.Link d h)) (sym x) (won_good d h r e g (won_step d h r e q g v c) n)

  -- the swap of del
  end_own : (d : Change) (r : ℕ) → (worker_at s w).place ≡ place.End d r → FitPlace s (place.End d r) → StampedAt R k (change_kind d) Ins r → KnownEnd R k b d r → (done : Bool) → eqb (number_in s (cell.Stamp (change_kind d) Del r)) 0 ≡ done → next_from s w (place.End d r) ≡ next.Moved (end_done done d r)
      → Good R (suc k) b (change_call Remove d) None (end_done done d r)
  end_own d r e f q n true v x =
      let before : mark_at R k (change_kind d) Del r ≡ NotEnded = ap mark_of (eqb-true (number_in s (cell.Stamp (change_kind d) Del r)) 0 v) in
      let now_pending : number_in (turned s w) (cell.Stamp (change_kind d) Del r) ≡ pending = swap_number s w z (place.End d r) e (cell.Stamp (change_kind d) Del r) 0 pending refl (end_done true d r) (next_is s w (place.End d r) e ∙ x) (linked_row s (change_kind d) r f.1.linked) ∙ rw v refl in
      let ended : mark_at R (suc k) (change_kind d) Del r ≡ Pending = ap mark_of (next_number (cell.Stamp (change_kind d) Del r) pending now_pending) in
      let ev : EndEvent R k b d r = record { worker = w; turn = record { asked = asked; within = within; place = e }; whose = whose; before = before; after = ended; linked = f.1.linked; born = q; why = n } in
      ((tt, (at_now (started, ev), λ y. let p : Pending ≡ NotEnded = sym ended ∙ y in absurd cc)), refl)
  end_own d r e f q n false v x =
      ((tt, (end_later R k (suc k) (omega arith) law b d r n, law.begun (change_kind d) Del r f.1.linked (mark_zero _ v), stamped_next R k knows b started (change_kind d) Ins r f.1.linked q)), refl)

  ends : (d : Change) (r : ℕ) → (worker_at s w).place ≡ place.End d r → FitPlace s (place.End d r) → StampedAt R k (change_kind d) Ins r → KnownEnd R k b d r → Nexts (change_call Remove d) (place.End d r) (next_from s w (place.End d r))
  ends d r e f q n =
      let says = swap_done s w z (cell.Stamp (change_kind d) Del r) 0 pending (linked_row s (change_kind d) r f.1.linked) in
      let x : next_from s w (place.End d r) ≡ next.Moved (end_done (eqb (number_in s (cell.Stamp (change_kind d) Del r)) 0) d r) = ap (λ v. next.Moved (end_done v d r)) says in
      subst (Nexts (change_call Remove d) (place.End d r)) (sym x) (end_own d r e f q n _ refl x)

  -- walks
  raises : (v : Survey) (g : Option ℕ) → Nexts (call.Survey v) (place.Raise v) (raise_done v g)
  raises v None = tt
  raises v (Some t) = refl

  walks : (q : Walk) (r : ℕ) → Nexts (call.Survey q.survey) (place.WalkHead q) (walked_head q r)
  walks q r = search rules

  -- what follows the turn, at each place
  pub own_next : (p : Place) (c : Call) → (worker_at s w).place ≡ p → FitPlace s p → Known R k b p → InCall p c → Nexts c p (next_at s w)
  own_next place.Idle c e f n q = absurd q
  own_next (place.Head l) c e f n q = subst (λ x. Nexts x (place.Head l) (next_at s w)) q (subst (Nexts (look_call l) (place.Head l)) (sym (next_is s w (place.Head l) e)) (heads l _ refl n))
  own_next (place.Settle st p) c e f n q = subst (λ x. Nexts x (place.Settle st p) (next_at s w)) q (subst (Nexts (purpose_call p) (place.Settle st p)) (sym (next_is s w (place.Settle st p) e)) (settles st p e f n.0 n.1))
  own_next (place.Link d h) c e f n q = subst (λ x. Nexts x (place.Link d h) (next_at s w)) q (links d h e n)
  own_next (place.End d r) c e f n q = subst (λ x. Nexts x (place.End d r) (next_at s w)) q (subst (Nexts (change_call Remove d) (place.End d r)) (sym (next_is s w (place.End d r) e)) (ends d r e f n.0 n.1))
  own_next (place.LostHead i) c e f n q =
      let key : i < R.sizes.keys = subst (λ (y : Sizes). i < y.keys) same_sizes f.0 in
      let since = moved_since R (suc k) knows i key k b (omega arith) n in
      subst (λ x. Nexts x (place.LostHead i) (next_at s w)) q
      (subst (Nexts (call.Vertex Add i) (place.LostHead i)) (sym (next_is s w (place.LostHead i) e)) ((tt, (before_later (omega arith) since, at_now (started, refl))), refl))
  own_next (place.Raise v) c e f n q = subst (λ x. Nexts x (place.Raise v) (next_at s w)) q (subst (Nexts (call.Survey v) (place.Raise v)) (sym (next_is s w (place.Raise v) e)) (raises v _))
  own_next (place.WalkHead x) c e f n q = subst (λ y. Nexts y (place.WalkHead x) (next_at s w)) q (subst (Nexts (call.Survey x.survey) (place.WalkHead x)) (sym (next_is s w (place.WalkHead x) e)) (walks x _))
  own_next (place.WalkOlder x r) c e f n q = subst (λ y. Nexts y (place.WalkOlder x r) (next_at s w)) q (subst (Nexts (call.Survey x.survey) (place.WalkOlder x r)) (sym (next_is s w (place.WalkOlder x r) e)) (ins_walked R k knows b started same_sizes x r (hand_of s.sizes s.cells w (worker_at s w) (place.WalkOlder x r)) (mark_of (number_in s (cell.Stamp (job_kind x.job) Ins r)))))

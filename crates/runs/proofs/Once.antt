-- A call makes one change, by induction over time.
use Rattle.std.proofs.Common.{◌≡◌, ℕ, zero, suc, ◌<◌, ◌≤◌, Bool, true, false, eqb, Some, None, Ok, Option, sym, refl, ap, ◌∙◌, subst, ⊎_elim, arith}
use Rattle.std.proofs.lemmas.Bool.{cases_lt, cases_eq}
use Rattle.codes.specs.declared.answer.Answer.{Answer}
use Rattle.codes.specs.declared.answer.Answer.TheVariants.{RowsSpent}
use Rattle.layout.specs.declared.names.Field.{Field}
use Rattle.layout.specs.declared.names.Field.TheVariants.{Ins, Del}
use Rattle.layout.specs.declared.names.Cell.TheVariants as cell
use Rattle.places.specs.declared.call.Begin.{Begin}
use Rattle.places.specs.declared.mark.Mark.TheVariants.{NotEnded, Pending}
use Rattle.places.specs.declared.place.Change.{Change}
use Rattle.places.specs.declared.place.Place.{Place}
use Rattle.places.specs.declared.place.Place.TheVariants as place
use Rattle.places.specs.Marks.{pending, mark_of}
use Rattle.places.specs.Moved.{Next, Next as next}
use Rattle.places.specs.Rules.{end_done}
use Rattle.places.specs.Touches.{change_head, change_kind}
use Rattle.machine.specs.declared.request.Request.TheVariants as request
use Rattle.machine.specs.declared.request.Reply.TheVariants as reply
use Rattle.machine.specs.States.{State}
use Rattle.machine.specs.Effects.{got_of}
use Rattle.machine.specs.Turns.{worker_at, hand_at, next_at, answer_at, followed_at, turned}
use Rattle.machine.specs.Workers.{followed}
use Rattle.machine.specs.Requests.{turn_refused, answered_or, reply_of}
use Rattle.laws.specs.Changes.{number_in}
use Rattle.laws.proofs.Taken.{begin_taken, begun_others}
use Rattle.laws.proofs.Rests.{rows_back, numbers_same, Rests}
use Rattle.runs.specs.Runs.{RunInTime}
use Rattle.runs.specs.Views.{head_at, mark_at, place_at, LinkedAt}
use Rattle.runs.specs.Seen.{open_at}
use Rattle.runs.specs.Purposes.{MadeChange, place_made}
use Rattle.runs.specs.Known.{ChangeEvent}
use Rattle.runs.specs.Reasons.{WorkerKnows, WorkerKnows.free, WorkerKnows.busy}
use Rattle.runs.specs.Once.{RunsChangeOnce}
use Rattle.runs.proofs.Turns.{next_is, touch_from, LinkTurn, LinkTurn.spent, LinkTurn.lost, LinkTurn.won, link_turn, worker_after, others_after}
use Rattle.runs.proofs.Swaps.{mark_zero, swap_done}
use Rattle.runs.proofs.Steps.{StepCase, StepCase.rests, StepCase.begins, StepCase.turns, sound_at, case_at, here, within, won_step}
use Rattle.runs.proofs.Opens.{rests_keep, begin_opens, begin_keeps, runs_keeps, answer_closes, answer_keeps}
use Rattle.runs.proofs.Carries.{next_made, made_after}
use Rattle.runs.proofs.Knows.{runs_know as know}
use Rattle.laws.proofs.Owned.{linked_row}

module _ (R : RunInTime) where
  abbrev made_of : Field → Change → ℕ → MadeChange
  made_of f d r = record { field = f; change = d; row = r }

  -- the turn of a change
  pub record ByTurn (p b : ℕ) : Type 0 where
    pub worker : ℕ
    pub asked : R.request p ≡ request.Turn worker
    pub within : worker < R.sizes.workers
    pub whose : open_at R p worker ≡ Some b

  pub by_turn : (f : Field) (p b : ℕ) (d : Change) (r : ℕ) → ChangeEvent R f p b d r → ByTurn p b
  by_turn Ins p b d r ev = record { worker = ev.step.worker; asked = ev.step.turn.asked; within = ev.step.turn.within; whose = ev.whose }
  by_turn Del p b d r ev = record { worker = ev.worker; asked = ev.turn.asked; within = ev.turn.within; whose = ev.whose }

  pub same_some : {a b : ℕ} → Some a ≡ Some b → a ≡ b
  same_some e = cc

  none_some : {b : ℕ} → None ≡ Some b → ⊥
  none_some e = cc

  pub same_turner : {k v w : ℕ} → R.request k ≡ request.Turn v → R.request k ≡ request.Turn w → v ≡ w
  same_turner {k} {v} {w} e f = let x : request.Turn v ≡ request.Turn w = sym e ∙ f in cc

  -- an open call was begun by its worker
  begun_of : (k w b : ℕ) → w < R.sizes.workers → open_at R k w ≡ Some b → (b < k) × ((x : Begin) × (R.request b ≡ request.Begin x) × (x.worker ≡ w))
  begun_of k w b l o = go ((know R).workers k w l)
    where
      go : WorkerKnows R k w → (b < k) × ((x : Begin) × (R.request b ≡ request.Begin x) × (x.worker ≡ w))
      go (free e i) = absurd (none_some (sym e ∙ o))
      go (busy a c e g i n) = subst (λ y. (y < k) × ((x : Begin) × (R.request y ≡ request.Begin x) × (x.worker ≡ w))) (same_some (sym e ∙ o)) (g.before, (g.begin, g.asked, g.worker))

  -- no two workers have one call open
  pub one_worker : (k w v b : ℕ) → w < R.sizes.workers → v < R.sizes.workers → open_at R k w ≡ Some b → open_at R k v ≡ Some b → w ≡ v
  one_worker k w v b l m o e =
      let x = (begun_of k w b l o).1 in
      let y = (begun_of k v b m e).1 in
      let z : request.Begin x.0 ≡ request.Begin y.0 = sym x.1 ∙ y.1 in
      let same : x.0 ≡ y.0 = cc in
      sym x.2 ∙ ap (λ b. b.worker) same ∙ y.2

  -- a step in which calls rest makes no change
  no_change : (f : Field) (k b : ℕ) (d : Change) (r : ℕ) → Rests (R.state k) (R.state (suc k)) → ChangeEvent R f k b d r → ⊥
  no_change Ins k b d r e ev = ev.step.fresh (rows_back (R.state k) (R.state (suc k)) e.rows (change_kind d) r ev.step.linked)
  no_change Del k b d r e ev =
      let same : mark_at R (suc k) (change_kind d) Del r ≡ mark_at R k (change_kind d) Del r = ap mark_of (numbers_same (R.state k) (R.state (suc k)) e.rows (cell.Stamp (change_kind d) Del r)) in
      let x : Pending ≡ NotEnded = sym ev.after ∙ same ∙ ev.before in absurd cc

  abbrev Once : ℕ → Type 0
  Once k = (w : ℕ) → w < R.sizes.workers → (b : ℕ) → open_at R k w ≡ Some b → (f : Field) (p : ℕ) (d : Change) (r : ℕ) → p < k → ChangeEvent R f p b d r → place_made (place_at R k w) ≡ Some (made_of f d r)

  -- a worker that the step leaves alone, where its call makes no change in it
  alone : (k : ℕ) → Once k → (w : ℕ) → w < R.sizes.workers → (b : ℕ) → open_at R (suc k) w ≡ open_at R k w → place_at R (suc k) w ≡ place_at R k w → open_at R (suc k) w ≡ Some b → ((f : Field) (d : Change) (r : ℕ) → ¬ (ChangeEvent R f k b d r))
      → (f : Field) (p : ℕ) (d : Change) (r : ℕ) → p < suc k → ChangeEvent R f p b d r → place_made (place_at R (suc k) w) ≡ Some (made_of f d r)
  alone k h w l b o p e n f t d r a ev =
      ⊎_elim (λ (y : t < k). ap place_made p ∙ h w l b (sym o ∙ e) f t d r y ev)
      (λ (y : k ≤ t). let z : t ≡ k = omega arith in absurd (n f d r (subst (λ j. ChangeEvent R f j b d r) z ev)))
      (cases_lt t k)

  -- the worker's own turn
  module _ (k w : ℕ) (h : Once k) (q : R.request k ≡ request.Turn w) (n : turn_refused (R.state k) w ≡ None) (e : R.state (suc k) ≡ turned (R.state k) w) where
    abbrev s : State
    s = R.state k

    inside : w < R.sizes.workers
    inside = within R k w q n e

    abbrev placed : Next → Place
    placed x = (followed s.sizes.keys (worker_at s w) (hand_at s w) x).worker.place

    place_after : place_at R (suc k) w ≡ (followed_at s w).worker.place
    place_after = ap (λ s. (worker_at s w).place) e ∙ ap (λ u. u.place) (worker_after s w (sound_at R k) (here R k w q n e))

    old_made : (m : MadeChange) → place_made (place_at R k w) ≡ Some m → answer_at s w ≡ None → place_made (followed_at s w).worker.place ≡ Some m
    old_made m g a = made_after m s.sizes.keys (worker_at s w) (hand_at s w) (next_at s w) (next_made m (place_at R k w) (hand_at s w) (got_of s.sizes s.cells (touch_from s w (place_at R k w))) g) a

    new_end : (d : Change) (r : ℕ) → place_at R k w ≡ place.End d r → LinkedAt R k (change_kind d) r → mark_at R k (change_kind d) Del r ≡ NotEnded → place_made (followed_at s w).worker.place ≡ Some (made_of Del d r)
    new_end d r p l b = go (eqb (number_in s (cell.Stamp (change_kind d) Del r)) 0) refl
      where
        says : next_at s w ≡ next.Moved (end_done (eqb (number_in s (cell.Stamp (change_kind d) Del r)) 0) d r)
        says = next_is s w (place.End d r) p ∙ ap (λ v. next.Moved (end_done v d r)) (swap_done s w (sound_at R k) (cell.Stamp (change_kind d) Del r) 0 pending (linked_row s (change_kind d) r l))

        go : (v : Bool) → eqb (number_in s (cell.Stamp (change_kind d) Del r)) 0 ≡ v → place_made (followed_at s w).worker.place ≡ Some (made_of Del d r)
        go true v = ap (λ x. place_made (placed x)) (says ∙ ap (λ y. next.Moved (end_done y d r)) v)
        go false v = absurd (mark_zero _ v b)

    new_link : (d : Change) (r : ℕ) → place_at R k w ≡ place.Link d (head_at R k (change_head d)) → head_at R (suc k) (change_head d) ≡ r → answer_at s w ≡ None → place_made (followed_at s w).worker.place ≡ Some (made_of Ins d r)
    new_link d r p t a = go (link_turn s w (sound_at R k) (here R k w q n e) d (head_at R k (change_head d)) p)
      where
        go : LinkTurn s w d (head_at R k (change_head d)) → place_made (followed_at s w).worker.place ≡ Some (made_of Ins d r)
        go (spent y x) = let z : Some RowsSpent ≡ None = sym (ap (λ y. (followed s.sizes.keys (worker_at s w) (hand_at s w) y).answer) x) ∙ a in absurd cc
        go (lost y m z x) = absurd (z refl)
        go (won y m g x v c) =
            let st = won_step R k w q n e d (head_at R k (change_head d)) y p m g v c in
            ap (λ u. place_made u.place) v ∙ ap (λ u. Some (made_of Ins d u)) (sym st.head ∙ t)

    new_made : (f : Field) (b : ℕ) (d : Change) (r : ℕ) → ChangeEvent R f k b d r → answer_at s w ≡ None → place_made (followed_at s w).worker.place ≡ Some (made_of f d r)
    new_made Ins b d r ev a = let y : ev.step.worker ≡ w = same_turner ev.step.turn.asked q in new_link d r (ap (place_at R k) (sym y) ∙ ev.step.turn.place) ev.step.head a
    new_made Del b d r ev a = let y : ev.worker ≡ w = same_turner ev.turn.asked q in new_end d r (ap (place_at R k) (sym y) ∙ ev.turn.place) ev.linked ev.before

    own_once : (x : Option Answer) → answer_at s w ≡ x → reply_of s (request.Turn w) ≡ answered_or (Ok x) → (b : ℕ) → open_at R (suc k) w ≡ Some b → (f : Field) (p : ℕ) (d : Change) (r : ℕ) → p < suc k → ChangeEvent R f p b d r → place_made (place_at R (suc k) w) ≡ Some (made_of f d r)
    own_once (Some a) z y b o f p d r l ev = absurd (none_some (sym (answer_closes R k w q a y) ∙ o))
    own_once None z y b o f p d r l ev =
        ap place_made place_after
        ∙ ⊎_elim (λ (x : p < k). old_made (made_of f d r) (h w inside b (sym (runs_keeps R k w q w y) ∙ o) f p d r x ev) z)
        (λ (x : k ≤ p). let t : p ≡ k = omega arith in new_made f b d r (subst (λ j. ChangeEvent R f j b d r) t ev) z)
        (cases_lt p k)

    other_open : (v : ℕ) → ¬ (v ≡ w) → (x : Option Answer) → reply_of s (request.Turn w) ≡ answered_or (Ok x) → open_at R (suc k) v ≡ open_at R k v
    other_open v a None f = runs_keeps R k w q v f
    other_open v a (Some x) f = answer_keeps R k w q x v a f

    turn_once : reply_of s (request.Turn w) ≡ answered_or (Ok (answer_at s w)) → Once (suc k)
    turn_once y v l b o =
        ⊎_elim
        (λ (x : v ≡ w). subst (λ u. (f : Field) (p : ℕ) (d : Change) (r : ℕ) → p < suc k → ChangeEvent R f p b d r → place_made (place_at R (suc k) u) ≡ Some (made_of f d r)) (sym x) (own_once (answer_at s w) refl y b (ap (open_at R (suc k)) (sym x) ∙ o)))
        (λ (x : ¬ (v ≡ w)).
        let same = other_open v x _ y in
        alone k h v l b same (ap (λ s. (worker_at s v).place) e ∙ ap (λ u. u.place) (others_after s w (sound_at R k) (here R k w q n e) v x)) o
        (λ f d r ev. let t = by_turn f k b d r ev in x (one_worker k v w b l inside (sym same ∙ o) (ap (open_at R k) (sym (same_turner t.asked q)) ∙ t.whose))))
        (cases_eq v w)

  -- a begin
  begin_once : (k : ℕ) → Once k → (a : Begin) → R.request k ≡ request.Begin a → ((v : ℕ) → ¬ (v ≡ a.worker) → place_at R (suc k) v ≡ place_at R k v) → reply_of (R.state k) (request.Begin a) ≡ reply.Done → Once (suc k)
  begin_once k h a q places y w l b o =
      ⊎_elim
      (λ (x : w ≡ a.worker). λ f p d r i ev.
      let new : b ≡ k = same_some (sym o ∙ ap (open_at R (suc k)) x ∙ begin_opens R k a q y) in
      let t = by_turn f p b d r ev in
      absurd (omega (arith, (begun_of p t.worker b t.within t.whose).0)))
      (λ (x : ¬ (w ≡ a.worker)). alone k h w l b (begin_keeps R k a q y w x) (places w x) o (λ f d r ev. let t = by_turn f k b d r ev in let z : request.Begin a ≡ request.Turn t.worker = sym q ∙ t.asked in absurd cc))
      (cases_eq w a.worker)

  next_once : (k : ℕ) → Once k → Once (suc k)
  next_once k h = go (case_at R k)
    where
      go : StepCase (R.state k) (R.request k) (R.state (suc k)) → Once (suc k)
      go (rests f e) = λ w l b o. alone k h w l b (rests_keep R k w f) (e.workers w).place o (λ f d r ev. no_change f k b d r e ev)
      go (begins a c q t f e) = begin_once k h a q (λ v n. ap (λ s. (worker_at s v).place) e ∙ ap (λ u. u.place) (begun_others (R.state k) (sound_at R k) a.worker (begin_taken (R.state k) a c t).within c v n)) (subst (λ x. reply_of (R.state k) x ≡ reply.Done) q f)
      go (turns w q n f e) = turn_once k w h q n e (subst (λ x. reply_of (R.state k) x ≡ answered_or (Ok (answer_at (R.state k) w))) q f)

  pub once : (k : ℕ) → Once k
  once zero = λ w l b o f p d r i ev. absurd (omega arith)
  once (suc k) = next_once k (once k)

pub runs_change_once : RunsChangeOnce
runs_change_once R k w b l o f p d r i ev = once R k w l b o f p d r i ev

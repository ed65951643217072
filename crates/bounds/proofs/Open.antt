-- What is known of the call that a worker has open.
use Rattle.std.proofs.Common.{◌≡◌, ℕ, ◌<◌, true, false, Some, None, Ok, Option, Result, sym, refl, ap, ◌∙◌, subst, ⊎_elim}
use Rattle.std.proofs.lemmas.Bool.{cases_eq, lt-ltb, false≢true}
use Rattle.codes.specs.declared.answer.Answer.{Answer}
use Rattle.codes.specs.declared.refusal.Refusal.{Refusal}
use Rattle.layout.specs.declared.sizes.Sizes.{Sizes}
use Rattle.places.specs.declared.place.Call.{Call}
use Rattle.places.specs.declared.place.Place.{Place}
use Rattle.places.specs.declared.place.Place.TheVariants as place
use Rattle.machine.specs.declared.request.Request.{Request}
use Rattle.machine.specs.declared.request.Request.TheVariants as request
use Rattle.machine.specs.declared.request.Reply.TheVariants as reply
use Rattle.machine.specs.Turns.{answer_at}
use Rattle.machine.specs.Requests.{is_idle, call_to_begin, turn_refused, unless_refused, answered_or, reply_of}
use Rattle.runs.specs.Runs.{RunInTime}
use Rattle.runs.specs.Views.{place_at}
use Rattle.runs.specs.Seen.{open_at}
use Rattle.runs.specs.Purposes.{InCall}
use Rattle.runs.specs.Known.{Known}
use Rattle.runs.specs.Reasons.{BegunBy, WorkerKnows, WorkerKnows.free, WorkerKnows.busy}
use Rattle.laws.proofs.Taken.{begin_taken}
use Rattle.runs.proofs.Steps.{acts, sizes_at}
use Rattle.bounds.specs.Bounds.{is_turn_of_worker}
use Rattle.bounds.proofs.Counts.{not_own}
use Rattle.runs.proofs.Knows.{runs_know as know}

pub some_same : {a b : ℕ} → Some a ≡ Some b → a ≡ b
some_same e = cc

pub none_some : {b : ℕ} → None ≡ Some b → ⊥
none_some e = cc

-- the place of a call is not idle
not_idle : (p : Place) (c : Call) → InCall p c → is_idle p ≡ false
not_idle place.Idle c i = absurd i
not_idle p c i = refl

module _ (R : RunInTime) where
  -- what is known of an open call
  pub record OpenCall (k w b : ℕ) (c : Call) : Type 0 where
    pub before : b < k
    pub place : InCall (place_at R k w) c
    pub known : Known R k b (place_at R k w)

  pub same_begun : {k u w b : ℕ} {c d : Call} → BegunBy R k w b c → BegunBy R u w b d → c ≡ d
  same_begun {k} {u} {w} {b} {c} {d} g h =
      let q : request.Begin g.begin ≡ request.Begin h.begin = sym g.asked ∙ h.asked in
      let s : g.begin ≡ h.begin = cc in
      let r : ◌≡◌ {A = Result Call Refusal} (Ok c) (Ok d) = sym g.call ∙ ap (call_to_begin (R.state b)) s ∙ h.call in
      cc

  pub open_call : (k u w b : ℕ) (c : Call) → w < R.sizes.workers → open_at R k w ≡ Some b → BegunBy R u w b c → OpenCall k w b c
  open_call k u w b c l o g = go ((know R).workers k w l)
    where
      go : WorkerKnows R k w → OpenCall k w b c
      go (free e i) = absurd (none_some (sym e ∙ o))
      go (busy a d e h i n) =
          let s : a ≡ b = some_same (sym e ∙ o) in
          let g' : BegunBy R k w b d = subst (λ y. BegunBy R k w y d) s h in
          record { before = g'.before; known = subst (λ y. Known R k y (place_at R k w)) s n; place = subst (InCall (place_at R k w)) (same_begun g' g) i }

  -- a worker is one of the opening
  pub worker_is : (k w b : ℕ) (c : Call) → BegunBy R k w b c → w < R.sizes.workers
  worker_is k w b c g =
      let t = begin_taken (R.state b) g.begin c g.call in
      subst (λ v. v < R.sizes.workers) g.worker (subst (λ (z : Sizes). g.begin.worker < z.workers) (sizes_at R b) t.within)

  -- a turn of it is not refused
  module _ (k w b : ℕ) (c : Call) (l : w < R.sizes.workers) (o : OpenCall k w b c) where
    not_refused : turn_refused (R.state k) w ≡ None
    not_refused =
        let idle = not_idle (place_at R k w) c o.place in
        let small : w < (R.state k).sizes.workers = subst (λ (z : Sizes). w < z.workers) (sym (sizes_at R k)) l in
        rw (lt-ltb w (R.state k).sizes.workers small, idle) refl

    answers : (r : Option Answer) → acts (request.Turn w) (answered_or (Ok r)) ≡ true
    answers None = refl
    answers (Some a) = refl

    turn_acts : acts (request.Turn w) (reply_of (R.state k) (request.Turn w)) ≡ true
    turn_acts = ap (λ r. acts (request.Turn w) (answered_or (unless_refused r (answer_at (R.state k) w)))) not_refused ∙ answers (answer_at (R.state k) w)

    pub turn_accepted : (y : Refusal) → ¬ (reply_of (R.state k) (request.Turn w) ≡ reply.Refused y)
    turn_accepted y e = false≢true (sym (ap (acts (request.Turn w)) e) ∙ turn_acts)

    -- what neither begins a call nor gives a turn is no turn of it
    pub rests_other : acts (R.request k) (reply_of (R.state k) (R.request k)) ≡ false → is_turn_of_worker w (R.request k) ≡ false
    rests_other f = go (R.request k) refl
      where
        go : (q : Request) → R.request k ≡ q → is_turn_of_worker w (R.request k) ≡ false
        go (request.Turn v) e = ⊎_elim
            (λ (g : v ≡ w). absurd (false≢true (sym (subst (λ q. acts q (reply_of (R.state k) q) ≡ false) (e ∙ ap request.Turn g) f) ∙ turn_acts)))
            (λ (g : ¬ (v ≡ w)). ap (is_turn_of_worker w) e ∙ not_own v w g)
            (cases_eq v w)
        go q e = ap (is_turn_of_worker w) e

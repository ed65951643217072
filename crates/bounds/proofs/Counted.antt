-- Every accepted turn counts, and what counts as a link of another worker is one.
use Rattle.std.proofs.Common.{◌≡◌, ℕ, suc, ◌<◌, ◌≢◌, true, not, ◌&&◌, eqb, Some, None, Option, sym, refl, ap, ◌∙◌, subst}
use Rattle.std.proofs.lemmas.Bool.{eq-eqb}
use Rattle.codes.specs.declared.answer.Answer.{Answer}
use Rattle.codes.specs.declared.refusal.Refusal.{Refusal}
use Rattle.layout.specs.declared.sizes.Sizes.{Sizes}
use Rattle.places.specs.declared.place.Op.{Op}
use Rattle.places.specs.declared.place.Pair.{Pair}
use Rattle.places.specs.declared.place.Call.{Call}
use Rattle.places.specs.declared.place.Call.TheVariants as call
use Rattle.machine.specs.declared.request.Request.{Request}
use Rattle.machine.specs.declared.request.Request.TheVariants as request
use Rattle.machine.specs.declared.request.Reply.{Reply}
use Rattle.machine.specs.declared.request.Reply.TheVariants as reply
use Rattle.machine.specs.Turns.{answer_at}
use Rattle.machine.specs.Requests.{turn_refused, unless_refused, answered_or, reply_of}
use Rattle.order.specs.Seen.{is_open}
use Rattle.runs.specs.Runs.{RunInTime}
use Rattle.runs.specs.Views.{head_at, place_at}
use Rattle.runs.specs.Seen.{open_at}
use Rattle.runs.specs.Steps.{HeadSteps, HeadSteps.stays, HeadSteps.moves}
use Rattle.runs.specs.Times.{LinkStepAtHead}
use Rattle.runs.specs.Reasons.{BegunBy, WorkerKnows, WorkerKnows.free, WorkerKnows.busy}
use Rattle.runs.proofs.Knows.{turn_busy}
use Rattle.laws.proofs.Taken.{turn_taken}
use Rattle.runs.proofs.Steps.{sound_at, sizes_at}
use Rattle.bounds.specs.Bounds.{is_turn_of_worker, is_turn_of_other, turn_of_call, other_links}
use Rattle.bounds.specs.Counted.{Accepted, CountsFor, RunsCount}
use Rattle.bounds.proofs.OwnTurn.{pair_head, PairFits, place_fits}
use Rattle.bounds.proofs.Counts.{both_true, open_then, open_test, own_turn}
use Rattle.bounds.proofs.LinkedRows.{row_linked, link_counted}
use Rattle.bounds.proofs.Open.{open_call, worker_is, turn_accepted}
use Rattle.runs.proofs.Steps.{runs_step as step}
use Rattle.runs.proofs.Knows.{runs_know as know}
use Rattle.order.proofs.Seen.{is_open_true}

-- a turn that is accepted is not refused
taken : (r : Option Refusal) (x : Option Answer) → Accepted (answered_or (unless_refused r x)) → r ≡ None
taken None x a = refl
taken (Some e) x a = absurd a

unless : (y : Reply) → ((e : Refusal) → ¬ (y ≡ reply.Refused e)) → Accepted y
unless (reply.Refused e) n = absurd (n e refl)
unless y n = tt

module _ (R : RunInTime) where
  counts : (t w : ℕ) → R.request t ≡ request.Turn w → Accepted (reply_of (R.state t) (request.Turn w)) → CountsFor R t w
  counts t w q a = go ((know R).workers t w inside)
    where
      free_turn : turn_refused (R.state t) w ≡ None
      free_turn = taken (turn_refused (R.state t) w) (answer_at (R.state t) w) a

      inside : w < R.sizes.workers
      inside = subst (λ (z : Sizes). w < z.workers) (sizes_at R t) (turn_taken (R.state t) w free_turn)

      go : WorkerKnows R t w → CountsFor R t w
      go (free o i) = absurd (turn_busy (R.state t) w free_turn i)
      go (busy b c o g i k) =
          let e = open_test R w b t o in
          record { began = b; call = c; begun = g; counts = ap (λ x. is_turn_of_worker w x && is_open (open_at R t w) b) q ∙ rw (own_turn w, e) refl }

  only : (now t w b : ℕ) (c : Call) → BegunBy R now w b c → turn_of_call R w b t ≡ true → Accepted (reply_of (R.state t) (request.Turn w))
  only now t w b c g e =
      let l = worker_is R now w b c g in
      unless _ (turn_accepted R t w b c l (open_call R t now w b c l (open_then R w b t e) g))

  other_worker : (w : ℕ) (q : Request) (v : ℕ) → is_turn_of_other w q ≡ true → q ≡ request.Turn v → v ≢ w
  other_worker w q v e f g =
      let x : is_turn_of_other w (request.Turn w) ≡ true = subst (λ u. is_turn_of_other w u ≡ true) (f ∙ ap request.Turn g) e in
      let y : eqb w w ≡ true = eq-eqb w w refl in
      let z = rw y at x in
      absurd cc

  links : (now t w b : ℕ) (o : Op) (p : Pair) → BegunBy R now w b (call.Edge o p) → other_links R w b (pair_head p) t ≡ true →
      (x : LinkStepAtHead R t (pair_head p) (head_at R (suc t) (pair_head p))) × (x.step.worker ≢ w)
  links now t w b o p g e = go ((step R t).heads (pair_head p) (subst (λ (z : Sizes). (p.from < z.keys) × (p.to < z.keys)) (sizes_at R t) named))
    where
      parts : (is_open (open_at R t w) b && is_turn_of_other w (R.request t) ≡ true) × (not (eqb (head_at R (suc t) (pair_head p)) (head_at R t (pair_head p))) ≡ true)
      parts = both_true _ _ e

      first : (is_open (open_at R t w) b ≡ true) × (is_turn_of_other w (R.request t) ≡ true)
      first = both_true _ _ parts.0

      inside : w < R.sizes.workers
      inside = worker_is R now w b (call.Edge o p) g

      there : w < (R.state t).sizes.workers
      there = subst (λ (z : Sizes). w < z.workers) (sym (sizes_at R t)) inside

      named : PairFits (R.state t) (call.Edge o p)
      named =
          let in_call = (open_call R t now w b (call.Edge o p) inside (is_open_true _ b first.0) g).place in
          place_fits (R.state t) (place_at R t w) (call.Edge o p) in_call ((sound_at R t).places w there)

      go : HeadSteps R t (pair_head p) (head_at R (suc t) (pair_head p)) → (x : LinkStepAtHead R t (pair_head p) (head_at R (suc t) (pair_head p))) × (x.step.worker ≢ w)
      go (stays y) = let x = eq-eqb _ _ y in let z = rw x at parts.1 in absurd cc
      go (moves d a st) = (record { change = d; head = a; step = st }, other_worker w (R.request t) st.worker first.1 st.turn.asked)

pub runs_count : RunsCount
runs_count R = record { accepted = counts R; only = only R; links = links R; rows = row_linked R; each_row = link_counted R }

-- What is seen of a run agrees with its states.
use Rattle.std.proofs.Common.{◌≡◌, ℕ, suc, ◌<◌, true, Some, None, Ok, Option, Result, sym, refl, ap, ap₂, ◌∙◌, subst}
use Rattle.codes.specs.declared.answer.Answer.{Answer}
use Rattle.codes.specs.declared.refusal.Refusal.{Refusal}
use Rattle.codes.specs.declared.refusal.Refusal.TheVariants.{NoSuchCall, KeyOutside, WeightOutside}
use Rattle.layout.specs.Limits.{between}
use Rattle.places.specs.declared.call.Begin.{Begin}
use Rattle.places.specs.declared.place.Call.{Call}
use Rattle.places.specs.declared.place.Place.{Place}
use Rattle.places.specs.declared.place.Place.TheVariants as place
use Rattle.places.specs.Calls.{keys_fit, weight_fits, call_named, call_of}
use Rattle.machine.specs.declared.request.Request.{Request}
use Rattle.machine.specs.declared.request.Request.TheVariants as request
use Rattle.machine.specs.declared.request.Reply.{Reply}
use Rattle.machine.specs.declared.request.Reply.TheVariants as reply
use Rattle.machine.specs.Turns.{answer_at}
use Rattle.machine.specs.Requests.{is_idle, done_or, answered_or, reply_of}
use Rattle.questions.specs.Graph.{Graph}
use Rattle.order.specs.Seen.{CallSight, CallSight.begins, CallSight.finishes, CallSight.neither}
use Rattle.laws.proofs.Taken.{ok_if, BeginTaken, begin_taken}
use Rattle.runs.specs.Runs.{RunInTime}
use Rattle.runs.specs.Views.{place_at}
use Rattle.runs.specs.Seen.{page_graph, sight_of, seen, open_at}
use Rattle.runs.specs.Purposes.{InCall}
use Rattle.runs.specs.Reasons.{BegunBy, WorkerKnows, WorkerKnows.free, WorkerKnows.busy}
use Rattle.runs.specs.Sights.{AnswerAt, SeenLaws, RunsSeen}
use Rattle.runs.proofs.Steps.{StepCase, StepCase.rests, StepCase.begins, StepCase.turns, sizes_at, case_at}
use Rattle.runs.proofs.Opens.{rest_unseen}
use Rattle.runs.proofs.Knows.{runs_know as know}
use Rattle.order.proofs.Seen.{pasts_seen as pasts}

pub one_call_of : (x y : Call) → ◌≡◌ {A = Result Call Refusal} (Ok x) (Ok y) → x ≡ y
one_call_of x y e = cc

-- the call that is begun is the one that the request names
named_call : (n : ℕ) (b : Begin) (c : Call) → call_of n b ≡ Ok c → call_named b ≡ c
named_call n b c e =
    let known = ok_if (between 1 b.call 8) _ NoSuchCall c e in
    let keys = ok_if (keys_fit n b) _ KeyOutside c known.1 in
    let weight = ok_if (weight_fits b) _ WeightOutside c keys.1 in
    one_call_of (call_named b) c weight.1

-- an idle place is in no call
idle_no_call : (p : Place) (c : Call) → is_idle p ≡ true → InCall p c → ⊥
idle_no_call place.Idle c e i = i
idle_no_call p c e i = absurd cc

-- the sight of a begin
abbrev begin_sight : ℕ → Call → CallSight
begin_sight w c = begins w c

same_worker : {v w : ℕ} {c d : Call} → begin_sight v c ≡ begin_sight w d → v ≡ w
same_worker e = cc

module _ (R : RunInTime) where
  abbrev pages : ℕ → ℕ → Graph
  pages k = page_graph (R.state (suc k))

  seen_as : (k : ℕ) (q : Request) (y : Reply) → R.request k ≡ q → reply_of (R.state k) (R.request k) ≡ y → seen R k ≡ sight_of (page_graph (R.state (suc k))) q y
  seen_as k q y e f = ap₂ (sight_of (page_graph (R.state (suc k)))) e f

  one_call : (k w : ℕ) (c : Call) → seen R k ≡ begin_sight w c → open_at R k w ≡ None
  one_call k w c e = go (case_at R k)
    where
      taken : (b : Begin) (d : Call) → BeginTaken (R.state k) b d → b.worker ≡ w → open_at R k w ≡ None
      taken b d t s = known ((know R).workers k w (subst (λ u. u < R.sizes.workers) s (subst (λ z. b.worker < z.workers) (sizes_at R k) t.within)))
        where
          known : WorkerKnows R k w → open_at R k w ≡ None
          known (free o i) = o
          known (busy a x o g i n) = absurd (idle_no_call (place_at R k w) x (ap (λ u. is_idle (place_at R k u)) (sym s) ∙ t.idle) i)

      answered : (v : ℕ) (x : Option Answer) → sight_of (page_graph (R.state (suc k))) (request.Turn v) (answered_or (Ok x)) ≡ begin_sight w c → ⊥
      answered v None f = cc
      answered v (Some a) f = cc

      go : StepCase (R.state k) (R.request k) (R.state (suc k)) → open_at R k w ≡ None
      go (rests f s) = let z : neither ≡ begin_sight w c = sym (rest_unseen (page_graph (R.state (suc k))) (R.request k) (reply_of (R.state k) (R.request k)) f) ∙ e in absurd cc
      go (begins b d q a f s) = taken b d (begin_taken (R.state k) b d a) (same_worker (sym (seen_as k (request.Begin b) reply.Done q f) ∙ e))
      go (turns v q n f s) = absurd (answered v (answer_at (R.state k) v) (sym (seen_as k (request.Turn v) _ q f) ∙ e))

  was_seen : (k w b : ℕ) (c : Call) → BegunBy R k w b c → seen R b ≡ begin_sight w c
  was_seen k w b c g =
      let t = begin_taken (R.state b) g.begin c g.call in
      seen_as b (request.Begin g.begin) reply.Done g.asked (ap (reply_of (R.state b)) g.asked ∙ ap done_or g.call) ∙ ap₂ begin_sight g.worker (named_call (R.state b).sizes.keys g.begin c t.call)

  was_answered : (k w : ℕ) (a : Answer) (g : Graph) → seen R k ≡ finishes w a g → AnswerAt R k w a g
  was_answered k w a g e = answered (R.request k) refl (reply_of (R.state k) (R.request k)) refl e
    where
      answered : (q : Request) → R.request k ≡ q → (y : Reply) → reply_of (R.state k) (R.request k) ≡ y → sight_of (page_graph (R.state (suc k))) q y ≡ finishes w a g → AnswerAt R k w a g
      answered (request.Begin b) f reply.Done h z = absurd cc
      answered (request.Turn v) f (reply.Answered x) h z =
          let s : v ≡ w = cc in
          let t : x ≡ a = cc in
          let u : page_graph (R.state (suc k)) v ≡ g = cc in
          record { asked = f ∙ ap request.Turn s; reply = ap (reply_of (R.state k)) (sym (f ∙ ap request.Turn s)) ∙ h ∙ ap reply.Answered t; page = sym u ∙ ap (page_graph (R.state (suc k))) s }
      answered q f y h z = absurd cc

  pub seen_laws : SeenLaws R
  seen_laws = record { one_at_a_time = one_call; pasts = pasts (seen R) one_call; begun = was_seen; finished = was_answered }

pub runs_seen : RunsSeen
runs_seen R = seen_laws R

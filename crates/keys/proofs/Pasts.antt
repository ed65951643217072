-- A past that is made of what is seen tells the calls of the run.
use Rattle.std.proofs.Common.{◌≡◌, ℕ, zero, suc, ◌<◌, ◌⊎◌, Bool, true, false, Some, None, Option, sym, refl, ap, ap₂, ◌∙◌, subst, inl, inr, arith}
use Rattle.std.specs.Prelude.{IsSome, cond, nat_lt}
use Rattle.std.proofs.lemmas.Bool.{lt-ltb, ltb-true, false≢true}
use Rattle.codes.specs.declared.answer.Answer.{Answer}
use Rattle.places.specs.declared.call.Begin.{Begin}
use Rattle.places.specs.declared.place.Call.{Call}
use Rattle.places.specs.declared.place.Call.TheVariants as call
use Rattle.machine.specs.declared.request.Request.{Request}
use Rattle.machine.specs.declared.request.Request.TheVariants as request
use Rattle.machine.specs.declared.request.Reply.{Reply}
use Rattle.machine.specs.declared.request.Reply.TheVariants as reply
use Rattle.machine.specs.Requests.{reply_of}
use Rattle.questions.specs.Graph.{Graph}
use Rattle.order.specs.Past.{Finish, Past}
use Rattle.order.specs.Seen.{CallSight, begins, finishes, neither, open_after, open_call, is_open, finish_after, finish_by, call_begun, past_of, OneAtATime}
use Rattle.order.proofs.Seen.{open_began, is_open_true}
use Rattle.runs.proofs.Steps.{acts, StepCase, StepCase.rests, StepCase.begins as starts, StepCase.turns as moves, case_at}
use Rattle.keys.proofs.Base.{same_some, none_some}
use Rattle.keys.proofs.Answers.{same_call}
use Rattle.runs.specs.Runs.{RunInTime}
use Rattle.runs.specs.Purposes.{InCall}
use Rattle.runs.specs.Seen.{page_graph, sight_of, seen, open_at}
use Rattle.runs.specs.Reasons.{BegunBy, WorkerKnows, WorkerKnows.free, WorkerKnows.busy}
use Rattle.runs.specs.Sights.{SeenLaws}
use Rattle.keys.specs.Told.{CallTold, answered, unfinished, CallsTold, PastsTell, TurnsRaise}
use Rattle.keys.proofs.Turning.{worker_of}
use Rattle.runs.proofs.Knows.{runs_know as know}
use Rattle.order.proofs.Seen.{pasts_seen as pasts}
use Rattle.runs.proofs.Sights.{runs_seen as laws}

one_begin : {v w : ℕ} {c d : Call} → begins v c ≡ begins w d → (v ≡ w) × (c ≡ d)
one_begin e = (cc, cc)

no_begin : {w v : ℕ} {c : Call} {a : Answer} {p : Graph} → finishes v a p ≡ begins w c → ⊥
no_begin e = absurd cc

not_neither : {w : ℕ} {c : Call} → neither ≡ begins w c → ⊥
not_neither e = absurd cc

not_finish : {w v : ℕ} {c : Call} {a : Answer} {p : Graph} → begins w c ≡ finishes v a p → ⊥
not_finish e = absurd cc

never_finish : {v : ℕ} {a : Answer} {p : Graph} → neither ≡ finishes v a p → ⊥
never_finish e = absurd cc

one_finish : {v w : ℕ} {a b : Answer} {p q : Graph} → finishes v a p ≡ finishes w b q → (v ≡ w) × (a ≡ b)
one_finish e = (cc, cc)

one_some_call : {c d : Call} → Some c ≡ Some d → c ≡ d
one_some_call e = cc

none_call : {c : Call} → None ≡ Some c → ⊥
none_call e = cc

none_finish : {f : Finish} → None ≡ Some f → ⊥
none_finish e = cc

one_some_finish : {f g : Finish} → Some f ≡ Some g → f ≡ g
one_some_finish e = cc

-- a begin and an answer that are seen, whatever the pages show
sight_begins : (p : ℕ → Graph) (q : Request) (y : Reply) (w : ℕ) (c : Call) → sight_of p q y ≡ begins w c → (x : Begin) × (q ≡ request.Begin x) × (y ≡ reply.Done) × (x.worker ≡ w)
sight_begins p (request.Begin x) reply.Done w c e = (x, refl, refl, (one_begin e).0)
sight_begins p (request.Turn v) (reply.Answered a) w c e = absurd (no_begin e)
sight_begins p q y w c e = absurd (not_neither e)

sight_as : (p o : ℕ → Graph) (q : Request) (y : Reply) (w : ℕ) (c : Call) → sight_of p q y ≡ begins w c → sight_of o q y ≡ begins w c
sight_as p o (request.Begin x) reply.Done w c e = e
sight_as p o (request.Turn v) (reply.Answered a) w c e = absurd (no_begin e)
sight_as p o q y w c e = absurd (not_neither e)

sight_finishes : (p : ℕ → Graph) (q : Request) (y : Reply) (w : ℕ) (a : Answer) (g : Graph) → sight_of p q y ≡ finishes w a g → (q ≡ request.Turn w) × (y ≡ reply.Answered a)
sight_finishes p (request.Begin x) reply.Done w a g e = absurd (not_finish e)
sight_finishes p (request.Turn v) (reply.Answered b) w a g e = let z = one_finish e in (ap request.Turn z.0, ap reply.Answered z.1)
sight_finishes p q y w a g e = absurd (never_finish e)

open_as : (p o : ℕ → Graph) (q : Request) (y : Reply) (k w : ℕ) (before : Option ℕ) → open_after (sight_of p q y) k w before ≡ open_after (sight_of o q y) k w before
open_as p o (request.Begin x) reply.Done k w before = refl
open_as p o (request.Turn v) (reply.Answered a) k w before = refl
open_as p o q y k w before = refl

begun_as_sight : (s : CallSight) (c : Call) → call_begun s ≡ Some c → (w : ℕ) × (s ≡ begins w c)
begun_as_sight (begins w d) c e = (w, ap (begins w) (one_some_call e))
begun_as_sight (finishes w a p) c e = absurd (none_call e)
begun_as_sight neither c e = absurd (none_call e)

module _ (R : RunInTime) (pages : ℕ → ℕ → Graph) where
  abbrev pub seen_so : ℕ → CallSight
  seen_so k = sight_of (pages k) (R.request k) (reply_of (R.state k) (R.request k))

  -- workers have the same calls open
  pub open_same : (k w : ℕ) → open_call seen_so k w ≡ open_at R k w
  unfolding open_call
  open_same zero w = refl
  open_same (suc k) w =
      ap (open_after (seen_so k) k w) (open_same k w) ∙ open_as (pages k) (page_graph (R.state (suc k))) (R.request k) (reply_of (R.state k) (R.request k)) k w (open_at R k w)

  -- a call that is finished was answered
  record FinishGiven (now b : ℕ) (f : Finish) : Type 0 where
    pub before : f.time < now
    pub worker : ℕ
    pub asked : R.request f.time ≡ request.Turn worker
    pub reply : reply_of (R.state f.time) (request.Turn worker) ≡ reply.Answered f.answer
    pub whose : open_call seen_so f.time worker ≡ Some b

  later : (k b : ℕ) (f : Finish) → FinishGiven k b f → FinishGiven (suc k) b f
  later k b f x = let l = x.before in record { before = omega arith; worker = x.worker; asked = x.asked; reply = x.reply; whose = x.whose }

  finish_given : (k b : ℕ) (f : Finish) → finish_by seen_so k b ≡ Some f → FinishGiven k b f
  unfolding finish_by
  finish_given zero b f e = absurd (none_finish e)
  finish_given (suc k) b f e = go (seen_so k) refl e (finish_given k b f)
    where
      here : (w : ℕ) (a : Answer) (p : Graph) → seen_so k ≡ finishes w a p → open_call seen_so k w ≡ Some b → FinishGiven (suc k) b (record { time = k; answer = a; page = p })
      here w a p q o =
          let z = sight_finishes (pages k) (R.request k) (reply_of (R.state k) (R.request k)) w a p q in
          record { before = omega arith; worker = w; asked = z.0; reply = ap (reply_of (R.state k)) (sym z.0) ∙ z.1; whose = o }

      by : (w : ℕ) (a : Answer) (p : Graph) → seen_so k ≡ finishes w a p → (t : Bool) → is_open (open_call seen_so k w) b ≡ t → cond t (Some (record { time = k; answer = a; page = p })) (finish_by seen_so k b) ≡ Some f →
          (finish_by seen_so k b ≡ Some f → FinishGiven k b f) → FinishGiven (suc k) b f
      by w a p q true y h before = subst (FinishGiven (suc k) b) (one_some_finish h) (here w a p q (is_open_true (open_call seen_so k w) b y))
      by w a p q false y h before = later k b f (before h)

      go : (s : CallSight) → seen_so k ≡ s → finish_after (open_call seen_so k) s k b (finish_by seen_so k b) ≡ Some f → (finish_by seen_so k b ≡ Some f → FinishGiven k b f) → FinishGiven (suc k) b f
      go (begins w c) q h before = later k b f (before h)
      go neither q h before = later k b f (before h)
      go (finishes w a p) q h before = by w a p q (is_open (open_call seen_so k w) b) refl h before

  module _ (laws : SeenLaws R) (now : ℕ) (stamp raise : ℕ → Option ℕ) (lower_end : ℕ → Bool) where
    abbrev h : Past
    h = past_of seen_so now stamp raise lower_end

    to_seen : (b w : ℕ) (c : Call) → seen_so b ≡ begins w c → seen R b ≡ begins w c
    to_seen b w c e = sight_as (pages b) (page_graph (R.state (suc b))) (R.request b) (reply_of (R.state b) (R.request b)) w c e

    from_seen : (b w : ℕ) (c : Call) → seen R b ≡ begins w c → seen_so b ≡ begins w c
    from_seen b w c e = sight_as (page_graph (R.state (suc b))) (pages b) (R.request b) (reply_of (R.state b) (R.request b)) w c e

    begun_seen : (k w b : ℕ) (c : Call) → b < k → seen_so b ≡ begins w c → BegunBy R k w b c
    begun_seen k w b c l e = go (case_at R b)
      where
        x : (x : Begin) × (R.request b ≡ request.Begin x) × (reply_of (R.state b) (R.request b) ≡ reply.Done) × (x.worker ≡ w)
        x = sight_begins (pages b) (R.request b) (reply_of (R.state b) (R.request b)) w c e

        go : StepCase (R.state b) (R.request b) (R.state (suc b)) → BegunBy R k w b c
        go (rests f q) = absurd (false≢true (sym f ∙ ap₂ acts x.1 x.2))
        go (moves v q n f t) = let z : request.Begin x.0 ≡ request.Turn v = sym x.1 ∙ q in absurd cc
        go (starts v d q t f s) =
            let z : request.Begin x.0 ≡ request.Begin v = sym x.1 ∙ q in
            let same : x.0 ≡ v = cc in
            let y : BegunBy R k w b d = record { before = l; begin = v; asked = q; worker = ap (λ (u : Begin). u.worker) (sym same) ∙ x.3; call = t } in
            subst (BegunBy R k w b) (one_begin (sym (laws.begun k w b d y) ∙ to_seen b w c e)).1 y

    alone : OneAtATime seen_so
    alone k w c e = open_same k w ∙ laws.one_at_a_time k w c (to_seen k w c e)

    told_call : (b w : ℕ) (c : Call) → b < now → seen_so b ≡ begins w c → CallTold R now h b c
    told_call b w c l e = go (finish_by seen_so now b) refl
      where
        waits : finish_by seen_so now b ≡ None → (open_call seen_so now w ≡ Some b) ⊎ IsSome (finish_by seen_so now b) → CallTold R now h b c
        waits q (inl o) = let y = begun_seen now w b c l e in unfinished w q (worker_of R now w b c y) (sym (open_same now w) ∙ o) y
        waits q (inr s) = let z : IsSome {T = Finish} None = subst IsSome q s in absurd cc

        go : (o : Option Finish) → finish_by seen_so now b ≡ o → CallTold R now h b c
        go None q = waits q ((pasts seen_so alone now).open_or_finished b w c l e)
        go (Some f) q =
            let x = finish_given now b f q in
            let y = open_began seen_so f.time x.worker b x.whose in
            let z = one_begin (sym e ∙ y.1.1) in
            answered x.worker f q x.before x.asked x.reply (sym (open_same f.time x.worker) ∙ x.whose) (begun_seen f.time x.worker b c y.0 (e ∙ ap (λ u. begins u c) z.0))

    pub calls_told : CallsTold R now h
    calls_told = record {
      call = λ b c e. told b c e (nat_lt b now) refl;
      begun = λ k w b c l x. (let y = x.before in let z = from_seen b w c (laws.begun k w b c x) in rw (lt-ltb b now (omega arith)) (ap call_begun z));
    }
      where
        told : (b : ℕ) (c : Call) → h.begun b ≡ Some c → (t : Bool) → nat_lt b now ≡ t → CallTold R now h b c
        told b c e true q = let y = begun_as_sight (seen_so b) c (rw q at e) in told_call b y.0 c (ltb-true b now q) y.1
        told b c e false q = absurd (none_call (rw q at e))

pub pasts_tell : PastsTell
pasts_tell R now pages stamp raise lower_end = calls_told R pages (laws R) now stamp raise lower_end

pub turns_raise : TurnsRaise
turns_raise R p w b v t o k j c begun = go ((know R).workers p w t.within)
  where
    go : WorkerKnows R p w → c ≡ call.Survey v
    go (free e i) = absurd (none_some (sym e ∙ o))
    go (busy a y e x i n) =
        let q : a ≡ b = same_some (sym e ∙ o) in
        same_call R k j p w b c y begun (subst (λ z. BegunBy R p w z y) q x) ∙ sym (subst (λ z. InCall z y) t.place i)

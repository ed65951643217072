-- Over time: a call does one deed at most, and it is seen.
use Rattle.std.proofs.Common.{◌≡◌, ℕ, zero, suc, ◌<◌, Bool, true, false, cond, List, Some, None, Ok, Option, refl, sym, ◌∙◌, ap, ap₂, subst, subst₂, inl, inr, arith}
use Rattle.std.specs.Option.{option_or}
use Rattle.std.proofs.lemmas.Bool.{cases_eq, eq-eqb, eqb-true, false≢true}
use Rattle.codes.specs.declared.answer.Answer.{Answer}
use Rattle.layout.specs.declared.sizes.Sizes.{Sizes}
use Rattle.layout.specs.declared.names.Cell.TheVariants as cell
use Rattle.layout.specs.declared.names.Kind.{Kind}
use Rattle.layout.specs.declared.names.Head.{Head}
use Rattle.layout.specs.declared.names.Field.{Field}
use Rattle.layout.specs.declared.names.Field.TheVariants.{Ins, Del}
use Rattle.places.specs.declared.call.Begin.{Begin}
use Rattle.places.specs.declared.place.Op.TheVariants.{Add, Remove}
use Rattle.places.specs.declared.place.Change.{Change}
use Rattle.places.specs.declared.place.Survey.{Survey}
use Rattle.places.specs.declared.place.Call.{Call}
use Rattle.places.specs.declared.place.Call.TheVariants as call
use Rattle.places.specs.Calls.{call_named}
use Rattle.places.specs.Touches.{change_head}
use Rattle.places.specs.declared.place.Place.{Place}
use Rattle.places.specs.declared.place.Place.TheVariants as place
use Rattle.machine.specs.declared.request.Request.{Request}
use Rattle.machine.specs.declared.request.Request.TheVariants as request
use Rattle.machine.specs.declared.request.Reply.{Reply}
use Rattle.machine.specs.declared.request.Reply.TheVariants as reply
use Rattle.machine.specs.declared.worker.Worker.{Worker}
use Rattle.machine.specs.States.{State}
use Rattle.machine.specs.Effects.{got_of}
use Rattle.machine.specs.Turns.{worker_at, hand_at, touch_at, answer_at, followed_at}
use Rattle.machine.specs.Requests.{call_to_begin, answered_or, reply_of, stepped}
use Rattle.machine.proofs.Stages.{StagedOr, next_staged, followed_staged}
use Rattle.runs.specs.Runs.{RunInTime, history_at}
use Rattle.runs.specs.Views.{clock_at, place_at, head_at}
use Rattle.laws.proofs.Taken.{begin_taken, begun_others}
use Rattle.laws.proofs.Rests.{numbers_same}
use Rattle.runs.specs.Seen.{open_at}
use Rattle.runs.specs.Times.{Before}
use Rattle.runs.specs.Purposes.{InCall, place_made}
use Rattle.runs.specs.Known.{ChangeEvent}
use Rattle.runs.specs.Reasons.{BegunBy, WorkerKnows, WorkerKnows.free, WorkerKnows.busy}
use Rattle.runs.proofs.Turns.{worker_after, others_after}
use Rattle.runs.proofs.Steps.{acts, StepCase, StepCase.rests as rest, StepCase.begins, StepCase.turns, sound_at, case_at, here, within, sizes_at}
use Rattle.runs.proofs.Opens.{rests_keep, begin_opens, begin_keeps, runs_keeps, answer_keeps}
use Rattle.promise.specs.Sights.{Deed, Deed.links, Deed.ends, Deed.raises, End, Sight, Sight.begins, Sight.turns, Sight.rests, sight_of, page_in}
use Rattle.promise.specs.Calls.{open_by, is_call, is_sight_of_call, deed_of, deed_by}
use Rattle.promise.specs.Bridges.{shown_at}
use Rattle.promise.specs.Deeds.{RaiseEvent, DeedEvent, RunsDeeds}
use Rattle.promise.proofs.Bridges.{shown_state, shown_next, shown_opens, sight_at}
use Rattle.promise.proofs.Firsts.{or_found, or_first, or_second, some_or_none}
use Rattle.promise.proofs.Deeds.{deed_at, Taken, deed_told, event_seen, deed_turn}
use Rattle.runs.proofs.Knows.{runs_know as know}
use Rattle.runs.proofs.Once.{runs_change_once as once, one_worker}
use Rattle.walks.proofs.RunSurveys.{change_none}

unacted_rests : (z : Sizes) (a b : List ℕ) (q : Request) (y : Reply) → acts q y ≡ false → sight_of z a b q y ≡ rests
unacted_rests z a b (request.Begin x) reply.Done e = absurd cc
unacted_rests z a b (request.Turn w) reply.Running e = absurd cc
unacted_rests z a b (request.Turn w) (reply.Answered x) e = absurd cc
unacted_rests z a b q y e = refl

is_call_same : (o : Option ℕ) (b : ℕ) → is_call o b ≡ true → o ≡ Some b
is_call_same None b e = absurd (false≢true e)
is_call_same (Some a) b e = ap (λ x. Some x) (eqb-true a b e)

when_true : {X : Type 0} (t : Bool) (o : Option X) (x : X) → cond t o None ≡ Some x → (t ≡ true) × (o ≡ Some x)
when_true true o x e = (refl, e)
when_true false o x e = absurd (let f : None ≡ Some x = e in cc)

module _ (R : RunInTime) where
  pub opens_at : (k w : ℕ) → open_by (shown_at R k).sights w ≡ open_at R k w
  opens_at k w = shown_opens R k w

  -- what is seen of request k, by the states of the run
  abbrev pub sight_in : ℕ → Request → Reply → Sight
  sight_in k q r = sight_of R.sizes (R.state k).cells (R.state (suc k)).cells q r

  pub sight_is : (k : ℕ) → sight_at R k ≡ sight_in k (R.request k) (reply_of (R.state k) (R.request k))
  sight_is k =
      let q = R.request k in
      let r = reply_of (R.state k) (R.request k) in
      ap (λ (s : State). sight_of s.sizes s.cells (stepped s q).cells q r) (shown_state R k)
      ∙ ap₂ (λ (z : Sizes) (s : State). sight_of z (R.state k).cells s.cells q r) (sizes_at R k) (sym (R.next k))

  -- what neither begins a call nor gives a turn is seen to rest
  pub rest_seen : (k : ℕ) → acts (R.request k) (reply_of (R.state k) (R.request k)) ≡ false → sight_at R k ≡ rests
  rest_seen k f = sight_is k ∙ unacted_rests R.sizes (R.state k).cells (R.state (suc k)).cells (R.request k) (reply_of (R.state k) (R.request k)) f

module _ (R : RunInTime) where
  abbrev pub TakenAt : ℕ → ℕ → Type 0
  TakenAt k w = Taken R k w

  abbrev pub deed_in_turn : ℕ → Option Deed
  deed_in_turn k = deed_at R k

  -- a request is seen as a turn of a worker, or as a begin, or it rests
  pub data SightCase (k : ℕ) : Type 0 where
    a_turn : (w : ℕ) (e : Option End) → TakenAt k w → sight_at R k ≡ turns w (deed_in_turn k) e → SightCase k
    at_begin : (w : ℕ) (c : Call) → (R.state (suc k)).cells ≡ (R.state k).cells → sight_at R k ≡ begins w c → SightCase k
    at_rest : (R.state (suc k)).cells ≡ (R.state k).cells → sight_at R k ≡ rests → SightCase k

  pub turn_seen : (k w : ℕ) → TakenAt k w → (e : Option End) × (sight_at R k ≡ turns w (deed_in_turn k) e)
  turn_seen k w t = go (answer_at (R.state k) w) refl
    where
      shows : (a : Option Answer) → answer_at (R.state k) w ≡ a → sight_at R k ≡ sight_in R k (request.Turn w) (answered_or (Ok a))
      shows a e = sight_is R k ∙ ap₂ (λ q r. sight_in R k q r) t.asked (t.reply ∙ ap (λ a. answered_or (Ok a)) e)

      go : (a : Option Answer) → answer_at (R.state k) w ≡ a → (e : Option End) × (sight_at R k ≡ turns w (deed_in_turn k) e)
      go None e = (None, shows None e)
      go (Some a) e = (Some (record { answer = a; page = page_in R.sizes (R.state (suc k)).cells w }), shows (Some a) e)

  pub sight_case : (k : ℕ) → SightCase k
  sight_case k = go (case_at R k)
    where
      go : StepCase (R.state k) (R.request k) (R.state (suc k)) → SightCase k
      go (rest f e) = at_rest e.rows.cells (rest_seen R k f)
      go (begins b c q a f e) = at_begin b.worker (call_named b) (ap (λ (s : State). s.cells) e) (sight_is R k ∙ ap₂ (λ q r. sight_in R k q r) q f)
      go (turns w q n f e) = (
          let t : TakenAt k w = record { asked = q; within = within R k w q n e; accepted = n; reply = f; next = e } in
          let (x, y) = turn_seen k w t in a_turn w x t y)

  -- the call that a worker has open was begun by it, and its place is one of that call
  pub record Opened (k w b : ℕ) : Type 0 where
    pub call : Call
    pub begun : BegunBy R k w b call
    pub place : InCall (place_at R k w) call

  pub opened_at : (k w b : ℕ) → w < R.sizes.workers → open_at R k w ≡ Some b → Opened k w b
  opened_at k w b l o = go ((know R).workers k w l)
    where
      go : WorkerKnows R k w → Opened k w b
      go (free e i) = absurd (let g : None ≡ Some b = sym e ∙ o in cc)
      go (busy a c e g i n) = (let f : Some a ≡ Some b = sym e ∙ o in let same : a ≡ b = cc in subst (Opened k w) same (record { call = c; begun = g; place = i }))

  -- a call has one name
  pub same_begin : {k j w v b : ℕ} {c d : Call} → BegunBy R k w b c → BegunBy R j v b d → (w ≡ v) × (c ≡ d)
  same_begin {k} {j} {w} {v} {b} {c} {d} x y =
      let e : request.Begin x.begin ≡ request.Begin y.begin = sym x.asked ∙ y.asked in
      let same : x.begin ≡ y.begin = cc in
      let f : Ok c ≡ Ok d = sym x.call ∙ ap (call_to_begin (R.state b)) same ∙ y.call in
      (sym x.worker ∙ ap (λ (b : Begin). b.worker) same ∙ y.worker, cc)

  -- no turn leads to a raise
  turn_no_raise : (k w : ℕ) → TakenAt k w → (v : Survey) → ¬ (place_at R (suc k) w ≡ place.Raise v)
  turn_no_raise k w t v e =
      let s = R.state k in
      let l = here R k w t.asked t.accepted t.next in
      let after : (followed_at s w).worker.place ≡ place.Raise v =
      ap (λ (u : Worker). u.place) (sym (worker_after s w (sound_at R k) l)) ∙ ap (λ (s : State). (worker_at s w).place) (sym t.next) ∙ e in
      let g = got_of s.sizes s.cells (touch_at s w) in
      let staged = followed_staged (worker_at s w).place g s.sizes.keys (worker_at s w) (hand_at s w) _ (next_staged (worker_at s w).place (hand_at s w) g) in
      go g (followed_at s w).answer (followed_at s w).worker.place after staged
    where
      go : (g : Option ℕ) (a : Option Answer) (p : Place) → p ≡ place.Raise v → StagedOr (worker_at (R.state k) w).place g a p → ⊥
      go g None p q s = subst (StagedOr (worker_at (R.state k) w).place g None) q s
      go g (Some a) p q s = absurd (let x : place.Raise v ≡ place.Idle = sym q ∙ s in cc)

  -- after a raise the call is at no raise, if it was at none before this step
  raised_next : (p b : ℕ) → RaiseEvent R p b → (k : ℕ) → p < suc k → (w : ℕ) → w < R.sizes.workers → open_at R (suc k) w ≡ Some b → (v : Survey) → place_at R (suc k) w ≡ place.Raise v →
      (¬ (p ≡ k) → open_at R k w ≡ Some b → place_at R k w ≡ place.Raise v → ⊥) → ⊥
  raised_next p b ev k l w m o v e earlier = go (case_at R k)
    where
      -- the step leaves the worker alone
      alone : open_at R (suc k) w ≡ open_at R k w → place_at R (suc k) w ≡ place_at R k w → ¬ (p ≡ k) → ⊥
      alone f g n = earlier n (sym f ∙ o) (sym g ∙ e)

      began_before : b < p
      began_before = (opened_at p ev.worker b ev.turn.within ev.whose).begun.before

      asked_at : p ≡ k → R.request k ≡ request.Turn ev.worker
      asked_at q = subst (λ j. R.request j ≡ request.Turn ev.worker) q ev.turn.asked

      go : StepCase (R.state k) (R.request k) (R.state (suc k)) → ⊥
      go (rest f s) = alone (rests_keep R k w f) (s.workers w).place (λ q. (
          let same : clock_at R (suc p) ≡ clock_at R p = subst (λ j. clock_at R (suc j) ≡ clock_at R j) (sym q) (numbers_same (R.state k) (R.state (suc k)) s.rows cell.Clock) in
          omega (arith, ev.moved, same)))
      go (begins x c q a f s) = elim (cases_eq w x.worker) [
        | inl i ↦ (let h : open_at R (suc k) w ≡ Some k = ap (open_at R (suc k)) i ∙ begin_opens R k x q (ap (reply_of (R.state k)) (sym q) ∙ f) in
            let g : Some k ≡ Some b = sym h ∙ o in let j : k ≡ b = cc in omega (arith, began_before))
        | inr i ↦ alone (begin_keeps R k x q (ap (reply_of (R.state k)) (sym q) ∙ f) w i)
            (ap (λ s. (worker_at s w).place) s ∙ ap (λ u. u.place) (begun_others (R.state k) (sound_at R k) x.worker (begin_taken (R.state k) x c a).within c w i))
            (λ j. absurd (let h : request.Begin x ≡ request.Turn ev.worker = sym q ∙ asked_at j in cc))
      ]
      go (turns u q n f s) = (
          let t : TakenAt k u = record { asked = q; within = within R k u q n s; accepted = n; reply = f; next = s } in
          elim (cases_eq w u) [
            | inl i ↦ turn_no_raise k u t v (subst (λ w. place_at R (suc k) w ≡ place.Raise v) i e)
            | inr i ↦ other u t i (answer_at (R.state k) u) refl
          ])
        where
          other : (u : ℕ) → TakenAt k u → ¬ (w ≡ u) → (a : Option Answer) → answer_at (R.state k) u ≡ a → ⊥
          other u t i a g =
              let opens : open_at R (suc k) w ≡ open_at R k w = keeps_open u t i a g in
              alone opens (ap (λ s. (worker_at s w).place) t.next ∙ ap (λ u. u.place) (others_after (R.state k) u (sound_at R k) (here R k u t.asked t.accepted t.next) w i))
              (λ j. (let h : request.Turn u ≡ request.Turn ev.worker = sym t.asked ∙ asked_at j in let same : u ≡ ev.worker = cc in
              i (one_worker R k w u b m t.within (sym opens ∙ o) (subst₂ (λ j v. open_at R j v ≡ Some b) j (sym same) ev.whose))))
            where
              keeps_open : (u : ℕ) → TakenAt k u → ¬ (w ≡ u) → (a : Option Answer) → answer_at (R.state k) u ≡ a → open_at R (suc k) w ≡ open_at R k w
              keeps_open u t i None g = runs_keeps R k u t.asked w (ap (reply_of (R.state k)) (sym t.asked) ∙ t.reply ∙ ap (λ a. answered_or (Ok a)) g)
              keeps_open u t i (Some a) g = answer_keeps R k u t.asked a w i (ap (reply_of (R.state k)) (sym t.asked) ∙ t.reply ∙ ap (λ a. answered_or (Ok a)) g)

  pub raised : (p b : ℕ) → RaiseEvent R p b → (k : ℕ) → p < k → (w : ℕ) → w < R.sizes.workers → open_at R k w ≡ Some b → (v : Survey) → ¬ (place_at R k w ≡ place.Raise v)
  raised p b ev zero l w m o v e = absurd (omega arith)
  raised p b ev (suc k) l w m o v e = raised_next p b ev k l w m o v e (λ n f g. raised p b ev k (omega arith) w m f v g)

  -- where a deed is done
  pub data DeedPlace (k w : ℕ) : Deed → Type 0 where
    to_link : (d : Change) (h r : ℕ) (g : Head) → place_at R k w ≡ place.Link d h → DeedPlace k w (links g r)
    to_end : (d : Change) (r : ℕ) (c : Kind) → place_at R k w ≡ place.End d r → DeedPlace k w (ends c r)
    to_raise : (v : Survey) (t : ℕ) → place_at R k w ≡ place.Raise v → DeedPlace k w (raises t)

  pub record DeedSpot (k b : ℕ) (x : Deed) : Type 0 where
    pub worker : ℕ
    pub within : worker < R.sizes.workers
    pub whose : open_at R k worker ≡ Some b
    pub place : DeedPlace k worker x

  deed_spot : (k b : ℕ) (x : Deed) → DeedEvent R k b x → DeedSpot k b x
  deed_spot k b (links h r) (d, e, ev) = record { worker = ev.step.worker; within = ev.step.turn.within; whose = ev.whose; place = to_link d (head_at R k (change_head d)) r h ev.step.turn.place }
  deed_spot k b (ends c r) (d, e, ev) = record { worker = ev.worker; within = ev.turn.within; whose = ev.whose; place = to_end d r c ev.turn.place }
  deed_spot k b (raises t) (ev, e) = record { worker = ev.worker; within = ev.turn.within; whose = ev.whose; place = to_raise ev.survey t ev.turn.place }

  -- at such a place the call has made no change
  not_made : (k w : ℕ) (x : Deed) → DeedPlace k w x → place_made (place_at R k w) ≡ None
  not_made k w x (to_link d h r g e) = ap place_made e
  not_made k w x (to_end d r c e) = ap place_made e
  not_made k w x (to_raise v t e) = ap place_made e

  change_first : (f : Field) (d : Change) (p b r q : ℕ) (y : Deed) → ChangeEvent R f p b d r → p < q → DeedSpot q b y → ⊥
  change_first f d p b r q y ev l s =
      let made = once R q s.worker b s.within s.whose f p d r l ev in
      let none = not_made q s.worker y s.place in
      let x = sym none ∙ made in absurd cc

  -- a call that raised the clock makes no change
  raise_first : (p b : ℕ) → RaiseEvent R p b → (q : ℕ) → p < q → (w : ℕ) → w < R.sizes.workers → open_at R q w ≡ Some b → (y : Deed) → DeedPlace q w y → ⊥
  raise_first p b ev q l w m o y s = go y s
    where
      was : Opened p ev.worker b
      was = opened_at p ev.worker b ev.turn.within ev.whose

      now : Opened q w b
      now = opened_at q w b m o

      survey : call.Survey ev.survey ≡ now.call
      survey = subst (λ p. InCall p was.call) ev.turn.place was.place ∙ (same_begin was.begun now.begun).1

      go : (y : Deed) → DeedPlace q w y → ⊥
      go y (to_link d h r g e) = change_none d Add ev.survey (subst (λ p. InCall p now.call) e now.place ∙ sym survey)
      go y (to_end d r c e) = change_none d Remove ev.survey (subst (λ p. InCall p now.call) e now.place ∙ sym survey)
      go y (to_raise v t e) = raised p b ev q l w m o v e

  -- a call does one deed
  one_deed : (p q b : ℕ) (x y : Deed) → DeedEvent R p b x → p < q → DeedEvent R q b y → ⊥
  one_deed p q b (links h r) y (d, e, ev) l z = change_first Ins d p b r q y ev l (deed_spot q b y z)
  one_deed p q b (ends c r) y (d, e, ev) l z = change_first Del d p b r q y ev l (deed_spot q b y z)
  one_deed p q b (raises t) y (ev, e) l z = let s = deed_spot q b y z in raise_first p b ev q l s.worker s.within s.whose y s.place

  -- the deed of a call at request k, if it is a turn of the call
  abbrev here_by : ℕ → ℕ → Option Deed
  here_by k b = cond (is_sight_of_call (sight_at R k) (shown_at R k).sights b) (deed_of (sight_at R k)) None

  told_here : (k b : ℕ) (x : Deed) → here_by k b ≡ Some x → DeedEvent R k b x
  told_here k b x e = go (sight_case k)
    where
      go : SightCase k → DeedEvent R k b x
      go (at_begin w c q s) = absurd (let f : None ≡ Some x = subst (λ s. cond (is_sight_of_call s (shown_at R k).sights b) (deed_of s) None ≡ Some x) s e in cc)
      go (at_rest q s) = absurd (let f : None ≡ Some x = subst (λ s. cond (is_sight_of_call s (shown_at R k).sights b) (deed_of s) None ≡ Some x) s e in cc)
      go (a_turn w d t s) = (
          let f : cond (is_call (open_by (shown_at R k).sights w) b) (deed_in_turn k) None ≡ Some x = subst (λ s. cond (is_sight_of_call s (shown_at R k).sights b) (deed_of s) None ≡ Some x) s e in
          let (y, z) = when_true (is_call (open_by (shown_at R k).sights w) b) (deed_in_turn k) x f in
          deed_told R k w b t (sym (opens_at R k w) ∙ is_call_same (open_by (shown_at R k).sights w) b y) x z)

  seen_here : (k b : ℕ) (x : Deed) → DeedEvent R k b x → here_by k b ≡ Some x
  seen_here k b x ev =
      let z = deed_turn R k b x ev in
      let (d, s) = turn_seen k z.worker z.taken in
      let opens : open_by (shown_at R k).sights z.worker ≡ Some b = opens_at R k z.worker ∙ z.whose in
      let same : is_call (open_by (shown_at R k).sights z.worker) b ≡ true = ap (λ o. is_call o b) opens ∙ eq-eqb b b refl in
      ap (λ s. cond (is_sight_of_call s (shown_at R k).sights b) (deed_of s) None) s
      ∙ ap (λ t. cond t (deed_in_turn k) None) same ∙ event_seen R k b x ev

  deed_next : (k b : ℕ) → deed_by (shown_at R (suc k)).sights b ≡ option_or (here_by k b) (deed_by (shown_at R k).sights b)
  deed_next k b = ap (λ ss. deed_by ss b) (shown_next R k)

  deed_start : (b : ℕ) → deed_by (shown_at R 0).sights b ≡ None
  unfolding history_at
  deed_start b = refl

  pub deeds_done : (now b : ℕ) (x : Deed) → deed_by (shown_at R now).sights b ≡ Some x → Before now (λ p. DeedEvent R p b x)
  deeds_done zero b x e = absurd (let f : None ≡ Some x = sym (deed_start b) ∙ e in cc)
  deeds_done (suc k) b x e = elim (or_found (here_by k b) (deed_by (shown_at R k).sights b) x (sym (deed_next k b) ∙ e)) [
    | inl f ↦ record { time = k; before = omega arith; held = told_here k b x f }
    | inr (n, f) ↦ (let h = deeds_done k b x f in record { time = h.time; before = omega (arith, h.before); held = h.held })
  ]

  pub deeds_seen : (now b : ℕ) (x : Deed) (p : ℕ) → p < now → DeedEvent R p b x → deed_by (shown_at R now).sights b ≡ Some x
  deeds_seen zero b x p l ev = absurd (omega arith)
  deeds_seen (suc k) b x p l ev = elim (cases_eq p k) [
    | inl q ↦ deed_next k b ∙ or_first (here_by k b) (deed_by (shown_at R k).sights b) x (seen_here k b x (subst (λ j. DeedEvent R j b x) q ev))
    | inr q ↦ deed_next k b ∙ or_second (here_by k b) (deed_by (shown_at R k).sights b) x
        (some_or_none (here_by k b) (λ y e. one_deed p k b x y ev (omega arith) (told_here k b y e)))
        (deeds_seen k b x p (omega arith) ev)
  ]

pub runs_deeds : RunsDeeds
runs_deeds R now b = record { done = deeds_done R now b; seen = deeds_seen R now b }

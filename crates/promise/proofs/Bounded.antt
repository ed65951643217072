-- Calls keep their bounds: what is counted of a run, and what of the sights of its history.
use Rattle.std.proofs.Common.{◌≡◌, ℕ, zero, suc, ◌+◌, ◌<◌, ◌≤◌, Bool, true, false, not, ◌&&◌, List, length, Some, None, ◌==◌, nat_lt, ◌⊎◌, refl, sym, ◌∙◌, ap, ap₂, subst, inl, inr, arith}
use Rattle.std.proofs.lemmas.Bool.{cases_eq, cases_Bool, and_parts, eq-eqb, ne_eqb, eqb-true, lt-ltb, false≢true}
use Rattle.layout.specs.declared.sizes.Sizes.{Sizes}
use Rattle.places.specs.declared.place.Op.{Op}
use Rattle.places.specs.declared.place.Op.TheVariants.{Add, Remove, Contains}
use Rattle.places.specs.declared.place.Pair.{Pair}
use Rattle.places.specs.declared.place.Call.{Call}
use Rattle.places.specs.declared.place.Call.TheVariants as call
use Rattle.places.specs.declared.place.Place.{Place}
use Rattle.places.specs.declared.place.Place.TheVariants as place
use Rattle.machine.specs.declared.request.Request.{Request}
use Rattle.machine.specs.declared.request.Request.TheVariants as request
use Rattle.machine.specs.Requests.{turn_refused}
use Rattle.order.specs.Seen.{is_open}
use Rattle.runs.specs.Runs.{RunInTime, history_at}
use Rattle.runs.specs.Views.{head_at, place_at}
use Rattle.runs.specs.Seen.{open_at}
use Rattle.runs.specs.Purposes.{InCall}
use Rattle.runs.specs.Reasons.{BegunBy}
use Rattle.runs.proofs.Steps.{StepCase, StepCase.rests as rest, StepCase.begins, StepCase.turns, sound_at, sizes_at, case_at, within}
use Rattle.bounds.specs.Bounds.{is_turn_of_worker, is_turn_of_other, turn_of_call, turns_taken, latest_turn, other_links as links_counted, links_of_others}
use Rattle.bounds.proofs.OwnTurn.{pair_head, PairFits, place_fits}
use Rattle.bounds.proofs.Counts.{open_then, open_test, taken_first, taken_same, taken_more, latest_next, links_first, links_next, own_turn}
use Rattle.bounds.proofs.Open.{worker_is}
use Rattle.promise.specs.Sights.{Sight, Sight.begins, Sight.turns}
use Rattle.promise.specs.Calls.{Begun, begun_in, call_begun}
use Rattle.promise.specs.Bounds.{one_if, turns_had, until_turn, is_other_link, other_links, rows_linked, survey_limit, turn_limit}
use Rattle.promise.specs.Bridges.{rows_at_start, shown_at, SurveysBounded, RunsBounded}
use Rattle.promise.specs.Counts.{TurnsStep, TurnsStep.own, TurnsStep.other}
use Rattle.promise.proofs.Bridges.{sight_at, shown_next, shown_length}
use Rattle.promise.proofs.Deeds.{Taken, taken_at}
use Rattle.promise.proofs.DeedRuns.{sight_is, sight_in, rest_seen, opened_at, same_begin, turn_seen}
use Rattle.promise.proofs.Pages.{begun_by, is_named}
use Rattle.promise.proofs.CountRuns.{runs_count as count}
use Rattle.bounds.proofs.Bounds.{turns_stay_bounded as bounded}
use Rattle.order.proofs.Seen.{is_open_true}

none_some : {X P : Type 0} (x : X) → None ≡ Some x → P
none_some x e = absurd cc

is_own : (w : ℕ) (q : Request) → is_turn_of_worker w q ≡ true → q ≡ request.Turn w
is_own w (request.Turn v) e = ap request.Turn (eqb-true v w e)
is_own w q e = absurd (false≢true e)

not_in_idle : (p : Place) (c : Call) → InCall p c → ¬ (p ≡ place.Idle)
not_in_idle p c i e = subst (λ p. InCall p c) e i

more_or_same : (t : Bool) (n : ℕ) → n ≤ one_if t n
more_or_same true n = omega arith
more_or_same false n = omega arith

one_more : (n : ℕ) (t : Bool) → t ≡ true → one_if t n ≡ n + 1
one_more n t e = rw e refl

module _ (R : RunInTime) where
  begun_now : (k : ℕ) (x : Begun) → begun_in (sight_at R k) ≡ Some x → BegunBy R (suc k) x.worker k x.call
  begun_now k x e = go (case_at R k)
    where
      go : StepCase (R.state k) (R.request k) (R.state (suc k)) → BegunBy R (suc k) x.worker k x.call
      go (rest f s) = none_some x (sym (ap begun_in (rest_seen R k f)) ∙ e)
      go (begins b c q a f s) = (
          let g : BegunBy R (suc k) b.worker k c = begun_by R k b c q a f s in
          let n = is_named R k b c q a f s in
          let h : Some (record { worker = b.worker; call = c }) ≡ Some x = ap (λ c. Some (record { worker = b.worker; call = c })) n ∙ sym (ap begun_in (sight_is R k ∙ ap₂ (λ q r. sight_in R k q r) q f)) ∙ e in
          let same : record { worker = b.worker; call = c } ≡ x = cc in
          subst (λ (x : Begun). BegunBy R (suc k) x.worker k x.call) same g)
      go (turns w q n f s) = (
          let t : Taken R k w = record { asked = q; within = within R k w q n s; accepted = n; reply = f; next = s } in
          let (d, y) = turn_seen R k w t in none_some x (sym (ap begun_in y) ∙ e))

  -- a call that was seen to begin did
  pub begun_told : (now b : ℕ) (x : Begun) → call_begun (shown_at R now).sights b ≡ Some x → BegunBy R now x.worker b x.call
  unfolding history_at
  begun_told zero b x e = none_some x e
  begun_told (suc k) b x e = elim (cases_eq b (length (shown_at R k).sights)) [
    | inl q ↦ (let f : begun_in (sight_at R k) ≡ Some x = rw (eq-eqb b (length (shown_at R k).sights) q) at e in
        subst (λ b. BegunBy R (suc k) x.worker b x.call) (sym (q ∙ shown_length R k)) (begun_now k x f))
    | inr q ↦ (let f : call_begun (shown_at R k).sights b ≡ Some x = rw (ne_eqb b (length (shown_at R k).sights) q) at e in
        let g = begun_told k b x f in record { before = omega (arith, g.before); begin = g.begin; asked = g.asked; worker = g.worker; call = g.call })
  ]

  module _ (now w b : ℕ) (c : Call) (g : BegunBy R now w b c) where
    abbrev had : ℕ → ℕ
    had k = turns_had (shown_at R k).sights b

    abbrev until : ℕ → List Sight
    until k = until_turn (shown_at R k).sights b

    -- one request, as both count it
    data OneTurn (k : ℕ) : Type 0 where
      counted : turn_of_call R w b k ≡ true → had (suc k) ≡ suc (had k) → until (suc k) ≡ (shown_at R (suc k)).sights → OneTurn k
      passed : turn_of_call R w b k ≡ false → had (suc k) ≡ had k → until (suc k) ≡ until k → OneTurn k

    one_turn : (k : ℕ) → OneTurn k
    one_turn k = go ((count R k).turns b)
      where
        not_one : ((v : ℕ) → R.request k ≡ request.Turn v → v < R.sizes.workers → turn_refused (R.state k) v ≡ None → ¬ (open_at R k v ≡ Some b)) → turn_of_call R w b k ≡ false
        not_one n = elim (cases_Bool (turn_of_call R w b k)) [
          | inl y ↦ (
              let l = worker_is R now w b c g in
              let q = is_own w (R.request k) (and_parts (is_turn_of_worker w (R.request k)) (is_open (open_at R k w) b) y).0 in
              let o = open_then R w b k y in
              let here = opened_at R k w b l o in
              let t = taken_at R k w (place_at R k w) (record { asked = q; within = l; place = refl }) (not_in_idle (place_at R k w) here.call here.place) in
              absurd (n w q l t.accepted o))
          | inr y ↦ y
        ]

        go : TurnsStep R k b → OneTurn k
        go (own v q l a o h u) = (
            let same : v ≡ w = (same_begin R (opened_at R k v b l o).begun g).0 in
            let here : open_at R k w ≡ Some b = ap (open_at R k) (sym same) ∙ o in
            let e : turn_of_call R w b k ≡ true = ap (λ q. is_turn_of_worker w q && is_open (open_at R k w) b) (q ∙ ap request.Turn same) ∙ rw (own_turn w, open_test R w b k here) refl in
            counted e h u)
        go (other n h u) = passed (not_one n) h u

    pub had_is : (k : ℕ) → had k ≡ turns_taken R w b k
    unfolding history_at
    had_is zero = sym (taken_first R w b)
    had_is (suc k) = go (had_is k) (one_turn k)
      where
        go : had k ≡ turns_taken R w b k → OneTurn k → had (suc k) ≡ turns_taken R w b (suc k)
        go i (counted e h u) = h ∙ ap suc i ∙ sym (taken_more R w b k e)
        go i (passed e h u) = h ∙ i ∙ sym (taken_same R w b k e)

    -- up to the latest turn of the call, if there was one
    pub until_is : (k : ℕ) → (turns_taken R w b k ≡ 0) ⊎ (until k ≡ (shown_at R (suc (latest_turn R w b k))).sights)
    until_is zero = inl (taken_first R w b)
    until_is (suc k) = go (until_is k) (one_turn k)
      where
        go : (turns_taken R w b k ≡ 0) ⊎ (until k ≡ (shown_at R (suc (latest_turn R w b k))).sights) → OneTurn k → (turns_taken R w b (suc k) ≡ 0) ⊎ (until (suc k) ≡ (shown_at R (suc (latest_turn R w b (suc k)))).sights)
        go i (counted e h u) = inr (u ∙ ap (λ t. (shown_at R (suc t)).sights) (sym (latest_next R w b k true e)))
        go i (passed e h u) = elim i [
          | inl z ↦ inl (taken_same R w b k e ∙ z)
          | inr z ↦ inr (u ∙ z ∙ ap (λ t. (shown_at R (suc t)).sights) (sym (latest_next R w b k false e)))
        ]

  -- the links of other workers on the pair of an edge call
  module _ (now w b : ℕ) (o : Op) (p : Pair) (g : BegunBy R now w b (call.Edge o p)) where
    abbrev told : ℕ → ℕ
    told k = other_links w p b (shown_at R k).sights

    pub told_more : (k : ℕ) → told k ≤ told (suc k)
    told_more k = subst (λ ss. told k ≤ other_links w p b ss) (sym (shown_next R k)) (more_or_same (nat_lt b (length (shown_at R k).sights) && is_other_link w p (sight_at R k)) (told k))

    linked_once : (k : ℕ) → links_counted R w b (pair_head p) k ≡ true → told (suc k) ≡ told k + 1
    linked_once k e =
        let (open_other, moved) = and_parts (is_open (open_at R k w) b && is_turn_of_other w (R.request k)) (not (head_at R (suc k) (pair_head p) == head_at R k (pair_head p))) e in
        let (is, another) = and_parts (is_open (open_at R k w) b) (is_turn_of_other w (R.request k)) open_other in
        let l = worker_is R now w b (call.Edge o p) g in
        let here = opened_at R k w b l (is_open_true (open_at R k w) b is) in
        let same = (same_begin R here.begun g).1 in
        let there : w < (R.state k).sizes.workers = subst (λ (z : Sizes). w < z.workers) (sym (sizes_at R k)) l in
        let fits : PairFits (R.state k) (call.Edge o p) = place_fits (R.state k) (place_at R k w) (call.Edge o p) (subst (InCall (place_at R k w)) same here.place) ((sound_at R k).places w there) in
        let named = subst (λ (z : Sizes). (p.from < z.keys) × (p.to < z.keys)) (sizes_at R k) fits in
        let (v, q, s) = ((count R k).links w p b named).moved (λ f. false≢true (sym (rw (eq-eqb _ _ f) refl) ∙ moved)) in
        let apart : not (v == w) ≡ true = sym (ap (is_turn_of_other w) q) ∙ another in
        s ∙ one_more (told k) (nat_lt b k && not (v == w)) (rw (lt-ltb b k here.begun.before, apart) refl)

    pub links_told : (k : ℕ) → links_of_others R w b (pair_head p) k ≤ told k
    links_told zero = omega (arith, links_first R w b (pair_head p))
    links_told (suc k) = elim (cases_Bool (links_counted R w b (pair_head p) k)) [
      | inl y ↦ omega (arith, links_told k, linked_once k y, links_next R w b k (pair_head p) true y)
      | inr n ↦ omega (arith, links_told k, told_more k, links_next R w b k (pair_head p) false n)
    ]

  module _ (surveys : SurveysBounded) (now w b : ℕ) where
    abbrev ss : List Sight
    ss = (shown_at R now).sights

    keeps_bound : (c : Call) → BegunBy R now w b c → turns_had ss b ≤ turn_limit R.sizes (rows_at_start R) (until_turn ss b) b w c
    keeps_bound (call.Vertex o i) g = omega (arith, had_is now w b (call.Vertex o i) g now, bounded R now w b (call.Vertex o i) g)
    keeps_bound (call.Edge Remove p) g = omega (arith, had_is now w b (call.Edge Remove p) g now, bounded R now w b (call.Edge Remove p) g)
    keeps_bound (call.Edge Contains p) g = omega (arith, had_is now w b (call.Edge Contains p) g now, bounded R now w b (call.Edge Contains p) g)
    keeps_bound (call.Edge Add p) g = elim (until_is now w b (call.Edge Add p) g now) [
      | inl z ↦ omega (arith, had_is now w b (call.Edge Add p) g now, z)
      | inr e ↦ (
          let latest = latest_turn R w b now in
          let same : other_links w p b (until_turn ss b) ≡ other_links w p b (shown_at R (suc latest)).sights = ap (other_links w p b) e in
          omega (arith, had_is now w b (call.Edge Add p) g now, bounded R now w b (call.Edge Add p) g, links_told now w b Add p g latest, told_more now w b Add p g latest, same))
    ]
    keeps_bound (call.Survey v) g = elim (until_is now w b (call.Survey v) g now) [
      | inl z ↦ omega (arith, had_is now w b (call.Survey v) g now, z)
      | inr e ↦ (
          let same : rows_linked (until_turn ss b) ≡ rows_linked (shown_at R (suc (latest_turn R w b now))).sights = ap rows_linked e in
          subst (λ n. turns_had ss b ≤ survey_limit R.sizes (rows_at_start R + n)) (sym same) (omega (arith, had_is now w b (call.Survey v) g now, surveys R now w b v g)))
    ]

pub runs_bounded : SurveysBounded → RunsBounded
runs_bounded surveys R now b x e =
    keeps_bound R surveys now x.worker b x.call (begun_told R now b x e)

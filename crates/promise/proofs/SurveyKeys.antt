-- Snapshots and reaches keep their bound, and have keys in the past that cells and turns tell.
use Rattle.std.proofs.Common.{◌≡◌, ℕ, zero, suc, ◌<◌, Bool, true, false, cond, eqb, nat_lt, Some, None, Option, option_map, refl, sym, ◌∙◌, ap, subst, arith, ◌⊎◌, inl, inr, ⊎_elim}
use Rattle.std.specs.Prelude.{IsSome}
use Rattle.std.proofs.lemmas.Bool.{cases_eq, eq-eqb, ne_eqb, false≢true}
use Rattle.places.specs.declared.place.Survey.{Survey}
use Rattle.places.specs.declared.place.Call.{Call}
use Rattle.places.specs.declared.place.Call.TheVariants as call
use Rattle.order.specs.Past.{Finish, Belongs}
use Rattle.order.specs.Keys.{Key}
use Rattle.order.specs.Finds.{RowChange, no_change}
use Rattle.order.specs.Marked.{CallMarked}
use Rattle.order.specs.Seen.{CallSight, CallSight.begins, CallSight.finishes, CallSight.neither, call_begun, past_of}
use Rattle.runs.specs.Runs.{RunInTime}
use Rattle.runs.specs.Views.{clock_at}
use Rattle.runs.specs.Seen.{seen, open_at}
use Rattle.runs.specs.Marking.{time_bound, RunMarks}
use Rattle.bounds.specs.Bounds.{links_row}
use Rattle.surveys.specs.Raises.{is_request_of_call, raising, raising_turn, raise_before}
use Rattle.surveys.specs.Marked.{run_past, key_from}
use Rattle.surveys.proofs.Raised.{Raised, raised, raising_true}
use Rattle.promise.specs.Bridges.{stamp_at, raise_at, lower_at, past_at, SurveysBounded, OrdersSuffice, RunsSuffice}
use Rattle.promise.specs.Counts.{SurveysFollow}
use Rattle.promise.specs.Deeds.{RaiseEvent}
use Rattle.promise.specs.Keyed.{marking, KeysSuffice}
use Rattle.promise.specs.Points.{RaisesAgree, SurveyKeyed, RunsKeySurveys, PointsSuffice, PromiseFollows}
use Rattle.promise.proofs.Stamps.{stamps_told as told}
use Rattle.surveys.proofs.Only.{surveys_change_none as none}
use Rattle.surveys.proofs.Marked.{surveys_marked as marked}
use Rattle.bounds.proofs.Counted.{runs_count as count}
use Rattle.bounds.proofs.SurveyTurns.{surveys_stay_bounded as bounded}

pub surveys_bounded : SurveysFollow → SurveysBounded
surveys_bounded follow = follow links_row (λ R. (count R).rows) (λ R. (count R).each_row) bounded

no_number : {X : Type 0} {t : X} → ◌≡◌ {A = Option X} None (Some t) → ⊥
no_number e = absurd cc

not_some : {X : Type 0} (o : Option X) → o ≡ None → IsSome o → ⊥
not_some None e s = absurd cc
not_some (Some x) e s = absurd cc

some_or_none : {X : Type 0} (o : Option X) → ((x : X) × (o ≡ Some x)) ⊎ (o ≡ None)
some_or_none None = inr refl
some_or_none (Some x) = inl (x, refl)

-- the turn that raised is before now, and where none is found none raised
raising_before : (R : RunInTime) (b k r : ℕ) → raising_turn R b k ≡ Some r → r < k
unfolding raising_turn
raising_before R b zero r e = absurd cc
raising_before R b (suc k) r e = by_test (raising_before R b k r) (raising R b k) e
  where
    by_test : (raising_turn R b k ≡ Some r → r < k) → (t : Bool) → cond t (Some k) (raising_turn R b k) ≡ Some r → r < suc k
    by_test before true z = (let same : k ≡ r = cc in omega (arith, same))
    by_test before false z = omega (arith, before z)

none_raised : (R : RunInTime) (b k p : ℕ) → raising_turn R b k ≡ None → p < k → raising R b p ≡ true → ⊥
unfolding raising_turn
none_raised R b zero p e l y = absurd (omega (arith, l))
none_raised R b (suc k) p e l y = by_test (λ z s. none_raised R b k p z s y) (raising R b k) refl e
  where
    by_test : (raising_turn R b k ≡ None → p < k → ⊥) → (t : Bool) → raising R b k ≡ t → cond t (Some k) (raising_turn R b k) ≡ None → ⊥
    by_test before true q z = no_number (sym z)
    by_test before false q z = elim (cases_eq p k) [
      | inl s ↦ absurd (false≢true (sym q ∙ ap (raising R b) (sym s) ∙ y))
      | inr n ↦ before z (omega (arith, l, n))
    ]

module _ (R : RunInTime) (now : ℕ) where
  event_of : (b r : ℕ) → Raised R b r → RaiseEvent R r b
  event_of b r x = record { worker = x.step.worker; survey = x.step.survey; turn = x.step.turn; whose = x.whose; moved = omega (arith, x.step.next) }

  raising_of : (b p : ℕ) → RaiseEvent R p b → raising R b p ≡ true
  raising_of b p x =
      let a : is_request_of_call (open_at R p) b (R.request p) ≡ true = ap (is_request_of_call (open_at R p) b) x.turn.asked ∙ rw (x.whose) (eq-eqb b b refl) in
      let m : eqb (clock_at R (suc p)) (clock_at R p) ≡ false = ne_eqb _ _ (λ e. omega (arith, x.moved, e)) in
      rw (a, m) refl

  pub same_raise : (b : ℕ) → raise_at R now b ≡ raise_before R now b
  same_raise b = by_turn (raising_turn R b now) refl
    where
      by_seen : raising_turn R b now ≡ None → (o : Option ℕ) → raise_at R now b ≡ o → raise_at R now b ≡ None
      by_seen z None e = e
      by_seen z (Some t) e = absurd (let h = (told R now b).raised t e in none_raised R b now h.time z h.before (raising_of b h.time h.held.0))

      by_turn : (o : Option ℕ) → raising_turn R b now ≡ o → raise_at R now b ≡ raise_before R now b
      by_turn None z = by_seen z (raise_at R now b) refl ∙ sym (ap (option_map (clock_at R)) z)
      by_turn (Some r) z =
          (told R now b).raises_from r (raising_before R b now r z) (event_of b r (raised R b r (raising_true R b now r z)))
          ∙ sym (ap (option_map (clock_at R)) z)

  pub same_past : past_at R now ≡ run_past R now (stamp_at R now) (lower_at R now)
  same_past = λ i. past_of (seen R) now (stamp_at R now) (λ b. same_raise b i) (lower_at R now)

  -- a call that began was seen to begin
  pub seen_as : (s : CallSight) (t : Bool) (c : Call) → cond t (call_begun s) None ≡ Some c → (w : ℕ) × (s ≡ begins w c)
  seen_as (begins w d) true c e = (w, (let same : d ≡ c = cc in ap (begins w) same))
  seen_as (begins w d) false c e = absurd cc
  seen_as (finishes w a p) true c e = absurd cc
  seen_as (finishes w a p) false c e = absurd cc
  seen_as neither true c e = absurd cc
  seen_as neither false c e = absurd cc

  part_of : (o : Option ℕ) (f : ℕ) → ((key_from R now o f).part ≡ 0) ⊎ ((key_from R now o f).part ≡ time_bound now)
  part_of None f = inl refl
  part_of (Some r) f = inr refl

  module _ (m : RunMarks R now) (b : ℕ) (v : Survey) (w : ℕ) (s : seen R b ≡ begins w (call.Survey v)) where
    -- an unfinished snapshot or reach has made no change, so it does not belong
    finished : Belongs (past_at R now) b → (f : Finish) × ((past_at R now).finish b ≡ Some f)
    finished x = by_finish (some_or_none ((past_at R now).finish b))
      where
        by_stamp : (o : Option ℕ) → stamp_at R now b ≡ o → IsSome (stamp_at R now b) → ⊥
        by_stamp None e y = not_some (stamp_at R now b) e y
        by_stamp (Some n) e y = (let h = (told R now b).stamped n e in none R w b v s h.field h.made.time h.change h.row h.made.held)

        by_finish : ((f : Finish) × ((past_at R now).finish b ≡ Some f)) ⊎ ((past_at R now).finish b ≡ None) → (f : Finish) × ((past_at R now).finish b ≡ Some f)
        by_finish (inl f) = f
        by_finish (inr n) = absurd (⊎_elim (λ (y : IsSome ((past_at R now).finish b)). not_some _ n y) (λ (y : IsSome (stamp_at R now b)). by_stamp (stamp_at R now b) refl y) x.done)

    keyed : (f : Finish) → (past_at R now).finish b ≡ Some f → SurveyKeyed R now m.marks b
    keyed f e =
        let z = λ (keys : ℕ → Option Key) (change : ℕ → RowChange) (n : change b ≡ no_change). marked R now m.marks m.tells m.sound (stamp_at R now) (lower_at R now) keys change w b v f s e n in
        record {
          finish = f;
          finished = e;
          key = key_from R now (raising_turn R b now) f.time;
          turn = (z (λ c. None) (λ c. no_change) refl).turn;
          part = part_of (raising_turn R b now) f.time;
          owed = λ keys change n. subst (λ h. CallMarked h (marking R now m.marks keys change) b (key_from R now (raising_turn R b now) f.time)) (sym same_past) (z keys change n).owed;
        }

pub raises_agree : RaisesAgree
raises_agree R now b = same_raise R now b

pub runs_key_surveys : RunsKeySurveys
runs_key_surveys R now m b v e x =
    let s = seen_as R now (seen R b) (nat_lt b now) (call.Survey v) e in
    let f = finished R now m b v s.0 s.1 x in
    keyed R now m b v s.0 s.1 f.0 f.1

pub points_suffice : RunsKeySurveys → PointsSuffice
points_suffice keyed points R now m = points R now m (keyed R now m)

pub promise_follows : PointsSuffice → KeysSuffice → OrdersSuffice → RunsSuffice → PromiseFollows
promise_follows points keys orders runs keyed = runs (orders (keys (points keyed)))

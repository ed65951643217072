-- A snapshot or reach of a run stays within the limit of its turns.
use Rattle.std.proofs.Common.{◌≡◌, ℕ, zero, suc, ◌+◌, ◌*◌, ◌<◌, ◌≤◌, ◌⊎◌, min, Bool, true, false, Some, None, Continue, Break, sym, refl, ◌∙◌, subst, subst₂, inl, inr, arith}
use Rattle.layout.specs.declared.sizes.Sizes.{Sizes}
use Rattle.codes.specs.declared.answer.Answer.{Answer}
use Rattle.places.specs.declared.place.Survey.{Survey}
use Rattle.places.specs.declared.place.Call.TheVariants as call
use Rattle.places.specs.Flows.{Flow}
use Rattle.machine.specs.declared.request.Request.TheVariants as request
use Rattle.machine.specs.Turns.{turned}
use Rattle.runs.specs.Runs.{RunInTime}
use Rattle.runs.specs.Seen.{open_at}
use Rattle.runs.specs.Reasons.{BegunBy}
use Rattle.walks.specs.Memory.{memory_of}
use Rattle.walks.specs.Courses.{Course}
use Rattle.walks.specs.Surveys.{turn_of, TurnDone, goes_to}
use Rattle.walks.specs.Turns.{surveyor_of, goes}
use Rattle.walks.specs.Budgets.{Counted, WithinLimit}
use Rattle.walks.specs.Histories.{run_course}
use Rattle.walks.specs.Calls.{run_surveyor}
use Rattle.runs.proofs.Steps.{sizes_at}
use Rattle.bounds.specs.Bounds.{count_before, links_row, rows_held_at_start, is_turn_of_worker, turn_of_call, turns_taken, latest_turn}
use Rattle.bounds.specs.Surveys.{SurveysStayBounded}
use Rattle.bounds.proofs.Counts.{both_true, open_then, open_test, none_taken, no_turn_counts, count_is, latest_next, taken_same, own_turn}
use Rattle.bounds.proofs.Open.{open_call, worker_is}
use Rattle.walks.proofs.OpenBack.{open_back}
use Rattle.bounds.proofs.Rows.{rows, rows_met_fit}
use Rattle.bounds.proofs.SurveySteps.{Step, own, rests, step, done, goes_on, closes}
use Rattle.walks.proofs.RunCourses.{runs_give_steps as give}
use Rattle.walks.proofs.Steps.{steps_give_laws as laws}
use Rattle.walks.proofs.Limits.{turns_fit as fit}
use Rattle.walks.proofs.RunSurveys.{runs_survey as survey}

module _ (R : RunInTime) (w b : ℕ) (v : Survey) (l : w < R.sizes.workers) (since : ℕ) (begun : BegunBy R since w b (call.Survey v)) where
  before : (k : ℕ) → open_at R k w ≡ Some b → b < k
  before k o = (open_call R k since w b (call.Survey v) l o begun).before

  by : (k : ℕ) → b < k → BegunBy R k w b (call.Survey v)
  by k m = record { before = m; begin = begun.begin; asked = begun.asked; worker = begun.worker; call = begun.call }

  -- what is shown of two times of the run holds of the course
  abbrev Moves : ℕ → ℕ → Type 0
  Moves a d = (turn_of R.sizes.keys R.sizes.top (memory_of (R.state a)) (surveyor_of (R.state a) w) ≡ goes_to (surveyor_of (R.state d) w)) ×
      TurnDone R.sizes.top (memory_of (R.state a)) (memory_of (R.state d)) (surveyor_of (R.state a) w)

  abbrev Same : ℕ → ℕ → Type 0
  Same a d = surveyor_of (R.state d) w ≡ surveyor_of (R.state a) w

  -- a turn of the call counts
  counts_one : (k : ℕ) → open_at R k w ≡ Some b → R.request k ≡ request.Turn w → turns_taken R w b (suc k) ≡ suc (turns_taken R w b k)
  counts_one k o q =
      let f = open_test R w b k o in
      let t : turn_of_call R w b k ≡ true = rw q (rw (own_turn w, f) refl) in
      omega (arith, count_is k (turn_of_call R w b) true t)

  done_then : (k : ℕ) (o : open_at R k w ≡ Some b) → R.state (suc k) ≡ turned (R.state k) w →
      TurnDone R.sizes.top (memory_of (R.state k)) (memory_of (R.state (suc k))) (surveyor_of (R.state k) w)
  done_then k o e = subst₂ (λ (z : Sizes) t. TurnDone z.top (memory_of (R.state k)) (memory_of t) (surveyor_of (R.state k) w)) (sizes_at R k) (sym e)
      (done R w b v l since begun k o)

  -- a step while the call stays open
  steps_on : (k : ℕ) → open_at R k w ≡ Some b → open_at R (suc k) w ≡ Some b →
      (Same k (suc k) × (turns_taken R w b (suc k) ≡ turns_taken R w b k)) ⊎ (Moves k (suc k) × (turns_taken R w b (suc k) ≡ suc (turns_taken R w b k)))
  steps_on k o then = by_step (step R w b v l since begun k o)
    where
      by_step : Step R w b v l since begun k o →
          (Same k (suc k) × (turns_taken R w b (suc k) ≡ turns_taken R w b k)) ⊎ (Moves k (suc k) × (turns_taken R w b (suc k) ≡ suc (turns_taken R w b k)))
      by_step (rests n e) = inl (e, no_turn_counts R w b k n)
      by_step (own q n e) = by_out (goes (R.state k) w).out refl
        where
          by_out : (x : Flow) → (goes (R.state k) w).out ≡ x →
              (Same k (suc k) × (turns_taken R w b (suc k) ≡ turns_taken R w b k)) ⊎ (Moves k (suc k) × (turns_taken R w b (suc k) ≡ suc (turns_taken R w b k)))
          by_out (Continue p) f = inr (
            (
              subst (λ (z : Sizes). turn_of z.keys z.top (memory_of (R.state k)) (surveyor_of (R.state k) w) ≡ goes_to (surveyor_of (R.state (suc k)) w)) (sizes_at R k)
                  (goes_on R w b v l since begun k o q n e p f).0,
              done_then k o e,
            ),
            counts_one k o q,
          )
          by_out (Break a) f = absurd (let x : None ≡ Some b = sym (closes R w b v l since begun k o q n e a f) ∙ then in cc)

  module _ (now till : ℕ) (far : till ≤ now) (o : open_at R till w ≡ Some b) where
    abbrev c : Course
    c = run_course R now

    open_then' : (k : ℕ) → b < k → k ≤ till → open_at R k w ≡ Some b
    open_then' k m u = open_back R w b till o k m u

    counted : Counted c R.sizes.keys R.sizes.top v (suc b) till (run_surveyor R now w) (turns_taken R w b)
    counted = record {
      run = survey R now w b till v far l (by till (before till o)) o;
      from = none_taken R w b (suc b) (λ t m x. omega (arith, before t x));
      counts = λ k m u. counts k m u;
    }
      where
        counts : (k : ℕ) → suc b ≤ k → k < till → ((run_surveyor R now w (suc k) ≡ run_surveyor R now w k) × (turns_taken R w b (suc k) ≡ turns_taken R w b k)) ⊎
            ((turn_of R.sizes.keys R.sizes.top (c.at k) (run_surveyor R now w k) ≡ goes_to (run_surveyor R now w (suc k))) × TurnDone R.sizes.top (c.at k) (c.at (suc k)) (run_surveyor R now w k) ×
            (turns_taken R w b (suc k) ≡ suc (turns_taken R w b k)))
        counts k m u = by_case (steps_on k (open_then' k m (omega arith)) (open_then' (suc k) (omega arith) u))
          where
            a : k ≡ min k now
            a = omega arith

            d : suc k ≡ min (suc k) now
            d = omega arith

            by_case : (Same k (suc k) × (turns_taken R w b (suc k) ≡ turns_taken R w b k)) ⊎ (Moves k (suc k) × (turns_taken R w b (suc k) ≡ suc (turns_taken R w b k))) →
                ((run_surveyor R now w (suc k) ≡ run_surveyor R now w k) × (turns_taken R w b (suc k) ≡ turns_taken R w b k)) ⊎
                ((turn_of R.sizes.keys R.sizes.top (c.at k) (run_surveyor R now w k) ≡ goes_to (run_surveyor R now w (suc k))) × TurnDone R.sizes.top (c.at k) (c.at (suc k)) (run_surveyor R now w k) ×
                (turns_taken R w b (suc k) ≡ suc (turns_taken R w b k)))
            by_case (inl x) = inl (subst₂ Same a d x.0, x.1)
            by_case (inr x) = (let y = subst₂ Moves a d x.0 in inr (y.0, y.1, x.1))

    within : WithinLimit c R.sizes.keys R.sizes.top till (run_surveyor R now w) (turns_taken R w b)
    within = fit c R.sizes.keys (laws c R.sizes.keys (give R now)) R.sizes.top v (suc b) till (run_surveyor R now w) (turns_taken R w b) counted (before till o)

    -- by the rows in chains, so by those of the start and those that were linked
    within_rows : turns_taken R w b till ≤ 1 + 8 * (R.sizes.keys * R.sizes.keys) + rows R now till
    within_rows = omega (arith, within.sofar, rows_met_fit R now till)

    answer_within : (a : Answer) → TurnDone R.sizes.top (c.at till) (c.at (suc till)) (run_surveyor R now w till) →
        (turn_of R.sizes.keys R.sizes.top (c.at till) (run_surveyor R now w till)).out ≡ Break a → suc (turns_taken R w b till) ≤ 1 + 8 * (R.sizes.keys * R.sizes.keys) + rows R now (suc till)
    answer_within a d e = omega (arith, within.answered a d e, rows_met_fit R now (suc till))

  -- with a turn of the call, by the rows that are linked then
  abbrev most : ℕ → ℕ
  most k = 1 + 8 * (R.sizes.keys * R.sizes.keys) + (rows_held_at_start R + count_before k (links_row R))

  turn_within : (k : ℕ) → turn_of_call R w b k ≡ true → turns_taken R w b (suc k) ≤ most (suc k)
  turn_within k t = by_step (step R w b v l since begun k o)
    where
      o : open_at R k w ≡ Some b
      o = open_then R w b k t

      here : k ≡ min k (suc k)
      here = omega arith

      next : suc k ≡ min (suc k) (suc k)
      next = omega arith

      by_step : Step R w b v l since begun k o → turns_taken R w b (suc k) ≤ most (suc k)
      by_step (rests n e) = absurd (let x = sym (both_true (is_turn_of_worker w (R.request k)) _ t).0 ∙ n in cc)
      by_step (own q n e) = by_out (goes (R.state k) w).out refl
        where
          by_out : (x : Flow) → (goes (R.state k) w).out ≡ x → turns_taken R w b (suc k) ≤ most (suc k)
          by_out (Continue p) f =
              let then = (goes_on R w b v l since begun k o q n e p f).1 in
              subst (λ j. turns_taken R w b (suc k) ≤ most j) (sym next) (within_rows (suc k) (suc k) (omega arith) then)
          by_out (Break a) f =
              let d = subst₂ (λ i j. TurnDone R.sizes.top (memory_of (R.state i)) (memory_of (R.state j)) (surveyor_of (R.state i) w)) here next (done_then k o e) in
              let g = subst (λ i. (turn_of R.sizes.keys R.sizes.top (memory_of (R.state i)) (surveyor_of (R.state i) w)).out ≡ Break a) here
              (subst (λ (z : Sizes). (turn_of z.keys z.top (memory_of (R.state k)) (surveyor_of (R.state k) w)).out ≡ Break a) (sizes_at R k) f) in
              let m : suc (turns_taken R w b k) ≤ most (min (suc k) (suc k)) = answer_within (suc k) k (omega arith) o a d g in
              subst₂ (λ x j. x ≤ most j) (sym (counts_one k o q)) (sym next) m

  -- at any time, by the rows linked up to the latest turn
  abbrev Taken : ℕ → Type 0
  Taken k = turns_taken R w b k ≤ most (suc (latest_turn R w b k))

  taken_next : (k : ℕ) (x : Bool) → turn_of_call R w b k ≡ x → Taken k → Taken (suc k)
  taken_next k true e h = rw (latest_next R w b k true e) (omega (arith, turn_within k e))
  taken_next k false e h = rw (latest_next R w b k false e, taken_same R w b k e) h

  taken_within : (k : ℕ) → Taken k
  taken_within zero = omega (arith, none_taken R w b zero (λ t a o. omega arith))
  taken_within (suc k) = taken_next k (turn_of_call R w b k) refl (taken_within k)

pub surveys_stay_bounded : SurveysStayBounded
surveys_stay_bounded R now w b v begun =
    taken_within R w b v (worker_is R now w b (call.Survey v) begun) now begun now

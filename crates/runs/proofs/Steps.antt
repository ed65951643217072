-- Every step of every run keeps the laws of one step.
use Rattle.std.proofs.Common.{◌≡◌, ℕ, suc, ◌<◌, Bool, true, false, Some, None, Ok, Err, Option, Result, sym, refl, ap, ◌∙◌, subst, inl, arith}
use Rattle.codes.specs.declared.refusal.Refusal.{Refusal}
use Rattle.layout.specs.declared.names.Kind.{Kind}
use Rattle.layout.specs.declared.names.Field.{Field}
use Rattle.layout.specs.declared.names.Field.TheVariants.{Ins}
use Rattle.places.specs.declared.place.Change.{Change}
use Rattle.places.specs.declared.place.Stage.TheVariants as stage
use Rattle.places.specs.declared.place.Purpose.TheVariants as purpose
use Rattle.places.specs.declared.place.Place.TheVariants as place
use Rattle.places.specs.Touches.{change_head, change_kind}
use Rattle.layout.specs.declared.names.Cell.TheVariants as cell
use Rattle.layout.specs.declared.sizes.Sizes.{Sizes}
use Rattle.places.specs.declared.call.Begin.{Begin}
use Rattle.places.specs.declared.place.Call.{Call}
use Rattle.places.specs.Marks.{pending, mark_of}
use Rattle.machine.specs.declared.request.Request.{Request}
use Rattle.machine.specs.declared.request.Request.TheVariants as request
use Rattle.machine.specs.declared.request.Reply.{Reply}
use Rattle.machine.specs.declared.request.Reply.TheVariants as reply
use Rattle.machine.specs.States.{State}
use Rattle.machine.specs.Turns.{worker_at, followed_at, answer_at, turned}
use Rattle.machine.specs.Effects.{linked_cells}
use Rattle.machine.specs.Workers.{at, counted}
use Rattle.machine.specs.Requests.{done_or, answered_or, unless_refused, call_to_begin, state_begun, turn_refused, state_or, reply_of, stepped}
use Rattle.laws.specs.Fits.{Linked}
use Rattle.laws.specs.Changes.{next_own, number_in}
use Rattle.laws.specs.Laws.{TurnLaws}
use Rattle.laws.specs.Sound.{Sound}
use Rattle.laws.specs.Clean.{IsStamp}
use Rattle.laws.specs.Stamps.{Moves, StampLaws}
use Rattle.laws.proofs.Taken.{turn_taken}
use Rattle.laws.proofs.Rests.{SameRows, rows_on, rows_back, numbers_same, Rests, same_rests, take_rests, give_rests}
use Rattle.runs.specs.Runs.{RunInTime, history_at}
use Rattle.runs.specs.Steps.{LinkStep, HeadSteps.stays, MarkSteps.same, StepLaws, RunsStep}
use Rattle.runs.proofs.Histories.{traced}
use Rattle.runs.proofs.TurnSteps.{linking, turn_step}
use Rattle.laws.proofs.Runs.{runs_sound as sound, runs_keep_laws as keep}
use Rattle.laws.proofs.StampRuns.{runs_stamp as stamp}

-- a begin that is accepted, or a turn that is
abbrev pub acts : Request → Reply → Bool
acts (request.Begin b) reply.Done = true
acts (request.Turn w) reply.Running = true
acts (request.Turn w) (reply.Answered a) = true
acts q y = false

-- what a request can do to the state: all rests but the state of a page, a call begins, or there is a turn
pub data StepCase (s : State) (q : Request) (t : State) : Type 0 where
  rests : acts q (reply_of s q) ≡ false → Rests s t → StepCase s q t
  begins : (b : Begin) (c : Call) → q ≡ request.Begin b → call_to_begin s b ≡ Ok c → reply_of s q ≡ reply.Done → t ≡ state_begun s b.worker (Ok c) → StepCase s q t
  turns : (w : ℕ) → q ≡ request.Turn w → turn_refused s w ≡ None → reply_of s q ≡ answered_or (Ok (answer_at s w)) → t ≡ turned s w → StepCase s q t

pub step_case : (s : State) (q : Request) → StepCase s q (stepped s q)
step_case s (request.Begin b) = go (call_to_begin s b) refl
  where
    go : (r : Result Call Refusal) → call_to_begin s b ≡ r → StepCase s (request.Begin b) (state_begun s b.worker r)
    go (Ok c) e = begins b c refl e (ap done_or e) refl
    go (Err x) e = rests (ap (λ r. acts (request.Begin b) (done_or r)) e) (same_rests s)
step_case s (request.Turn w) = go (turn_refused s w) refl
  where
    go : (r : Option Refusal) → turn_refused s w ≡ r → StepCase s (request.Turn w) (state_or r s (turned s w))
    go None e = turns w refl e (ap (λ r. answered_or (unless_refused r (answer_at s w))) e) refl
    go (Some x) e = rests (ap (λ r. acts (request.Turn w) (answered_or (unless_refused r (answer_at s w)))) e) (same_rests s)
step_case s (request.Take w) = rests refl (take_rests s w)
step_case s (request.Give t) = rests refl (give_rests s t)

module _ (R : RunInTime) where
  pub sound_at : (k : ℕ) → Sound (R.state k)
  sound_at k = sound (R.state 0) R.clean (history_at R k) (R.state k) (traced R k)

  pub stamps_at : (k : ℕ) → StampLaws (R.state 0) (history_at R k) (R.state k)
  stamps_at k = stamp (R.state 0) R.clean (history_at R k) (R.state k) (traced R k)

  pub sizes_at : (k : ℕ) → (R.state k).sizes ≡ R.sizes
  sizes_at k = (stamps_at k).sizes ∙ R.start

  pub case_at : (k : ℕ) → StepCase (R.state k) (R.request k) (R.state (suc k))
  case_at k = subst (StepCase (R.state k) (R.request k)) (sym (R.next k)) (step_case (R.state k) (R.request k))

  still : (k : ℕ) → SameRows (R.state k) (R.state (suc k)) → StepLaws R k
  still k e = record {
    clock = omega (arith, numbers_same (R.state k) (R.state (suc k)) e cell.Clock);
    linked = rows_on (R.state k) (R.state (suc k)) e;
    news = λ c r l. inl (rows_back (R.state k) (R.state (suc k)) e c r l);
    heads = λ h n. stays (numbers_same (R.state k) (R.state (suc k)) e (cell.Head h));
    marks = λ c f r l. same (ap mark_of (numbers_same (R.state k) (R.state (suc k)) e (cell.Stamp c f r)));
    older = λ c r l. numbers_same (R.state k) (R.state (suc k)) e (cell.Older c r);
    source = λ r l. numbers_same (R.state k) (R.state (suc k)) e (cell.Source r);
    target = λ r l. numbers_same (R.state k) (R.state (suc k)) e (cell.Target r);
    weight = λ r l. numbers_same (R.state k) (R.state (suc k)) e (cell.Weight r);
  }

  module _ (k w : ℕ) (q : R.request k ≡ request.Turn w) (n : turn_refused (R.state k) w ≡ None) (e : R.state (suc k) ≡ turned (R.state k) w) where
    pub here : w < (R.state k).sizes.workers
    here = turn_taken (R.state k) w n

    pub within : w < R.sizes.workers
    within = subst (λ (y : Sizes). w < y.workers) (sizes_at k) here

    pub laws_at : TurnLaws (R.state k) w
    laws_at = keep (R.state 0) R.clean (history_at R k) (R.state k) (traced R k) w here

    pub apart_at : (n : ℕ) → IsStamp R.sizes n → ¬ (n ≡ 0) × ¬ (n ≡ pending)
    apart_at = subst (λ z. (n : ℕ) → IsStamp z n → ¬ (n ≡ 0) × ¬ (n ≡ pending)) (sizes_at k) (stamps_at k).apart

    moves_at : (c : Kind) (f : Field) (r : ℕ) → Linked (R.state k) c r → Moves R.sizes f (number_in (R.state k) (cell.Stamp c f r)) (number_in (turned (R.state k) w) (cell.Stamp c f r))
    moves_at = subst (λ z. (c : Kind) (f : Field) (r : ℕ) → Linked (R.state k) c r → Moves z f (number_in (R.state k) (cell.Stamp c f r)) (number_in (turned (R.state k) w) (cell.Stamp c f r))) (sizes_at k) ((stamps_at k).turns w here)

    turning : StepLaws R k
    turning = turn_step R k w q within (sizes_at k) e (sound_at k) laws_at apart_at moves_at ((stamps_at k).starts w here)

    -- a link turn that won
    pub won_step : (d : Change) (h r : ℕ) → (worker_at (R.state k) w).place ≡ place.Link d h → next_own (R.state k) w (change_kind d) ≡ Some r → number_in (R.state k) (cell.Head (change_head d)) ≡ h
        → (followed_at (R.state k) w).worker ≡ at (counted (worker_at (R.state k) w) (change_kind d)) (place.Settle stage.First (purpose.Own Ins d r)) → (turned (R.state k) w).cells ≡ linked_cells (R.state k).sizes (R.state k).cells d h r → LinkStep R k d r
    won_step = linking R k w q within (sizes_at k) e (sound_at k) laws_at apart_at moves_at ((stamps_at k).starts w here)

  pub step_laws : (k : ℕ) → StepLaws R k
  step_laws k = go (case_at k)
    where
      go : StepCase (R.state k) (R.request k) (R.state (suc k)) → StepLaws R k
      go (rests f e) = still k e.rows
      go (begins b c q a f e) = still k (subst (SameRows (R.state k)) (sym e) (record { cells = refl; sizes = refl }))
      go (turns w q n f e) = turning k w q n e

pub runs_step : RunsStep
runs_step R k = step_laws R k

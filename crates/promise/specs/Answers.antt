-- What a finished call has done: whose answer it was, that a call that changed the graph bears its stamp, and which calls raised the clock.
use Rattle.std.specs.Prelude.{◌≡◌, ℕ, suc, ◌<◌, true, ◌⊎◌, Some, IsSome}
use Rattle.codes.specs.declared.answer.Answer.{Answer}
use Rattle.codes.specs.declared.answer.Answer.TheVariants.{VertexAbsent, SnapshotTaken, ReachTaken}
use Rattle.places.specs.declared.place.Survey.{Survey}
use Rattle.places.specs.declared.place.Survey.TheVariants.{Snapshot, Reach}
use Rattle.places.specs.declared.place.Call.{Call}
use Rattle.places.specs.declared.place.Call.TheVariants as calls
use Rattle.machine.specs.declared.request.Request.TheVariants.{Turn}
use Rattle.machine.specs.declared.request.Reply.TheVariants.{Answered}
use Rattle.machine.specs.Requests.{reply_of}
use Rattle.order.specs.Graph.{is_change}
use Rattle.order.specs.Past.{Finish}
use Rattle.runs.specs.Runs.{RunInTime}
use Rattle.runs.specs.Seen.{page_graph, open_at}
use Rattle.runs.specs.Views.{place_at}
use Rattle.runs.specs.Purposes.{place_made}
use Rattle.runs.specs.Reasons.{BegunBy, HasReason}
use Rattle.promise.specs.Bridges.{stamp_at, raise_at, past_at}

-- what a snapshot or reach answers that raised the clock: 30; 31 or 13
abbrev pub Surveyed : Survey → Answer → Type 0
Surveyed Snapshot a = a ≡ SnapshotTaken
Surveyed (Reach i) a = (a ≡ ReachTaken) ⊎ (a ≡ VertexAbsent)

module _ (R : RunInTime) where
  -- the call that began at b is finished
  pub record FinishTold (now b : ℕ) (f : Finish) : Type 0 where
    pub worker : ℕ
    pub call : Call
    pub begun : BegunBy R now worker b call
    -- by a turn of its worker, whose page then showed this
    pub before : f.time < now
    pub asked : R.request f.time ≡ Turn worker
    pub reply : reply_of (R.state f.time) (Turn worker) ≡ Answered f.answer
    pub whose : open_at R f.time worker ≡ Some b
    pub page : f.page ≡ page_graph (R.state (suc f.time)) worker
    -- its answer is right
    pub right : HasReason R (suc f.time) b call (place_made (place_at R f.time worker)) f.answer
    -- 10, 12, 20 and 22: its change bears its stamp
    pub stamped : is_change f.answer ≡ true → IsSome (stamp_at R now b)
    -- only a snapshot or reach that answers 30, 31 or 13 raised the clock
    pub raised : (t : ℕ) → raise_at R now b ≡ Some t → (v : Survey) × (call ≡ calls.Survey v) × Surveyed v f.answer

abbrev pub RunsAnswersTold : Type 0
RunsAnswersTold = (R : RunInTime) (now b : ℕ) (f : Finish) → (past_at R now).finish b ≡ Some f → FinishTold R now b f

-- The answers of the snapshots and reaches of a run.
use Rattle.std.specs.Prelude.{◌≡◌, ℕ, suc, ◌<◌, ◌≢◌, Some}
use Rattle.codes.specs.declared.answer.Answer.{Answer}
use Rattle.codes.specs.declared.answer.Answer.TheVariants.{ClockSpent}
use Rattle.places.specs.declared.place.Survey.{Survey}
use Rattle.places.specs.declared.place.Call.TheVariants as call
use Rattle.machine.specs.declared.request.Request.TheVariants.{Turn}
use Rattle.machine.specs.declared.request.Reply.TheVariants.{Answered}
use Rattle.machine.specs.Requests.{reply_of}
use Rattle.runs.specs.Runs.{RunInTime}
use Rattle.runs.specs.Seen.{open_at}
use Rattle.runs.specs.Reasons.{BegunBy}
use Rattle.walks.specs.Placed.{RightAtRaise}
use Rattle.walks.specs.Turns.{goes}
use Rattle.walks.specs.Histories.{run_course}

-- every answer but 41 is right of the graph just before the key of the raise
abbrev pub RunsPagesRight : Type 0
RunsPagesRight = (R : RunInTime) (now w began till : ℕ) (v : Survey) (a : Answer) → till < now → w < R.sizes.workers → BegunBy R till w began (call.Survey v) →
    open_at R till w ≡ Some began → R.request till ≡ Turn w → reply_of (R.state till) (Turn w) ≡ Answered a → a ≢ ClockSpent →
    RightAtRaise (run_course R now) R.sizes.keys v (suc began) (suc till) a (goes (R.state till) w)

-- What is seen of a run agrees with its states.
use Rattle.std.specs.Prelude.{◌≡◌, ℕ, suc}
use Rattle.codes.specs.declared.answer.Answer.{Answer}
use Rattle.places.specs.declared.place.Call.{Call}
use Rattle.machine.specs.declared.request.Request.TheVariants.{Turn}
use Rattle.machine.specs.declared.request.Reply.TheVariants.{Answered}
use Rattle.machine.specs.Requests.{reply_of}
use Rattle.questions.specs.Graph.{Graph}
use Rattle.order.specs.Seen.{CallSight.begins, CallSight.finishes, OneAtATime, PastSeen}
use Rattle.runs.specs.Runs.{RunInTime}
use Rattle.runs.specs.Seen.{page_graph, seen}
use Rattle.runs.specs.Reasons.{BegunBy}

module _ (R : RunInTime) where
  -- turn k answered a, and the page of its worker then shows g
  pub record AnswerAt (k w : ℕ) (a : Answer) (g : Graph) : Type 0 where
    pub asked : R.request k ≡ Turn w
    pub reply : reply_of (R.state k) (Turn w) ≡ Answered a
    pub page : g ≡ page_graph (R.state (suc k)) w

  pub record SeenLaws : Type 0 where
    -- workers begin one call at a time, so a past tells what was seen
    pub one_at_a_time : OneAtATime (seen R)
    pub pasts : (now : ℕ) → PastSeen (seen R) now
    -- a call that was begun was seen to begin
    pub begun : (k w b : ℕ) (c : Call) → BegunBy R k w b c → seen R b ≡ begins w c
    -- a call that was seen to finish was answered
    pub finished : (k w : ℕ) (a : Answer) (g : Graph) → seen R k ≡ finishes w a g → AnswerAt k w a g

abbrev pub RunsSeen : Type 0
RunsSeen = (R : RunInTime) → SeenLaws R

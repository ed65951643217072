-- What the counts of turns and links count.
use Rattle.std.specs.Prelude.{◌≡◌, ℕ, suc, true, ◌≢◌}
use Rattle.layout.specs.declared.names.Head.TheVariants as head
use Rattle.places.specs.declared.place.Op.{Op}
use Rattle.places.specs.declared.place.Pair.{Pair}
use Rattle.places.specs.declared.place.Change.{Change}
use Rattle.places.specs.declared.place.Call.{Call}
use Rattle.places.specs.declared.place.Call.TheVariants as call
use Rattle.machine.specs.declared.request.Request.TheVariants.{Turn}
use Rattle.machine.specs.declared.request.Reply.{Reply}
use Rattle.machine.specs.declared.request.Reply.TheVariants.{Refused}
use Rattle.machine.specs.Requests.{reply_of}
use Rattle.runs.specs.Runs.{RunInTime}
use Rattle.runs.specs.Views.{head_at}
use Rattle.runs.specs.Steps.{LinkStep}
use Rattle.runs.specs.Times.{LinkStepAtHead}
use Rattle.runs.specs.Reasons.{BegunBy}
use Rattle.bounds.specs.Bounds.{turn_of_call, other_links, links_row}

abbrev pub Accepted : Reply → Type 0
Accepted (Refused e) = ⊥
Accepted y = Unit {0}

module _ (R : RunInTime) where
  -- turn t of worker w counts for a call that it began
  pub record CountsFor (t w : ℕ) : Type 0 where
    pub began : ℕ
    pub call : Call
    pub begun : BegunBy R t w began call
    pub counts : turn_of_call R w began t ≡ true

  pub record CountLaws : Type 0 where
    -- every accepted turn counts, and only accepted turns do
    pub accepted : (t w : ℕ) → R.request t ≡ Turn w → Accepted (reply_of (R.state t) (Turn w)) → CountsFor t w
    pub only : (now t w b : ℕ) (c : Call) → BegunBy R now w b c → turn_of_call R w b t ≡ true → Accepted (reply_of (R.state t) (Turn w))
    -- what counts as a link of another worker on the pair of a call is one
    pub links : (now t w b : ℕ) (o : Op) (p : Pair) → BegunBy R now w b (call.Edge o p) → other_links R w b (head.Edge p.from p.to) t ≡ true →
        (x : LinkStepAtHead R t (head.Edge p.from p.to) (head_at R (suc t) (head.Edge p.from p.to))) × (x.step.worker ≢ w)
    -- what counts as a linked row is one, and each that is linked counts
    pub rows : (t : ℕ) → links_row R t ≡ true → (d : Change) × (r : ℕ) × LinkStep R t d r
    pub each_row : (t : ℕ) (d : Change) (r : ℕ) → LinkStep R t d r → links_row R t ≡ true

abbrev pub RunsCount : Type 0
RunsCount = (R : RunInTime) → CountLaws R

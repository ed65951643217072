-- What can be seen of a run at each time, and the past that it gives.
use Rattle.std.specs.Prelude.{◌≡◌, ℕ, zero, suc, ◌<◌, Bool, false, if◌then◌else◌, ◌⊎◌, Some, None, Option, IsSome, ◌==◌, nat_lt}
use Rattle.codes.specs.declared.answer.Answer.{Answer}
use Rattle.places.specs.declared.place.Call.{Call}
use Rattle.questions.specs.Graph.{Graph}
use Rattle.order.specs.Past.{Finish, Past}

-- a worker begins a call; a worker's call is finished with an answer, while its page shows a graph; or neither
pub data CallSight : Type 0 where
  begins : (worker : ℕ) (c : Call) → CallSight
  finishes : (worker : ℕ) (a : Answer) (page : Graph) → CallSight
  neither : CallSight

-- the call that worker w has open after what is seen at time k, by the time at which it began
abbrev pub open_after : CallSight → ℕ → ℕ → Option ℕ → Option ℕ
open_after (begins v c) k w before = if v == w then Some k else before
open_after (finishes v a p) k w before = if v == w then None else before
open_after neither k w before = before

-- the call that worker w has open at a time
unfoldable pub open_call : (ℕ → CallSight) → ℕ → ℕ → Option ℕ
open_call seen zero w = None
open_call seen (suc k) w = open_after (seen k) k w (open_call seen k w)

-- a worker has the call b open
abbrev pub is_open : Option ℕ → ℕ → Bool
is_open None b = false
is_open (Some a) b = a == b

-- how the call b was finished after what is seen at time k, where the workers have these calls open
abbrev pub finish_after : (ℕ → Option ℕ) → CallSight → ℕ → ℕ → Option Finish → Option Finish
finish_after opens (begins w c) k b before = before
finish_after opens (finishes w a p) k b before =
    if is_open (opens w) b then Some (record { time = k; answer = a; page = p })
    else before
finish_after opens neither k b before = before

-- how the call b was finished, if it was before a time
unfoldable pub finish_by : (ℕ → CallSight) → ℕ → ℕ → Option Finish
finish_by seen zero b = None
finish_by seen (suc k) b = finish_after (open_call seen k) (seen k) k b (finish_by seen k b)

-- the call that is seen to begin
abbrev pub call_begun : CallSight → Option Call
call_begun (begins w c) = Some c
call_begun s = None

-- the past up to now, with the stamps of the changes, the numbers of the raises, and the changes with a lower end
abbrev pub past_of : (ℕ → CallSight) → ℕ → (ℕ → Option ℕ) → (ℕ → Option ℕ) → (ℕ → Bool) → Past
past_of seen now stamp raise lower_end = record {
  begun = λ b. if nat_lt b now then call_begun (seen b) else None;
  finish = finish_by seen now;
  stamp = stamp;
  raise = raise;
  lower_end = lower_end;
}

-- a worker begins a call only while it has none open
abbrev pub OneAtATime : (ℕ → CallSight) → Type 0
OneAtATime seen = (k w : ℕ) (c : Call) → seen k ≡ begins w c → open_call seen k w ≡ None

-- the worker w began the call b, and its call was finished by f
pub record FinishSeen (seen : ℕ → CallSight) (now b : ℕ) (f : Finish) : Type 0 where
  pub worker : ℕ
  pub call : Call
  pub begun : seen b ≡ begins worker call
  pub after : b < f.time
  pub finished : seen f.time ≡ finishes worker f.answer f.page
  pub before : f.time < now

-- what the past tells was seen
pub record PastSeen (seen : ℕ → CallSight) (now : ℕ) : Type 0 where
  -- a call that was finished was begun before, by the worker whose call was seen to be finished
  pub finished : (b : ℕ) (f : Finish) → finish_by seen now b ≡ Some f → FinishSeen seen now b f
  -- a call that began is open or finished, and not both
  pub open_or_finished : (b w : ℕ) (c : Call) → b < now → seen b ≡ begins w c → (open_call seen now w ≡ Some b) ⊎ IsSome (finish_by seen now b)
  pub not_both : (b w : ℕ) → open_call seen now w ≡ Some b → finish_by seen now b ≡ None

-- where workers begin one call at a time
abbrev pub PastsSeen : Type 0
PastsSeen = (seen : ℕ → CallSight) → OneAtATime seen → (now : ℕ) → PastSeen seen now

-- What a run up to a moment shows of its calls.
use Rattle.std.specs.Prelude.{◌≡◌, ℕ, ◌<◌, Bool, ◌⊎◌, Some, None, Option, IsSome}
use Rattle.codes.specs.declared.answer.Answer.{Answer}
use Rattle.codes.specs.declared.answer.Answer.TheVariants.{RowsSpent, ClockSpent}
use Rattle.places.specs.declared.place.Call.{Call}
use Rattle.questions.specs.Graph.{Graph}
use Rattle.order.specs.Graph.{Feed, asks, spent}

-- how a call was finished: when, with which answer, and what its worker's page showed then, read as a graph
pub record Finish : Type 0 where
  pub time : ℕ
  pub answer : Answer
  pub page : Graph

-- the calls of a run up to a moment; a call goes by the time at which it began
pub record Past : Type 0 where
  -- the call that began at a time, if one did
  pub begun : ℕ → Option Call
  -- how it was finished, if it was
  pub finish : ℕ → Option Finish
  -- the stamp of its change, if it made a change that bears its stamp
  pub stamp : ℕ → Option ℕ
  -- the number from which it raised the clock, if it raised it
  pub raise : ℕ → Option ℕ
  -- whether a vertex row to which the row of its change is bound has ended with a lower stamp than that of the change
  pub lower_end : ℕ → Bool

-- the call that began at b was finished before the one that began at c began
abbrev pub Precedes : Past → ℕ → ℕ → Type 0
Precedes h b c = (f : Finish) × (h.finish b ≡ Some f) × (f.time < c)

-- the call that began at b belongs to the order: it is finished, or it is unfinished and its change bears its stamp
pub record Belongs (h : Past) (b : ℕ) : Type 0 where
  pub began : IsSome (h.begun b)
  pub done : IsSome (h.finish b) ⊎ IsSome (h.stamp b)

-- a call that ended for want of rows or of clock is fed as its answer
abbrev pub fed_until : Call → Answer → Feed
fed_until c RowsSpent = spent RowsSpent
fed_until c ClockSpent = spent ClockSpent
fed_until c a = asks c

-- where no call began there is nothing to ask, and no such time belongs to an order
abbrev pub fed_as : Option Call → Option Finish → Feed
fed_as None f = spent RowsSpent
fed_as (Some c) None = asks c
fed_as (Some c) (Some f) = fed_until c f.answer

-- what the plain graph is fed for the call that began at a time
abbrev pub fed : Past → ℕ → Feed
fed h b = fed_as (h.begun b) (h.finish b)

-- The calls of a run, from what was seen of it, newest first. A sight has the time that is the number of sights before it, and a call goes by the time at which it was seen to begin.
use Rattle.std.specs.Prelude.{ℕ, Bool, false, if◌then◌else◌, ◌||◌, List, [], ◌∷◌, length, Some, None, Option, ◌==◌}
use Rattle.std.specs.Option.{option_or, option_map}
use Rattle.layout.specs.declared.sizes.Sizes.{Sizes}
use Rattle.layout.specs.declared.names.Kind.TheVariants.{Vertex, Edge}
use Rattle.layout.specs.declared.names.Field.TheVariants.{Ins, Del}
use Rattle.layout.specs.declared.names.Head.TheVariants as head
use Rattle.layout.specs.declared.names.Cell.{Cell}
use Rattle.layout.specs.declared.names.Cell.TheVariants as cell
use Rattle.places.specs.Marks.{pending, mark_of, is_below}
use Rattle.places.specs.Touches.{head_kind}
use Rattle.places.specs.declared.place.Call.{Call}
use Rattle.machine.specs.Turns.{cell_at}
use Rattle.order.specs.Past.{Finish, Past}
use Rattle.promise.specs.Sights.{Deed, Deed.links, Deed.ends, Deed.raises, End, Sight, Sight.begins, Sight.turns, page_graph}

-- a call that began: whose it is, and which
pub record Begun : Type 0 where
  pub worker : ℕ
  pub call : Call

abbrev pub begun_in : Sight → Option Begun
begun_in (begins w c) = Some (record { worker = w; call = c })
begun_in s = None

-- the call b, if it was seen to begin
abbrev pub call_begun : List Sight → ℕ → Option Begun
call_begun [] b = None
call_begun (s ∷ ss) b = if b == length ss then begun_in s else call_begun ss b

-- a call of worker v begins at a time, or its call may end: what worker w has open after that
abbrev pub open_after : Sight → ℕ → ℕ → Option ℕ → Option ℕ
open_after (begins v c) time w before = if v == w then Some time else before
open_after (turns v d (Some e)) time w before = if v == w then None else before
open_after s time w before = before

-- the call that worker w has open
abbrev pub open_by : List Sight → ℕ → Option ℕ
open_by [] w = None
open_by (s ∷ ss) w = open_after s (length ss) w (open_by ss w)

abbrev pub is_call : Option ℕ → ℕ → Bool
is_call None b = false
is_call (Some a) b = a == b

-- a sight, behind those before it, is a turn of the call b
abbrev pub is_sight_of_call : Sight → List Sight → ℕ → Bool
is_sight_of_call (turns w d e) ss b = is_call (open_by ss w) b
is_sight_of_call s ss b = false

abbrev pub deed_of : Sight → Option Deed
deed_of (turns w d e) = d
deed_of s = None

abbrev pub end_of : Sight → Option End
end_of (turns w d e) = e
end_of s = None

-- the deed that the call b has done at one of its turns
abbrev pub deed_by : List Sight → ℕ → Option Deed
deed_by [] b = None
deed_by (s ∷ ss) b = option_or (if is_sight_of_call s ss b then deed_of s else None) (deed_by ss b)

-- at a time a call ended, where pages have n keys
abbrev pub finish_at : ℕ → ℕ → End → Finish
finish_at n time e = record { time = time; answer = e.answer; page = page_graph n e.page }

-- how the call b was finished, if it was
abbrev pub finish_by : ℕ → List Sight → ℕ → Option Finish
finish_by n [] b = None
finish_by n (s ∷ ss) b = option_or (if is_sight_of_call s ss b then option_map (finish_at n (length ss)) (end_of s) else None) (finish_by n ss b)

-- a number is a stamp once it is pending no more
abbrev pub unless_pending : ℕ → Option ℕ
unless_pending x = if x == pending then None else Some x

-- the stamp that the change of a deed bears in the cells: ins of the row that was linked, or the del that was made pending
abbrev pub deed_stamp : Sizes → List ℕ → Deed → Option ℕ
deed_stamp z cells (links h r) = unless_pending (cell_at z cells (cell.Stamp (head_kind h) Ins r))
deed_stamp z cells (ends k r) = unless_pending (cell_at z cells (cell.Stamp k Del r))
deed_stamp z cells (raises t) = None

-- the number from which a deed raised the clock
abbrev pub deed_raise : Deed → Option ℕ
deed_raise (raises t) = Some t
deed_raise d = None

abbrev pub stamp_as : Sizes → List ℕ → Option Deed → Option ℕ
stamp_as z cells None = None
stamp_as z cells (Some d) = deed_stamp z cells d

abbrev pub raise_as : Option Deed → Option ℕ
raise_as None = None
raise_as (Some d) = deed_raise d

-- the edge row that a deed changes
abbrev pub edge_row : Deed → Option ℕ
edge_row (links (head.Edge i j) r) = Some r
edge_row (ends Edge r) = Some r
edge_row d = None

-- the vertex row that a cell names has ended with a stamp below n
abbrev pub ended_below : Sizes → List ℕ → ℕ → Cell → Bool
ended_below z cells n c = is_below n (mark_of (cell_at z cells (cell.Stamp Vertex Del (cell_at z cells c))))

-- the source row or the target row of an edge row has, where the change of the edge row bears the stamp n
abbrev pub lower_if : Sizes → List ℕ → Option ℕ → Option ℕ → Bool
lower_if z cells (Some e) (Some n) = ended_below z cells n (cell.Source e) || ended_below z cells n (cell.Target e)
lower_if z cells e n = false

-- so it is with the change of a deed
abbrev pub lower_as : Sizes → List ℕ → Option Deed → Bool
lower_as z cells None = false
lower_as z cells (Some d) = lower_if z cells (edge_row d) (deed_stamp z cells d)

abbrev pub call_as : Option Begun → Option Call
call_as None = None
call_as (Some x) = Some x.call

-- what was seen, and what the cells hold now, as the past of the calls
abbrev pub past_of : Sizes → List Sight → List ℕ → Past
past_of z ss cells = record {
  begun = λ b. call_as (call_begun ss b);
  finish = finish_by z.keys ss;
  stamp = λ b. stamp_as z cells (deed_by ss b);
  raise = λ b. raise_as (deed_by ss b);
  lower_end = λ b. lower_as z cells (deed_by ss b);
}

-- What is seen of one request from outside: the request, its reply, and the cells before and after it. No record of a worker is looked at.
use Rattle.std.specs.Prelude.{ℕ, zero, suc, ◌+◌, ◌*◌, if◌then◌else◌, not, ◌&&◌, List, take, drop, Some, None, Option, ◌==◌, nat_lt, slice_index}
use Rattle.std.specs.Option.{option_or}
use Rattle.codes.specs.declared.answer.Answer.{Answer}
use Rattle.layout.specs.declared.sizes.Sizes.{Sizes}
use Rattle.layout.specs.declared.names.Kind.{Kind}
use Rattle.layout.specs.declared.names.Kind.TheVariants.{Vertex, Edge}
use Rattle.layout.specs.declared.names.Field.TheVariants.{Del}
use Rattle.layout.specs.declared.names.Head.{Head}
use Rattle.layout.specs.declared.names.Head.TheVariants as head
use Rattle.layout.specs.declared.names.Cell.TheVariants as cell
use Rattle.layout.specs.Layout.{page_size, page_start}
use Rattle.layout.specs.Rows.{rows_all}
use Rattle.places.specs.Marks.{pending}
use Rattle.places.specs.declared.place.Call.{Call}
use Rattle.places.specs.Calls.{call_named}
use Rattle.machine.specs.declared.request.Request.{Request}
use Rattle.machine.specs.declared.request.Request.TheVariants as request
use Rattle.machine.specs.declared.request.Reply.{Reply}
use Rattle.machine.specs.declared.request.Reply.TheVariants as reply
use Rattle.machine.specs.Turns.{cell_at}
use Rattle.questions.specs.Graph.{Graph}
use Rattle.questions.specs.Pages.{weight_of}

-- what a turn did to shared cells, where it did more than read or stamp: it linked a row at a head, made del of a row pending, or raised the clock
pub data Deed : Type 0 where
  links : (h : Head) (row : ℕ) → Deed
  ends : (k : Kind) (row : ℕ) → Deed
  raises : (from : ℕ) → Deed

-- the answer of a call, and the cells of its worker's page then
pub record End : Type 0 where
  pub answer : Answer
  pub page : List ℕ

-- a worker begins a call; a worker has a turn, which may do a deed and may end its call; or calls and shared cells rest
pub data Sight : Type 0 where
  begins : (worker : ℕ) (c : Call) → Sight
  turns : (worker : ℕ) (deed : Option Deed) (end : Option End) → Sight
  rests : Sight

-- what there is for the first of the numbers below n for which there is something
abbrev pub first_below : {X : Type 0} → (ℕ → Option X) → ℕ → Option X
first_below f zero = None
first_below f (suc n) = option_or (first_below f n) (f n)

-- what changed between the cells before and the cells after
module _ (z : Sizes) (before after : List ℕ) where
  -- a head moved to a row
  abbrev pub head_moved : Head → Option Deed
  head_moved h =
      if cell_at z before (cell.Head h) == cell_at z after (cell.Head h) then None
      else Some (links h (cell_at z after (cell.Head h)))

  -- del of a row went from 0 to pending
  abbrev pub del_begun : Kind → ℕ → Option Deed
  del_begun k r =
      if (cell_at z before (cell.Stamp k Del r) == 0) && (cell_at z after (cell.Stamp k Del r) == pending) then Some (ends k r)
      else None

  -- the clock moved
  abbrev pub clock_moved : Option Deed
  clock_moved =
      if cell_at z before cell.Clock == cell_at z after cell.Clock then None
      else Some (raises (cell_at z before cell.Clock))

  abbrev pub some_head_moved : Option Deed
  some_head_moved = option_or
      (first_below (λ i. head_moved (head.Vertex i)) z.keys)
      (first_below (λ i. first_below (λ j. head_moved (head.Edge i j)) z.keys) z.keys)

  -- rows count from 1
  abbrev pub some_del_begun : Kind → Option Deed
  some_del_begun k = first_below (λ n. del_begun k (n + 1)) (rows_all z k)

  -- the deed of a turn: it touches one shared cell, so it is one of these at most
  abbrev pub deed_in : Option Deed
  deed_in = option_or some_head_moved (option_or (some_del_begun Vertex) (option_or (some_del_begun Edge) clock_moved))

-- the cells of the page of worker w
abbrev pub page_in : Sizes → List ℕ → ℕ → List ℕ
page_in z cells w = take (page_size z) (drop (page_start z w) cells)

-- a begin that is accepted, and a turn that is; all other requests and all refusals let calls and shared cells rest
abbrev pub sight_of : Sizes → List ℕ → List ℕ → Request → Reply → Sight
sight_of z before after (request.Begin b) reply.Done = begins b.worker (call_named b)
sight_of z before after (request.Turn w) reply.Running = turns w (deed_in z before after) None
sight_of z before after (request.Turn w) (reply.Answered a) = turns w (deed_in z before after) (Some (record { answer = a; page = page_in z after w }))
sight_of z before after q r = rests

-- The graph that the n + n * n cells of a page show, read as they stand: a key exactly if its cell is not 0, an edge by the cell of its pair, whether its keys are shown or not.
abbrev pub page_graph : ℕ → List ℕ → Graph
page_graph n page = record {
  has = λ k. nat_lt k n && not (slice_index page k == 0);
  edge = λ i j. if nat_lt i n && nat_lt j n then weight_of (slice_index page (n + n * i + j)) else None;
}

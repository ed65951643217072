-- What each request is replied, and what it makes of the state. A refusal changes nothing.
use Rattle.std.specs.Prelude.{ℕ, Bool, true, false, if◌then◌else◌, ◌&&◌, Some, None, Ok, Err, Option, Result, ◌==◌, nat_lt, slice_set}
use Rattle.codes.specs.declared.answer.Answer.{Answer}
use Rattle.codes.specs.declared.refusal.Refusal.{Refusal}
use Rattle.codes.specs.declared.refusal.Refusal.TheVariants.{NoSuchWorker, WorkerBusy, WorkerIdle, PageOut, NoFinishedPage, WrongTicket}
use Rattle.places.specs.declared.call.Begin.{Begin}
use Rattle.places.specs.declared.place.Call.{Call}
use Rattle.places.specs.declared.place.Call.TheVariants as call
use Rattle.places.specs.declared.place.Place.{Place}
use Rattle.places.specs.declared.place.Place.TheVariants as place
use Rattle.places.specs.Calls.{call_of, place_first}
use Rattle.machine.specs.declared.request.Request.{Request}
use Rattle.machine.specs.declared.request.Request.TheVariants as request
use Rattle.machine.specs.declared.request.TicketNumber.{TicketNumber}
use Rattle.machine.specs.declared.request.Reply.{Reply}
use Rattle.machine.specs.declared.request.Reply.TheVariants as reply
use Rattle.machine.specs.declared.worker.PageState.{PageState}
use Rattle.machine.specs.declared.worker.PageState.TheVariants as page
use Rattle.machine.specs.declared.worker.Worker.{Worker}
use Rattle.machine.specs.States.{State}
use Rattle.machine.specs.Turns.{worker_at, answer_at, turned}

abbrev pub is_idle : Place → Bool
is_idle place.Idle = true
is_idle p = false

-- a snapshot or reach is refused while the worker's page is out
abbrev pub page_free : PageState → Result Call Refusal → Result Call Refusal
page_free page.Out (Ok (call.Survey v)) = Err PageOut
page_free p c = c

-- the call that a begin begins, or the first refusal that holds: no such worker, worker busy, no such call, a used key outside, a weight outside, page is out
abbrev pub call_to_begin : State → Begin → Result Call Refusal
call_to_begin s b =
    if nat_lt b.worker s.sizes.workers then (if is_idle (worker_at s b.worker).place then page_free (worker_at s b.worker).page (call_of s.sizes.keys b) else Err WorkerBusy)
    else Err NoSuchWorker

-- beginning a snapshot or reach makes the page unfinished
abbrev pub page_begun : PageState → Call → PageState
page_begun p (call.Survey v) = page.Unfinished
page_begun p c = p

abbrev pub begun : Worker → Call → Worker
begun v c = record v { place = place_first c; page = page_begun v.page c }

-- no cell changes
abbrev pub state_begun : State → ℕ → Result Call Refusal → State
state_begun s w (Err e) = s
state_begun s w (Ok c) = record s { workers = slice_set s.workers w (begun (worker_at s w) c) }

-- a turn is refused where there is no such worker, or it is idle
abbrev pub turn_refused : State → ℕ → Option Refusal
turn_refused s w =
    if nat_lt w s.sizes.workers then (if is_idle (worker_at s w).place then Some WorkerIdle else None)
    else Some NoSuchWorker

abbrev pub unless_refused : {X : Type 0} → Option Refusal → X → Result X Refusal
unless_refused None x = Ok x
unless_refused (Some e) x = Err e

abbrev pub turn_answer : State → ℕ → Result (Option Answer) Refusal
turn_answer s w = unless_refused (turn_refused s w) (answer_at s w)

abbrev pub state_or : Option Refusal → State → State → State
state_or None old new = new
state_or (Some e) old new = old

abbrev pub done_or : {X : Type 0} → Result X Refusal → Reply
done_or (Ok x) = reply.Done
done_or (Err e) = reply.Refused e

abbrev pub answered_or : Result (Option Answer) Refusal → Reply
answered_or (Ok None) = reply.Running
answered_or (Ok (Some a)) = reply.Answered a
answered_or (Err e) = reply.Refused e

-- a take is refused where there is no such worker, its page is out, or it has no finished page
abbrev pub page_refused : PageState → Option Refusal
page_refused page.Out = Some PageOut
page_refused page.Unfinished = Some NoFinishedPage
page_refused page.Finished = None

abbrev pub take_refused : State → ℕ → Option Refusal
take_refused s w = if nat_lt w s.sizes.workers then page_refused (worker_at s w).page else Some NoSuchWorker

-- the ticket for the page of worker w
abbrev pub ticket_of : State → ℕ → TicketNumber
ticket_of s w = record { worker = w; serial = (worker_at s w).serial }

abbrev pub is_out : PageState → Bool
is_out page.Out = true
is_out p = false

-- a ticket is good where the page of its worker is out, and the worker has finished as many pages as it says
abbrev pub is_good : State → TicketNumber → Bool
is_good s t = nat_lt t.worker s.sizes.workers && (is_out (worker_at s t.worker).page && ((worker_at s t.worker).serial == t.serial))

-- a give is refused where the ticket is not good
abbrev pub ticket_refused : State → TicketNumber → Option Refusal
ticket_refused s t = if is_good s t then None else Some WrongTicket

-- the page of worker w out, or given back; no cell changes
abbrev pub with_page : State → ℕ → PageState → State
with_page s w p = record s { workers = slice_set s.workers w (record (worker_at s w) { page = p }) }

abbrev pub state_taken : State → ℕ → State
state_taken s w = state_or (take_refused s w) s (with_page s w page.Out)

abbrev pub state_given : State → TicketNumber → State
state_given s t = state_or (ticket_refused s t) s (with_page s t.worker page.Finished)

abbrev pub taken_or : Result TicketNumber Refusal → Reply
taken_or (Ok t) = reply.Taken t
taken_or (Err e) = reply.Refused e

abbrev pub done_unless : Option Refusal → Reply
done_unless None = reply.Done
done_unless (Some e) = reply.Refused e

-- the reply to a request, and the state after it
abbrev pub reply_of : State → Request → Reply
reply_of s (request.Begin b) = done_or (call_to_begin s b)
reply_of s (request.Turn w) = answered_or (turn_answer s w)
reply_of s (request.Take w) = taken_or (unless_refused (take_refused s w) (ticket_of s w))
reply_of s (request.Give t) = done_unless (ticket_refused s t)

abbrev pub stepped : State → Request → State
stepped s (request.Begin b) = state_begun s b.worker (call_to_begin s b)
stepped s (request.Turn w) = state_or (turn_refused s w) s (turned s w)
stepped s (request.Take w) = state_taken s w
stepped s (request.Give t) = state_given s t

-- Questions to the page that a ticket names.
use Rattle.std.specs.Prelude.{ℕ, Some, Option, if◌then◌else◌}
use Rattle.codes.specs.declared.refusal.Refusal.TheVariants.{WrongTicket}
use Rattle.questions.specs.Graph.{Graph}
use Rattle.questions.specs.Pages.{shown}
use Rattle.questions.specs.Unanswered.{unanswered}
use Rattle.questions.specs.declared.unanswered.Unanswered.{Unanswered}
use Rattle.questions.specs.declared.unanswered.Unanswered.TheVariants.{Refused}
use Rattle.machine.specs.declared.request.TicketNumber.{TicketNumber}
use Rattle.machine.specs.States.{State}
use Rattle.machine.specs.Pages.{page_in}
use Rattle.machine.specs.Requests.{is_good}

-- what the page of worker w shows
abbrev pub page_graph : State → ℕ → Graph
page_graph s w = shown (page_in s w) s.sizes.keys

-- why a question with a ticket, from a start, with an area of so many entries, is not answered: the ticket comes first
abbrev pub unanswered_at : State → TicketNumber → ℕ → ℕ → Option Unanswered
unanswered_at s t start area = if is_good s t then unanswered s.sizes.keys (page_graph s t.worker) start area else Some (Refused WrongTicket)

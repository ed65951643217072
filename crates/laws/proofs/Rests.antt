-- What a request leaves that is refused, takes a page or gives one back: cells, sizes, and of each worker all but the state of its page.
use Rattle.std.proofs.Common.{◌≡◌, ℕ, ◌<◌, ◌≤◌, Some, None, List, length, get_or, Option, sym, refl, ap, ap₂, subst, ⊎_elim, arith}
use Rattle.std.proofs.lemmas.List.{length-set, set_past}
use Rattle.std.proofs.lemmas.Bool.{cases_lt}
use Rattle.codes.specs.declared.refusal.Refusal.{Refusal}
use Rattle.layout.specs.declared.names.Kind.{Kind}
use Rattle.layout.specs.declared.names.Cell.{Cell}
use Rattle.books.specs.declared.book.Book.{Book}
use Rattle.machine.specs.declared.request.TicketNumber.{TicketNumber}
use Rattle.machine.specs.declared.worker.PageState.{PageState}
use Rattle.machine.specs.declared.worker.PageState.TheVariants as page
use Rattle.machine.specs.declared.worker.Worker.{Worker}
use Rattle.machine.specs.States.{State}
use Rattle.machine.specs.Turns.{worker_at, cell_at}
use Rattle.machine.specs.Workers.{nobody, linked_of}
use Rattle.machine.specs.Requests.{state_or, with_page, take_refused, state_taken, ticket_refused, state_given}
use Rattle.laws.specs.Fits.{InChain, Linked, Counted, FitPlace}
use Rattle.laws.specs.Changes.{number_in}
use Rattle.laws.specs.Sound.{Sound}
use Rattle.laws.proofs.Puts.{set_each}
use Rattle.laws.proofs.Grows.{Later, place_later}

-- a state with the same cells and sizes
pub record SameRows (s t : State) : Type 0 where
  pub cells : t.cells ≡ s.cells
  pub sizes : t.sizes ≡ s.sizes

module _ (s t : State) (e : SameRows s t) where
  pub rows_on : (k : Kind) (r : ℕ) → Linked s k r → Linked t k r
  rows_on k r l = subst (λ z. InChain z t.cells k r) (sym e.sizes) (subst (λ cs. InChain s.sizes cs k r) (sym e.cells) l)

  pub rows_back : (k : Kind) (r : ℕ) → Linked t k r → Linked s k r
  rows_back k r l = subst (λ z. InChain z s.cells k r) e.sizes (subst (λ cs. InChain t.sizes cs k r) e.cells l)

  pub numbers_same : (c : Cell) → number_in t c ≡ number_in s c
  numbers_same c = ap₂ (λ z cs. cell_at z cs c) e.sizes e.cells

-- a worker's record, but for the state of its page
pub record SameCall (v u : Worker) : Type 0 where
  pub place : u.place ≡ v.place
  pub book : u.book ≡ v.book
  pub linked : (k : Kind) → linked_of u k ≡ linked_of v k
  pub serial : u.serial ≡ v.serial

pub record Rests (s t : State) : Type 0 where
  pub rows : SameRows s t
  pub table : length t.workers ≡ length s.workers
  pub workers : (w : ℕ) → SameCall (worker_at s w) (worker_at t w)

same_call : (v : Worker) → SameCall v v
same_call v = record { place = refl; book = refl; linked = λ k. refl; serial = refl }

-- a state rests in itself
pub same_rests : (s : State) → Rests s s
same_rests s = record { rows = record { cells = refl; sizes = refl }; table = refl; workers = λ w. same_call (worker_at s w) }

-- the state of a page is no part of what rests
pub page_rests : (s : State) (w : ℕ) (p : PageState) → Rests s (with_page s w p)
page_rests s w p = record { rows = record { cells = refl; sizes = refl }; table = length-set s.workers w own; workers = each }
  where
    own : Worker
    own = record (worker_at s w) { page = p }

    each : (v : ℕ) → SameCall (worker_at s v) (worker_at (with_page s w p) v)
    each v =
        ⊎_elim
        (λ (l : w < length s.workers). set_each (λ u x. SameCall (worker_at s u) x) s.workers w own nobody l (record { place = refl; book = refl; linked = λ k. refl; serial = refl }) (λ u n. same_call (worker_at s u)) v)
        (λ (l : length s.workers ≤ w). subst (λ (x : Worker). SameCall (worker_at s v) x) (sym (ap (λ (ws : List Worker). worker_at (record s { workers = ws }) v) (set_past s.workers w own l))) (same_call (worker_at s v)))
        (cases_lt w (length s.workers))

or_rests : (s t : State) (e : Option Refusal) → Rests s t → Rests s (state_or e s t)
or_rests s t None r = r
or_rests s t (Some x) r = same_rests s

pub take_rests : (s : State) (w : ℕ) → Rests s (state_taken s w)
take_rests s w = or_rests s (with_page s w page.Out) (take_refused s w) (page_rests s w page.Out)

pub give_rests : (s : State) (t : TicketNumber) → Rests s (state_given s t)
give_rests s t = or_rests s (with_page s t.worker page.Finished) (ticket_refused s t) (page_rests s t.worker page.Finished)

-- what holds of the same cells and sizes with the records of another state holds of that state
pub rest_each : (s t : State) → Rests s t → (P : State → Type 0) → P (record s { workers = t.workers }) → P t
rest_each s t r P h = subst P (λ i. record { cells = sym r.rows.cells i; sizes = sym r.rows.sizes i; workers = t.workers }) h

module _ (s : State) (z : Sound s) (t : State) (r : Rests s t) where
  abbrev u : State
  u = record s { workers = t.workers }

  later : Later s u
  later = record { sizes = refl; linked = λ k q l. l; some = λ h m p. p }

  counted : (k : Kind) (q : ℕ) → Counted s k q → Counted u k q
  counted k q x = record { owner = x.owner; nth = x.nth; before = omega (arith, x.before, (r.workers x.owner).linked k); is = x.is }

  pub rest_sound : Sound t
  rest_sound = rest_each s t r Sound (record {
    cells = z.cells;
    table = omega (arith, z.table, r.table);
    heads = z.heads;
    counted = λ k q l. counted k q (z.counted k q l);
    olders = z.olders;
    places = λ w b. subst (FitPlace u) (sym (r.workers w).place) (place_later s u later (worker_at s w).place (z.places w b));
    queues = λ w n b. subst (λ (x : Book). get_or x.queue n 0 < s.sizes.keys) (sym (r.workers w).book) (z.queues w n b);
  })

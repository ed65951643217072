-- How requests count the finished pages of the workers.
use Rattle.std.proofs.Common.{◌≡◌, ℕ, ◌+◌, ◌<◌, ◌≤◌, Bool, true, false, cond, eqb, ltb, List, length, get_or, set, Some, None, Ok, Err, Option, Result, sym, refl, ap, ◌∙◌, ⊎_elim, add-zero, arith}
use Rattle.std.proofs.lemmas.List.{length-set, get_or_past, get_or-set_same, get_or-set_other}
use Rattle.std.proofs.lemmas.Bool.{cases_eq, cases_lt, eq-eqb, ne_eqb}
use Rattle.std.specs.declared.ops.ControlFlow.TheVariants.{Continue, Break}
use Rattle.codes.specs.declared.answer.Answer.{Answer}
use Rattle.codes.specs.declared.answer.Answer.TheVariants.{SnapshotTaken, ReachTaken}
use Rattle.codes.specs.declared.refusal.Refusal.{Refusal}
use Rattle.places.specs.declared.place.Call.{Call}
use Rattle.places.specs.declared.place.Change.TheVariants as change
use Rattle.places.specs.declared.place.Hand.{Hand}
use Rattle.places.specs.Moved.{Next, Next as next}
use Rattle.places.specs.Flows.{Flow}
use Rattle.books.specs.Walked.{WalkOutcome, walked_of}
use Rattle.machine.specs.declared.worker.Worker.{Worker}
use Rattle.machine.specs.declared.worker.PageState.{PageState}
use Rattle.machine.specs.declared.worker.PageState.TheVariants as page
use Rattle.machine.specs.declared.request.Request.TheVariants as request
use Rattle.machine.specs.States.{State}
use Rattle.machine.specs.Turns.{worker_at, hand_at, next_at, followed_at, answer_at, turned}
use Rattle.machine.specs.Workers.{nobody, with_book, arrived, flow_answer, followed}
use Rattle.machine.specs.Requests.{is_idle, call_to_begin, begun, state_begun, turn_refused, unless_refused, state_or, done_or, answered_or, take_refused, ticket_of, ticket_refused, with_page, taken_or, done_unless}
use Rattle.machine.specs.Spent.{pages_finished, PagesCounted}
use Rattle.machine.proofs.Busy.{busy_within}
use Rattle.machine.proofs.SeveralTurns.{refused_none}

abbrev answered_pages : Option Answer → ℕ
answered_pages a = pages_finished (answered_or (Ok a))

-- a worker that answers 30 or 31 counts one page more
arrived_serial : (v : Worker) (o : Flow) → (arrived v o).serial ≡ v.serial + answered_pages (flow_answer o)
arrived_serial v (Continue q) = sym (add-zero v.serial)
arrived_serial v (Break SnapshotTaken) = refl
arrived_serial v (Break ReachTaken) = refl
arrived_serial v (Break a) = sym (add-zero v.serial)

followed_serial : (n : ℕ) (v : Worker) (h : Hand) (x : Next) → (followed n v h x).worker.serial ≡ v.serial + answered_pages (followed n v h x).answer
followed_serial n v h (next.Moved o) = arrived_serial v o
followed_serial n v h (next.Linked (change.Vertex i) r) = sym (add-zero v.serial)
followed_serial n v h (next.Linked (change.Edge b) r) = sym (add-zero v.serial)
followed_serial n v h (next.Raised k t) = sym (add-zero v.serial)
followed_serial n v h (next.Walked k r) =
    let o : WalkOutcome = walked_of v.book k n r h in
    arrived_serial (with_book v o.book) o.out

module _ (xs : List Worker) (w : ℕ) (x : Worker) (u : ℕ) where
  -- a record that counts as many pages as the one before
  same_serial : x.serial ≡ (get_or xs w nobody).serial → (get_or (set xs w x) u nobody).serial ≡ (get_or xs u nobody).serial
  same_serial e =
      ⊎_elim
      (λ (f : u ≡ w).
      ⊎_elim
      (λ (l : w < length xs). ap (λ i. (get_or (set xs w x) i nobody).serial) f ∙ ap (λ v. v.serial) (get_or-set_same xs w x nobody l) ∙ e ∙ ap (λ i. (get_or xs i nobody).serial) (sym f))
      (λ (l : length xs ≤ w).
      let m : length (set xs w x) ≤ u = omega (arith, length-set xs w x) in
      ap (λ v. v.serial) (get_or_past (set xs w x) u nobody m ∙ sym (get_or_past xs u nobody (omega arith))))
      (cases_lt w (length xs)))
      (λ (n : u ≡ w → ⊥). ap (λ v. v.serial) (get_or-set_other xs w u x nobody n))
      (cases_eq u w)

  -- a record that counts k pages more
  more_serial : (k : ℕ) → w < length xs → x.serial ≡ (get_or xs w nobody).serial + k → (get_or (set xs w x) u nobody).serial ≡ (get_or xs u nobody).serial + cond (eqb u w) k 0
  more_serial k l e =
      ⊎_elim
      (λ (f : u ≡ w).
      rw (eq-eqb u w f) (ap (λ i. (get_or (set xs w x) i nobody).serial) f ∙ ap (λ v. v.serial) (get_or-set_same xs w x nobody l) ∙ e ∙ ap (λ i. (get_or xs i nobody).serial + k) (sym f)))
      (λ (n : u ≡ w → ⊥). rw (ne_eqb u w n) (ap (λ v. v.serial) (get_or-set_other xs w u x nobody n) ∙ sym (add-zero (get_or xs u nobody).serial)))
      (cases_eq u w)

-- a request that finishes no page, and leaves the count of its worker
nothing_more : (s t : State) (w u : ℕ) → (worker_at t u).serial ≡ (worker_at s u).serial → (worker_at t u).serial ≡ (worker_at s u).serial + cond (eqb u w) 0 0
nothing_more s t w u e = e ∙ zero_more (eqb u w)
  where
    zero_more : (b : Bool) → (worker_at s u).serial ≡ (worker_at s u).serial + cond b 0 0
    zero_more true = sym (add-zero (worker_at s u).serial)
    zero_more false = sym (add-zero (worker_at s u).serial)

turn_counted : (s : State) (w u : ℕ) (r : Option Refusal) → turn_refused s w ≡ r → (worker_at (state_or r s (turned s w)) u).serial ≡ (worker_at s u).serial + cond (eqb u w) (pages_finished (answered_or (unless_refused r (answer_at s w)))) 0
turn_counted s w u None e =
    let busy = (refused_none (ltb w s.sizes.workers) (is_idle (worker_at s w).place) e).1 in
    more_serial s.workers w (followed_at s w).worker u (answered_pages (answer_at s w)) (busy_within s w busy) (followed_serial s.sizes.keys (worker_at s w) (hand_at s w) (next_at s w))
turn_counted s w u (Some x) e = nothing_more s s w u refl

begin_counted : (s : State) (w u : ℕ) (c : Result Call Refusal) → (worker_at (state_begun s w c) u).serial ≡ (worker_at s u).serial + cond (eqb u w) (pages_finished (done_or c)) 0
begin_counted s w u (Ok c) = nothing_more s (state_begun s w (Ok c)) w u (same_serial s.workers w (begun (worker_at s w) c) u refl)
begin_counted s w u (Err e) = nothing_more s s w u refl

page_counted : (s : State) (w u : ℕ) (p : PageState) → (worker_at (with_page s w p) u).serial ≡ (worker_at s u).serial
page_counted s w u p = same_serial s.workers w (record (worker_at s w) { page = p }) u refl

take_counted : (s : State) (w u : ℕ) (r : Option Refusal) → (worker_at (state_or r s (with_page s w page.Out)) u).serial ≡ (worker_at s u).serial + cond (eqb u w) (pages_finished (taken_or (unless_refused r (ticket_of s w)))) 0
take_counted s w u None = nothing_more s (with_page s w page.Out) w u (page_counted s w u page.Out)
take_counted s w u (Some e) = nothing_more s s w u refl

give_counted : (s : State) (w u : ℕ) (r : Option Refusal) → (worker_at (state_or r s (with_page s w page.Finished)) u).serial ≡ (worker_at s u).serial + cond (eqb u w) (pages_finished (done_unless r)) 0
give_counted s w u None = nothing_more s (with_page s w page.Finished) w u (page_counted s w u page.Finished)
give_counted s w u (Some e) = nothing_more s s w u refl

pub pages_counted : PagesCounted
pages_counted s (request.Begin b) u = begin_counted s b.worker u (call_to_begin s b)
pages_counted s (request.Turn w) u = turn_counted s w u (turn_refused s w) refl
pages_counted s (request.Take w) u = take_counted s w u (take_refused s w)
pages_counted s (request.Give t) u = give_counted s t.worker u (ticket_refused s t)

-- A page that is taken and given back.
use Rattle.std.proofs.Common.{◌≡◌, ℕ, Bool, true, false, cond, ◌&&◌, ◌<◌, ◌≤◌, ltb, eqb, List, length, get_or, set, Some, None, Ok, Err, Option, Result, eq-eqb, ⊎_elim, sym, refl, ap, ◌∙◌}
use Rattle.std.proofs.lemmas.List.{get_or-set_same, set-get_or, set-set}
use Rattle.std.proofs.lemmas.Bool.{cases_lt}
use Rattle.std.proofs.Math.ListN.{get_or-eq_default}
use Rattle.codes.specs.declared.refusal.Refusal.{Refusal}
use Rattle.codes.specs.declared.refusal.Refusal.TheVariants.{NoSuchWorker, WrongTicket}
use Rattle.machine.specs.declared.request.Request.TheVariants.{Take, Give}
use Rattle.machine.specs.declared.request.TicketNumber.{TicketNumber}
use Rattle.machine.specs.declared.worker.PageState.{PageState}
use Rattle.machine.specs.declared.worker.PageState.TheVariants as page
use Rattle.machine.specs.declared.worker.Worker.{Worker}
use Rattle.machine.specs.States.{State}
use Rattle.machine.specs.Turns.{worker_at}
use Rattle.machine.specs.Workers.{nobody}
use Rattle.machine.specs.Pages.{PageOf, page_of}
use Rattle.machine.specs.Requests.{is_out, state_or, with_page, page_refused, take_refused, ticket_of, ticket_refused, unless_refused, taken_or, reply_of, stepped}

-- a page that is not refused is a finished one of a worker that there is
free : (a : Bool) (p : PageState) → cond a (page_refused p) (Some NoSuchWorker) ≡ None → (a ≡ true) × (p ≡ page.Finished)
free true page.Finished e = (refl, refl)
free true page.Out e = cc
free true page.Unfinished e = cc
free false p e = cc

-- there is no finished page past the table
in_table : (ws : List Worker) (w : ℕ) → (get_or ws w nobody).page ≡ page.Finished → w < length ws
in_table ws w e = ⊎_elim (λ (a : w < length ws). a) (λ (a : length ws ≤ w). absurd (unfinished (ap (λ v. v.page) (sym (get_or-eq_default ws nobody a)) ∙ e))) (cases_lt w (length ws))
  where
    unfinished : page.Unfinished ≡ page.Finished → ⊥
    unfinished e = cc

-- the record of the worker after the take
out_at : (ws : List Worker) (w : ℕ) (p : PageState) → w < length ws → get_or (set ws w (record (get_or ws w nobody) { page = p })) w nobody ≡ record (get_or ws w nobody) { page = p }
out_at ws w p h = get_or-set_same ws w (record (get_or ws w nobody) { page = p }) nobody h

-- the ticket that was taken is good
pub good_after : (s : State) (w : ℕ) → take_refused s w ≡ None → ticket_refused (stepped s (Take w)) (ticket_of s w) ≡ None
good_after s w e =
    let p : (ltb w s.sizes.workers ≡ true) × ((worker_at s w).page ≡ page.Finished) = free (ltb w s.sizes.workers) ((worker_at s w).page) e in
    ap (λ o. ticket_refused (state_or o s (with_page s w page.Out)) (ticket_of s w)) e
    ∙ ap (λ (v : Worker). cond (ltb w s.sizes.workers && (is_out v.page && eqb v.serial ((worker_at s w).serial))) None (Some WrongTicket)) (out_at s.workers w page.Out (in_table s.workers w p.1))
    ∙ ap (λ b. cond (b && (true && eqb ((worker_at s w).serial) ((worker_at s w).serial))) None (Some WrongTicket)) p.0
    ∙ ap (λ b. cond (true && (true && b)) None (Some WrongTicket)) (eq-eqb ((worker_at s w).serial) ((worker_at s w).serial) refl)

-- the records after the take and the give are those before
records_same : (ws : List Worker) (w : ℕ) (v : Worker) → get_or ws w nobody ≡ v → v.page ≡ page.Finished → set (set ws w (record v { page = page.Out })) w (record v { page = page.Finished }) ≡ ws
records_same ws w v e f =
    set-set ws w (record v { page = page.Out }) (record v { page = page.Finished })
    ∙ ap (λ p. set ws w (record v { page = p })) (sym f)
    ∙ ap (set ws w) (sym e) ∙ set-get_or ws w nobody

pub given_back : (s : State) (w : ℕ) → take_refused s w ≡ None → stepped (stepped s (Take w)) (Give (ticket_of s w)) ≡ s
given_back s w e =
    let p : (ltb w s.sizes.workers ≡ true) × ((worker_at s w).page ≡ page.Finished) = free (ltb w s.sizes.workers) ((worker_at s w).page) e in
    let v : Worker = worker_at s w in
    ap (λ o. state_or o (stepped s (Take w)) (with_page (stepped s (Take w)) w page.Finished)) (good_after s w e)
    ∙ ap (λ o. with_page (state_or o s (with_page s w page.Out)) w page.Finished) e
    ∙ ap (λ (ws : List Worker). record s { workers = ws })
    (ap (λ (x : Worker). set (set s.workers w (record v { page = page.Out })) w (record x { page = page.Finished })) (out_at s.workers w page.Out (in_table s.workers w p.1))
    ∙ records_same s.workers w v refl p.1)

-- the ticket of a take that was not refused
pub taken : (o : Option Refusal) (u t : TicketNumber) (r : Result TicketNumber Refusal) → taken_or r ≡ taken_or (unless_refused o u) → r ≡ Ok t → (o ≡ None) × (t ≡ u)
taken None u t r e f = (refl, cc)
taken (Some x) u t r e f = cc

pub not_taken : (o : Option Refusal) (u : TicketNumber) (x : Refusal) (r : Result TicketNumber Refusal) → taken_or r ≡ taken_or (unless_refused o u) → r ≡ Err x → o ≡ Some x
not_taken None u x r e f = cc
not_taken (Some y) u x r e f = cc

-- a page that was taken, looked at and given back
pub back : (s s1 s2 s3 : State) (w : ℕ) (t : TicketNumber) (r : Result TicketNumber Refusal) → taken_or r ≡ reply_of s (Take w) → r ≡ Ok t → s1 ≡ stepped s (Take w) → s2 ≡ s1 → s3 ≡ stepped s2 (Give t) → s3 ≡ s
back s s1 s2 s3 w t r a f e1 e2 e3 =
    let p : (take_refused s w ≡ None) × (t ≡ ticket_of s w) = taken (take_refused s w) (ticket_of s w) t r a f in
    e3 ∙ ap (λ z. stepped z (Give t)) (e2 ∙ e1) ∙ ap (λ u. stepped (stepped s (Take w)) (Give u)) p.1 ∙ given_back s w p.0

-- its cells are those before the take
cells_kept : (s : State) (w : ℕ) → page_of (stepped s (Take w)) w ≡ page_of s w
cells_kept s w = go (take_refused s w)
  where
    go : (o : Option Refusal) → page_of (state_or o s (with_page s w page.Out)) w ≡ page_of s w
    go None = refl
    go (Some e) = refl

pub looked : (s s1 : State) (w : ℕ) (t : TicketNumber) (r : Result TicketNumber Refusal) (x : Result PageOf Refusal) → taken_or r ≡ reply_of s (Take w) → r ≡ Ok t → s1 ≡ stepped s (Take w) → x ≡ unless_refused (ticket_refused s1 t) (page_of s1 t.worker) → x ≡ unless_refused (take_refused s w) (page_of s w)
looked s s1 w t r x a f e1 g =
    let p : (take_refused s w ≡ None) × (t ≡ ticket_of s w) = taken (take_refused s w) (ticket_of s w) t r a f in
    g ∙ ap (λ z. unless_refused (ticket_refused z t) (page_of z t.worker)) e1
    ∙ ap (λ u. unless_refused (ticket_refused (stepped s (Take w)) u) (page_of (stepped s (Take w)) u.worker)) p.1
    ∙ ap (λ o. unless_refused o (page_of (stepped s (Take w)) w)) (good_after s w p.0 ∙ sym p.0)
    ∙ ap (unless_refused (take_refused s w)) (cells_kept s w)

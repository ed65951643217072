-- The page that a good ticket names is a page of its keys.
use Rattle.std.proofs.Common.{◌≡◌, ℕ, ◌<◌, ◌≤◌, Bool, true, false, ◌&&◌, ltb, leb, eqb, cond, List, length, drop, Some, None, Ok, Result, refl, ap, ◌∙◌, subst, arith}
use Rattle.std.proofs.lemmas.List.{length-take-le, length-drop}
use Rattle.std.proofs.lemmas.Bool.{and_parts, and_from, ltb-true, le-leb, eq-eqb}
use Rattle.codes.specs.declared.refusal.Refusal.TheVariants.{WrongTicket}
use Rattle.layout.specs.Layout.{needed, page_start, page_size}
use Rattle.questions.specs.declared.unanswered.Unanswered.{Unanswered}
use Rattle.questions.specs.Pages.{fits, keys_of, shown}
use Rattle.questions.specs.Unanswered.{unanswered, Refuses}
use Rattle.machine.specs.declared.request.TicketNumber.{TicketNumber}
use Rattle.machine.specs.States.{State}
use Rattle.machine.specs.Pages.{PageOf, page_in, page_of}
use Rattle.machine.specs.Requests.{is_good, is_out, ticket_refused, unless_refused}
use Rattle.machine.specs.Turns.{worker_at}
use Rattle.stepper.specs.Asked.{unanswered_at}

-- a page is handed out only where the ticket is good
good_as : (b : Bool) (p x : PageOf) → Ok p ≡ unless_refused (cond b None (Some WrongTicket)) x → (b ≡ true) × (p ≡ x)
good_as true p x e = (refl, cc)
good_as false p x e = absurd cc

module _ (s : State) (room : needed s.sizes ≤ length s.cells) where
  page_length : (w : ℕ) → w < s.sizes.workers → length (page_in s w) ≡ page_size s.sizes
  page_length w l =
      length-take-le (page_size s.sizes) (drop (page_start s.sizes w) s.cells)
      (simp length-drop (grind arith))

  page_fits : (w : ℕ) → w < s.sizes.workers → fits (page_in s w) s.sizes.keys ≡ true
  page_fits w l =
      and_from (leb 1 s.sizes.keys) _ (le-leb 1 s.sizes.keys s.sizes.keyed.0)
      (and_from (leb s.sizes.keys 64) _ (le-leb s.sizes.keys 64 s.sizes.keyed.1) (eq-eqb (length (page_in s w)) (page_size s.sizes) (page_length w l)))

  page_keys : (w : ℕ) → w < s.sizes.workers → keys_of (page_in s w) s.sizes.keys ≡ s.sizes.keys
  page_keys w l = rw (page_fits w l) refl

  module _ (t : TicketNumber) (p : PageOf) (e : Ok p ≡ unless_refused (ticket_refused s t) (page_of s t.worker)) where
    good : is_good s t ≡ true
    good = (good_as (is_good s t) p (page_of s t.worker) e).0

    same : p ≡ page_of s t.worker
    same = (good_as (is_good s t) p (page_of s t.worker) e).1

    within : t.worker < s.sizes.workers
    within = ltb-true t.worker s.sizes.workers (and_parts (ltb t.worker s.sizes.workers) (is_out (worker_at s t.worker).page && eqb (worker_at s t.worker).serial t.serial) good).0

    -- a question to the copied page is a question to the page
    pub asked : {A : Type 0} (start area : ℕ) (r : Result A Unanswered) (slice cells : List ℕ) (n keys : ℕ) → slice ≡ p.cells → n ≡ p.keys → cells ≡ slice → keys ≡ keys_of slice n → Refuses (unanswered keys (shown cells keys) start area) r → Refuses (unanswered_at s t start area) r
    asked start area r slice cells n keys a b c d q =
        let one : cells ≡ page_in s t.worker = c ∙ a ∙ ap (λ (x : PageOf). x.cells) same in
        let two : keys ≡ s.sizes.keys =
        d ∙ ap (λ (x : List ℕ). keys_of x n) (a ∙ ap (λ (x : PageOf). x.cells) same) ∙ ap (λ (x : ℕ). keys_of (page_in s t.worker) x) (b ∙ ap (λ (x : PageOf). x.keys) same) ∙ page_keys t.worker within in
        let on_page : Refuses (unanswered keys (shown (page_in s t.worker) keys) start area) r = subst (λ (x : List ℕ). Refuses (unanswered keys (shown x keys) start area) r) one q in
        rw good (subst (λ (x : ℕ). Refuses (unanswered x (shown (page_in s t.worker) x) start area) r) two on_page)

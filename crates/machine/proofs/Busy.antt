-- A turn that does not answer leaves its worker in its call.
use Rattle.std.proofs.Common.{◌≡◌, ℕ, ◌<◌, ◌≤◌, true, false, length, Some, None, Option, sym, refl, ap, ◌∙◌, ⊎_elim}
use Rattle.std.proofs.lemmas.List.{get_or_past, get_or-set_same}
use Rattle.std.proofs.lemmas.Bool.{both_ways, cases_lt}
use Rattle.codes.specs.declared.answer.Answer.{Answer}
use Rattle.places.specs.declared.place.Place.{Place}
use Rattle.places.specs.declared.place.Place.TheVariants as place
use Rattle.machine.specs.Requests.{is_idle}
use Rattle.machine.specs.Workers.{nobody}
use Rattle.machine.specs.Effects.{got_of}
use Rattle.machine.specs.States.{State}
use Rattle.machine.specs.Turns.{worker_at, hand_at, touch_at, next_at, followed_at, answer_at, turned}
use Rattle.machine.proofs.Stages.{Staged, StagedOr, next_staged, followed_staged}

staged_busy : (p : Place) (g : Option ℕ) (q : Place) → Staged p g q → is_idle p ≡ false → is_idle q ≡ false
staged_busy p g place.Idle s e = ap is_idle (sym s) ∙ e
staged_busy p g q s e = refl

or_busy : (p : Place) (g : Option ℕ) (a : Option Answer) (q : Place) → StagedOr p g a q → is_idle p ≡ false → a ≡ None → is_idle q ≡ false
or_busy p g None q s e f = staged_busy p g q s e
or_busy p g (Some a) q s e f = cc

-- a worker in its call has a record of its own
pub busy_within : (s : State) (w : ℕ) → is_idle (worker_at s w).place ≡ false → w < length s.workers
busy_within s w e =
    ⊎_elim (λ (l : w < length s.workers). l)
    (λ (l : length s.workers ≤ w).
    let d : worker_at s w ≡ nobody = get_or_past s.workers w nobody l in
    let i : is_idle (worker_at s w).place ≡ true = ap (λ v. is_idle v.place) d in
    absurd (both_ways (is_idle (worker_at s w).place) e i))
    (cases_lt w (length s.workers))

pub turned_busy : (s : State) (w : ℕ) → is_idle (worker_at s w).place ≡ false → answer_at s w ≡ None → is_idle (worker_at (turned s w) w).place ≡ false
turned_busy s w e a =
    let same : worker_at (turned s w) w ≡ (followed_at s w).worker = get_or-set_same s.workers w (followed_at s w).worker nobody (busy_within s w e) in
    let g : Option ℕ = got_of s.sizes s.cells (touch_at s w) in
    let p : Place = (worker_at s w).place in
    ap (λ v. is_idle v.place) same
    ∙ or_busy p g (answer_at s w) (followed_at s w).worker.place (followed_staged p g s.sizes.keys (worker_at s w) (hand_at s w) (next_at s w) (next_staged p (hand_at s w) g)) e a

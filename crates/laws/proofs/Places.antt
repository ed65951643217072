-- What holds of every worker's place after a turn or a begin, from what held before.
use Rattle.std.proofs.Common.{◌≡◌, ℕ, ◌<◌, Some, None, Ok, Option, sym, subst}
use Rattle.codes.specs.declared.answer.Answer.{Answer}
use Rattle.places.specs.declared.call.Begin.{Begin}
use Rattle.places.specs.declared.place.Call.{Call}
use Rattle.places.specs.declared.place.Place.{Place}
use Rattle.places.specs.declared.place.Place.TheVariants as place
use Rattle.places.specs.Calls.{place_first}
use Rattle.places.specs.Nexts.{number_of}
use Rattle.places.specs.Private.{link_kind}
use Rattle.places.specs.Touches.{touch_of}
use Rattle.machine.specs.Effects.{got_of}
use Rattle.machine.specs.States.{State}
use Rattle.machine.specs.Turns.{worker_at, spare_for, hand_at, touch_at, next_at, answer_at, turned}
use Rattle.machine.specs.Requests.{call_to_begin, state_begun}
use Rattle.machine.proofs.Stages.{Staged, StagedOr, next_staged, followed_staged}
use Rattle.laws.specs.Sound.{Sound}
use Rattle.laws.proofs.Keeps.{record_each}
use Rattle.laws.proofs.Begins.{begun_each}

abbrev pub got_at : State → ℕ → Option ℕ
got_at s w = got_of s.sizes s.cells (touch_at s w)

-- what a worker at a place reads
abbrev pub number_at : State → ℕ → Place → ℕ
number_at s w p = number_of (got_of s.sizes s.cells (touch_of p (spare_for s.sizes w (worker_at s w) (link_kind p))))

-- the worker's own place follows from its place before, the others stay where they were
pub turn_places : (s : State) (w : ℕ) → Sound s → w < s.sizes.workers → (P : Place → Type 0) → P place.Idle → ((q : Place) → Staged (worker_at s w).place (got_at s w) q → P q) → ((v : ℕ) → v < s.sizes.workers → P (worker_at s v).place) → (v : ℕ) → v < s.sizes.workers → P (worker_at (turned s w) v).place
turn_places s w z b P idle own others =
    record_each s w z b (λ v u. v < s.sizes.workers → P u.place)
    (λ _. go (answer_at s w) _ (followed_staged (worker_at s w).place (got_at s w) s.sizes.keys (worker_at s w) (hand_at s w) (next_at s w) (next_staged (worker_at s w).place (hand_at s w) (got_at s w))))
    others
  where
    go : (a : Option Answer) (q : Place) → StagedOr (worker_at s w).place (got_at s w) a q → P q
    go None q e = own q e
    go (Some a) q e = subst P (sym e) idle

-- the worker's own place is the first of a call, the others stay where they were
pub begin_places : (s : State) (b : Begin) → Sound s → (c : Call) → call_to_begin s b ≡ Ok c → (P : Place → Type 0) → P (place_first c) → ((v : ℕ) → v < s.sizes.workers → P (worker_at s v).place) → (v : ℕ) → v < s.sizes.workers → P (worker_at (state_begun s b.worker (Ok c)) v).place
begin_places s b z c e P own others = begun_each s b z c e (λ v u. v < s.sizes.workers → P u.place) (λ _. own) others

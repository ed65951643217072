-- Every run keeps the clock within its limits, and ins and del of linked rows at 0, pending or a stamp.
use Rattle.std.proofs.Common.{◌≡◌, ℕ, ◌+◌, ◌<◌, List, Ok, sym, refl, ap, ◌∙◌, subst, ⊎_elim, arith}
use Rattle.layout.specs.declared.sizes.Sizes.{Sizes}
use Rattle.layout.specs.declared.names.Kind.{Kind}
use Rattle.layout.specs.declared.names.Field.{Field}
use Rattle.layout.specs.declared.names.Field.TheVariants.{Ins, Del}
use Rattle.layout.specs.declared.names.Cell.TheVariants as cell
use Rattle.places.specs.declared.call.Begin.{Begin}
use Rattle.places.specs.declared.place.Call.{Call}
use Rattle.places.specs.declared.place.Call.TheVariants as call
use Rattle.places.specs.declared.place.Stage.TheVariants as stage
use Rattle.places.specs.declared.place.Place.{Place}
use Rattle.places.specs.declared.place.Place.TheVariants as place
use Rattle.places.specs.Calls.{place_first}
use Rattle.machine.specs.States.{State}
use Rattle.machine.specs.Turns.{worker_at, turned}
use Rattle.machine.specs.Requests.{call_to_begin, state_begun}
use Rattle.machine.specs.History.{Event, Traces}
use Rattle.machine.proofs.Stages.{Staged}
use Rattle.laws.specs.Fits.{Linked}
use Rattle.laws.specs.Changes.{number_in, Changes, Changes.keeps, Changes.ticks, Changes.links, Changes.stamps, Changes.ends, Changes.fills, Changes.writes}
use Rattle.laws.specs.Sound.{Sound}
use Rattle.laws.specs.Clean.{IsStamp, Clean}
use Rattle.laws.specs.Stamps.{field_start, Holds, Holds.not_ended, Holds.waits, Holds.stamped, Moves, Moves.same, Moves.ended, Moves.settled}
use Rattle.laws.proofs.Owned.{linked_row, next_unused}
use Rattle.laws.proofs.Stays.{turn_changes, clock_changes}
use Rattle.laws.proofs.Keeps.{New, fit, split, new_starts}
use Rattle.laws.proofs.Rests.{Rests, rest_each}
use Rattle.laws.proofs.Steps.{step_each, run_each}
use Rattle.laws.proofs.Clean.{clean_holds}
use Rattle.laws.proofs.Runs.{runs_sound}
use Rattle.laws.proofs.Places.{got_at, number_at, turn_places, begin_places}

-- the number that a worker has read off the clock
abbrev InHand : Sizes → Place → Type 0
InHand z (place.Settle (stage.Swap n) p) = IsStamp z n
InHand z p = Unit {0}

pub record StampsHold (s : State) : Type 0 where
  pub clock : IsStamp s.sizes (number_in s cell.Clock)
  pub hands : (w : ℕ) → w < s.sizes.workers → InHand s.sizes (worker_at s w).place
  pub fields : (k : Kind) (f : Field) (r : ℕ) → Linked s k r → Holds s.sizes f (number_in s (cell.Stamp k f r))

start_holds : (z : Sizes) (f : Field) (x : ℕ) → x ≡ field_start f → Holds z f x
start_holds z Ins x e = waits e
start_holds z Del x e = not_ended refl e

move_holds : (z : Sizes) (f : Field) (x y : ℕ) → Moves z f x y → Holds z f x → Holds z f y
move_holds z f x y (same e) h = subst (Holds z f) (sym e) h
move_holds z f x y (ended e a b) h = waits b
move_holds z f x y (settled a b) h = stamped b

-- a turn
module _ (s : State) (w : ℕ) (z : Sound s) (b : w < s.sizes.workers) (i : StampsHold s) where
  abbrev t : State
  t = turned s w

  clock_moves : (x y : ℕ) → Changes s w cell.Clock x y → IsStamp s.sizes x → IsStamp s.sizes y
  clock_moves x y c h =
      ⊎_elim (λ (e : y ≡ x). subst (IsStamp s.sizes) (sym e) h) (λ (e : (x < s.sizes.top) × (y ≡ x + 1)). (omega arith, omega arith))
      (clock_changes s w (fit s w z b) x y c)

  -- a worker reads its number off the clock
  own_hand : (q : Place) → Staged (worker_at s w).place (got_at s w) q → InHand s.sizes q
  own_hand (place.Settle (stage.Swap n) p) e = subst (IsStamp s.sizes) (sym (e.1 ∙ ap (number_at s w) e.0)) i.clock
  own_hand q e = tt

  field_moves : (k : Kind) (f : Field) (r x y : ℕ) → Linked s k r → Changes s w (cell.Stamp k f r) x y → Moves s.sizes f x y
  field_moves k f r x y l (keeps e) = same e
  field_moves k f r x y l (ticks v e c h q) = absurd cc
  field_moves k f r x y l (links d e c p) = absurd cc
  field_moves k f r x y l (stamps p e c q) = settled q (subst (InHand s.sizes) e (i.hands w b))
  field_moves k f r x y l (ends d q e c a h) = let g : f ≡ Del = cc in ended g a h
  field_moves k f r x y l (fills j q p o b) = absurd (next_unused s w j q p (z.counted j q (subst (λ (u : Kind). Linked s u q) o.0 (subst (Linked s k) o.1 l))))
  field_moves k f r x y l (writes o q) = absurd o

  pub turn_moves : (k : Kind) (f : Field) (r : ℕ) → Linked s k r → Moves s.sizes f (number_in s (cell.Stamp k f r)) (number_in (turned s w) (cell.Stamp k f r))
  turn_moves k f r l = field_moves k f r _ _ l (turn_changes s w (fit s w z b) (cell.Stamp k f r) (linked_row s k r l))

  turn_stamped : StampsHold t
  turn_stamped = record {
    clock = clock_moves _ _ (turn_changes s w (fit s w z b) cell.Clock tt) i.clock;
    hands = turn_places s w z b (InHand s.sizes) tt own_hand i.hands;
    fields = λ k f r l. ⊎_elim
        (λ (o : Linked s k r). move_holds s.sizes f _ _ (turn_moves k f r o) (i.fields k f r o))
        (λ (m : New s w z b k r). start_holds s.sizes f _ (new_starts s w z b k r m f))
        (split s w z b k r l);
  }

-- a begin changes no cell
first_hand : (z : Sizes) (c : Call) → InHand z (place_first c)
first_hand z (call.Survey v) = tt
first_hand z c = tt

begin_stamped : (s : State) (b : Begin) → Sound s → StampsHold s → (c : Call) → call_to_begin s b ≡ Ok c → StampsHold (state_begun s b.worker (Ok c))
begin_stamped s b z i c e = record {
  clock = i.clock;
  hands = begin_places s b z c e (InHand s.sizes) (first_hand s.sizes c) i.hands;
  fields = λ k f r l. i.fields k f r l;
}

-- what rests changes no cell and no place
rest_stamped : (s : State) → StampsHold s → (t : State) → Rests s t → StampsHold t
rest_stamped s i t r = rest_each s t r StampsHold (record { clock = i.clock; hands = λ w b. subst (InHand s.sizes) (sym (r.workers w).place) (i.hands w b); fields = i.fields })

-- a clean state
clean_stamped : (s : State) → Clean s → StampsHold s
clean_stamped s c = record {
  clock = c.clock;
  hands = λ w b. subst (InHand s.sizes) (sym (c.idle w b)) tt;
  fields = clean_holds s c;
}

pub runs_stamped : (start : State) → Clean start → (h : List Event) (s : State) → Traces start h s → StampsHold s
runs_stamped start c =
    run_each start (λ h s. StampsHold s) (clean_stamped start c)
    (λ e h s t i. let k = runs_sound start c h s t in step_each s StampsHold (rest_stamped s i) (λ b c q. begin_stamped s b k i c q) (λ w b. turn_stamped s w k b i) e.request)

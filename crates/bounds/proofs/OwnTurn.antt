-- What a turn of a worker makes of the turns that its call has had.
use Rattle.std.proofs.Common.{◌≡◌, ℕ, ◌+◌, ◌<◌, true, Option, sym, refl, ap, ◌∙◌, subst}
use Rattle.layout.specs.declared.names.Field.TheVariants.{Ins}
use Rattle.layout.specs.declared.names.Head.{Head}
use Rattle.layout.specs.declared.names.Head.TheVariants as head
use Rattle.layout.specs.declared.names.Cell.TheVariants as cell
use Rattle.places.specs.declared.place.Op.TheVariants.{Add, Remove, Contains}
use Rattle.places.specs.declared.place.Look.{Look}
use Rattle.places.specs.declared.place.Look.TheVariants as look
use Rattle.places.specs.declared.place.Pair.{Pair}
use Rattle.places.specs.declared.place.Change.{Change}
use Rattle.places.specs.declared.place.Change.TheVariants as change
use Rattle.places.specs.declared.place.Call.{Call}
use Rattle.places.specs.declared.place.Call.TheVariants as call
use Rattle.places.specs.declared.place.Purpose.{Purpose}
use Rattle.places.specs.declared.place.Purpose.TheVariants as purpose
use Rattle.places.specs.declared.place.Place.{Place}
use Rattle.places.specs.declared.place.Place.TheVariants as place
use Rattle.places.specs.declared.place.Stage.TheVariants as stage
use Rattle.places.specs.Marks.{mark_of, is_ended}
use Rattle.places.specs.Moved.{Next, Next as next}
use Rattle.places.specs.Rules.{lost_link}
use Rattle.places.specs.Touches.{change_head, settled_field}
use Rattle.machine.specs.States.{State}
use Rattle.machine.specs.Effects.{got_of}
use Rattle.machine.specs.Turns.{worker_at, hand_of, next_at}
use Rattle.laws.specs.Fits.{FitPair, FitLook, FitChange, FitPurpose, FitPlace}
use Rattle.laws.specs.Changes.{number_in}
use Rattle.laws.specs.Sound.{Sound}
use Rattle.runs.specs.Purposes.{look_call, change_call, purpose_call, InCall}
use Rattle.runs.proofs.Turns.{touch_from, next_is, LinkTurn, LinkTurn.spent, LinkTurn.lost, LinkTurn.won, link_turn}
use Rattle.bounds.proofs.Budgets.{place_turns, stale, Plain, Reaches, Reads, TurnSays, Watched, next_reaches, lost_vertex, lost_edge, won_reaches}

abbrev pub pair_head : Pair → Head
pair_head p = head.Edge p.from p.to

-- the head that an add of an edge depends on; for the other calls nothing does
abbrev pub watched : State → Call → ℕ
watched s (call.Edge Add p) = number_in s (cell.Head (pair_head p))
watched s c = 0

-- the pair of an edge call is one of keys
abbrev pub PairFits : State → Call → Type 0
PairFits s (call.Edge o p) = FitPair s p
PairFits s c = Unit {0}

look_fits : (s : State) (l : Look) → FitLook s l → PairFits s (look_call l)
look_fits s (look.Vertex o i) f = tt
look_fits s (look.Source o p) f = f
look_fits s (look.Target o p r) f = f.0
look_fits s (look.Edge o b) f = f.keys

change_fits : (s : State) (d : Change) → FitChange s d → PairFits s (change_call Add d) × PairFits s (change_call Remove d)
change_fits s (change.Vertex i) f = (tt, tt)
change_fits s (change.Edge b) f = (f.keys, f.keys)

purpose_fits : (s : State) (p : Purpose) → FitPurpose s p → PairFits s (purpose_call p)
purpose_fits s (purpose.Look f l r) g = look_fits s l g.0
purpose_fits s (purpose.Own Ins d r) g = (change_fits s d g.0).0
purpose_fits s (purpose.Own f d r) g = (change_fits s d g.0).1
purpose_fits s (purpose.LostDel d r) g = (change_fits s d g.0).1
purpose_fits s (purpose.WinnerIns i r) g = tt
purpose_fits s (purpose.SourceAgain o b) g = g.keys
purpose_fits s (purpose.CheckAgain d o b f) g = g.0.keys
purpose_fits s (purpose.Compare d b f e x) g = g.keys
purpose_fits s (purpose.Walk f k r) g = tt

pub place_fits : (s : State) (p : Place) (c : Call) → InCall p c → FitPlace s p → PairFits s c
place_fits s place.Idle c e f = absurd e
place_fits s (place.Head l) c e f = subst (PairFits s) e (look_fits s l f)
place_fits s (place.Settle st p) c e f = subst (PairFits s) e (purpose_fits s p f)
place_fits s (place.Link d h) c e f = subst (PairFits s) e (change_fits s d f.0).0
place_fits s (place.End d r) c e f = subst (PairFits s) e (change_fits s d f.0).1
place_fits s (place.LostHead i) c e f = subst (PairFits s) e tt
place_fits s (place.Raise v) c e f = subst (PairFits s) e tt
place_fits s (place.WalkHead k) c e f = subst (PairFits s) e tt
place_fits s (place.WalkOlder k r) c e f = subst (PairFits s) e tt

module _ (s : State) (w : ℕ) (z : Sound s) (inside : w < s.sizes.workers) (c : Call) (plain : Plain c)
    (again : (p : Purpose) → (worker_at s w).place ≡ place.Settle stage.Reread p → is_ended (mark_of (number_in s (settled_field p))) ≡ true) where
  abbrev x : ℕ
  x = watched s c

  -- what follows the turn allows for it
  abbrev pub Allows : Place → Next → Type 0
  Allows p y = Reaches (place_turns p + 1) (stale x p) x y

  abbrev got : Place → Option ℕ
  got p = got_of s.sizes s.cells (touch_from s w p)

  reads : (l : Look) → look_call l ≡ c → Reads x l (got (place.Head l))
  reads (look.Edge Add b) e = ap (watched s) e
  reads (look.Edge Remove b) e = tt
  reads (look.Edge Contains b) e = tt
  reads (look.Vertex o i) e = tt
  reads (look.Source o p) e = tt
  reads (look.Target o p r) e = tt

  by_next : (p : Place) → (worker_at s w).place ≡ p → InCall p c → TurnSays x p (got p) → Allows p (next_at s w)
  by_next p e i q = subst (Allows p) (sym (next_is s w p e)) (next_reaches p (hand_of s.sizes s.cells w (worker_at s w) p) (got p) x c i plain q)

  -- where a link is lost, the head is not the one in hand
  lost_turn : (d : Change) (h : ℕ) → change_call Add d ≡ c → ¬ (number_in s (cell.Head (change_head d)) ≡ h) → Allows (place.Link d h) (next.Moved (lost_link d))
  lost_turn (change.Vertex i) h e n = lost_vertex i h x
  lost_turn (change.Edge b) h e n = lost_edge b h x (λ q. n (ap (watched s) e ∙ q))

  by_link : (d : Change) (h : ℕ) → (worker_at s w).place ≡ place.Link d h → change_call Add d ≡ c → Allows (place.Link d h) (next_at s w)
  by_link d h e i = go (link_turn s w z inside d h e)
    where
      go : LinkTurn s w d h → Allows (place.Link d h) (next_at s w)
      go (spent q y) = subst (Allows (place.Link d h)) (sym y) tt
      go (lost r q n y) = subst (Allows (place.Link d h)) (sym y) (lost_turn d h i n)
      go (won r q g y v m) = subst (Allows (place.Link d h)) (sym y) (won_reaches d h x r)

  pub own_reaches : (p : Place) → (worker_at s w).place ≡ p → InCall p c → Allows p (next_at s w)
  own_reaches (place.Head l) e i = by_next (place.Head l) e i (reads l i)
  own_reaches (place.Link d h) e i = by_link d h e i
  own_reaches (place.Settle stage.Reread p) e i = by_next (place.Settle stage.Reread p) e i (again p e)
  own_reaches (place.Settle stage.First p) e i = by_next (place.Settle stage.First p) e i tt
  own_reaches (place.Settle stage.Clock p) e i = by_next (place.Settle stage.Clock p) e i tt
  own_reaches (place.Settle (stage.Swap n) p) e i = by_next (place.Settle (stage.Swap n) p) e i tt
  own_reaches p e i = by_next p e i tt

  -- a link at the head that is in hand is not lost
  pub link_watched : (d : Change) (y : ℕ) → (worker_at s w).place ≡ place.Link d (number_in s (cell.Head (change_head d))) → Watched x y (next_at s w)
  link_watched d y e = go (link_turn s w z inside d (number_in s (cell.Head (change_head d))) e)
    where
      go : LinkTurn s w d (number_in s (cell.Head (change_head d))) → Watched x y (next_at s w)
      go (spent q a) = subst (Watched x y) (sym a) tt
      go (lost r q n a) = absurd (n refl)
      go (won r q g a v m) = subst (Watched x y) (sym a) tt

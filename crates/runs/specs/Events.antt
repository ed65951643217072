-- Links and ends of a run: when rows are linked and ended, and in which order.
use Rattle.std.specs.Prelude.{◌≡◌, ℕ, zero, ◌<◌, ◌≤◌, ◌⊎◌}
use Rattle.layout.specs.declared.names.Kind.{Kind}
use Rattle.layout.specs.declared.names.Kind.TheVariants.{Edge}
use Rattle.layout.specs.declared.names.Field.TheVariants.{Ins, Del}
use Rattle.layout.specs.declared.names.Head.TheVariants as head
use Rattle.places.specs.declared.mark.Mark.TheVariants.{NotEnded, Stamp}
use Rattle.places.specs.declared.place.Bound.{Bound}
use Rattle.places.specs.declared.place.Change.{Change}
use Rattle.places.specs.declared.place.Change.TheVariants as change
use Rattle.places.specs.Touches.{change_kind}
use Rattle.runs.specs.Runs.{RunInTime}
use Rattle.runs.specs.Views.{clock_at, head_at, mark_at, LinkedAt}
use Rattle.runs.specs.Times.{Before}
use Rattle.runs.specs.Known.{StampedAt, Dead, BoundTo, LinkEvent, EndEvent}

module _ (R : RunInTime) where
  -- a turn of some call linked row r of a kind, or made its del pending
  pub record LinkEventOfKind (c : Kind) (r p : ℕ) : Type 0 where
    pub began : ℕ
    pub change : Change
    pub kind : change_kind change ≡ c
    pub event : LinkEvent R p began change r

  pub record EndEventOfKind (c : Kind) (r p : ℕ) : Type 0 where
    pub began : ℕ
    pub change : Change
    pub kind : change_kind change ≡ c
    pub event : EndEvent R p began change r

  pub record EventLaws : Type 0 where
    -- a linked row is from before the start or was linked by some call, not both; and one that has ended was ended by one
    pub linked : (k : ℕ) (c : Kind) (r : ℕ) → LinkedAt R k c r → LinkedAt R zero c r ⊎ Before k (LinkEventOfKind c r)
    pub old_fresh : (c : Kind) (r p : ℕ) → LinkedAt R zero c r → ¬ (LinkEventOfKind c r p)
    pub ended : (k : ℕ) (c : Kind) (r : ℕ) → LinkedAt R k c r → ¬ (mark_at R k c Del r ≡ NotEnded) → Before k (EndEventOfKind c r)
    -- each row is linked once and ends once
    pub link_once : (c : Kind) (r p q : ℕ) (x : LinkEventOfKind c r p) (y : LinkEventOfKind c r q) → (p ≡ q) × (x.began ≡ y.began) × (x.change ≡ y.change)
    pub end_once : (c : Kind) (r p q : ℕ) (x : EndEventOfKind c r p) (y : EndEventOfKind c r q) → (p ≡ q) × (x.began ≡ y.began) × (x.change ≡ y.change)
    -- a stamp is a number that the clock had from the turn of its change on
    pub link_stamp : (c : Kind) (r p t n : ℕ) → LinkEventOfKind c r p → p < t → mark_at R t c Ins r ≡ Stamp n → (clock_at R p ≤ n) × (n ≤ clock_at R t)
    pub end_stamp : (c : Kind) (r p t n : ℕ) → EndEventOfKind c r p → p < t → mark_at R t c Del r ≡ Stamp n → (clock_at R p ≤ n) × (n ≤ clock_at R t)
    -- of two rows of one key, the older was dead when the newer was linked
    pub vertex_order : (p b i r q a s : ℕ) → LinkEvent R p b (change.Vertex i) r → LinkEvent R q a (change.Vertex i) s → p < q → Dead R q r
    pub vertex_old : (i r q a s : ℕ) → i < R.sizes.keys → head_at R zero (head.Vertex i) ≡ r → 0 < r → LinkEvent R q a (change.Vertex i) s → Dead R q r
    -- of two edge rows bound to the same vertex rows, the older bore the stamp of its end when the newer was linked
    pub edge_order : (p b e q a f : ℕ) (d c : Bound) → LinkEvent R p b (change.Edge d) e → LinkEvent R q a (change.Edge c) f → d.source ≡ c.source → d.target ≡ c.target → p < q → StampedAt R q Edge Del e
    pub edge_old : (e q a f : ℕ) (c : Bound) → LinkedAt R zero Edge e → LinkEvent R q a (change.Edge c) f → BoundTo R zero e c → StampedAt R q Edge Del e

abbrev pub RunsEvents : Type 0
RunsEvents = (R : RunInTime) → EventLaws R

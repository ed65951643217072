-- What a worker knows after the turn in which it settled a field, by what the field was wanted for.
use Rattle.std.proofs.Common.{◌≡◌, ℕ, suc, ◌<◌, ◌≤◌, Bool, true, false, cond, eqb, ◌&&◌, ◌⊎◌, None, Ok, Err, Result, sym, refl, ◌∙◌, inl, inr, arith}
use Rattle.std.proofs.lemmas.Bool.{eqb-true, eqb-false}
use Rattle.std.specs.declared.ops.ControlFlow.TheVariants.{Continue}
use Rattle.layout.specs.declared.names.Kind.{Kind}
use Rattle.layout.specs.declared.names.Kind.TheVariants.{Vertex, Edge}
use Rattle.layout.specs.declared.names.Field.{Field}
use Rattle.layout.specs.declared.names.Field.TheVariants.{Ins, Del}
use Rattle.layout.specs.declared.names.Head.TheVariants as head
use Rattle.layout.specs.declared.names.Cell.TheVariants as cell
use Rattle.places.specs.declared.mark.Mark.{Mark}
use Rattle.places.specs.declared.mark.Mark.TheVariants.{NotEnded, Pending, Stamp}
use Rattle.places.specs.declared.place.Op.{Op}
use Rattle.places.specs.declared.place.Op.TheVariants.{Add, Remove, Contains}
use Rattle.places.specs.declared.place.Bound.{Bound}
use Rattle.places.specs.declared.place.Look.{Look}
use Rattle.places.specs.declared.place.Look.TheVariants as look
use Rattle.places.specs.declared.place.Change.TheVariants as change
use Rattle.places.specs.declared.place.Call.TheVariants as call
use Rattle.places.specs.declared.place.Hand.{Hand}
use Rattle.places.specs.declared.place.Place.TheVariants as place
use Rattle.places.specs.Rules.{look_found, checked, bound_row, alive, absent, looked}
use Rattle.places.specs.Touches.{look_head, look_kind}
use Rattle.runs.specs.Runs.{RunInTime}
use Rattle.runs.specs.Views.{number_at, head_at, mark_at, LinkedAt}
use Rattle.runs.specs.Times.{Before, TimeLaws}
use Rattle.runs.specs.Purposes.{look_call}
use Rattle.runs.specs.Known.{TurnOf, StampedAt, Dead, Living, HeadWas, Saw, BoundTo, Over, HitAt, KnownFound, Firm}
use Rattle.runs.specs.Reasons.{Why.vertex_here, Why.vertex_gone, Why.edge_here, Why.edge_missed, WorkerKnows}
use Rattle.runs.proofs.Goods.{Good}
use Rattle.runs.proofs.Times.{before_later}
use Rattle.runs.proofs.Kept.{stamped_later, over_later}
use Rattle.runs.proofs.Heads.{row_pos, still_head}
use Rattle.runs.proofs.Times.{runs_last as last}

pub mark_settled : (R : RunInTime) (k : ℕ) (c : Kind) (f : Field) (r : ℕ) (m : Mark) → mark_at R k c f r ≡ m → ¬ (m ≡ NotEnded) → ¬ (m ≡ Pending) → StampedAt R k c f r
mark_settled R k c f r NotEnded e a d = absurd (a refl)
mark_settled R k c f r Pending e a d = absurd (d refl)
mark_settled R k c f r (Stamp n) e a d = record { number = n; is = e }

-- The key of a look at a vertex is a key of the opening.
abbrev pub KeysOf : RunInTime → Look → Type 0
KeysOf R (look.Vertex o i) = i < R.sizes.keys
KeysOf R (look.Source o p) = p.from < R.sizes.keys
KeysOf R (look.Target o p s) = p.to < R.sizes.keys
KeysOf R (look.Edge o d) = Unit {0}

module _ (R : RunInTime) (k : ℕ) (knows : (j : ℕ) → j < suc k → (w : ℕ) → w < R.sizes.workers → WorkerKnows R j w) (b : ℕ) (started : TurnOf R k b) where
  pub laws : TimeLaws R k (suc k)
  laws = (last R).times k (suc k) (omega arith)

  -- what holds at this turn
  pub now : {P : ℕ → Type 0} → P k → Before (suc k) P
  now h = record { time = k; before = omega arith; held = h }

  pub later : {P : ℕ → Type 0} → Before k P → Before (suc k) P
  later h = before_later (omega arith) h

  pub stamped_next : (c : Kind) (f : Field) (r : ℕ) → LinkedAt R k c r → StampedAt R k c f r → StampedAt R (suc k) c f r
  stamped_next c f r l s = stamped_later R k (suc k) (omega arith) laws c f r l s

  pub dead_next : (r : ℕ) → LinkedAt R k Vertex r → StampedAt R k Vertex Del r → Dead R (suc k) r
  dead_next r l s = record { linked = laws.linked Vertex r l; ended = stamped_next Vertex Del r l s }

  -- before a swap of del of an edge row
  ending : (d : Bound) (e : ℕ) → Before (suc k) (λ t. HitAt R t b Remove d e) → Good R (suc k) b (call.Edge Remove d.pair) None (Continue (place.End (change.Edge d) e))
  ending d e n =
      let t : n.time ≤ suc k = omega (arith, n.before) in
      ((stamped_later R n.time (suc k) t ((last R).times n.time (suc k) t) Edge Ins e n.held.linked n.held.born, n), refl)

  -- after the look at the edge
  pub founds : (o : Op) (d : Bound) (f : Result ℕ ℕ) → KnownFound R (suc k) b o d f → Good R (suc k) b (call.Edge o d.pair) None (look_found o d f)
  founds Remove d (Ok e) n = ending d e n
  founds Remove d (Err h) n = ((tt, n), refl)
  founds Add d (Ok e) n = ((tt, n), refl)
  founds Add d (Err h) n = ((tt, n), refl)
  founds Contains d (Ok e) n = ((tt, n), refl)
  founds Contains d (Err h) n = ((tt, n), refl)

  firm_over : (o : Op) (d : Bound) (h : ℕ) → Firm R (suc k) b o d (Err h) → Over R (suc k) h d
  firm_over o d h n =
      let half = n.held.2 in
      let t : half.time ≤ suc k = omega (arith, n.before, half.before) in
      over_later R half.time (suc k) t ((last R).times half.time (suc k) t) h d half.held.2.1

  -- after checking again
  pub checks : (o : Op) (d : Bound) (f : Result ℕ ℕ) → Firm R (suc k) b o d f → Good R (suc k) b (call.Edge o d.pair) None (checked o d f)
  checks Add d (Err h) n = ((n, firm_over Add d h n), refl)
  checks Add d (Ok e) n = edge_here Add d e refl refl (inl (refl, refl)) n
  checks Contains d (Err h) n = edge_missed Contains d h refl refl refl (inr refl) n
  checks Contains d (Ok e) n = edge_here Contains d e refl refl (inr (refl, refl)) n
  checks Remove d (Err h) n = edge_missed Remove d h refl refl refl (inl refl) n
  checks Remove d (Ok e) n = ending d e (before_later (omega (arith, n.before, n.held.2.before)) n.held.2.held.2)

  -- a look that finds nothing
  abbrev pub Nothing : Look → ℕ → Type 0
  Nothing (look.Edge o d) h = Over R (suc k) h d
  Nothing l h = (h ≡ 0) ⊎ Dead R (suc k) h

  pub nothing_zero : (l : Look) → Nothing l 0
  nothing_zero (look.Edge o d) = inl refl
  nothing_zero (look.Vertex o i) = inl refl
  nothing_zero (look.Source o p) = inl refl
  nothing_zero (look.Target o p s) = inl refl

  nothing_ended : (l : Look) (r : ℕ) → LinkedAt R k (look_kind l) r → StampedAt R k (look_kind l) Ins r → StampedAt R k (look_kind l) Del r → Nothing l r
  nothing_ended (look.Edge o d) r l s e = inr (record { linked = laws.linked Edge r l; born = stamped_next Edge Ins r l s; why = inl (stamped_next Edge Del r l e) })
  nothing_ended (look.Vertex o i) r l s e = inr (dead_next r l e)
  nothing_ended (look.Source o p) r l s e = inr (dead_next r l e)
  nothing_ended (look.Target o p x) r l s e = inr (dead_next r l e)

  saw_head : (l : Look) (r : ℕ) → Saw R (suc k) b l r → HeadWas R (suc k) b (look_head l) r
  saw_head l r h = record { time = h.time; before = h.before; held = (h.held.0, h.held.1) }

  pub goes : (l : Look) (h : ℕ) → Saw R (suc k) b l h → Nothing l h → Good R (suc k) b (look_call l) None (absent l h)
  goes (look.Vertex Add i) h a n = ((a, n), refl)
  goes (look.Vertex Remove i) h a n = vertex_gone i h refl refl refl (saw_head (look.Vertex Remove i) h a) n
  goes (look.Vertex Contains i) h a n = vertex_gone i h refl refl refl (saw_head (look.Vertex Contains i) h a) n
  goes (look.Source o p) h a n = vertex_gone p.from h refl (inl refl) refl (saw_head (look.Source o p) h a) n
  goes (look.Target o p s) h a n = vertex_gone p.to h refl (inr refl) refl (saw_head (look.Target o p s) h a) n
  goes (look.Edge o d) h a n = founds o d (Err h) (a, n)

  -- a look that finds a row that has not ended
  lives : (i r t : ℕ) → i < R.sizes.keys → t < k → head_at R t (head.Vertex i) ≡ r → LinkedAt R k Vertex r → StampedAt R k Vertex Ins r → mark_at R k Vertex Del r ≡ NotEnded → Living R k i r
  lives i r t n a e l s z = record { linked = l; head = still_head R (suc k) knows i n r t k (row_pos R k r l) (omega arith) (omega arith) e z; born = s; alive = z }

  -- the bound rows that are at hand are those of the cells
  abbrev pub HandHolds : ℕ → Hand → Type 0
  HandHolds r h = (h.source ≡ number_at R k (cell.Source r)) × (h.target ≡ number_at R k (cell.Target r))

  hits : (o : Op) (d : Bound) (r : ℕ) (h : Hand) → HandHolds r h → Saw R k b (look.Edge o d) r → LinkedAt R k Edge r → StampedAt R k Edge Ins r → mark_at R k Edge Del r ≡ NotEnded → Good R (suc k) b (call.Edge o d.pair) None (look_found o d (bound_row d r h))
  hits o d r h q a l s z = go (eqb h.source d.source) (eqb h.target d.target) refl refl
    where
      other : ¬ (BoundTo R k r d) → Good R (suc k) b (call.Edge o d.pair) None (look_found o d (Err r))
      other n = founds o d (Err r) (later a, inr (record { linked = laws.linked Edge r l; born = stamped_next Edge Ins r l s; why = inr (λ x. n (sym (laws.source r l) ∙ x.0, sym (laws.target r l) ∙ x.1)) }))

      go : (x y : Bool) → eqb h.source d.source ≡ x → eqb h.target d.target ≡ y → Good R (suc k) b (call.Edge o d.pair) None (look_found o d (cond (x && y) (Ok r) (Err r)))
      go true true e f = founds o d (Ok r) (now (record { turn = started; linked = l; born = s; alive = z; bound = (sym q.0 ∙ eqb-true _ _ e, sym q.1 ∙ eqb-true _ _ f); saw = a }))
      go true false e f = other (λ x. eqb-false _ _ f (q.1 ∙ x.1))
      go false y e f = other (λ x. eqb-false _ _ e (q.0 ∙ x.0))

  abbrev pub LookHand : Look → ℕ → Hand → Type 0
  LookHand (look.Edge o d) r h = HandHolds r h
  LookHand l r h = Unit {0}

  meets : (l : Look) (r : ℕ) (h : Hand) → KeysOf R l → LookHand l r h → Saw R k b l r → LinkedAt R k (look_kind l) r → StampedAt R k (look_kind l) Ins r → mark_at R k (look_kind l) Del r ≡ NotEnded → Good R (suc k) b (look_call l) None (alive l r h)
  meets (look.Vertex Add i) r h n q a l s z = vertex_here i r refl (inl (refl, refl)) (now (started, lives i r _ n a.before a.held.1 l s z))
  meets (look.Vertex Remove i) r h n q a l s z = ((stamped_next Vertex Ins r l s, now (started, lives i r _ n a.before a.held.1 l s z)), refl)
  meets (look.Vertex Contains i) r h n q a l s z = vertex_here i r refl (inr (refl, refl)) (now (started, lives i r _ n a.before a.held.1 l s z))
  meets (look.Source o p) r h n q a l s z = (now (started, lives p.from r _ n a.before a.held.1 l s z), refl)
  meets (look.Target o p x) r h n q a l s z = ((tt, (before_later (omega (arith, a.before)) a.held.2, now (started, lives p.to r _ n a.before a.held.1 l s z))), refl)
  meets (look.Edge o d) r h n q a l s z = hits o d r h q a l s z

  pub looks : (l : Look) (r : ℕ) (h : Hand) (m : Mark) → KeysOf R l → LookHand l r h → mark_at R k (look_kind l) Del r ≡ m → ¬ (m ≡ Pending) → Saw R k b l r → LinkedAt R k (look_kind l) r → StampedAt R k (look_kind l) Ins r → Good R (suc k) b (look_call l) None (looked l r h m)
  looks l r h NotEnded n q e p a t s = meets l r h n q a t s e
  looks l r h Pending n q e p a t s = absurd (p refl)
  looks l r h (Stamp x) n q e p a t s = goes l r (later a) (nothing_ended l r t s (record { number = x; is = e }))

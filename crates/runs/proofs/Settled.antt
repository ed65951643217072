-- What a worker knows after it has settled a field, for every purpose.
use Rattle.std.proofs.Common.{rules, ◌≡◌, ℕ, suc, ◌<◌, Bool, true, false, cond, ltb, Some, None, Ok, Err, Option, Result, refl, ◌∙◌, subst, inl, inr, arith}
use Rattle.std.proofs.lemmas.Bool.{ltb-true, ltb-false}
use Rattle.std.specs.Option.{unwrap_or}
use Rattle.std.specs.declared.ops.ControlFlow.TheVariants.{Continue, Break}
use Rattle.codes.specs.declared.answer.Answer.TheVariants.{VertexAbsent}
use Rattle.layout.specs.declared.names.Kind.TheVariants.{Vertex, Edge}
use Rattle.layout.specs.declared.names.Field.{Field}
use Rattle.layout.specs.declared.names.Field.TheVariants.{Ins, Del}
use Rattle.places.specs.declared.mark.Mark.{Mark}
use Rattle.places.specs.declared.mark.Mark.TheVariants.{NotEnded, Pending, Stamp}
use Rattle.places.specs.declared.place.Op.{Op}
use Rattle.places.specs.declared.place.Op.TheVariants.{Remove}
use Rattle.places.specs.declared.place.Bound.{Bound}
use Rattle.places.specs.declared.place.Look.{Look}
use Rattle.places.specs.declared.place.Look.TheVariants as look
use Rattle.places.specs.declared.place.Change.{Change}
use Rattle.places.specs.declared.place.Change.TheVariants as change
use Rattle.places.specs.declared.place.Call.{Call}
use Rattle.places.specs.declared.place.Call.TheVariants as call
use Rattle.places.specs.declared.place.Hand.{Hand}
use Rattle.places.specs.declared.place.Place.TheVariants as place
use Rattle.places.specs.Marks.{stamp_of}
use Rattle.places.specs.Flows.{Flow}
use Rattle.places.specs.Rules.{unless_ended, unless_below, owned, lost_to}
use Rattle.places.specs.Touches.{look_kind, change_kind}
use Rattle.laws.specs.Fits.{FitLook}
use Rattle.runs.specs.Runs.{RunInTime}
use Rattle.runs.specs.Views.{mark_at, LinkedAt}
use Rattle.runs.specs.Times.{TimeLaws}
use Rattle.runs.specs.Purposes.{change_op, change_call, MadeChange}
use Rattle.runs.specs.Known.{TurnOf, StampedAt, Living, Has, KnownFound, KnownEnd, OwnChange, NotBelow, StampedChange}
use Rattle.runs.specs.Reasons.{Needs, vertex_changed, IsEnd, Why.vertex_made, Why.vertex_ended, Why.ended_below, WorkerKnows}
use Rattle.runs.proofs.Goods.{Good}
use Rattle.runs.proofs.Times.{before_later}
use Rattle.runs.proofs.Kept.{change_later, below_later}
use Rattle.runs.proofs.Heads.{still_living}
use Rattle.layout.specs.declared.sizes.Sizes.{Sizes}
use Rattle.places.specs.declared.place.Side.TheVariants.{Source, Target}
use Rattle.places.specs.declared.place.Purpose.{Purpose}
use Rattle.places.specs.declared.place.Purpose.TheVariants as purpose
use Rattle.places.specs.declared.place.Stage.TheVariants as stage
use Rattle.places.specs.declared.place.Walk.{Walk}
use Rattle.places.specs.Moved.{Next, Next as next}
use Rattle.places.specs.Walks.{walked_ins}
use Rattle.places.specs.Nexts.{settled}
use Rattle.laws.specs.Fits.{FitPurpose}
use Rattle.runs.specs.Known.{KnownPurpose}
use Rattle.runs.specs.Purposes.{purpose_kind, purpose_field, purpose_row, purpose_call, purpose_made}
use Rattle.runs.specs.Reasons.{Why.vertex_won, Why.edge_made}
use Rattle.runs.proofs.Kept.{end_later}
use Rattle.runs.proofs.Looks.{mark_settled, KeysOf, laws, now, stamped_next, dead_next, checks, LookHand, looks}
use Rattle.runs.proofs.Times.{runs_last as last}

module _ (R : RunInTime) (k : ℕ) (knows : (j : ℕ) → j < suc k → (w : ℕ) → w < R.sizes.workers → WorkerKnows R j w) (b : ℕ) (started : TurnOf R k b) (same_sizes : (R.state k).sizes ≡ R.sizes) where
  abbrev law : TimeLaws R k (suc k)
  law = laws R k knows b started

  key_of : (i : ℕ) → i < (R.state k).sizes.keys → i < R.sizes.keys
  key_of i n = subst (λ (z : Sizes). i < z.keys) same_sizes n

  look_keys : (l : Look) → FitLook (R.state k) l → KeysOf R l
  look_keys (look.Vertex o i) f = key_of i f
  look_keys (look.Source o p) f = key_of p.from f.0
  look_keys (look.Target o p s) f = key_of p.to f.0.1
  look_keys (look.Edge o d) f = tt

  -- settled del of a vertex row that was seen alive: it goes on, or the answer is 13
  goes_on : (o : Op) (d : Bound) (i s : ℕ) (m : Mark) (out : Flow) → Needs (call.Edge o d.pair) i → i < R.sizes.keys → Has R k b i s → mark_at R k Vertex Del s ≡ m → ¬ (m ≡ Pending) → LinkedAt R k Vertex s
      → (Living R k i s → Good R (suc k) b (call.Edge o d.pair) None out) → Good R (suc k) b (call.Edge o d.pair) None (unless_ended m out)
  goes_on o d i s NotEnded out q n h e p l f = f (still_living R (suc k) knows i n s h.time k (omega (arith, h.before)) (omega arith) h.held.1 e)
  goes_on o d i s Pending out q n h e p l f = absurd (p refl)
  goes_on o d i s (Stamp x) out q n h e p l f = vertex_ended i s refl q refl (before_later (omega arith) h) (dead_next R k knows b started s l (record { number = x; is = e }))

  -- both rows were seen alive before the look at the edge, and before the call's own edge change
  found_has : (t : ℕ) (o : Op) (d : Bound) (f : Result ℕ ℕ) → KnownFound R t b o d f → Has R t b d.pair.from d.source × Has R t b d.pair.to d.target
  found_has t o d (Err h) n = (before_later (omega (arith, n.0.before)) n.0.held.2.0, before_later (omega (arith, n.0.before)) n.0.held.2.1)
  found_has t o d (Ok e) n = let y = n.held.saw in (before_later (omega (arith, n.before, y.before)) y.held.2.0, before_later (omega (arith, n.before, y.before)) y.held.2.1)

  own_has : (f : Field) (d : Bound) (e : ℕ) → OwnChange R k b f (change.Edge d) e → Has R k b d.pair.from d.source × Has R k b d.pair.to d.target
  own_has Ins d e n =
      let y = n.held.1.why.0 in
      (record { time = y.held.2.time; before = omega (arith, n.before, y.before, y.held.2.before); held = (y.held.2.held.0, y.held.2.held.1) }, record { time = y.time; before = omega (arith, n.before, y.before); held = (y.held.0, y.held.1) })
  own_has Del d e n =
      let x = n.held.1.why in
      let y = x.held.saw in
      (before_later (omega (arith, n.before, x.before, y.before)) y.held.2.0, before_later (omega (arith, n.before, x.before, y.before)) y.held.2.1)

  abbrev made_of : Field → Change → ℕ → Option MadeChange
  made_of f d r = Some (record { field = f; change = d; row = r })

  compares : (f : Field) (d : Bound) (e x i r : ℕ) (m : Mark) (out : Flow) → StampedChange R k b d f e x → IsEnd d i r → Has R k b i r → mark_at R k Vertex Del r ≡ m → ¬ (m ≡ Pending) → LinkedAt R k Vertex r
      → (NotBelow R (suc k) b f e x r → Good R (suc k) b (call.Edge (change_op f) d.pair) (made_of f (change.Edge d) e) out) → Good R (suc k) b (call.Edge (change_op f) d.pair) (made_of f (change.Edge d) e) (unless_below x m out)
  compares f d e x i r NotEnded out n a h q p l y = y (inl (now R k knows b started (started, n.linked, n.stamped, q)))
  compares f d e x i r Pending out n a h q p l y = absurd (p refl)
  compares f d e x i r (Stamp t) out n a h q p l y = go (ltb t x) refl
    where
      go : (v : Bool) → ltb t x ≡ v → Good R (suc k) b (call.Edge (change_op f) d.pair) (made_of f (change.Edge d) e) (cond v (Break VertexAbsent) out)
      go true u = ended_below f d e x i r t refl refl refl (change_later R k (suc k) (omega arith) law b d f e x n) a (before_later (omega arith) h) (law.linked Vertex r l) (law.stamp Vertex Del r t l q) (ltb-true t x u)
      go false u = y (inr (t, law.stamp Vertex Del r t l q, ltb-false t x u))

  own_vertex : (f : Field) (i r : ℕ) (m : Mark) → mark_at R k Vertex f r ≡ m → ¬ (m ≡ NotEnded) → ¬ (m ≡ Pending) → LinkedAt R k Vertex r → OwnChange R k b f (change.Vertex i) r → Good R (suc k) b (call.Vertex (change_op f) i) (made_of f (change.Vertex i) r) (Break (vertex_changed f))
  own_vertex f i r m e a p l n = vertex_made f i r refl refl refl (before_later (omega arith) n) (law.linked Vertex r l) (stamped_next R k knows b started Vertex f r l (mark_settled R k Vertex f r m e a p))

  own_edge : (f : Field) (d : Bound) (r : ℕ) (m : Mark) → mark_at R k Edge f r ≡ m → ¬ (m ≡ NotEnded) → ¬ (m ≡ Pending) → LinkedAt R k Edge r → OwnChange R k b f (change.Edge d) r
      → Good R (suc k) b (call.Edge (change_op f) d.pair) (made_of f (change.Edge d) r) (Continue (place.Settle stage.First (purpose.Compare Source d f r (unwrap_or (stamp_of m) 0))))
  own_edge f d r NotEnded e a p l n = absurd (a refl)
  own_edge f d r Pending e a p l n = absurd (p refl)
  own_edge f d r (Stamp x) e a p l n = ((tt, record { made = before_later (omega arith) n; linked = law.linked Edge r l; stamped = law.stamp Edge f r x l e }), refl)

  owns : (f : Field) (d : Change) (r : ℕ) (m : Mark) → mark_at R k (change_kind d) f r ≡ m → ¬ (m ≡ NotEnded) → ¬ (m ≡ Pending) → LinkedAt R k (change_kind d) r → OwnChange R k b f d r → Good R (suc k) b (change_call (change_op f) d) (made_of f d r) (owned f d r m)
  owns Ins (change.Vertex i) r m e a p l n = own_vertex Ins i r m e a p l n
  owns Del (change.Vertex i) r m e a p l n = own_vertex Del i r m e a p l n
  owns Ins (change.Edge d) r m e a p l n = own_edge Ins d r m e a p l n
  owns Del (change.Edge d) r m e a p l n = own_edge Del d r m e a p l n

  loses : (d : Change) (r : ℕ) → KnownEnd R (suc k) b d r → LinkedAt R (suc k) (change_kind d) r → StampedAt R (suc k) (change_kind d) Ins r → StampedAt R (suc k) (change_kind d) Del r → Good R (suc k) b (change_call Remove d) None (lost_to d r)
  loses (change.Vertex i) r n l s z = vertex_ended i r refl refl refl n (record { linked = l; ended = z })
  loses (change.Edge d) r n l s z = ((tt, (before_later (omega (arith, n.before)) n.held.saw, inr (record { linked = l; born = s; why = inl z }))), refl)

  -- what follows, before the book of a walk is looked at
  abbrev pub GoodNext : Call → Option MadeChange → Next → Type 0
  GoodNext c m (next.Moved o) = Good R (suc k) b c m o
  GoodNext c m (next.Linked d r) = Good R (suc k) b c m (Continue (place.Settle stage.First (purpose.Own Ins d r)))
  GoodNext c m (next.Raised v t) = call.Survey v ≡ c
  GoodNext c m (next.Walked w r) = call.Survey w.survey ≡ c

  pub ins_walked : (w : Walk) (r : ℕ) (h : Hand) (m : Mark) → GoodNext (call.Survey w.survey) None (walked_ins w r h m)
  ins_walked w r h m = search rules

  abbrev pub HandFor : Purpose → Hand → Type 0
  HandFor (purpose.Look Del l r) h = LookHand R k knows b started l r h
  HandFor p h = Unit {0}

  -- the field is settled at mark m
  pub finish : (p : Purpose) (h : Hand) (m : Mark) → FitPurpose (R.state k) p → HandFor p h → mark_at R k (purpose_kind p) (purpose_field p) (purpose_row p) ≡ m → ¬ (m ≡ Pending) → KnownPurpose R k b p → GoodNext (purpose_call p) (purpose_made p) (settled p h m)
  finish (purpose.Look Ins l r) h m f q e p n =
      ((tt, (before_later (omega arith) n, stamped_next R k knows b started (look_kind l) Ins r f.1.linked (mark_settled R k (look_kind l) Ins r m e (λ z. (last R).filled k (look_kind l) r f.1.linked (e ∙ z)) p))), refl)
  finish (purpose.Look Del l r) h m f q e p n = looks R k knows b started l r h m (look_keys l f.0) q e p n.0 f.1.linked n.1
  finish (purpose.Own g d r) h m f q e p n = owns g d r m e (λ z. n.1 (e ∙ z)) p f.1 n.0
  finish (purpose.LostDel d r) h m f q e p n =
      loses d r (end_later R k (suc k) (omega arith) law b d r n.0) (law.linked (change_kind d) r f.1.linked) (stamped_next R k knows b started (change_kind d) Ins r f.1.linked n.2)
      (stamped_next R k knows b started (change_kind d) Del r f.1.linked (mark_settled R k (change_kind d) Del r m e (λ z. n.1 (e ∙ z)) p))
  finish (purpose.WinnerIns i r) h m f q e p n =
      vertex_won i r refl refl refl (before_later (omega arith) n.0) (before_later (omega arith) n.1) (law.linked Vertex r f) (stamped_next R k knows b started Vertex Ins r f (mark_settled R k Vertex Ins r m e (λ z. (last R).filled k Vertex r f (e ∙ z)) p))
  finish (purpose.SourceAgain o d) h m f q e p n = goes_on o d d.pair.from d.source m _ (inl refl) (key_of d.pair.from f.keys.0) n.0 e p f.source (λ z. ((now R k knows b started (started, z), before_later (omega arith) n.1), refl))
  finish (purpose.CheckAgain Source o d g) h m f q e p n = goes_on o d d.pair.from d.source m _ (inl refl) (key_of d.pair.from f.0.keys.0) (found_has k o d g n).0 e p f.0.source (λ z. ((tt, now R k knows b started (started, z, n)), refl))
  finish (purpose.CheckAgain Target o d g) h m f q e p n =
      goes_on o d d.pair.to d.target m _ (inr refl) (key_of d.pair.to f.0.keys.1) (before_later (omega (arith, n.before)) (found_has n.time o d g n.held.2).1) e p f.0.target (λ z. checks R k knows b started o d g (now R k knows b started (started, z, n)))
  finish (purpose.Compare Source d g e′ x) h m f q e p n =
      compares g d e′ x d.pair.from d.source m _ n (inl (refl, refl)) (own_has g d e′ n.made).0 e p f.source (λ z. ((tt, (change_later R k (suc k) (omega arith) law b d g e′ x n, z)), refl))
  finish (purpose.Compare Target d g e′ x) h m f q e p n =
      compares g d e′ x d.pair.to d.target m _ n.0 (inr (refl, refl)) (own_has g d e′ n.0.made).1 e p f.target
      (λ z. edge_made g d e′ x refl refl refl (change_later R k (suc k) (omega arith) law b d g e′ x n.0) (below_later R k (suc k) (omega arith) law b g e′ x d.source f.source n.1) z)
  finish (purpose.Walk Ins w r) h m f q e p n = ins_walked w r h m
  finish (purpose.Walk Del w r) h m f q e p n = refl

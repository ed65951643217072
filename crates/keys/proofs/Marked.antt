-- A run gives what it owes for its calls.
use Rattle.std.proofs.Common.{◌≡◌, ℕ, zero, ◌<◌, ◌≤◌, ◌⊎◌, true, false, Some, None, Option, sym, refl, ap, ◌∙◌, subst, inl, inr, ⊎_elim, arith}
use Rattle.layout.specs.declared.names.Kind.{Kind}
use Rattle.layout.specs.declared.names.Kind.TheVariants.{Vertex, Edge}
use Rattle.layout.specs.declared.names.Field.{Field}
use Rattle.layout.specs.declared.names.Field.TheVariants.{Ins, Del}
use Rattle.places.specs.declared.mark.Mark.TheVariants.{Stamp}
use Rattle.places.specs.declared.place.Change.{Change}
use Rattle.places.specs.declared.place.Change.TheVariants as change
use Rattle.places.specs.Touches.{change_kind}
use Rattle.machine.specs.declared.request.Request.TheVariants as request
use Rattle.order.specs.Past.{Past, Belongs, fed}
use Rattle.order.specs.Keys.{Key}
use Rattle.order.specs.Marks.{Mark, Old, Marks, source_end, target_end, change_key, edge_effect, edge_key}
use Rattle.order.specs.Finds.{RowChange, no_change, vertex_born, vertex_ends, edge_born, edge_ends, makes_change, Finds}
use Rattle.order.specs.Marked.{Marking, RaiseKey, CallMarked, MadeAtKey, before_start, by_call}
use Rattle.order.proofs.Lives.{effect_parts}
use Rattle.runs.specs.Runs.{RunInTime}
use Rattle.runs.specs.Views.{clock_at, mark_at, LinkedAt}
use Rattle.runs.specs.Seen.{open_at}
use Rattle.runs.specs.Known.{TurnOf, StampedAt, ChangeEvent}
use Rattle.runs.specs.Times.{Before}
use Rattle.runs.specs.Events.{LinkEventOfKind}
use Rattle.runs.specs.Marking.{time_bound, ins_of, del_of, old_mark}
use Rattle.keys.specs.Standing.{Owner, Owner.at_turn, Owner.at_change, Owner.moved_back, Owner.right_after, Makes, EdgeMakes}
use Rattle.keys.specs.Told.{PastTold}
use Rattle.keys.specs.Marking.{marking_of, marking_for, SurveysMarked, RunMarked}
use Rattle.keys.proofs.Laws.{RunLaws}
use Rattle.runs.proofs.Events.{clock_later}
use Rattle.runs.proofs.Births.{stamped_or as stamped_view}
use Rattle.keys.proofs.Base.{same_some, not_stamp}
use Rattle.keys.proofs.Keyed.{Keyed, change_begun, keyed_or, is_some}

one_turn : {v w : ℕ} → request.Turn v ≡ request.Turn w → v ≡ w
one_turn e = cc

one_key : {k l : Key} → Some k ≡ Some l → k ≡ l
one_key e = cc

no_key : {k : Key} → None ≡ Some k → ⊥
no_key e = cc

module _ (R : RunInTime) (N : ℕ) where
  -- a turn is of one call
  one_call_of_turn : (t u b c : ℕ) → TurnOf R t b → TurnOf R u c → t ≡ u → b ≡ c
  one_call_of_turn t u b c x y e =
      let z : TurnOf R t c = subst (λ i. TurnOf R i c) (sym e) y in
      let w : x.worker ≡ z.worker = one_turn (sym x.asked ∙ z.asked) in
      same_some (sym x.whose ∙ ap (open_at R t) w ∙ z.whose)

  -- keys of one time and third part are of one call
  apart_keys : (b c : ℕ) (k l : Key) → b < N → c < N → Owner R N k b → Owner R N l c → k.time ≡ l.time → k.part ≡ l.part → b ≡ c
  apart_keys b c k l m n (at_turn p u) (at_turn q v) t s = one_call_of_turn k.time l.time b c u v t
  apart_keys b c k l m n (at_turn p u) (at_change q v) t s = absurd (omega arith)
  apart_keys b c k l m n (at_turn p u) (moved_back q r v) t s = absurd (omega arith)
  apart_keys b c k l m n (at_turn p u) (right_after q) t s = absurd (omega arith)
  apart_keys b c k l m n (at_change p u) (at_turn q v) t s = absurd (omega arith)
  apart_keys b c k l m n (at_change p u) (at_change q v) t s = one_call_of_turn k.time l.time b c u v t
  apart_keys b c k l m n (at_change p u) (moved_back q r v) t s = absurd (omega arith)
  apart_keys b c k l m n (at_change p u) (right_after q) t s = absurd (omega arith)
  apart_keys b c k l m n (moved_back o p u) (at_turn q v) t s = absurd (omega arith)
  apart_keys b c k l m n (moved_back o p u) (at_change q v) t s = absurd (omega arith)
  apart_keys b c k l m n (moved_back o p u) (moved_back q r v) t s = one_call_of_turn k.part l.part b c u v s
  apart_keys b c k l m n (moved_back o p u) (right_after q) t s = absurd (omega arith)
  apart_keys b c k l m n (right_after p) (at_turn q v) t s = absurd (omega arith)
  apart_keys b c k l m n (right_after p) (at_change q v) t s = absurd (omega arith)
  apart_keys b c k l m n (right_after p) (moved_back q r v) t s = absurd (omega arith)
  apart_keys b c k l m n (right_after p) (right_after q) t s = omega arith

module _ (R : RunInTime) (N : ℕ) (m : Marks) (g : RunLaws R N m) where
  -- a change that gave a row its mark
  pub record ChangeOf (f : Field) (c : Kind) (r : ℕ) : Type 0 where
    pub time : ℕ
    pub began : ℕ
    pub change : Change
    pub stamp : ℕ
    pub before : time < N
    pub kind : change_kind change ≡ c
    pub event : ChangeEvent R f time began change r
    pub is : mark_at R N (change_kind change) f r ≡ Stamp stamp

  not_born : (c : Kind) (r : ℕ) → (ins_of m c r).stamp ≤ clock_at R N → ¬ (¬ (LinkedAt R N c r × StampedAt R N c Ins r))
  not_born c r l n = omega (arith, ap (λ (v : Mark). v.stamp) (g.tell.unborn c r n))

  not_over : (c : Kind) (r : ℕ) → (del_of m c r).stamp ≤ clock_at R N → ¬ (¬ (LinkedAt R N c r × StampedAt R N c Del r))
  not_over c r l n = omega (arith, ap (λ (v : Mark). v.stamp) (g.tell.unended c r n))

  stamped_or : (f : Field) (c : Kind) (r : ℕ) → StampedAt R N c f r ⊎ ¬ (StampedAt R N c f r)
  stamped_or f c r = ⊎_elim (λ (x : (n : ℕ) × (mark_at R N c f r ≡ Stamp n)). inl (record { number = x.0; is = x.1 })) (λ (x : ¬ ((n : ℕ) × (mark_at R N c f r ≡ Stamp n))). inr (λ y. x (y.number, y.is))) (stamped_view (mark_at R N c f r))

  bears : (f : Field) (c : Kind) (r : ℕ) → ¬ (¬ (LinkedAt R N c r × StampedAt R N c f r)) → LinkedAt R N c r × StampedAt R N c f r
  bears f c r n =
      ⊎_elim (λ (l : LinkedAt R N c r). ⊎_elim (λ (s : StampedAt R N c f r). (l, s)) (λ (s : ¬ (StampedAt R N c f r)). absurd (n (λ x. s x.1))) (stamped_or f c r)) (λ (l : ¬ (LinkedAt R N c r)). absurd (n (λ x. l x.0))) (g.linked_or c r)

  birth_or : (c : Kind) (r : ℕ) → (ins_of m c r).stamp ≤ clock_at R N → LinkedAt R zero c r ⊎ ChangeOf Ins c r
  birth_or c r l = go (bears Ins c r (not_born c r l))
    where
      go : LinkedAt R N c r × StampedAt R N c Ins r → LinkedAt R zero c r ⊎ ChangeOf Ins c r
      go x =
          ⊎_elim (λ (o : LinkedAt R zero c r). inl o)
          (λ (p : Before N (LinkEventOfKind R c r)).
          inr (record { time = p.time; began = p.held.began; change = p.held.change; stamp = x.1.number; before = p.before; kind = p.held.kind; event = p.held.event; is = subst (λ u. mark_at R N u Ins r ≡ Stamp x.1.number) (sym p.held.kind) x.1.is }))
          (g.events.linked N c r x.0)

  -- the mark of a row from before the start is old
  old_ins : (c : Kind) (r : ℕ) → LinkedAt R zero c r → Old (clock_at R) (ins_of m c r)
  old_ins c r l = subst (Old (clock_at R)) (sym (g.tell.old c r l)) (old c)
    where
      old : (c : Kind) → Old (clock_at R) (old_mark R c)
      old Vertex = (refl, omega arith)
      old Edge = (refl, omega arith)

  end_of_row : (c : Kind) (r : ℕ) → (del_of m c r).stamp ≤ clock_at R N → ChangeOf Del c r
  end_of_row c r l =
      let x = bears Del c r (not_over c r l) in
      let p = g.events.ended N c r x.0 (λ z. not_stamp (sym z ∙ x.1.is)) in
      record { time = p.time; began = p.held.began; change = p.held.change; stamp = x.1.number; before = p.before; kind = p.held.kind; event = p.held.event; is = subst (λ u. mark_at R N u Del r ≡ Stamp x.1.number) (sym p.held.kind) x.1.is }

  module _ (h : Past) (past : PastTold R N h) (surveys : SurveysMarked R N m h) where
    abbrev KeyedCall : ℕ → Type 0
    KeyedCall b = Keyed R N m g h past b

    choose : (b : ℕ) → KeyedCall b ⊎ ¬ (Belongs h b)
    choose b = keyed_or R N m g h past surveys b

    abbrev key_from : {b : ℕ} → KeyedCall b ⊎ ¬ (Belongs h b) → Option Key
    key_from (inl p) = Some p.key
    key_from (inr n) = None

    abbrev change_from : {b : ℕ} → KeyedCall b ⊎ ¬ (Belongs h b) → RowChange
    change_from (inl p) = p.change
    change_from (inr n) = no_change

    key : ℕ → Option Key
    key b = key_from (choose b)

    change_made : ℕ → RowChange
    change_made b = change_from (choose b)

    abbrev run : Marking
    run = marking_of R N m key change_made

    -- a call that has a key
    record At (b : ℕ) (k : Key) : Type 0 where
      pub call : KeyedCall b
      pub key_is : call.key ≡ k
      pub change_is : change_made b ≡ call.change

    at_key : (b : ℕ) (k : Key) → key b ≡ Some k → At b k
    unfolding key change_made
    at_key b k = go (choose b) refl
      where
        go : (x : KeyedCall b ⊎ ¬ (Belongs h b)) → choose b ≡ x → key_from (choose b) ≡ Some k → At b k
        go (inl p) e q = record { call = p; key_is = one_key (ap key_from (sym e) ∙ q); change_is = ap change_from e }
        go (inr n) e q = absurd (no_key (ap key_from (sym e) ∙ q))

    -- a call that belongs to the order has one
    record Stood (b : ℕ) : Type 0 where
      pub call : KeyedCall b
      pub key_is : key b ≡ Some call.key
      pub change_is : change_made b ≡ call.change

    stood : (b : ℕ) → Belongs h b → Stood b
    unfolding key change_made
    stood b x = go (choose b) refl
      where
        go : (y : KeyedCall b ⊎ ¬ (Belongs h b)) → choose b ≡ y → Stood b
        go (inl p) e = record { call = p; key_is = ap key_from e; change_is = ap change_from e }
        go (inr n) e = absurd (n x)

    -- what is owed for it, as the run has it
    raise_key_as : (k : Key) (t : ℕ) (v : RowChange) → RaiseKey (marking_for R N m v) k t → RaiseKey run k t
    raise_key_as k t v r = record { stamp = r.stamp; part = r.part; raised = r.raised; high = r.high }

    call_marked : (b : ℕ) (k : Key) (v : RowChange) → change_made b ≡ v → CallMarked h (marking_for R N m v) b k → CallMarked h run b k
    call_marked b k v e c = record {
      belongs = c.belongs;
      early = c.early;
      bounded = c.bounded;
      time = c.time;
      low = c.low;
      high = c.high;
      fits = c.fits;
      stamp = subst (λ z. makes_change z ≡ true → h.stamp b ≡ Some k.stamp) (sym e) c.stamp;
      counts = λ f. ap makes_change e ∙ c.counts f;
      raise = λ t q. raise_key_as k t v (c.raise t q);
      answer = c.answer;
      finds = subst (λ z. Finds (time_bound N) (clock_at R N) m k (fed h b) z c.answer) (sym e) c.finds;
      told = c.told;
    }

    -- a change that bears its stamp is made by a call
    record Maker (f : Field) (d : Change) (r : ℕ) : Type 0 where
      pub began : ℕ
      pub stands : Key
      pub change : RowChange
      pub key_is : key began ≡ Some stands
      pub change_is : change_made began ≡ change
      pub makes : Makes R N m f d r stands change

    maker : (f : Field) (c : Kind) (r : ℕ) (x : ChangeOf f c r) → Maker f x.change r
    maker f c r x =
        let y = change_begun R N m g h past f x.time x.began x.change r x.before x.event in
        let s = past.changes.bears f x.time x.began x.change r x.stamp x.before x.event x.is in
        let q = stood x.began (record { began = is_some (h.begun x.began) y.0 y.1; done = inr (is_some (h.stamp x.began) x.stamp s) }) in
        record { began = x.began; stands = q.call.key; change = q.call.change; key_is = q.key_is; change_is = q.change_is; makes = q.call.makes f x.time x.change r x.before x.event }

    vertex_birth : (r : ℕ) → (m.vertex_ins r).stamp ≤ clock_at R N → MadeAtKey run (m.vertex_ins r) (change_key (time_bound N) (m.vertex_ins r)) (vertex_born r)
    vertex_birth r l = ⊎_elim (λ (o : LinkedAt R zero Vertex r). before_start (old_ins Vertex r o)) (λ (x : ChangeOf Ins Vertex r). go x.change x.kind (maker Ins Vertex r x)) (birth_or Vertex r l)
      where
        go : (d : Change) → change_kind d ≡ Vertex → Maker Ins d r → MadeAtKey run (m.vertex_ins r) (change_key (time_bound N) (m.vertex_ins r)) (vertex_born r)
        go (change.Vertex i) e y = by_call y.began (y.key_is ∙ ap (λ z. Some z) y.makes.0) (y.change_is ∙ y.makes.1)
        go (change.Edge b) e y = absurd cc

    vertex_ending : (r : ℕ) → (m.vertex_del r).stamp ≤ clock_at R N → MadeAtKey run (m.vertex_del r) (change_key (time_bound N) (m.vertex_del r)) (vertex_ends r)
    vertex_ending r l = go (x.change) x.kind (maker Del Vertex r x)
      where
        x : ChangeOf Del Vertex r
        x = end_of_row Vertex r l

        go : (d : Change) → change_kind d ≡ Vertex → Maker Del d r → MadeAtKey run (m.vertex_del r) (change_key (time_bound N) (m.vertex_del r)) (vertex_ends r)
        go (change.Vertex i) e y = by_call y.began (y.key_is ∙ ap (λ z. Some z) y.makes.0) (y.change_is ∙ y.makes.1)
        go (change.Edge b) e y = absurd cc

    edge_made : (x : Mark) (e b : ℕ) (w v : RowChange) (k : Key) → edge_effect (clock_at R N) m e x ≡ true → key b ≡ Some k → change_made b ≡ v → EdgeMakes R N m x e w k v → MadeAtKey run x (edge_key (time_bound N) m e x) w
    edge_made x e b w v k f p q (inl (_, s, t)) = by_call b (p ∙ ap (λ z. Some z) s) (q ∙ t)
    edge_made x e b w v k f p q (inr (s, _)) = let z : true ≡ false = sym f ∙ s in absurd cc

    edge_birth : (e : ℕ) → edge_effect (clock_at R N) m e (m.edge_ins e) ≡ true → MadeAtKey run (m.edge_ins e) (edge_key (time_bound N) m e (m.edge_ins e)) (edge_born e)
    edge_birth e f =
        ⊎_elim (λ (o : LinkedAt R zero Edge e). before_start (old_ins Edge e o)) (λ (x : ChangeOf Ins Edge e). go x.change x.kind (maker Ins Edge e x))
        (birth_or Edge e (effect_parts (time_bound N) (clock_at R N) (source_end m e) (target_end m e) (m.edge_ins e) f).0)
      where
        go : (d : Change) → change_kind d ≡ Edge → Maker Ins d e → MadeAtKey run (m.edge_ins e) (edge_key (time_bound N) m e (m.edge_ins e)) (edge_born e)
        go (change.Vertex i) q y = absurd cc
        go (change.Edge b) q y = edge_made (m.edge_ins e) e y.began (edge_born e) y.change y.stands f y.key_is y.change_is y.makes

    edge_ending : (e : ℕ) → edge_effect (clock_at R N) m e (m.edge_del e) ≡ true → MadeAtKey run (m.edge_del e) (edge_key (time_bound N) m e (m.edge_del e)) (edge_ends e)
    edge_ending e f = go (x.change) x.kind (maker Del Edge e x)
      where
        x : ChangeOf Del Edge e
        x = end_of_row Edge e (effect_parts (time_bound N) (clock_at R N) (source_end m e) (target_end m e) (m.edge_del e) f).0

        go : (d : Change) → change_kind d ≡ Edge → Maker Del d e → MadeAtKey run (m.edge_del e) (edge_key (time_bound N) m e (m.edge_del e)) (edge_ends e)
        go (change.Vertex i) q y = absurd cc
        go (change.Edge b) q y = edge_made (m.edge_del e) e y.began (edge_ends e) y.change y.stands f y.key_is y.change_is y.makes

    pub run_marked : RunMarked R N m h
    run_marked = record {
      key = key;
      change = change_made;
      marked = record {
        rises = clock_later R;
        start_stamp = clock_later R 0 N (omega arith);
        some_time = omega arith;
        keyed = λ b x. (let y = stood b x in (y.call.key, y.key_is));
        calls = λ b k e. (let y = at_key b k e in subst (CallMarked h run b) y.key_is (call_marked b y.call.key y.call.change y.change_is y.call.marked));
        apart = λ b c k l e f t s.
            let x = at_key b k e in
            let y = at_key c l f in
            apart_keys R N b c k l x.call.marked.early y.call.marked.early (subst (λ z. Owner R N z b) x.key_is x.call.owner) (subst (λ z. Owner R N z c) y.key_is y.call.owner) t s;
        sound = g.sound;
        vertex_births = vertex_birth;
        vertex_endings = vertex_ending;
        edge_births = edge_birth;
        edge_endings = edge_ending;
      };
    }

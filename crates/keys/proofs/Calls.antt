-- The keys of calls that changed nothing, and of calls that changed a vertex.
use Rattle.std.proofs.Common.{◌≡◌, ℕ, suc, ◌<◌, ◌≤◌, ◌⊎◌, true, false, Ok, Err, sym, refl, ap, subst, inl, inr, ⊎_elim, arith}
use Rattle.std.proofs.lemmas.Bool.{cases_lt}
use Rattle.codes.specs.declared.answer.Answer.{Answer}
use Rattle.codes.specs.declared.answer.Answer.TheVariants.{VertexAdded, VertexAlready, VertexRemoved, VertexAbsent, VertexPresent, EdgeAlready, EdgeAbsent, EdgePresent, RowsSpent}
use Rattle.layout.specs.declared.names.Kind.TheVariants.{Vertex}
use Rattle.layout.specs.declared.names.Field.TheVariants.{Ins, Del}
use Rattle.layout.specs.declared.names.Head.TheVariants as head
use Rattle.places.specs.declared.mark.Mark.TheVariants.{Stamp}
use Rattle.places.specs.declared.place.Op.{Op}
use Rattle.places.specs.declared.place.Op.TheVariants.{Add, Remove, Contains}
use Rattle.places.specs.declared.place.Bound.{Bound}
use Rattle.places.specs.declared.place.Change.TheVariants as change
use Rattle.places.specs.declared.place.Call.{Call}
use Rattle.places.specs.declared.place.Call.TheVariants as call
use Rattle.order.specs.Graph.{Feed, asks, spent}
use Rattle.order.specs.Keys.{Key}
use Rattle.order.specs.Marks.{Mark, Earlier, Marks, change_key}
use Rattle.order.specs.Finds.{RowChange, no_change, vertex_born, vertex_ends, VertexFound, Finds, adds_vertex, removes_vertex, finds_vertex, finds_no_vertex, finds_edge, ends_spent}
use Rattle.order.proofs.Fitting.{after_key_bounded, read_key_fits, change_key_fits, after_key_fits}
use Rattle.order.proofs.Moves.{bounded_change}
use Rattle.runs.specs.Runs.{RunInTime}
use Rattle.runs.specs.Views.{clock_at, mark_at, LinkedAt}
use Rattle.runs.specs.Times.{Before}
use Rattle.runs.specs.Known.{TurnOf, Dead, Has, HeadWas, Firm, OwnChange, LinkedSince}
use Rattle.runs.specs.Events.{EndEventOfKind}
use Rattle.runs.specs.Reasons.{Needs}
use Rattle.runs.specs.Marking.{time_bound}
use Rattle.runs.specs.VertexFinds.{turn_key, after_key, MadeNone}
use Rattle.runs.specs.EdgeMisses.{KeyBefore, KeyBefore.at_turn as key_at_turn, KeyBefore.after_end}
use Rattle.keys.specs.Standing.{Owner.at_turn, Owner.at_change, Owner.right_after, Stands}
use Rattle.keys.proofs.Laws.{KeysIn, RunLaws}
use Rattle.runs.proofs.Events.{clock_later, stamp_kept}
use Rattle.keys.proofs.Base.{turn_of, head_key, living_key, EndOf, end_of, ends_later, mark_is, change_stamp, vertex_in, born_low}

-- 13, where key i is absent
says_absent : (bound top : ℕ) (m : Marks) (k : Key) (c : Call) (i : ℕ) → Needs c i → VertexFound bound m k i false → Finds bound top m k (asks c) no_change VertexAbsent
says_absent bound top m k (call.Vertex Add x) i n h = absurd n
says_absent bound top m k (call.Vertex Remove x) i n h = finds_vertex Remove x false (subst (λ j. VertexFound bound m k j false) (sym n) h) refl
says_absent bound top m k (call.Vertex Contains x) i n h = finds_vertex Contains x false (subst (λ j. VertexFound bound m k j false) (sym n) h) refl
says_absent bound top m k (call.Edge o p) i n h = finds_no_vertex o p (⊎_elim (λ (e : p.from ≡ i). inl (subst (λ j. VertexFound bound m k j false) (sym e) h)) (λ (e : p.to ≡ i). inr (subst (λ j. VertexFound bound m k j false) (sym e) h)) n)
says_absent bound top m k (call.Survey v) i n h = absurd n

-- the key that the call needs is a key
needs_in : (n : ℕ) (c : Call) (i : ℕ) → Needs c i → KeysIn n c → i < n
needs_in n (call.Vertex Add x) i e h = absurd e
needs_in n (call.Vertex Remove x) i e h = subst (λ j. j < n) e h
needs_in n (call.Vertex Contains x) i e h = subst (λ j. j < n) e h
needs_in n (call.Edge o p) i e h = ⊎_elim (λ (q : p.from ≡ i). subst (λ j. j < n) q h.0) (λ (q : p.to ≡ i). subst (λ j. j < n) q h.1) e
needs_in n (call.Survey v) i e h = absurd e

-- what is known of the call stands at time k; it was finished at a, and k is right after that, or it is unfinished, and both are now
module _ (R : RunInTime) (N : ℕ) (m : Marks) (g : RunLaws R N m) (b a k : ℕ) (bN : b < N) (aN : a ≤ N) (ka : k ≤ suc a) (kN : k ≤ N) (still : clock_at R k ≤ clock_at R a) where
  abbrev pub At : Feed → RowChange → Answer → Key → Type 0
  At f v x q = Stands R N m b a f v x q

  -- a key for a call that changes nothing
  abbrev pub Found : Feed → Answer → Type 0
  Found f x = (q : Key) × At f no_change x q

  -- at a turn of the call
  pub found_at : (t : ℕ) (f : Feed) (x : Answer) → TurnOf R t b → t < k → Finds (time_bound N) (clock_at R N) m (turn_key R N t) f no_change x → Found f x
  found_at t f x u l h =
      let z = u.after in (
        turn_key R N t,
        record {
          bounded = record { time = omega arith; part = omega arith };
          time = omega arith;
          low = clock_later R 0 t (omega arith);
          high = clock_later R t N (omega arith);
          fits = read_key_fits (clock_at R) (clock_later R) b a t (omega arith) (omega arith);
          owner = at_turn refl u;
          finds = h;
        },
      )

  -- right after a change
  pub found_after : (n p : ℕ) (f : Feed) (x : Answer) → 0 < p → p < k → clock_at R p ≤ n → n ≤ clock_at R k → (b ≤ p) ⊎ (clock_at R b < n) →
      Finds (time_bound N) (clock_at R N) m (after_key R N n p b) f no_change x → Found f x
  found_after n p f x z l low high since h = (
    after_key R N n p b,
    record {
      bounded = after_key_bounded (time_bound N) (record { stamp = n; time = p }) b (omega arith) (omega arith);
      time = z;
      low = omega (arith, clock_later R 0 p (omega arith));
      high = omega (arith, clock_later R a N aN);
      fits = after_key_fits (clock_at R) (clock_later R) b a (record { stamp = n; time = p }) low (omega arith) (omega arith) (time_bound N) b since;
      owner = right_after refl;
      finds = h;
    },
  )

  -- a change happens after the start
  end_pos : (r p : ℕ) → EndEventOfKind R Vertex r p → 0 < p
  end_pos r p x = omega (arith, (turn_of R N m g Del p x.began x.change r x.event).after)

  -- 11, 14
  pub found_here : (i r : ℕ) → i < R.sizes.keys → MadeNone R N b → Has R k b i r → Found (asks (call.Vertex Add i)) VertexAlready × Found (asks (call.Vertex Contains i)) VertexPresent
  found_here i r n none h =
      let l = h.before in
      let v = g.vertices.here b h.time i r none h.held.0 (omega arith) n h.held.1 in (
        found_at h.time (asks (call.Vertex Add i)) VertexAlready h.held.0 l (finds_vertex Add i true v refl),
        found_at h.time (asks (call.Vertex Contains i)) VertexPresent h.held.0 l (finds_vertex Contains i true v refl),
      )

  -- 13 right after an end of a row of the key
  pub found_ended_row : (c : Call) (i r n : ℕ) → Needs c i → m.key_of r ≡ i → (x : EndOf R N m g Vertex r k n) → (b ≤ x.time) ⊎ (clock_at R b < n) → Found (asks c) VertexAbsent
  found_ended_row c i r n e key x since =
      let z = x.before in
      found_after n x.time (asks c) VertexAbsent (end_pos r x.time x.ending) z x.low x.high since
      (says_absent (time_bound N) (clock_at R N) m (after_key R N n x.time b) c i e (g.vertices.ended b i r x.time n key x.ending (omega arith) x.now))

  -- 13 after the end of a row that the call saw alive
  pub found_ended : (c : Call) (i r n : ℕ) → Needs c i → KeysIn R.sizes.keys c → Has R k b i r → LinkedAt R k Vertex r → mark_at R k Vertex Del r ≡ Stamp n → Found (asks c) VertexAbsent
  found_ended c i r n e w h l q =
      let before = h.before in
      let key = living_key R N m g h.time i r (needs_in R.sizes.keys c i e w) (omega arith) h.held.1 in
      let x = end_of R N m g Vertex r k n kN l q in
      let late = ends_later R N m g Vertex r h.time x.time x.ending h.held.1.alive in
      let turn = h.held.0.after in
      found_ended_row c i r n e key x (inl (omega arith))

  -- 13 from a look
  pub found_gone : (c : Call) (i r : ℕ) → Needs c i → KeysIn R.sizes.keys c → MadeNone R N b → HeadWas R k b (head.Vertex i) r → (r ≡ 0) ⊎ Dead R k r → Found (asks c) VertexAbsent
  found_gone c i r e w none h d = ⊎_elim (λ (z : r ≡ 0). at_read (inl z)) (λ (z : Dead R k r). ended z) d
    where
      l : h.time < k
      l = h.before

      n : i < R.sizes.keys
      n = needs_in R.sizes.keys c i e w

      at_read : (r ≡ 0) ⊎ Earlier (m.vertex_del r) (record { stamp = clock_at R h.time; time = h.time }) → Found (asks c) VertexAbsent
      at_read y =
          found_at h.time (asks c) VertexAbsent h.held.0 l
          (says_absent (time_bound N) (clock_at R N) m (turn_key R N h.time) c i e (g.vertices.absent b h.time i r none h.held.0 (omega (arith, l)) n h.held.1 y))

      ended : Dead R k r → Found (asks c) VertexAbsent
      ended z =
          let x = end_of R N m g Vertex r k z.ended.number kN z.linked z.ended.is in
          let key = head_key R N m g h.time i r n (omega (arith, l)) h.held.1 (g.row k Vertex r z.linked).0 in
          let turn = h.held.0.after in
          let rise = clock_later R b h.time (omega arith) in
          let before : Earlier (record { stamp = z.ended.number; time = x.time }) (record { stamp = clock_at R h.time; time = h.time }) → Found (asks c) VertexAbsent =
          λ q. at_read (inr (subst (λ v. Earlier v (record { stamp = clock_at R h.time; time = h.time })) (sym x.is) q)) in
          let later : (b ≤ x.time) ⊎ (clock_at R b < z.ended.number) → Found (asks c) VertexAbsent = λ q. found_ended_row c i r z.ended.number e key x q in
          ⊎_elim (λ (q : z.ended.number < clock_at R h.time). before (inl q))
          (λ (q : clock_at R h.time ≤ z.ended.number).
          ⊎_elim
          (λ (s : x.time < h.time).
          ⊎_elim (λ (t : clock_at R h.time < z.ended.number). later (inr (omega arith))) (λ (t : z.ended.number ≤ clock_at R h.time). before (inr (omega arith, s))) (cases_lt (clock_at R h.time) z.ended.number))
          (λ (s : h.time ≤ x.time). later (inl (omega arith)))
          (cases_lt x.time h.time))
          (cases_lt z.ended.number (clock_at R h.time))

  -- 40
  pub found_spent : Before k (λ t. TurnOf R t b) → Found (spent RowsSpent) RowsSpent
  found_spent u = found_at u.time (spent RowsSpent) RowsSpent u.held u.before (ends_spent RowsSpent refl)

  -- 11 after a lost link
  pub found_won : (i r n : ℕ) → LinkedSince R k b i r → LinkedAt R k Vertex r → mark_at R k Vertex Ins r ≡ Stamp n → Found (asks (call.Vertex Add i)) VertexAlready
  found_won i r n o l e =
      let z = o.before in
      let late = o.held.1 in
      let s = change_stamp R N m g Ins o.time o.held.0 (change.Vertex i) r n k o.before o.held.2 e in
      found_after n o.time (asks (call.Vertex Add i)) VertexAlready (omega arith) o.before s.0 s.1 (inl (omega arith))
      (finds_vertex Add i true (g.vertices.born b i r o.held.0 o.time n o.held.2 (omega arith) (stamp_kept R k N Vertex Ins r n kN l e)) refl)

  -- at a change x of the call's own
  at_own_change : (f : Feed) (v : RowChange) (y : Answer) (x : Mark) (n p : ℕ) → x ≡ record { stamp = n; time = p } → TurnOf R p b → p < k → clock_at R p ≤ n → n ≤ clock_at R k →
      Finds (time_bound N) (clock_at R N) m (change_key (time_bound N) x) f v y → At f v y (change_key (time_bound N) x)
  at_own_change f v y x n p is u l low high h =
      let z = u.after in
      let t : x.time ≡ p = ap (λ (q : Mark). q.time) is in
      let s : x.stamp ≡ n = ap (λ (q : Mark). q.stamp) is in
      let pending : clock_at R x.time ≤ x.stamp = subst (λ (q : Mark). clock_at R q.time ≤ q.stamp) (sym is) low in
      record {
        bounded = bounded_change (time_bound N) x (omega arith);
        time = omega arith;
        low = omega (arith, clock_later R 0 p (omega arith));
        high = omega (arith, clock_later R a N aN);
        fits = change_key_fits (clock_at R) (clock_later R) b a x pending (omega arith) (omega arith) (time_bound N) (omega arith);
        owner = at_change refl (subst (λ q. TurnOf R q b) (sym t) u);
        finds = h;
      }

  -- 10
  pub added : (i r n : ℕ) → OwnChange R k b Ins (change.Vertex i) r → LinkedAt R k Vertex r → mark_at R k Vertex Ins r ≡ Stamp n →
      At (asks (call.Vertex Add i)) (vertex_born r) VertexAdded (change_key (time_bound N) (m.vertex_ins r))
  added i r n o l e =
      let z = o.before in
      let q = stamp_kept R k N Vertex Ins r n kN l e in
      let is : m.vertex_ins r ≡ record { stamp = n; time = o.time } = mark_is R N m g Ins o.time b (change.Vertex i) r n (omega arith) o.held.1 q in
      let s = change_stamp R N m g Ins o.time b (change.Vertex i) r n k o.before o.held.1 e in
      let key : m.key_of r ≡ i = g.tell.key o.time b i r o.held.1 (omega arith) in
      let top : (m.vertex_ins r).stamp ≤ clock_at R N = omega (arith, ap (λ (q : Mark). q.stamp) is, clock_later R k N kN) in
      at_own_change (asks (call.Vertex Add i)) (vertex_born r) VertexAdded (m.vertex_ins r) n o.time is o.held.0 o.before s.0 s.1
      (subst (λ j. Finds (time_bound N) (clock_at R N) m (change_key (time_bound N) (m.vertex_ins r)) (asks (call.Vertex Add j)) (vertex_born r) VertexAdded) key
      (adds_vertex r (record { row = vertex_in R N m g k r l; stamped = top; key = refl })))

  -- 12
  pub removed : (i r n : ℕ) → i < R.sizes.keys → OwnChange R k b Del (change.Vertex i) r → LinkedAt R k Vertex r → mark_at R k Vertex Del r ≡ Stamp n →
      At (asks (call.Vertex Remove i)) (vertex_ends r) VertexRemoved (change_key (time_bound N) (m.vertex_del r))
  removed i r n w o l e =
      let z = o.before in
      let ev = o.held.1 in
      let why = ev.why in
      let q = stamp_kept R k N Vertex Del r n kN l e in
      let is : m.vertex_del r ≡ record { stamp = n; time = o.time } = mark_is R N m g Del o.time b (change.Vertex i) r n (omega arith) ev q in
      let s = change_stamp R N m g Del o.time b (change.Vertex i) r n k o.before ev e in
      let key : m.key_of r ≡ i = living_key R N m g why.time i r w (omega (arith, why.before)) why.held.1 in
      let born = why.held.1.born in
      let top = born_low R N m g Vertex r why.time born.number (omega (arith, why.before)) why.held.1.linked born.is in
      at_own_change (asks (call.Vertex Remove i)) (vertex_ends r) VertexRemoved (m.vertex_del r) n o.time is o.held.0 o.before s.0 s.1
      (subst (λ j. Finds (time_bound N) (clock_at R N) m (change_key (time_bound N) (m.vertex_del r)) (asks (call.Vertex Remove j)) (vertex_ends r) VertexRemoved) key
      (removes_vertex r (record { row = vertex_in R N m g k r l; stamped = top; key = refl })))

  -- 21, 24
  pub found_edge : (d : Bound) (e : ℕ) (o : Op) → d.pair.from < R.sizes.keys → d.pair.to < R.sizes.keys → MadeNone R N b → Firm R k b o d (Ok e) →
      Found (asks (call.Edge Add d.pair)) EdgeAlready × Found (asks (call.Edge Contains d.pair)) EdgePresent
  found_edge d e o i j none f =
      let h = g.edges b k o d e none kN i j f in (
        found_at h.time (asks (call.Edge Add d.pair)) EdgeAlready h.turn h.before (finds_edge Add d.pair d.source d.target true h.pair h.found refl),
        found_at h.time (asks (call.Edge Contains d.pair)) EdgePresent h.turn h.before (finds_edge Contains d.pair d.source d.target true h.pair h.found refl),
      )

  -- 23
  pub found_no_edge : (d : Bound) (h : ℕ) (o : Op) → d.pair.from < R.sizes.keys → d.pair.to < R.sizes.keys → MadeNone R N b → Firm R k b o d (Err h) →
      Found (asks (call.Edge Remove d.pair)) EdgeAbsent × Found (asks (call.Edge Contains d.pair)) EdgeAbsent
  found_no_edge d h o i j none f =
      let x = g.misses b k o d h none kN i j f in (
        at (asks (call.Edge Remove d.pair)) EdgeAbsent x.key x.before (finds_edge Remove d.pair d.source d.target false x.pair x.found refl),
        at (asks (call.Edge Contains d.pair)) EdgeAbsent x.key x.before (finds_edge Contains d.pair d.source d.target false x.pair x.found refl),
      )
    where
      at : (f : Feed) (x : Answer) (q : Key) → KeyBefore R N b k q → Finds (time_bound N) (clock_at R N) m q f no_change x → Found f x
      at f x q (key_at_turn t u l) h = found_at t f x u l h
      at f x q (after_end c r p n y l low high since) h = found_after n p f x (omega (arith, (turn_of R N m g Del p y.began y.change r y.event).after)) l low high since h

-- The marks of a run keep the laws of marks.
use Rattle.std.proofs.Common.{◌≡◌, ℕ, suc, ◌+◌, ◌<◌, ◌≤◌, ◌≢◌, ◌⊎◌, sym, refl, ap, ap₂, ◌∙◌, subst, inl, inr, ⊎_elim, arith}
use Rattle.std.proofs.lemmas.Bool.{cases_lt}
use Rattle.layout.specs.declared.names.Kind.{Kind}
use Rattle.layout.specs.declared.names.Kind.TheVariants.{Vertex, Edge}
use Rattle.layout.specs.declared.names.Field.TheVariants.{Ins, Del}
use Rattle.layout.specs.declared.names.Cell.TheVariants as cell
use Rattle.places.specs.declared.mark.Mark.TheVariants.{NotEnded}
use Rattle.places.specs.declared.place.Bound.{Bound}
use Rattle.places.specs.declared.place.Change.{Change}
use Rattle.places.specs.declared.place.Change.TheVariants as change
use Rattle.places.specs.Touches.{head_kind, change_head}
use Rattle.layout.specs.Layout.{Named}
use Rattle.layout.specs.declared.names.Head.{Head}
use Rattle.layout.specs.declared.names.Head.TheVariants as head
use Rattle.order.specs.Marks.{Mark, Earlier}
use Rattle.runs.specs.Runs.{RunInTime}
use Rattle.runs.specs.Views.{number_at, clock_at, head_at, mark_at, LinkedAt}
use Rattle.runs.specs.Known.{StampedAt, Dead, Living, LinkEvent}
use Rattle.runs.specs.Marking.{time_bound}
use Rattle.runs.proofs.Events.{same_turn, linked_later, clock_later, link_change, link_late, end_late, living_key}
use Rattle.runs.proofs.Heads.{row_pos}
use Rattle.runs.proofs.EdgeEvents.{Since, edge_bound, since_link, old_bound, old_edge_of, bound_since, edge_order}
use Rattle.runs.proofs.Births.{earlier, vertex_change, edge_change_of, LinkBirth, Way, Way.from_start, Way.by_link, Birth, End, now_of, link_now, link_way, old_key_is, birth_told, end_told, ins_mark, del_mark, del_is, key_of_row, key_is, birth_now, end_now, birth_by, ended_by, ends_after}
use Rattle.runs.proofs.Times.{runs_last as last}
use Rattle.runs.proofs.Ends.{runs_events as events}

-- an earlier mark is earlier than each that is later still
pub earlier_on : (x : Mark) (n p m q : ℕ) → Earlier x (record { stamp = n; time = p }) → n ≤ m → p ≤ q → Earlier x (record { stamp = m; time = q })
earlier_on x n p m q (inl a) l z = inl (omega arith)
earlier_on x n p m q (inr a) l z = ⊎_elim (λ (y : n < m). inl (omega (arith, a.0))) (λ (y : m ≤ n). inr (omega (arith, a.0), omega (arith, a.1))) (cases_lt n m)

module _ (R : RunInTime) (N : ℕ) where
  abbrev Born : Kind → ℕ → Type 0
  Born c r = Birth R N c r

  abbrev Ended : Kind → ℕ → Type 0
  Ended c r = End R N c r

  abbrev pub ins : Kind → ℕ → Mark
  ins c r = ins_mark R N c r

  abbrev pub del : Kind → ℕ → Mark
  del c r = del_mark R N c r

  abbrev top : ℕ
  top = clock_at R N

  abbrev pub Told : Kind → ℕ → Type 0
  Told c r = (h : Born c r) × (ins c r ≡ record { stamp = h.stamp; time = h.time })

  abbrev pub EndTold : Kind → ℕ → Type 0
  EndTold c r = (h : Ended c r) × (del c r ≡ record { stamp = h.stamp; time = h.time })

  abbrev Unborn : Kind → ℕ → Type 0
  Unborn c r = ins c r ≡ record { stamp = clock_at R N + 2; time = 0 }

  born_or : (c : Kind) (r : ℕ) → Told c r ⊎ Unborn c r
  born_or c r = birth_told R N c r

  end_or : (c : Kind) (r : ℕ) → EndTold c r ⊎ (del c r ≡ record { stamp = clock_at R N + 1; time = 0 })
  end_or c r = end_told R N c r

  -- marks are within their bounds
  pub ins_small : (c : Kind) (r : ℕ) → ((ins c r).time < time_bound N) × ((ins c r).stamp ≤ suc (suc top))
  ins_small c r =
      ⊎_elim (λ (h : Told c r). let n = birth_now R N c r h.0 in rw h.1 (omega (arith, n.0), omega (arith, n.1)))
      (λ (e : Unborn c r). rw e (omega arith, omega arith)) (born_or c r)

  pub del_small : (c : Kind) (r : ℕ) → ((del c r).time < time_bound N) × ((del c r).stamp ≤ suc top)
  del_small c r =
      ⊎_elim (λ (h : EndTold c r). let n = end_now R N c r h.0 in rw h.1 (omega (arith, h.0.before), omega (arith, n.1)))
      (λ (e : del c r ≡ record { stamp = clock_at R N + 1; time = 0 }). rw e (omega arith, omega arith)) (end_or c r)

  pub born : (c : Kind) (r : ℕ) → (ins c r).stamp ≤ top → Told c r
  born c r l = ⊎_elim (λ (h : Told c r). h) (λ (e : Unborn c r). absurd (let z : (ins c r).stamp ≡ clock_at R N + 2 = ap (λ m. m.stamp) e in omega arith)) (born_or c r)

  pub over : (c : Kind) (r : ℕ) → (del c r).stamp ≤ top → EndTold c r
  over c r l = ⊎_elim (λ (h : EndTold c r). h) (λ (e : del c r ≡ record { stamp = clock_at R N + 1; time = 0 }). absurd (let z : (del c r).stamp ≡ clock_at R N + 1 = ap (λ m. m.stamp) e in omega arith)) (end_or c r)

  -- no row ended with a stamp below those of the clock
  pub del_low : (c : Kind) (r : ℕ) → 1 ≤ (del c r).stamp
  del_low c r =
      ⊎_elim (λ (h : EndTold c r). let n = end_now R N c r h.0 in rw h.1 (omega (arith, n.0, ((last R).clock h.0.time).0)))
      (λ (e : del c r ≡ record { stamp = clock_at R N + 1; time = 0 }). rw e (omega arith)) (end_or c r)

  -- a mark from before a time at which a row had not ended comes before its end
  pub before_end : (c : Kind) (r k : ℕ) (x : Mark) → Earlier x (now_of R N k) → k ≤ N → mark_at R k c Del r ≡ NotEnded → Earlier x (del c r)
  before_end c r k x z b e =
      let rises = clock_later R k N b in
      ⊎_elim
      (λ (h : EndTold c r). let a = ends_after R N c r h.0 k e in rw h.1 (earlier_on x (clock_at R k) k h.0.stamp h.0.time z a.1 a.0))
      (λ (y : del c r ≡ record { stamp = clock_at R N + 1; time = 0 }). rw y (go z rises)) (end_or c r)
    where
      go : Earlier x (record { stamp = clock_at R k; time = k }) → clock_at R k ≤ clock_at R N → Earlier x (record { stamp = clock_at R N + 1; time = 0 })
      go (inl a) l = inl (omega arith)
      go (inr a) l = inl (omega (arith, a.0))

  -- a row ends after it was born
  pub mark_order : (c : Kind) (r : ℕ) → (ins c r).stamp ≤ top → Earlier (ins c r) (del c r)
  mark_order c r l =
      let h = born c r l in
      let n = birth_now R N c r h.0 in
      rw h.1 (⊎_elim
      (λ (q : EndTold c r).
      let ev = q.0.ending.event in
      let late : 0 < q.0.time = end_late R ev in
      let a = birth_by R N c r h.0 q.0.time (omega (arith, q.0.before)) (inr late) (subst (λ (u : Kind). LinkedAt R q.0.time u r) q.0.ending.kind ev.linked) (subst (λ (u : Kind). StampedAt R q.0.time u Ins r) q.0.ending.kind ev.born) in
      let m = end_now R N c r q.0 in
      rw q.1 (earlier_on (record { stamp = h.0.stamp; time = h.0.time }) (clock_at R q.0.time) q.0.time q.0.stamp q.0.time a m.0 (omega arith)))
      (λ (y : del c r ≡ record { stamp = clock_at R N + 1; time = 0 }). rw y (inl (omega (arith, n.1)))) (end_or c r))

  -- the end of a row that had a stamped del when another was linked comes before that link
  dead_first : (c : Kind) (r k n : ℕ) → k < N → LinkedAt R k c r → StampedAt R k c Del r → clock_at R k ≤ n → Earlier (del c r) (record { stamp = n; time = k })
  dead_first c r k n l w s z =
      let x = ended_by R N c r k (omega arith) w s in
      let e : del c r ≡ record { stamp = x.0.stamp; time = x.0.time } = del_is R N c r x.0.time x.0.stamp x.0.linked x.0.ending x.0.is in
      rw e (earlier x.0.stamp x.0.time n k (omega (arith, x.2)) x.1)

  -- two links of one turn are one
  one_link : (p b r q a s : ℕ) (c d : Change) → LinkEvent R p b c r → LinkEvent R q a d s → p ≡ q → r ≡ s
  one_link p b r q a s c d ev fv e =
      let gv : LinkEvent R p a d s = subst (λ j. LinkEvent R j a d s) (sym e) fv in
      let t = same_turn R ev.step.turn gv.step.turn in
      let y : c ≡ d = link_change R t.1 in
      sym ev.step.head ∙ ap (λ x. head_at R (suc p) (change_head x)) y ∙ gv.step.head

  -- the link of a vertex row
  vertex_link : (r p n : ℕ) (h : LinkBirth R N Vertex r p n) → (i : ℕ) × LinkEvent R p h.linking.began (change.Vertex i) r × (key_of_row R N r ≡ i)
  vertex_link r p n h =
      let x = vertex_change h.linking.change h.linking.kind in
      let ev : LinkEvent R p h.linking.began (change.Vertex x.0) r = subst (λ d. LinkEvent R p h.linking.began d r) x.1 h.linking.event in
      (x.0, ev, key_is R N p h.linking.began x.0 r ev h.before)

  -- the link of an edge row
  pub edge_link : (e p n : ℕ) (h : LinkBirth R N Edge e p n) → (d : Bound) × LinkEvent R p h.linking.began (change.Edge d) e × ((number_at R N (cell.Source e) ≡ d.source) × (number_at R N (cell.Target e) ≡ d.target))
  edge_link e p n h =
      let x = edge_change_of h.linking.change h.linking.kind in
      let ev : LinkEvent R p h.linking.began (change.Edge x.0) e = subst (λ d. LinkEvent R p h.linking.began d e) x.1 h.linking.event in
      (x.0, ev, edge_bound R ev N h.before)

  -- since when an edge row stands
  pub record Stood (e p : ℕ) : Type 0 where
    pub time : ℕ
    pub early : time ≤ suc p
    pub late : 0 < p → time ≡ suc p
    pub bound : Bound
    pub since : Since R time e bound
    pub source : number_at R N (cell.Source e) ≡ bound.source
    pub target : number_at R N (cell.Target e) ≡ bound.target

  pub stood : (e : ℕ) (h : Born Edge e) → Stood e h.time
  stood e h = go h.time h.stamp h.way
    where
      go : (p n : ℕ) → Way R N Edge e p n → Stood e p
      go p n (from_start o a b) =
          let x = old_edge_of R e o in
          let y = bound_since R x.since N (omega arith) in
          record { time = 0; early = omega arith; late = λ l. absurd (omega arith); bound = old_bound R x.from x.to e; since = x.since; source = y.0; target = y.1 }
      go p n (by_link h) =
          let x = edge_link e p n h in
          record { time = suc p; early = omega arith; late = λ _. refl; bound = x.0; since = since_link R x.1; source = x.2.0; target = x.2.1 }

  abbrev pub Apart : Kind → ℕ → ℕ → Type 0
  Apart c r s = Earlier (del c r) (ins c s) ⊎ Earlier (del c s) (ins c r)

  -- rows that follow one another are apart
  pub apart_by : (c : Kind) (r s : ℕ) → r ≢ s → (LinkedAt R 0 c r → LinkedAt R 0 c s → r ≡ s) → ((h : Born c r) (k : Born c s) → h.time < k.time → Earlier (del c r) (record { stamp = k.stamp; time = k.time }))
      → ((h : Born c s) (k : Born c r) → h.time < k.time → Earlier (del c s) (record { stamp = k.stamp; time = k.time })) → Apart c r s
  apart_by c r s n one f g = go (born_or c r) (born_or c s)
    where
      meet : (p m q o : ℕ) → Way R N c r p m → Way R N c s q o → p ≡ q → ⊥
      meet p m q o (from_start a x y) (from_start b u v) e = n (one a b)
      meet p m q o (from_start a x y) (by_link k) e = let z = link_late R k.linking.event in omega arith
      meet p m q o (by_link h) (from_start b u v) e = let z = link_late R h.linking.event in omega arith
      meet p m q o (by_link h) (by_link k) e = n (one_link p h.linking.began r q k.linking.began s h.linking.change k.linking.change h.linking.event k.linking.event e)

      both : Told c r → Told c s → Earlier (del c r) (ins c s) ⊎ Earlier (del c s) (ins c r)
      both h k =
          ⊎_elim (λ (l : h.0.time < k.0.time). inl (subst (Earlier (del c r)) (sym k.1) (f h.0 k.0 l)))
          (λ (l : k.0.time ≤ h.0.time).
          ⊎_elim (λ (m : k.0.time < h.0.time). inr (subst (Earlier (del c s)) (sym h.1) (g k.0 h.0 m)))
          (λ (m : h.0.time ≤ k.0.time). absurd (meet h.0.time h.0.stamp k.0.time k.0.stamp h.0.way k.0.way (omega arith)))
          (cases_lt k.0.time h.0.time))
          (cases_lt h.0.time k.0.time)

      go : Told c r ⊎ Unborn c r → Told c s ⊎ Unborn c s → Earlier (del c r) (ins c s) ⊎ Earlier (del c s) (ins c r)
      go (inr e) k = inr (rw e (inl (omega (arith, (del_small c s).1))))
      go (inl h) (inr e) = inl (rw e (inl (omega (arith, (del_small c r).1))))
      go (inl h) (inl k) = both h k

  abbrev key : ℕ → ℕ
  key r = key_of_row R N r

  -- a vertex row from before the start is the head of its key
  pub old_head_is : (r : ℕ) → LinkedAt R 0 Vertex r → (key r < R.sizes.keys) × (head_at R 0 (head.Vertex (key r)) ≡ r)
  old_head_is r o = let x = (last R).old_row Vertex r o in go x.head x.named x.kind x.is
    where
      go : (h : Head) → Named R.sizes (cell.Head h) → head_kind h ≡ Vertex → head_at R 0 h ≡ r → (key r < R.sizes.keys) × (head_at R 0 (head.Vertex (key r)) ≡ r)
      go (head.Edge i j) n k e = absurd cc
      go (head.Vertex i) n k e =
          let q : key r ≡ i = old_key_is R N i r n e (row_pos R 0 r o) in
          (subst (λ j. j < R.sizes.keys) (sym q) n, ap (λ j. head_at R 0 (head.Vertex j)) q ∙ e)

  pub old_vertex_one : (r s : ℕ) → key r ≡ key s → LinkedAt R 0 Vertex r → LinkedAt R 0 Vertex s → r ≡ s
  old_vertex_one r s q a b = sym (old_head_is r a).1 ∙ ap (λ j. head_at R 0 (head.Vertex j)) q ∙ (old_head_is s b).1

  pub vertex_older : (r s : ℕ) → key r ≡ key s → (h : Born Vertex r) (k : Born Vertex s) → h.time < k.time → Earlier (del Vertex r) (record { stamp = k.stamp; time = k.time })
  vertex_older r s q h k l =
      let o = link_way R N Vertex s k (omega arith) in
      let y = vertex_link s k.time k.stamp o in
      let same : key r ≡ y.0 = q ∙ y.2 in
      let d = dead_at h.time h.stamp h.way y.0 same k.time o.linking.began y.1 l in
      dead_first Vertex r k.time k.stamp o.before d.linked d.ended (link_now R N Vertex s k.time k.stamp o).0
    where
      dead_at : (p n : ℕ) → Way R N Vertex r p n → (i : ℕ) → key r ≡ i → (t b : ℕ) → LinkEvent R t b (change.Vertex i) s → p < t → Dead R t r
      dead_at p n (from_start x a b) i e t c ev l =
          let z = old_head_is r x in
          (events R).vertex_old i r t c s (subst (λ j. j < R.sizes.keys) e z.0) (ap (λ j. head_at R 0 (head.Vertex j)) (sym e) ∙ z.1) (row_pos R 0 r x) ev
      dead_at p n (by_link x) i e t c ev l =
          let y = vertex_link r p n x in
          (events R).vertex_order p x.linking.began i r t c s (subst (λ j. LinkEvent R p x.linking.began (change.Vertex j) r) (sym y.2 ∙ e) y.1) ev l

  -- an edge row that has another bound alike after it has ended before that
  pub edge_over : (e f : ℕ) → number_at R N (cell.Source e) ≡ number_at R N (cell.Source f) → number_at R N (cell.Target e) ≡ number_at R N (cell.Target f) → (h : Born Edge e) (p n : ℕ)
      → LinkBirth R N Edge f p n → h.time < p → LinkedAt R p Edge e × StampedAt R p Edge Del e
  edge_over e f q r h p n k l =
      let x = stood e h in
      let y = edge_link f p n k in
      let t : x.time ≤ p = omega (arith, x.early) in (
        linked_later R x.time p Edge e t x.since.row,
        edge_order R x.since y.1 (sym x.source ∙ q ∙ y.2.0) (sym x.target ∙ r ∙ y.2.1) t,
      )

  pub edge_older : (e f : ℕ) → number_at R N (cell.Source e) ≡ number_at R N (cell.Source f) → number_at R N (cell.Target e) ≡ number_at R N (cell.Target f) → (h : Born Edge e) (k : Born Edge f) → h.time < k.time → Earlier (del Edge e) (record { stamp = k.stamp; time = k.time })
  edge_older e f q r h k l =
      let o = link_way R N Edge f k (omega arith) in
      let d = edge_over e f q r h k.time k.stamp o l in
      dead_first Edge e k.time k.stamp o.before d.0 d.1 (link_now R N Edge f k.time k.stamp o).0

  -- of edge rows from before the start no two are bound alike
  pub old_edge_one : (e f : ℕ) → number_at R N (cell.Source e) ≡ number_at R N (cell.Source f) → number_at R N (cell.Target e) ≡ number_at R N (cell.Target f) → LinkedAt R 0 Edge e → LinkedAt R 0 Edge f → e ≡ f
  old_edge_one e f q r a b =
      let x = old_edge_of R e a in
      let y = old_edge_of R f b in
      let u = bound_since R x.since N (omega arith) in
      let v = bound_since R y.since N (omega arith) in
      let s : number_at R 0 (cell.Source e) ≡ number_at R 0 (cell.Source f) = sym u.0 ∙ q ∙ v.0 in
      let t : number_at R 0 (cell.Target e) ≡ number_at R 0 (cell.Target f) = sym u.1 ∙ r ∙ v.1 in
      let i : x.from ≡ y.from = living_key R x.since.keys.0 y.since.keys.0 x.since.source (subst (Living R y.since.source_time y.from) (sym s) y.since.source) in
      let j : x.to ≡ y.to = living_key R x.since.keys.1 y.since.keys.1 x.since.target (subst (Living R y.since.target_time y.to) (sym t) y.since.target) in
      sym x.since.head ∙ ap₂ (λ k l. head_at R 0 (head.Edge k l)) i j ∙ y.since.head

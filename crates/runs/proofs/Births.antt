-- The stamped links and ends of a run up to a time, as marks.
use Rattle.std.proofs.Common.{◌≡◌, ℕ, suc, ◌+◌, ◌<◌, ◌≤◌, ◌⊎◌, sym, refl, ap, ap₂, ◌∙◌, subst, inl, inr, ⊎_elim, arith}
use Rattle.std.proofs.lemmas.Bool.{cases_lt}
use Rattle.layout.specs.declared.names.Kind.{Kind}
use Rattle.layout.specs.declared.names.Kind.TheVariants.{Vertex, Edge}
use Rattle.layout.specs.declared.names.Head.{Head}
use Rattle.layout.specs.declared.names.Head.TheVariants as head
use Rattle.layout.specs.declared.names.Field.{Field}
use Rattle.layout.specs.declared.names.Field.TheVariants.{Ins, Del}
use Rattle.layout.specs.declared.names.Cell.TheVariants as cell
use Rattle.layout.specs.Rows.{rows_all}
use Rattle.places.specs.declared.mark.Mark.{Mark as View}
use Rattle.places.specs.declared.mark.Mark.TheVariants.{NotEnded, Pending, Stamp}
use Rattle.places.specs.declared.place.Bound.{Bound}
use Rattle.places.specs.declared.place.Change.{Change}
use Rattle.places.specs.declared.place.Change.TheVariants as change
use Rattle.places.specs.Touches.{change_kind}
use Rattle.order.specs.Marks.{Mark, Earlier, Marks}
use Rattle.runs.specs.Runs.{RunInTime}
use Rattle.runs.specs.Views.{number_at, clock_at, head_at, mark_at, LinkedAt}
use Rattle.runs.specs.Times.{Before}
use Rattle.runs.specs.Known.{StampedAt, Living, LinkEvent}
use Rattle.runs.specs.Events.{LinkEventOfKind, EndEventOfKind}
use Rattle.runs.specs.Marking.{old_stamp, old_mark, ins_of, del_of, MarksTellRun}
use Rattle.runs.proofs.Decides.{linked_or}
use Rattle.runs.proofs.Events.{stamp_kept, linked_later, linked_from, ended_from, begun_kept, clock_later, old_linked, old_apart}
use Rattle.runs.proofs.Times.{runs_last as last}
use Rattle.runs.proofs.Ends.{runs_events as events}

pub stamp_one : {m n : ℕ} → Stamp m ≡ Stamp n → m ≡ n
stamp_one e = cc

pub stamped_or : (m : View) → ((n : ℕ) × (m ≡ Stamp n)) ⊎ ¬ ((n : ℕ) × (m ≡ Stamp n))
stamped_or NotEnded = inr (λ h. let e : NotEnded ≡ Stamp h.0 = h.1 in absurd cc)
stamped_or Pending = inr (λ h. let e : Pending ≡ Stamp h.0 = h.1 in absurd cc)
stamped_or (Stamp n) = inl (n, refl)

-- the change of a vertex row is of a key, that of an edge row of a bound edge
pub vertex_change : (d : Change) → change_kind d ≡ Vertex → (i : ℕ) × (d ≡ change.Vertex i)
vertex_change (change.Vertex i) e = (i, refl)
vertex_change (change.Edge b) e = absurd cc

pub edge_change_of : (d : Change) → change_kind d ≡ Edge → (b : Bound) × (d ≡ change.Edge b)
edge_change_of (change.Vertex i) e = absurd cc
edge_change_of (change.Edge b) e = (b, refl)

pub earlier : (n p m q : ℕ) → n ≤ m → p < q → Earlier (record { stamp = n; time = p }) (record { stamp = m; time = q })
earlier n p m q l z = ⊎_elim (λ (y : n < m). inl y) (λ (y : m ≤ n). inr (omega arith, z)) (cases_lt n m)

abbrev head_key : Head → ℕ
head_key (head.Vertex i) = i
head_key (head.Edge i j) = 0

abbrev key_from : Change → ℕ
key_from (change.Vertex i) = i
key_from (change.Edge b) = 0

module _ (R : RunInTime) (N : ℕ) where
  -- a row with the mark of its birth: it is from before the start, or its link bears a stamp
  pub record LinkBirth (c : Kind) (r p n : ℕ) : Type 0 where
    pub before : p < N
    pub linking : LinkEventOfKind R c r p
    pub is : mark_at R N c Ins r ≡ Stamp n

  pub data Way (c : Kind) (r p n : ℕ) : Type 0 where
    from_start : LinkedAt R 0 c r → p ≡ 0 → n ≡ old_stamp R c → Way c r p n
    by_link : LinkBirth c r p n → Way c r p n

  pub record Birth (c : Kind) (r : ℕ) : Type 0 where
    pub time : ℕ
    pub stamp : ℕ
    pub linked : LinkedAt R N c r
    pub way : Way c r time stamp

  -- and one with its end

  pub record End (c : Kind) (r : ℕ) : Type 0 where
    pub time : ℕ
    pub stamp : ℕ
    pub before : time < N
    pub linked : LinkedAt R N c r
    pub ending : EndEventOfKind R c r time
    pub is : mark_at R N c Del r ≡ Stamp stamp

  pub birth : (c : Kind) (r n : ℕ) → LinkedAt R N c r → mark_at R N c Ins r ≡ Stamp n → Birth c r
  birth c r n l e =
      ⊎_elim (λ (o : LinkedAt R 0 c r). record { time = 0; stamp = old_stamp R c; linked = l; way = from_start o refl refl })
      (λ (p : Before N (LinkEventOfKind R c r)). record { time = p.time; stamp = n; linked = l; way = by_link (record { before = p.before; linking = p.held; is = e }) })
      ((events R).linked N c r l)

  pub end : (c : Kind) (r n : ℕ) → LinkedAt R N c r → mark_at R N c Del r ≡ Stamp n → End c r
  end c r n l e =
      let p = (events R).ended N c r l (λ z. let x : NotEnded ≡ Stamp n = sym z ∙ e in absurd cc) in
      record { time = p.time; stamp = n; before = p.before; linked = l; ending = p.held; is = e }

  -- a stamped field of a linked row
  abbrev Bears : Kind → Field → ℕ → Type 0
  Bears c f r = LinkedAt R N c r × StampedAt R N c f r

  -- a row from before the start bears a stamp
  old_bears : (c : Kind) (r : ℕ) → LinkedAt R 0 c r → Bears c Ins r
  old_bears c r o =
      let x = (last R).old_row c r o in
      (linked_later R 0 N c r (omega arith) o, record { number = x.number; is = stamp_kept R 0 N c Ins r x.number (omega arith) o x.stamp })

  way_bears : (c : Kind) (r p n : ℕ) → Way c r p n → LinkedAt R N c r → Bears c Ins r
  way_bears c r p n (from_start o a b) l = old_bears c r o
  way_bears c r p n (by_link x) l = (l, record { number = n; is = x.is })

  pub born_or : (c : Kind) (r : ℕ) → Birth c r ⊎ ¬ (Bears c Ins r)
  born_or c r =
      ⊎_elim
      (λ (l : LinkedAt R N c r). ⊎_elim (λ (e : (n : ℕ) × (mark_at R N c Ins r ≡ Stamp n)). inl (birth c r e.0 l e.1)) (λ (a : ¬ ((n : ℕ) × (mark_at R N c Ins r ≡ Stamp n))). inr (λ x. a (x.1.number, x.1.is))) (stamped_or (mark_at R N c Ins r)))
      (λ (n : ¬ (LinkedAt R N c r)). inr (λ x. n x.0)) (linked_or R N c r)

  pub ended_or : (c : Kind) (r : ℕ) → End c r ⊎ ¬ (Bears c Del r)
  ended_or c r =
      ⊎_elim
      (λ (l : LinkedAt R N c r). ⊎_elim (λ (e : (n : ℕ) × (mark_at R N c Del r ≡ Stamp n)). inl (end c r e.0 l e.1)) (λ (a : ¬ ((n : ℕ) × (mark_at R N c Del r ≡ Stamp n))). inr (λ x. a (x.1.number, x.1.is))) (stamped_or (mark_at R N c Del r)))
      (λ (n : ¬ (LinkedAt R N c r)). inr (λ x. n x.0)) (linked_or R N c r)

  birth_mark : (c : Kind) (r : ℕ) → Birth c r ⊎ ¬ (Bears c Ins r) → Mark
  birth_mark c r (inl h) = record { stamp = h.stamp; time = h.time }
  birth_mark c r (inr n) = record { stamp = clock_at R N + 2; time = 0 }

  end_mark : (c : Kind) (r : ℕ) → End c r ⊎ ¬ (Bears c Del r) → Mark
  end_mark c r (inl h) = record { stamp = h.stamp; time = h.time }
  end_mark c r (inr n) = record { stamp = clock_at R N + 1; time = 0 }

  pub ins_mark : Kind → ℕ → Mark
  ins_mark c r = birth_mark c r (born_or c r)

  pub del_mark : Kind → ℕ → Mark
  del_mark c r = end_mark c r (ended_or c r)

  -- one of two ways
  pub birth_told : (c : Kind) (r : ℕ) → ((h : Birth c r) × (ins_mark c r ≡ record { stamp = h.stamp; time = h.time })) ⊎ (ins_mark c r ≡ record { stamp = clock_at R N + 2; time = 0 })
  unfolding ins_mark birth_mark
  birth_told c r = go (born_or c r)
    where
      go : (x : Birth c r ⊎ ¬ (Bears c Ins r)) → ((h : Birth c r) × (birth_mark c r x ≡ record { stamp = h.stamp; time = h.time })) ⊎ (birth_mark c r x ≡ record { stamp = clock_at R N + 2; time = 0 })
      go (inl h) = inl (h, refl)
      go (inr n) = inr refl

  pub end_told : (c : Kind) (r : ℕ) → ((h : End c r) × (del_mark c r ≡ record { stamp = h.stamp; time = h.time })) ⊎ (del_mark c r ≡ record { stamp = clock_at R N + 1; time = 0 })
  unfolding del_mark end_mark
  end_told c r = go (ended_or c r)
    where
      go : (x : End c r ⊎ ¬ (Bears c Del r)) → ((h : End c r) × (end_mark c r x ≡ record { stamp = h.stamp; time = h.time })) ⊎ (end_mark c r x ≡ record { stamp = clock_at R N + 1; time = 0 })
      go (inl h) = inl (h, refl)
      go (inr n) = inr refl

  -- the mark of a stamped link, and of a stamped end
  pub ins_is : (c : Kind) (r p n : ℕ) → LinkedAt R N c r → LinkEventOfKind R c r p → mark_at R N c Ins r ≡ Stamp n → ins_mark c r ≡ record { stamp = n; time = p }
  unfolding ins_mark birth_mark
  ins_is c r p n l x e = go (born_or c r)
    where
      go : (y : Birth c r ⊎ ¬ (Bears c Ins r)) → birth_mark c r y ≡ record { stamp = n; time = p }
      go (inl h) =
          by_way h.time h.stamp h.way
        where
          by_way : (q m : ℕ) → Way c r q m → ◌≡◌ {A = Mark} (record { stamp = m; time = q }) (record { stamp = n; time = p })
          by_way q m (from_start o a b) = absurd ((events R).old_fresh c r p o x)
          by_way q m (by_link y) =
              let t : q ≡ p = ((events R).link_once c r q p y.linking x).0 in
              let s : m ≡ n = stamp_one (sym y.is ∙ e) in
              ap₂ (λ a b. record { stamp = a; time = b }) s t
      go (inr a) = absurd (a (l, record { number = n; is = e }))

  -- and of a row from before the start
  pub old_is : (c : Kind) → ◌≡◌ {A = Mark} (record { stamp = old_stamp R c; time = 0 }) (old_mark R c)
  old_is Vertex = refl
  old_is Edge = refl

  pub ins_old : (c : Kind) (r : ℕ) → LinkedAt R 0 c r → ins_mark c r ≡ old_mark R c
  unfolding ins_mark birth_mark
  ins_old c r o = go (born_or c r)
    where
      by_way : (q m : ℕ) → Way c r q m → ◌≡◌ {A = Mark} (record { stamp = m; time = q }) (old_mark R c)
      by_way q m (from_start x a b) = ap₂ (λ a b. record { stamp = a; time = b }) b a ∙ old_is c
      by_way q m (by_link y) = absurd ((events R).old_fresh c r q o y.linking)

      go : (y : Birth c r ⊎ ¬ (Bears c Ins r)) → birth_mark c r y ≡ old_mark R c
      go (inl h) = by_way h.time h.stamp h.way
      go (inr a) = absurd (a (old_bears c r o))

  -- so every birth tells the mark
  pub birth_told_is : (c : Kind) (r : ℕ) (h : Birth c r) → ins_mark c r ≡ record { stamp = h.stamp; time = h.time }
  birth_told_is c r h = go h.time h.stamp h.way
    where
      go : (p n : ℕ) → Way c r p n → ins_mark c r ≡ record { stamp = n; time = p }
      go p n (from_start o a b) = ins_old c r o ∙ sym (ap₂ (λ a b. record { stamp = a; time = b }) b a ∙ old_is c)
      go p n (by_link x) = ins_is c r p n h.linked x.linking x.is

  pub del_is : (c : Kind) (r p n : ℕ) → LinkedAt R N c r → EndEventOfKind R c r p → mark_at R N c Del r ≡ Stamp n → del_mark c r ≡ record { stamp = n; time = p }
  unfolding del_mark end_mark
  del_is c r p n l x e = go (ended_or c r)
    where
      go : (y : End c r ⊎ ¬ (Bears c Del r)) → end_mark c r y ≡ record { stamp = n; time = p }
      go (inl h) =
          let t : h.time ≡ p = ((events R).end_once c r h.time p h.ending x).0 in
          let s : h.stamp ≡ n = stamp_one (sym h.is ∙ e) in
          ap₂ (λ a b. record { stamp = a; time = b }) s t
      go (inr a) = absurd (a (l, record { number = n; is = e }))

  pub ins_none : (c : Kind) (r : ℕ) → ¬ (Bears c Ins r) → ins_mark c r ≡ record { stamp = clock_at R N + 2; time = 0 }
  ins_none c r n = ⊎_elim (λ (h : (h : Birth c r) × (ins_mark c r ≡ record { stamp = h.stamp; time = h.time })). absurd (n (way_bears c r h.0.time h.0.stamp h.0.way h.0.linked))) (λ (e : ins_mark c r ≡ record { stamp = clock_at R N + 2; time = 0 }). e) (birth_told c r)

  pub del_none : (c : Kind) (r : ℕ) → ¬ (Bears c Del r) → del_mark c r ≡ record { stamp = clock_at R N + 1; time = 0 }
  del_none c r n = ⊎_elim (λ (h : (h : End c r) × (del_mark c r ≡ record { stamp = h.stamp; time = h.time })). absurd (n (h.0.linked, record { number = h.0.stamp; is = h.0.is }))) (λ (e : del_mark c r ≡ record { stamp = clock_at R N + 1; time = 0 }). e) (end_told c r)

  -- the key of a vertex row
  linked_key : (r : ℕ) → LinkedAt R 0 Vertex r ⊎ Before N (LinkEventOfKind R Vertex r) → ℕ
  linked_key r (inl o) = head_key ((last R).old_row Vertex r o).head
  linked_key r (inr p) = key_from p.held.change

  row_key : (r : ℕ) → LinkedAt R N Vertex r ⊎ ¬ (LinkedAt R N Vertex r) → ℕ
  row_key r (inl l) = linked_key r ((events R).linked N Vertex r l)
  row_key r (inr n) = 0

  pub key_of_row : ℕ → ℕ
  key_of_row r = row_key r (linked_or R N Vertex r)

  pub key_is : (p b i r : ℕ) → LinkEvent R p b (change.Vertex i) r → p < N → key_of_row r ≡ i
  unfolding key_of_row row_key linked_key
  key_is p b i r ev l = go (linked_or R N Vertex r)
    where
      y : LinkEventOfKind R Vertex r p
      y = record { began = b; change = change.Vertex i; kind = refl; event = ev }

      on : LinkedAt R N Vertex r
      on = linked_later R (suc p) N Vertex r l ev.step.linked

      come : (x : LinkedAt R 0 Vertex r ⊎ Before N (LinkEventOfKind R Vertex r)) → linked_key r x ≡ i
      come (inl o) = absurd ((events R).old_fresh Vertex r p o y)
      come (inr x) = ap key_from ((events R).link_once Vertex r x.time p x.held y).2

      go : (x : LinkedAt R N Vertex r ⊎ ¬ (LinkedAt R N Vertex r)) → row_key r x ≡ i
      go (inl l) = come ((events R).linked N Vertex r l)
      go (inr n) = absurd (n on)

  pub old_key_is : (i r : ℕ) → i < R.sizes.keys → head_at R 0 (head.Vertex i) ≡ r → 0 < r → key_of_row r ≡ i
  unfolding key_of_row row_key linked_key
  old_key_is i r k e z = go (linked_or R N Vertex r)
    where
      row : LinkedAt R 0 Vertex r
      row = old_linked R i r k e z

      come : (x : LinkedAt R 0 Vertex r ⊎ Before N (LinkEventOfKind R Vertex r)) → linked_key r x ≡ i
      come (inl o) =
          let x = (last R).old_row Vertex r o in
          ap head_key (sym (old_apart R (head.Vertex i) x.head k x.named (sym x.kind) (e ∙ sym x.is) (omega (arith, e, z))))
      come (inr x) = absurd ((events R).old_fresh Vertex r x.time row x.held)

      go : (x : LinkedAt R N Vertex r ⊎ ¬ (LinkedAt R N Vertex r)) → row_key r x ≡ i
      go (inl l) = come ((events R).linked N Vertex r l)
      go (inr n) = absurd (n (linked_later R 0 N Vertex r (omega arith) row))

  -- the marks of the run
  abbrev pub marks : Marks
  marks = record {
    vertices = suc (rows_all R.sizes Vertex);
    key_of = key_of_row;
    vertex_ins = ins_mark Vertex;
    vertex_del = del_mark Vertex;
    edges = suc (rows_all R.sizes Edge);
    source = λ e. number_at R N (cell.Source e);
    target = λ e. number_at R N (cell.Target e);
    weight = λ e. number_at R N (cell.Weight e);
    edge_ins = ins_mark Edge;
    edge_del = del_mark Edge;
  }

  ins_same : (c : Kind) → ins_of marks c ≡ ins_mark c
  ins_same Vertex = refl
  ins_same Edge = refl

  del_same : (c : Kind) → del_of marks c ≡ del_mark c
  del_same Vertex = refl
  del_same Edge = refl

  pub marks_tell : MarksTellRun R N marks
  marks_tell = record {
    vertices = refl;
    edges = refl;
    born = λ c r p n l x e. ap (λ f. f r) (ins_same c) ∙ ins_is c r p n l x e;
    ended = λ c r p n l x e. ap (λ f. f r) (del_same c) ∙ del_is c r p n l x e;
    old = λ c r o. ap (λ f. f r) (ins_same c) ∙ ins_old c r o;
    unborn = λ c r n. ap (λ f. f r) (ins_same c) ∙ ins_none c r n;
    unended = λ c r n. ap (λ f. f r) (del_same c) ∙ del_none c r n;
    key = key_is;
    old_key = old_key_is;
    source = λ e. refl;
    target = λ e. refl;
    weight = λ e. refl;
  }

  -- when a stamp of a link and of an end was there
  pub link_now : (c : Kind) (r p n : ℕ) → LinkBirth c r p n → (clock_at R p ≤ n) × (n ≤ clock_at R N)
  link_now c r p n h = (events R).link_stamp c r p N n h.linking h.before h.is

  old_low : (c : Kind) → old_stamp R c ≤ clock_at R 0
  old_low Vertex = omega arith
  old_low Edge = omega arith

  pub birth_now : (c : Kind) (r : ℕ) (h : Birth c r) → (h.time ≤ N) × (h.stamp ≤ clock_at R N)
  birth_now c r h = go h.time h.stamp h.way
    where
      go : (p n : ℕ) → Way c r p n → (p ≤ N) × (n ≤ clock_at R N)
      go p n (from_start o a b) = (omega arith, omega (arith, old_low c, clock_later R 0 N (omega arith)))
      go p n (by_link x) = (omega (arith, x.before), (link_now c r p n x).1)

  -- a birth after the start is a link
  pub link_way : (c : Kind) (r : ℕ) (h : Birth c r) → 0 < h.time → LinkBirth c r h.time h.stamp
  link_way c r h = go h.time h.stamp h.way
    where
      go : (p n : ℕ) → Way c r p n → 0 < p → LinkBirth c r p n
      go p n (from_start o a b) l = absurd (omega arith)
      go p n (by_link x) l = x

  pub end_now : (c : Kind) (r : ℕ) (h : End c r) → (clock_at R h.time ≤ h.stamp) × (h.stamp ≤ clock_at R N)
  end_now c r h = (events R).end_stamp c r h.time N h.stamp h.ending h.before h.is

  -- a birth that was seen comes before the time at which it was
  abbrev pub now_of : ℕ → Mark
  now_of t = record { stamp = clock_at R t; time = t }

  abbrev pub mark_of_birth : (c : Kind) (r : ℕ) → Birth c r → Mark
  mark_of_birth c r h = record { stamp = h.stamp; time = h.time }

  old_before : (c : Kind) (k n p : ℕ) → (c ≡ Vertex) ⊎ (0 < k) → p ≡ 0 → n ≡ old_stamp R c → Earlier (record { stamp = n; time = p }) (now_of k)
  old_before Vertex k n p s a b = inl (omega (arith, ((last R).clock k).0))
  old_before Edge k n p (inl e) a b = absurd cc
  old_before Edge k n p (inr l) a b = earlier n p (clock_at R k) k (omega (arith, clock_later R 0 k (omega arith))) (omega arith)

  pub birth_by : (c : Kind) (r : ℕ) (h : Birth c r) (k : ℕ) → k ≤ N → (c ≡ Vertex) ⊎ (0 < k) → LinkedAt R k c r → StampedAt R k c Ins r → Earlier (mark_of_birth c r h) (now_of k)
  birth_by c r h k l v w s = go h.time h.stamp h.way
    where
      go : (p n : ℕ) → Way c r p n → Earlier (record { stamp = n; time = p }) (now_of k)
      go p n (from_start o a b) = old_before c k n p v a b
      go p n (by_link x) =
          let z : p < k = linked_from R x.linking.event k (subst (λ (u : Kind). LinkedAt R k u r) (sym x.linking.kind) w) in
          let e : s.number ≡ n = stamp_one (sym (stamp_kept R k N c Ins r s.number l w s.is) ∙ x.is) in
          earlier n p (clock_at R k) k ((events R).link_stamp c r p k n x.linking z (s.is ∙ ap Stamp e)).1 z

  -- a row that was seen with a stamped del has ended before
  pub ended_by : (c : Kind) (r k : ℕ) → k ≤ N → LinkedAt R k c r → StampedAt R k c Del r → (h : End c r) × (h.time < k) × (h.stamp ≤ clock_at R k)
  unfolding end
  ended_by c r k l w s =
      let h = end c r s.number (linked_later R k N c r l w) (stamp_kept R k N c Del r s.number l w s.is) in
      let not_before : ¬ (k ≤ h.time) = λ y. begun_kept R k h.time c Del r y w (λ q. let x : NotEnded ≡ Stamp s.number = sym q ∙ s.is in absurd cc) (subst (λ (u : Kind). mark_at R h.time u Del r ≡ NotEnded) h.ending.kind h.ending.event.before) in
      let z : h.time < k = ⊎_elim (λ (y : h.time < k). y) (λ (y : k ≤ h.time). absurd (not_before y)) (cases_lt h.time k) in
      (h, z, ((events R).end_stamp c r h.time k s.number h.ending z s.is).1)

  -- one that was seen not ended ends later
  pub ends_after : (c : Kind) (r : ℕ) (h : End c r) (k : ℕ) → mark_at R k c Del r ≡ NotEnded → (k ≤ h.time) × (clock_at R k ≤ h.stamp)
  ends_after c r h k e =
      let z : k ≤ h.time = ended_from R h.ending.event k (subst (λ (u : Kind). mark_at R k u Del r ≡ NotEnded) (sym h.ending.kind) e) in
      (z, omega (arith, clock_later R k h.time z, (end_now c r h).0))

  -- a vertex row that was seen alive was born before
  pub living_birth : (t i s : ℕ) → i < R.sizes.keys → t ≤ N → Living R t i s → (h : Birth Vertex s) × Earlier (mark_of_birth Vertex s h) (now_of t)
  living_birth t i s n l v =
      let e = stamp_kept R t N Vertex Ins s v.born.number l v.linked v.born.is in
      let h = birth Vertex s v.born.number (linked_later R t N Vertex s l v.linked) e in
      (h, birth_by Vertex s h t l (inl refl) v.linked v.born)

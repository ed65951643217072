-- A turn keeps what every run keeps.
use Rattle.std.proofs.Common.{◌≡◌, ℕ, ◌+◌, ◌<◌, ◌≤◌, false, cond, ◌⊎◌, length, Some, Option, sym, refl, ap, ◌∙◌, subst, inl, inr, ⊎_elim, arith}
use Rattle.std.proofs.Math.Nat.{pos_of_ne-zero}
use Rattle.std.proofs.lemmas.List.{length-set, get_or-set_same}
use Rattle.std.proofs.lemmas.Bool.{cond_both}
use Rattle.std.specs.Option.{is_some}
use Rattle.std.specs.declared.ops.ControlFlow.TheVariants.{Continue, Break}
use Rattle.layout.specs.declared.names.Kind.{Kind}
use Rattle.layout.specs.declared.names.Kind.TheVariants.{Vertex, Edge}
use Rattle.layout.specs.declared.names.Field.{Field}
use Rattle.layout.specs.declared.names.Field.TheVariants.{Ins}
use Rattle.layout.specs.declared.names.Head.{Head}
use Rattle.layout.specs.declared.names.Head.TheVariants as head
use Rattle.layout.specs.declared.names.Cell.TheVariants as cell
use Rattle.layout.specs.Layout.{Named}
use Rattle.places.specs.declared.place.Change.{Change}
use Rattle.places.specs.declared.place.Hand.{Hand}
use Rattle.places.specs.declared.place.Stage.{Stage}
use Rattle.places.specs.declared.place.Purpose.{Purpose}
use Rattle.places.specs.declared.place.Purpose.TheVariants as purpose
use Rattle.places.specs.declared.place.Place.{Place}
use Rattle.places.specs.declared.place.Place.TheVariants as place
use Rattle.places.specs.declared.place.Survey.{Survey}
use Rattle.places.specs.declared.place.Survey.TheVariants.{Snapshot, Reach}
use Rattle.places.specs.Moved.{Next, Next as next}
use Rattle.places.specs.Flows.{Flow}
use Rattle.places.specs.Private.{link_kind}
use Rattle.places.specs.Touches.{head_kind, look_head, change_head, change_kind, job_head, job_kind, touch_of}
use Rattle.places.specs.Walks.{first_job}
use Rattle.books.specs.Walked.{WalkOutcome, walked_at}
use Rattle.machine.specs.declared.worker.Worker.{Worker}
use Rattle.machine.specs.States.{State}
use Rattle.machine.specs.Effects.{got_of}
use Rattle.machine.specs.Turns.{worker_at, spare_for, hand_of, hand_at, touch_at, next_at, followed_at, turned}
use Rattle.machine.specs.Workers.{nobody, at, finishes, finished, linked_of, with_book, counted, arrived, followed}
use Rattle.laws.specs.Fits.{Linked, InChain.at_head, InChain.below, Counted, RowOrNone, HeldOrNone, FitChange, FitSurvey, FitJob, FitPurpose, FitPlace, Fit}
use Rattle.laws.specs.Changes.{next_own, number_in, Changes}
use Rattle.laws.specs.Sound.{Sound}
use Rattle.laws.specs.Stamps.{field_start}
use Rattle.laws.proofs.Heads.{look_named, change_named, job_named}
use Rattle.laws.proofs.Owned.{linked_row, row_bound, next_own_lem}
use Rattle.laws.proofs.Puts.{set_each}
use Rattle.laws.proofs.Pages.{enough_entered}
use Rattle.laws.proofs.Touched.{enough_after}
use Rattle.laws.proofs.Stays.{HeadMoves, head_changes, turn_changes, turn_laws}
use Rattle.laws.proofs.Flows.{FitFlow, FitsNext, HandAt, GotAt, next_of_fit}
use Rattle.laws.proofs.Counts.{same_kind, count_after, followed_count}
use Rattle.laws.proofs.Follows.{LinkTurn, Follows, follows}
use Rattle.laws.proofs.LinkTurns.{lost_differs, won_links, won_head, new_head, new_older, new_stamp}
use Rattle.laws.proofs.Grows.{Later, linked_later, row_later, change_later, place_later}
use Rattle.laws.proofs.Served.{QueueFits, blank_queue, walked_at_good}

module _ (s : State) (w : ℕ) (z : Sound s) (b : w < s.sizes.workers) where
  abbrev t : State
  t = turned s w

  abbrev own : Worker
  own = worker_at s w

  pub in_table : w < length s.workers
  in_table = omega (arith, z.table)

  pub fit : Fit s w
  fit = record { worker = b; cells = z.cells; counted = z.counted; place = z.places w b }

  -- each record after the turn
  pub record_each : (P : ℕ → Worker → Type 0) → P w (followed_at s w).worker → ((v : ℕ) → P v (worker_at s v)) → (v : ℕ) → P v (worker_at (turned s w) v)
  record_each P here there = set_each P s.workers w (followed_at s w).worker nobody in_table here (λ v n. there v)

  pub own_count : (k : Kind) → linked_of (followed_at s w).worker k ≡ count_after (next_at s w) k (linked_of own k)
  own_count k = followed_count s.sizes.keys own (hand_at s w) (next_at s w) k

  -- the turn that linked row r for change c
  pub record LinkingTurn (c : Change) (r : ℕ) : Type 0 where
    pub over : ℕ
    pub at_link : own.place ≡ place.Link c over
    pub fits : FitPlace s (place.Link c over)
    pub own : next_own s w (change_kind c) ≡ Some r

  pub linking : (c : Change) (r : ℕ) → next_at s w ≡ next.Linked c r → LinkingTurn c r
  linking c r e =
      let l : LinkTurn own.place (hand_at s w) c r = subst (Follows own.place (hand_at s w)) e (follows own.place (hand_at s w) (got_of s.sizes s.cells (touch_at s w))) in
      let same : (hand_at s w).spare ≡ next_own s w (change_kind c) = ap (λ p. spare_for s.sizes w own (link_kind p)) l.place in
      record { over = l.over; at_link = l.place; fits = subst (FitPlace s) l.place (z.places w b); own = sym same ∙ l.spare }

  -- the kind of a linked row has a count below its rows
  count_small : (k : Kind) (r : ℕ) → next_own s w k ≡ Some r → linked_of own k < 2048
  count_small k r e = row_bound s.sizes k w (linked_of own k) r e

  count_grows : (k : Kind) (x : Next) → next_at s w ≡ x → linked_of own k ≤ count_after x k (linked_of own k)
  count_grows k (next.Linked c r) e =
      grows (change_kind c) k (linked_of own k) (λ q. subst (λ (x : Kind). linked_of own x < 2048) q (count_small (change_kind c) r (linking c r e).own))
    where
      grows : (c k : Kind) (n : ℕ) → (c ≡ k → n < 2048) → n ≤ cond (same_kind c k) (n + 1) n
      grows Vertex Vertex n h = let q = h refl in omega arith
      grows Edge Edge n h = let q = h refl in omega arith
      grows c k n h = omega arith
  count_grows k x e = omega arith

  head_grows : (h : Head) (x y : ℕ) → Changes s w (cell.Head h) x y → 0 < x → 0 < y
  head_grows h x y c p =
      ⊎_elim (λ (e : y ≡ x). omega arith)
      (λ (m : HeadMoves s w fit h x y). let r = next_own_lem s w (change_kind m.change) y m.own in omega (arith, r.0))
      (head_changes s w fit h x y c)

  -- a linked row was linked at the head that was read, and is the head now
  pub new_linked : (c : Change) (r : ℕ) → next_at s w ≡ next.Linked c r → Linked t (change_kind c) r
  new_linked c r e =
      let l = linking c r e in
      at_head (change_head c) r (change_named s c l.fits.0) refl (new_head s w c l.over z.cells l.fits.0 r l.own l.at_link e) (next_own_lem s w (change_kind c) r l.own).0

  moved_follows : (h : Head) (x y : ℕ) → x ≡ number_in s (cell.Head h) → (m : HeadMoves s w fit h x y) → next_at s w ≡ next.Linked m.change y
  moved_follows h x y a m =
      let f : FitPlace s (place.Link m.change x) = subst (FitPlace s) m.at_link (z.places w b) in
      won_links s w m.change x z.cells f.0 y m.own m.at_link (ap (λ g. number_in s (cell.Head g)) (sym m.is) ∙ sym a)

  new_over : (c : Change) (r : ℕ) → next_at s w ≡ next.Linked c r → number_in t (cell.Older (change_kind c) r) ≡ number_in s (cell.Head (change_head c))
  new_over c r e =
      let l = linking c r e in
      new_older s w c l.over z.cells l.fits.0 r l.own l.at_link e ∙ sym (won_head s w c l.over z.cells l.fits.0 r l.own l.at_link e)

  -- what was linked is linked: heads stay or come under the new row
  chain_later : (k : Kind) (r : ℕ) → Linked s k r → Linked t k r
  chain_later k r (at_head h _ n e f l) =
      ⊎_elim
      (λ (q : number_in t (cell.Head h) ≡ number_in s (cell.Head h)). at_head h r n e (q ∙ f) l)
      (λ (m : HeadMoves s w fit h (number_in s (cell.Head h)) (number_in t (cell.Head h))).
      let nx = moved_follows h _ _ refl m in
      let g : change_kind m.change ≡ k = ap head_kind (sym m.is) ∙ e in
      let y : ℕ = number_in t (cell.Head h) in
      let over : number_in t (cell.Older k y) ≡ r = subst (λ (j : Kind). number_in t (cell.Older j y) ≡ number_in s (cell.Head (change_head m.change))) g (new_over m.change y nx) ∙ ap (λ g. number_in s (cell.Head g)) (sym m.is) ∙ f in
      below y r (subst (λ (j : Kind). Linked t j y) g (new_linked m.change y nx)) over l)
      (head_changes s w fit h (number_in s (cell.Head h)) (number_in t (cell.Head h)) (turn_changes s w fit (cell.Head h) n))
  chain_later k r (below q _ x f l) = below q r (chain_later k q x) ((turn_laws s w fit).older k q (linked_row s k q x) x ∙ f) l

  pub later : Later s t
  later = record {
    sizes = refl;
    linked = chain_later;
    some = λ h m p. head_grows h (number_in s (cell.Head h)) (number_in t (cell.Head h)) (turn_changes s w fit (cell.Head h) m) p;
  }

  -- what a worker has at hand and reads fits its place
  abbrev hand_from : Place → Hand
  hand_from p = hand_of s.sizes s.cells w own p

  abbrev got_from : Place → Option ℕ
  got_from p = got_of s.sizes s.cells (touch_of p (spare_for s.sizes w own (link_kind p)))

  hand_fits : (p : Purpose) (st : Stage) → FitPurpose s p → HandAt s p (hand_from (place.Settle st p))
  hand_fits (purpose.Walk Ins k r) st f = z.olders (job_kind k.job) r f.1
  hand_fits p st f = tt

  -- a lost link leaves a head that is not none
  lost_some : (c : Change) (o : ℕ) → FitChange s c → HeldOrNone s (change_head c) o → (r : ℕ) → next_own s w (change_kind c) ≡ Some r → is_some (got_from (place.Link c o)) ≡ false → 0 < number_in s (cell.Head (change_head c))
  lost_some c o f (inr x) r q e = x.some
  lost_some c o f (inl n) r q e = pos_of_ne-zero (λ u. lost_differs s w c o z.cells f r q e (u ∙ sym n))

  got_fits : (p : Place) → FitPlace s p → GotAt s p (hand_from p) (got_from p)
  got_fits (place.Head l) f = (refl, z.heads (look_head l) (look_named s l f))
  got_fits (place.Settle st p) f = hand_fits p st f
  got_fits (place.Link c o) f = lost_some c o f.0 f.1
  got_fits (place.LostHead i) f = (refl, z.heads (head.Vertex i) f.0)
  got_fits (place.WalkHead k) f = z.heads (job_head k.job) (job_named s k.job f)
  got_fits (place.WalkOlder k r) f = z.olders (job_kind k.job) r f.1
  got_fits p f = tt

  next_fits : FitsNext s (next_at s w)
  next_fits = next_of_fit s own.place (hand_at s w) (got_from own.place) (z.places w b) (got_fits own.place (z.places w b))

  -- a row that was linked in this turn is counted
  new_counted : (c : Change) (r : ℕ) → next_at s w ≡ next.Linked c r → Counted t (change_kind c) r
  new_counted c r e =
      let n : ℕ = linked_of own (change_kind c) in
      let q = (linking c r e).own in
      let same : linked_of (worker_at t w) (change_kind c) ≡ cond (same_kind (change_kind c) (change_kind c)) (n + 1) n =
      ap (λ v. linked_of v (change_kind c)) (get_or-set_same s.workers w (followed_at s w).worker nobody in_table) ∙ own_count (change_kind c) ∙ ap (λ x. count_after x (change_kind c) n) e in
      record { owner = w; nth = n; before = subst (λ m. n < m) (sym same) (one_more (change_kind c) n (count_small (change_kind c) r q)); is = q }
    where
      one_more : (k : Kind) (n : ℕ) → n < 2048 → n < cond (same_kind k k) (n + 1) n
      one_more Vertex n h = omega arith
      one_more Edge n h = omega arith

  keys_some : 0 < s.sizes.keys
  keys_some = omega arith

  out_later : (o : Flow) → FitFlow s o → FitFlow t o
  out_later (Continue p) f = place_later s t later p f
  out_later (Break a) f = tt

  -- the worker's own record fits the new state
  record Ready (v : Worker) : Type 0 where
    pub place : FitPlace t v.place
    pub queue : QueueFits s.sizes.keys v.book

  arrived_ready : (v : Worker) (o : Flow) → FitFlow t o → QueueFits s.sizes.keys v.book → Ready (arrived v o)
  arrived_ready v (Continue p) f q = record { place = f; queue = q }
  arrived_ready v (Break a) f q = cond_both (finishes a) (finished v) (at v place.Idle) Ready (λ _. record { place = tt; queue = q }) (λ _. record { place = tt; queue = q })

  first_fits : (v : Survey) → FitSurvey s v → FitJob t (first_job v)
  first_fits Snapshot f = keys_some
  first_fits (Reach i) f = f

  own_queue : QueueFits s.sizes.keys own.book
  own_queue i = z.queues w i b

  followed_ready : (x : Next) → next_at s w ≡ x → FitsNext s x → Ready (followed s.sizes.keys own (hand_at s w) x).worker
  followed_ready (next.Moved o) e f = arrived_ready own o (out_later o f) own_queue
  followed_ready (next.Linked c r) e f = record { place = (change_later s t later c f, new_linked c r e); queue = queue_counted (change_kind c) }
    where
      queue_counted : (k : Kind) → QueueFits s.sizes.keys (counted own k).book
      queue_counted Vertex = own_queue
      queue_counted Edge = own_queue
  followed_ready (next.Raised v n) e f = record { place = first_fits v f; queue = blank_queue s.sizes.keys n keys_some }
  followed_ready (next.Walked k r) e f =
      let o : WalkOutcome = walked_at own.book k.survey k.job s.sizes.keys r (hand_at s w) in
      let g = walked_at_good s keys_some own.book k.survey k.job r (hand_at s w) own_queue f in
      arrived_ready (with_book own o.book) o.out (out_later o.out g.out) g.queue

  own_ready : Ready (followed_at s w).worker
  own_ready = followed_ready (next_at s w) refl next_fits

  -- heads are linked rows or none
  head_sound : (h : Head) (y : ℕ) → Named s.sizes (cell.Head h) → Changes s w (cell.Head h) (number_in s (cell.Head h)) y → RowOrNone t (head_kind h) y
  head_sound h y n c =
      ⊎_elim
      (λ (e : y ≡ number_in s (cell.Head h)). subst (RowOrNone t (head_kind h)) (sym e) (row_later s t later (head_kind h) (number_in s (cell.Head h)) (z.heads h n)))
      (λ (m : HeadMoves s w fit h (number_in s (cell.Head h)) y).
      let won = moved_follows h (number_in s (cell.Head h)) y refl m in
      inr (subst (λ (k : Kind). Linked t k y) (ap head_kind (sym m.is)) (new_linked m.change y won)))
      (head_changes s w fit h (number_in s (cell.Head h)) y c)

  -- a row that is linked now was linked before, or was linked in this turn
  pub record New (k : Kind) (r : ℕ) : Type 0 where
    pub change : Change
    pub kind : change_kind change ≡ k
    pub follows : next_at s w ≡ next.Linked change r

  pub split : (k : Kind) (r : ℕ) → Linked t k r → Linked s k r ⊎ New k r
  split k r (at_head h _ n e f l) =
      ⊎_elim
      (λ (q : number_in t (cell.Head h) ≡ number_in s (cell.Head h)). inl (at_head h r n e (sym q ∙ f) l))
      (λ (m : HeadMoves s w fit h (number_in s (cell.Head h)) (number_in t (cell.Head h))).
      inr (record { change = m.change; kind = ap head_kind (sym m.is) ∙ e; follows = moved_follows h _ _ refl m ∙ ap (next.Linked m.change) f }))
      (head_changes s w fit h (number_in s (cell.Head h)) (number_in t (cell.Head h)) (turn_changes s w fit (cell.Head h) n))
  split k r (below q _ x f l) =
      ⊎_elim
      (λ (o : Linked s k q). inl (below q r o (sym ((turn_laws s w fit).older k q (linked_row s k q o) o) ∙ f) l))
      (λ (m : New k q).
      let over = subst (λ (j : Kind). number_in t (cell.Older j q) ≡ number_in s (cell.Head (change_head m.change))) m.kind (new_over m.change q m.follows) in
      inl (at_head (change_head m.change) r (change_named s m.change (linking m.change q m.follows).fits.0) m.kind (sym over ∙ f) l))
      (split k q x)

  counts : (v : ℕ) (k : Kind) → linked_of (worker_at s v) k ≤ linked_of (worker_at t v) k
  counts v k = record_each (λ u r. linked_of (worker_at s u) k ≤ linked_of r k) (subst (λ n. linked_of own k ≤ n) (sym (own_count k)) (count_grows k (next_at s w) refl)) (λ u. omega arith) v

  counted_later : (k : Kind) (r : ℕ) → Counted s k r → Counted t k r
  counted_later k r x = record { owner = x.owner; nth = x.nth; before = omega (arith, counts x.owner k, x.before); is = x.is }

  -- linked rows are counted
  counted_sound : (k : Kind) (r : ℕ) → Linked t k r → Counted t k r
  counted_sound k r l =
      ⊎_elim (λ (o : Linked s k r). counted_later k r (z.counted k r o)) (λ (m : New k r). subst (λ (j : Kind). Counted t j r) m.kind (new_counted m.change r m.follows)) (split k r l)

  over_row : (c : Change) (h : ℕ) → HeldOrNone s (change_head c) h → RowOrNone t (change_kind c) h
  over_row c h (inl e) = inl e
  over_row c h (inr x) = inr (linked_later s t later (change_kind c) h x.linked)

  new_sound : (k : Kind) (r : ℕ) → New k r → RowOrNone t k (number_in t (cell.Older k r))
  new_sound k r m =
      let l = linking m.change r m.follows in
      let o = new_older s w m.change l.over z.cells l.fits.0 r l.own l.at_link m.follows in
      subst (λ (q : Kind). RowOrNone t q (number_in t (cell.Older q r))) m.kind (subst (RowOrNone t (change_kind m.change)) (sym o) (over_row m.change l.over l.fits.1))

  -- ins of a new row is pending, its del 0
  pub new_starts : (k : Kind) (r : ℕ) → New k r → (f : Field) → number_in t (cell.Stamp k f r) ≡ field_start f
  new_starts k r m f =
      let l = linking m.change r m.follows in
      subst (λ (q : Kind). number_in t (cell.Stamp q f r) ≡ field_start f) m.kind (new_stamp s w m.change l.over z.cells l.fits.0 r l.own f l.at_link m.follows)

  older_sound : (k : Kind) (r : ℕ) → Linked t k r → RowOrNone t k (number_in t (cell.Older k r))
  older_sound k r l =
      ⊎_elim
      (λ (o : Linked s k r).
      let e = (turn_laws s w fit).older k r (linked_row s k r o) o in
      subst (RowOrNone t k) (sym e) (row_later s t later k _ (z.olders k r o)))
      (new_sound k r)
      (split k r l)

  pub turn_sound : Sound t
  turn_sound = record {
    cells = enough_entered s.sizes _ w (followed_at s w).entry (enough_after s.sizes s.cells (touch_at s w) z.cells);
    table = simp length-set z.table;
    heads = λ h m. head_sound h (number_in t (cell.Head h)) m (turn_changes s w fit (cell.Head h) m);
    counted = counted_sound;
    olders = older_sound;
    places = record_each (λ v u. v < s.sizes.workers → FitPlace t u.place) (λ _. own_ready.place) (λ v l. place_later s t later (worker_at s v).place (z.places v l));
    queues = λ v n l. record_each (λ v u. v < s.sizes.workers → QueueFits s.sizes.keys u.book) (λ _. own_ready.queue) (λ v l n. z.queues v n l) v l n;
  }

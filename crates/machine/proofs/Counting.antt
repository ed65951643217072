-- Every opening has the counts of a run, and every begin, turn, take and give keeps them; the number of cells stays.
use Rattle.std.proofs.Common.{◌≡◌, ℕ, zero, suc, ◌+◌, ◌*◌, ◌<◌, ◌≤◌, Bool, true, false, ◌&&◌, ltb, List, length, get_or, set, drop, replicate, Some, None, Option, ⊎_elim, sym, refl, ap, ◌∙◌, subst, arith}
use Rattle.std.proofs.lemmas.List.{length-set, length-append, length-drop, length-replicate, get_or_past, get_or-set_same, get_or-set_other}
use Rattle.std.proofs.lemmas.Bool.{cond_both, cases_eq, cases_lt, ltb-true, and_parts}
use Rattle.std.proofs.lemmas.Option.{none-some}
use Rattle.std.specs.Option.{is_some}
use Rattle.std.specs.declared.ops.ControlFlow.TheVariants.{Continue, Break}
use Rattle.layout.specs.declared.sizes.Sizes.{Sizes}
use Rattle.layout.specs.declared.names.Kind.{Kind}
use Rattle.layout.specs.declared.names.Kind.TheVariants.{Vertex, Edge}
use Rattle.layout.specs.Layout.{needed}
use Rattle.layout.specs.Rows.{rows_each, row_at}
use Rattle.places.specs.declared.place.Call.{Call}
use Rattle.places.specs.declared.place.Call.TheVariants as call
use Rattle.places.specs.declared.place.Change.{Change}
use Rattle.places.specs.declared.place.Change.TheVariants as change
use Rattle.places.specs.declared.place.Hand.{Hand}
use Rattle.places.specs.declared.place.Place.{Place}
use Rattle.places.specs.declared.place.Place.TheVariants as place
use Rattle.places.specs.Moved.{Next, Next as next}
use Rattle.places.specs.Flows.{Flow}
use Rattle.books.specs.Walked.{WalkOutcome, walked_of}
use Rattle.places.specs.Touches.{change_kind, touch_of}
use Rattle.places.specs.Calls.{place_first}
use Rattle.places.specs.Private.{link_kind}
use Rattle.places.specs.Nexts.{link_done, next_of}
use Rattle.machine.specs.declared.worker.Worker.{Worker}
use Rattle.machine.specs.declared.worker.PageState.{PageState}
use Rattle.machine.specs.States.{State}
use Rattle.machine.specs.Opening.{cleared, empty_graph, opened_state}
use Rattle.machine.specs.Effects.{got_of}
use Rattle.machine.specs.Turns.{worker_at, spare_for, hand_at, touch_at, next_at, followed_at, turned}
use Rattle.machine.specs.Workers.{nobody, fresh, CanCount, at, finishes, finished, with_book, arrived, linked_of, followed}
use Rattle.machine.specs.Requests.{begun, with_page}
use Rattle.machine.specs.Counts.{may_finish, RecordCounts, clock_of, Counts}
use Rattle.machine.proofs.ClockCells.{clock_in, raises, Moves, turn_moves, has_cells}
use Rattle.machine.proofs.Finishing.{Finishes, pages_of, raised_by, next_finishes, followed_pages, raised_once}

-- the counts of a worker are below 2 ^ 32 - 1
pub can_count : (s : State) (w : ℕ) → Counts s → CanCount (worker_at s w)
can_count s w c =
    let e = c.each w in
    record {
      vertices = omega (arith, e.rows Vertex, s.sizes.vrowed);
      edges = omega (arith, e.rows Edge, s.sizes.erowed);
      pages = omega (arith, e.pages, c.clock, s.sizes.timed);
    }

-- a later clock keeps them
later : (z : Sizes) (a b : ℕ) (v : Worker) → a ≤ b → RecordCounts z a v → RecordCounts z b v
later z a b v l r = record { rows = r.rows; pages = omega (arith, r.pages) }

-- what holds of each item, and of the one that is set, holds of each item then
set_all : {A : Type 0} (P : A → Type 0) (xs : List A) (w : ℕ) (x d : A) → P x → ((u : ℕ) → P (get_or xs u d)) → (u : ℕ) → P (get_or (set xs w x) u d)
set_all P xs w x d here there u =
    ⊎_elim
    (λ (e : u ≡ w).
    ⊎_elim
    (λ (l : w < length xs). subst P (sym (ap (λ i. get_or (set xs w x) i d) e ∙ get_or-set_same xs w x d l)) here)
    (λ (l : length xs ≤ w).
    let m : length (set xs w x) ≤ u = omega (arith, length-set xs w x) in
    subst P (get_or_past xs u d (omega arith) ∙ sym (get_or_past (set xs w x) u d m)) (there u))
    (cases_lt w (length xs)))
    (λ (n : u ≡ w → ⊥). subst P (sym (get_or-set_other xs w u x d n)) (there u))
    (cases_eq u w)

-- one record changes, and the clock may go up
set_counts : (s t : State) (w : ℕ) (v : Worker) → t.sizes ≡ s.sizes → t.workers ≡ set s.workers w v → clock_of s ≤ clock_of t → clock_of t ≤ s.sizes.top → RecordCounts s.sizes (clock_of t) v → Counts s → Counts t
set_counts s t w v e f l m r c = record {
  each = λ u. subst (λ z. RecordCounts z (clock_of t) (worker_at t u)) (sym e) (subst (λ vs. RecordCounts s.sizes (clock_of t) (get_or vs u nobody)) (sym f) (there u));
  clock = subst (λ z. clock_of t ≤ z.top) (sym e) m;
}
  where
    there : (u : ℕ) → RecordCounts s.sizes (clock_of t) (get_or (set s.workers w v) u nobody)
    there = set_all (RecordCounts s.sizes (clock_of t)) s.workers w v nobody r (λ u. later s.sizes (clock_of s) (clock_of t) (worker_at s u) l (c.each u))

-- a record with the same rows, and no more pages
same_rows : (z : Sizes) (t : ℕ) (v u : Worker) → ((k : Kind) → linked_of u k ≡ linked_of v k) → pages_of u ≤ pages_of v → RecordCounts z t v → RecordCounts z t u
same_rows z t v u e l r = record { rows = λ k. omega (arith, e k, r.rows k); pages = omega (arith, l, r.pages) }

first_place : (c : Call) → may_finish (place_first c) ≡ 0
first_place (call.Vertex o i) = refl
first_place (call.Edge o p) = refl
first_place (call.Survey v) = refl

-- a begin
pub begun_counts : (s t : State) (w : ℕ) (c : Call) → t.sizes ≡ s.sizes → t.cells ≡ s.cells → t.workers ≡ set s.workers w (begun (worker_at s w) c) → Counts s → Counts t
begun_counts s t w c e d f n =
    let same : clock_of t ≡ clock_of s = ap clock_in d in
    set_counts s t w (begun (worker_at s w) c) e f (omega (arith, same)) (omega (arith, same, n.clock))
    (same_rows s.sizes (clock_of t) (worker_at s w) (begun (worker_at s w) c) (elim [ Vertex ↦ refl | Edge ↦ refl ]) (omega (arith, first_place c)) (later s.sizes (clock_of s) (clock_of t) (worker_at s w) (omega (arith, same)) (n.each w)))
    n

-- a page that is taken or given back
pub page_counts : (s t : State) (w : ℕ) (p : PageState) → t ≡ with_page s w p → Counts s → Counts t
page_counts s t w p e n =
    subst Counts (sym e)
    (set_counts s (with_page s w p) w (record (worker_at s w) { page = p }) refl refl (omega arith) n.clock
    (same_rows s.sizes (clock_of s) (worker_at s w) (record (worker_at s w) { page = p }) (elim [ Vertex ↦ refl | Edge ↦ refl ]) (omega arith) (n.each w))
    n)

-- a row that comes next is owned and not linked yet
next_owned : (z : Sizes) (k : Kind) (w n r : ℕ) → row_at z k w n ≡ Some r → n < rows_each z k
next_owned z k w n r e =
    cond_both (ltb w z.workers && ltb n (rows_each z k)) (Some (w * rows_each z k + n + 1)) None (λ x. x ≡ Some r → n < rows_each z k)
    (λ t _. ltb-true n (rows_each z k) ((and_parts (ltb w z.workers) (ltb n (rows_each z k)) t).1)) (λ _ f. absurd (none-some r f)) e

link_spare : (c d : Change) (spare : Option ℕ) (done : Bool) (r : ℕ) → link_done c spare done ≡ next.Linked d r → spare ≡ Some r
link_spare c d None done r e = cc
link_spare c d (Some x) true r e = cc
link_spare c d (Some x) false r e = cc

-- a row that a turn linked was the worker's next one
linked_spare : (p : Place) (h : Hand) (g : Option ℕ) (c : Change) (r : ℕ) → link_kind p ≡ Some (change_kind c) → next_of p h g ≡ next.Linked c r → h.spare ≡ Some r
linked_spare (place.Link d b) h g c r k e = link_spare d c h.spare (is_some g) r e
linked_spare p h g c r k e = cc

arrived_linked : (v : Worker) (o : Flow) (k : Kind) → linked_of (arrived v o) k ≡ linked_of v k
arrived_linked v (Continue q) k = refl
arrived_linked v (Break a) k = cond_both (finishes a) (finished v) (at v place.Idle) (λ u. linked_of u k ≡ linked_of v k) (λ _. refl) (λ _. refl)

-- rows linked after a turn, where a row that it linked was owned and not linked before
followed_rows : (z : Sizes) (v : Worker) (h : Hand) (x : Next) → ((k : Kind) → linked_of v k ≤ rows_each z k) → ((c : Change) (r : ℕ) → x ≡ next.Linked c r → linked_of v (change_kind c) < rows_each z (change_kind c)) → (k : Kind) → linked_of (followed z.keys v h x).worker k ≤ rows_each z k
followed_rows z v h (next.Moved o) l b k = omega (arith, l k, arrived_linked v o k)
followed_rows z v h (next.Linked (change.Vertex i) r) l b Vertex = omega (arith, b (change.Vertex i) r refl)
followed_rows z v h (next.Linked (change.Vertex i) r) l b Edge = l Edge
followed_rows z v h (next.Linked (change.Edge d) r) l b Vertex = l Vertex
followed_rows z v h (next.Linked (change.Edge d) r) l b Edge = omega (arith, b (change.Edge d) r refl)
followed_rows z v h (next.Raised q t) l b k = l k
followed_rows z v h (next.Walked q r) l b k =
    let o : WalkOutcome = walked_of v.book q z.keys r h in
    omega (arith, l k, arrived_linked (with_book v o.book) o.out k)

-- a turn that raised the clock touched it
raised_touch : (p : Place) (h : Hand) (spare g : Option ℕ) → raised_by (next_of p h g) ≤ raises (touch_of p spare) g
raised_touch (place.Raise v) h spare None = omega arith
raised_touch (place.Raise v) h spare (Some t) = omega arith
raised_touch p h spare g = omega (arith, raised_once p (next_of p h g) (next_finishes p h g))

abbrev linked_change : Change → Next → Change
linked_change c (next.Linked d r) = d
linked_change c x = c

linked_kind : (p : Place) (x : Next) (c : Change) (r : ℕ) → Finishes p x → x ≡ next.Linked c r → link_kind p ≡ Some (change_kind c)
linked_kind p (next.Linked c r) d q f g = f ∙ ap (λ y. Some (change_kind (linked_change c y))) g
linked_kind p x c r f g = absurd cc

module _ (s : State) (w : ℕ) (n : Counts s) where
  abbrev own : Worker
  own = worker_at s w

  abbrev got : Option ℕ
  got = got_of s.sizes s.cells (touch_at s w)

  finishes_next : Finishes own.place (next_at s w)
  finishes_next = next_finishes own.place (hand_at s w) got

  -- a row that the turn linked was owned and not linked before
  linked_before : (c : Change) (r : ℕ) → next_at s w ≡ next.Linked c r → linked_of own (change_kind c) < rows_each s.sizes (change_kind c)
  linked_before c r e =
      let k : link_kind own.place ≡ Some (change_kind c) = linked_kind own.place (next_at s w) c r finishes_next e in
      let h : (hand_at s w).spare ≡ Some r = linked_spare own.place (hand_at s w) got c r k e in
      next_owned s.sizes (change_kind c) w (linked_of own (change_kind c)) r (sym (ap (spare_for s.sizes w own) k) ∙ h)

  moves : Moves (raises (touch_at s w) got) s.sizes.top s.cells (turned s w).cells
  moves = turn_moves s.sizes s.cells w own.place (hand_at s w).spare (followed_at s w).entry (has_cells s.cells (omega (arith, (n.each w).pages)))

  pub turned_counts : Counts (turned s w)
  turned_counts =
      let rises : raised_by (next_at s w) ≤ raises (touch_at s w) got = raised_touch own.place (hand_at s w) (hand_at s w).spare got in
      let pages : pages_of (followed_at s w).worker ≤ pages_of own + raised_by (next_at s w) = followed_pages s.sizes.keys own (hand_at s w) (next_at s w) finishes_next in
      set_counts s (turned s w) w (followed_at s w).worker refl refl (omega (arith, moves.clock)) (moves.top n.clock)
      (record {
        rows = followed_rows s.sizes own (hand_at s w) (next_at s w) (n.each w).rows linked_before;
        pages = omega (arith, rises, pages, moves.clock, (n.each w).pages);
      })
      n

  -- as many cells as before
  pub turned_count : length (turned s w).cells ≡ length s.cells
  turned_count = moves.count

-- what a run keeps over a turn: the cells that its sizes need, and its counts
pub turn_keeps : (s t : State) (w : ℕ) → t ≡ turned s w → needed s.sizes ≤ length s.cells → Counts s → (needed t.sizes ≤ length t.cells) × Counts t
turn_keeps s t w e l n = subst (λ u. (needed u.sizes ≤ length u.cells) × Counts u) (sym e) (omega (arith, turned_count s w n), turned_counts s w n)

-- an opening
fresh_counts : (z : Sizes) (t : ℕ) → 0 < t → RecordCounts z t fresh
fresh_counts z t l = record { rows = elim [ Vertex ↦ omega arith | Edge ↦ omega arith ]; pages = omega arith }

nobody_counts : (z : Sizes) (t : ℕ) → 0 < t → RecordCounts z t nobody
nobody_counts z t l = record { rows = elim [ Vertex ↦ omega arith | Edge ↦ omega arith ]; pages = omega arith }

each_alike : (P : Worker → Type 0) (n : ℕ) (v d : Worker) → P v → P d → (u : ℕ) → P (get_or (replicate n v) u d)
each_alike P zero v d a b u = b
each_alike P (suc n) v d a b zero = a
each_alike P (suc n) v d a b (suc u) = each_alike P n v d a b u

module _ (cs : List ℕ) (z : Sizes) (l : needed z ≤ length cs) where
  -- as many cells as before
  pub opened_count : length (empty_graph cs z) ≡ length cs
  opened_count =
      length-set (cleared (needed z) cs) 0 1
      ∙ length-append (replicate (needed z) 0) (drop (needed z) cs)
      ∙ omega (arith, length-replicate {A = ℕ} (needed z) 0, length-drop (needed z) cs)

  opened_clock : clock_in (empty_graph cs z) ≡ 1
  opened_clock =
      get_or-set_same (cleared (needed z) cs) 0 1 0
      (simp length-append (omega (arith, length-replicate {A = ℕ} (needed z) 0)))

  pub opened_counts : Counts (opened_state cs z)
  opened_counts = record {
    each = each_alike (RecordCounts z (clock_in (empty_graph cs z))) 8 fresh nobody (fresh_counts z _ (omega (arith, opened_clock))) (nobody_counts z _ (omega (arith, opened_clock)));
    clock = omega (arith, opened_clock, z.timed);
  }

pub opening_keeps : (cs : List ℕ) (z : Sizes) (t : State) → t ≡ opened_state cs z → needed z ≤ length cs → (needed t.sizes ≤ length t.cells) × Counts t
opening_keeps cs z t e l = subst (λ u. (needed u.sizes ≤ length u.cells) × Counts u) (sym e) (omega (arith, opened_count cs z l), opened_counts cs z l)

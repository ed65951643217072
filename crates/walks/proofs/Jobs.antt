-- A walk has come to its end: what is known of the book, the page, and what follows.
use Rattle.std.proofs.Common.{◌≡◌, ℕ, ◌+◌, ◌<◌, ◌≤◌, ◌≢◌, Bool, true, false, cond, not, ◌&&◌, ◌||◌, eqb, ltb, refl, sym, ap, ◌∙◌, subst, arith, Break}
use Rattle.std.proofs.lemmas.Bool.Decides.{nat_tests}
use Rattle.codes.specs.declared.answer.Answer.TheVariants.{VertexAbsent}
use Rattle.layout.specs.Rows.{no_row}
use Rattle.layout.specs.declared.names.Head.TheVariants as head
use Rattle.places.specs.Touches.{job_head}
use Rattle.places.specs.declared.place.Survey.{Survey}
use Rattle.places.specs.declared.place.Survey.TheVariants.{Snapshot, Reach}
use Rattle.places.specs.declared.place.ServedPair.{ServedPair}
use Rattle.places.specs.declared.place.Job.{Job}
use Rattle.places.specs.declared.place.Job.TheVariants as job
use Rattle.places.specs.declared.place.Hand.{Hand}
use Rattle.books.specs.declared.book.Book.{Book}
use Rattle.books.specs.declared.walked.Entry.TheVariants as entry
use Rattle.books.specs.Books.{shown_of, is_seen, with_row}
use Rattle.books.specs.Serving.{pair_number, serve_from}
use Rattle.books.specs.Walked.{walk_of, walked_joined, key_walked, start_walked, pair_walked, resolved, walked_at}
use Rattle.walks.specs.Memory.{Memory}
use Rattle.walks.specs.Courses.{Course, CourseLinked, Laws}
use Rattle.walks.specs.Visible.{Found}
use Rattle.walks.specs.Pages.{Page, with_key}
use Rattle.walks.proofs.Times.{linked_some}
use Rattle.walks.proofs.Drafts.{at_puts, put_here, put_there, Draft, draft_of, walk_in, Kept, draft_walked, kept_walked}
use Rattle.walks.proofs.Known.{NoEdge, Queued, Serving, Turning, Rising, Leaving, IsServedPair, KnowsJob}
use Rattle.walks.proofs.Serves.{start_absent, KnowsFlow, walks_on, answers, serve_knows}
use Rattle.walks.proofs.Fills.{in_queue}
use Rattle.walks.proofs.Resolves.{KnowsWalked, found_stays, next_none, to_small, resolved_knows}
use Rattle.walks.proofs.Starts.{draft_is, kept_book, raise_is, rising, all_keys, starts}

-- what a worker has at hand of the edge row e
pub record HandOf (m : Memory) (e : ℕ) (h : Hand) : Type 0 where
  pub source : h.source ≡ m.source e
  pub target : h.target ≡ m.target e
  pub weight : h.weight ≡ m.weight e

-- where a walk that found row r wants the cells of an edge row, they are at hand
abbrev pub HandFits : Memory → Job → ℕ → Hand → Type 0
HandFits m (job.Pair l) r h = 0 < r → HandOf m r h
HandFits m (job.Target l e) r h = HandOf m e h
HandFits m j r h = Unit {0}

module _ (c : Course) (n : ℕ) (law : Laws c n) (some_key : 0 < n) (few : n ≤ 64) (k : ℕ) (b : Book) (p : Page) (kept : Kept b p) where
  abbrev d : Draft
  d = draft_of b p

  key_knows : (v : Survey) (i r : ℕ) → KnowsJob c n k v b p (job.Key i) → Found c b.t k (head.Vertex i) r → KnowsWalked c n k v b.t p (key_walked b v n i r)
  key_knows v i r (e, small, h) f = record {
    out = by_test (ltb (i + 1) n) refl;
    kept = kept_book c n law some_key few k b p kept i r small room;
    raise = raise_is c n law some_key few k b p kept i r small room;
  }
    where
      room : b.len < 64
      room = omega (arith, h.len)

      book : Book
      book = walked_joined b i r

      page : Page
      page = with_key p i r

      risen : Rising c n k (draft_of book page) (i + 1)
      risen = rw (draft_is c n law some_key few k b p kept i r small room) (rising c n law some_key few k b p kept i r small room h f)

      full : n ≡ i + 1 → Serving c n k Snapshot (draft_of book page) 0
      full q = all_keys c n law some_key few k b p kept i r small room (draft_of book page) (subst (λ a. Rising c n k (draft_of book page) a) (sym q) risen)

      by_test : (q : Bool) → ltb (i + 1) n ≡ q → KnowsFlow c n k v book page (cond q (walk_of v (job.Key (i + 1))) (serve_from book v n 0))
      by_test true q = walks_on (job.Key (i + 1)) (e, grind (arith, nat_tests), risen)
      by_test false q = rw e (serve_knows c n law k Snapshot book page 0 (omega arith) (full (grind (arith, nat_tests))))

  start_knows : (v : Survey) (i r : ℕ) → KnowsJob c n k v b p (job.Start i) → Found c b.t k (head.Vertex i) r → KnowsWalked c n k v b.t p (start_walked b v n i r)
  start_knows v i r (e, small, h) f = by_test (eqb r no_row) refl
    where
      room : b.len < 64
      room = omega (arith, h.len)

      book : Book
      book = walked_joined b i r

      page : Page
      page = with_key p i r

      serves : 0 < r → Serving c n k (Reach i) (draft_of book page) 0
      serves z = rw (draft_is c n law some_key few k b p kept i r small room) (starts c n law some_key few k b p kept i r small room h z f)

      by_test : (q : Bool) → eqb r no_row ≡ q →
          KnowsWalked c n k v b.t p
          (cond q (record { book = b; out = Break VertexAbsent; entry = entry.Nothing })
          (record { book = walked_joined b i r; out = serve_from (walked_joined b i r) v n 0; entry = entry.Key i r }))
      by_test true q =
          let none : r ≡ no_row = grind (arith, nat_tests) in
          record { out = answers VertexAbsent (start_absent i e (rw none at f)); kept = kept; raise = refl }
      by_test false q = record {
        out = rw e (serve_knows c n law k (Reach i) book page 0 (omega arith) (serves (grind (arith, nat_tests))));
        kept = kept_book c n law some_key few k b p kept i r small room;
        raise = raise_is c n law some_key few k b p kept i r small room;
      }

  -- the key of the pair in turn has joined
  open_from : (x y z : Bool) → (not x && (not y && not z)) ≡ true → y ≡ false
  open_from x y z e = grind arith

  from_shown : (v : Survey) (l : ServedPair) → IsServedPair c n b l → Turning c n k v b p (pair_number n l) → 0 < d.key l.from
  from_shown Snapshot l pair h = rw (ap (λ (a : ServedPair). a.from) pair) (some _ (open_from _ _ _ h.good))
    where
      some : (y : ℕ) → eqb y no_row ≡ false → 0 < y
      some y q = grind (arith, nat_tests)
  from_shown (Reach i) l pair h = rw (ap (λ (a : ServedPair). a.from) pair) (h.sofar.mode.0 _ (in_queue c n some_key k (pair_number n l) b.len h.within))

  pair_knows : (v : Survey) (l : ServedPair) (r : ℕ) (h : Hand) → KnowsJob c n k v b p (job.Pair l) → Found c b.t k (head.Edge l.from l.to) r →
      (0 < r → HandOf (c.at k) r h) → KnowsWalked c n k v b.t p (pair_walked b v n l r h)
  pair_knows v l r h (pair, turn) f of = by_test (eqb r no_row) (eqb h.source (shown_of b l.from)) (is_seen b l.to) refl refl refl
    where
      s : Serving c n k v d (pair_number n l)
      s = turn.sofar

      z : 0 < d.key l.from
      z = from_shown v l pair turn

      none : NoEdge c b.t k l.from l.to → KnowsWalked c n k v b.t p (record { book = b; out = serve_from b v n (pair_number n l + 1); entry = entry.Nothing })
      none g = record { out = next_none c n law some_key few k b p kept l pair v turn.within s g; kept = kept; raise = refl }

      no_row_none : r ≡ no_row → NoEdge c b.t k l.from l.to
      no_row_none e m y a w = omega (arith, f.only m y a w.row (w.source, w.target), (linked_some w.row.linked))

      linked : 0 < r → CourseLinked c k (head.Edge l.from l.to) r
      linked y = (found_stays c b.t k (head.Edge l.from l.to) r y f k (omega arith)).linked

      source_is : 0 < r → h.source ≡ c.source r
      source_is y = (of y).source ∙ law.source k l.from l.to r (linked y)

      source_none : 0 < r → h.source ≢ shown_of b l.from → NoEdge c b.t k l.from l.to
      source_none y q m x a w =
          let g = s.joined l.from z in
          let u = (s.rows l.from g.small g.seen).only m (c.source x) a w.source tt in
          q (source_is y ∙ ap c.source (sym (f.only m x a w.row (w.source, w.target))) ∙ u ∙ sym g.row)

      leaving : 0 < r → h.source ≡ shown_of b l.from → Leaving c n k d l r
      leaving y q = record { row = y; edge = f; source = sym (source_is y) ∙ q }

      by_seen : 0 < r → h.source ≡ shown_of b l.from → (q : Bool) → is_seen b l.to ≡ q →
          KnowsWalked c n k v b.t p (cond q (resolved b v n l h) (record { book = b; out = walk_of v (job.Target l r); entry = entry.Nothing }))
      by_seen y e true q =
          let t = (of y).target ∙ law.target k l.from l.to r (linked y) in
          let w = (of y).weight ∙ law.weight k l.from l.to r (linked y) in
          resolved_knows c n law some_key few k b p kept l pair r h t w turn.within z q (leaving y e) v s
      by_seen y e false q = record { out = walks_on (job.Target l r) (pair, turn, leaving y e, q); kept = kept; raise = refl }

      by_test : (o q a : Bool) → eqb r no_row ≡ o → eqb h.source (shown_of b l.from) ≡ q → is_seen b l.to ≡ a →
          KnowsWalked c n k v b.t p
          (cond (o || not q) (record { book = b; out = serve_from b v n (pair_number n l + 1); entry = entry.Nothing })
          (cond a (resolved b v n l h) (record { book = b; out = walk_of v (job.Target l r); entry = entry.Nothing })))
      by_test true q a e g i = none (no_row_none (grind (arith, nat_tests)))
      by_test false false a e g i = none (source_none (grind (arith, nat_tests)) (grind (arith, nat_tests)))
      by_test false true a e g i = by_seen (grind (arith, nat_tests)) (grind (arith, nat_tests)) a i

  -- the walk of a target goes into the book
  module _ (v : Survey) (l : ServedPair) (e r : ℕ) (know : KnowsJob c n k v b p (job.Target l e)) (f : Found c b.t k (head.Vertex l.to) r) where
    pair : IsServedPair c n b l
    pair = know.0

    s : Serving c n k v d (pair_number n l)
    s = know.1.sofar

    target_small : l.to < n
    target_small = to_small c n law some_key few k b p kept l pair

    draft_row : draft_of (with_row b l.to r) p ≡ walk_in d l.to r
    draft_row = draft_walked b p l.to kept (omega (arith, target_small)) r

    other : (y : ℕ) → 0 < d.key y → y ≢ l.to
    other y w a = (let q = know.3 in absurd (grind (arith, (s.joined y w).seen)))

    walked_mode : (w : Survey) → (draft_of b p).seen l.to ≡ false → Queued c n w d → Queued c n w (walk_in d l.to r)
    walked_mode Snapshot q m = absurd (grind (arith, (m.2 l.to target_small).0))
    walked_mode (Reach i) q m = m

    pub target_serves : Serving c n k v (draft_of (with_row b l.to r) p) (pair_number n l)
    target_serves = rw draft_row (record {
      rows = at_puts (λ y u w. y < n → u ≡ true → Found c b.t k (head.Vertex y) w) d.seen d.row l.to true r (λ a u. f) (λ y q a u. s.rows y a u);
      joined = λ y w. (
          let g = s.joined y w in
          record {
            small = g.small;
            seen = put_there d.seen l.to true y (other y w) ∙ g.seen;
            row = g.row ∙ sym (put_there d.row l.to r y (other y w));
            nth = g.nth;
            within = g.within;
            queued = g.queued;
            reached = g.reached;
          });
      queued = s.queued;
      mode = walked_mode v know.3 s.mode;
      cells = s.cells;
      served = λ y a m. let g = s.served y a m in record { shown = g.shown; leads = g.leads };
    })

  target_knows : (v : Survey) (l : ServedPair) (e r : ℕ) (h : Hand) → KnowsJob c n k v b p (job.Target l e) → Found c b.t k (head.Vertex l.to) r →
      HandOf (c.at k) e h → KnowsWalked c n k v b.t p (resolved (with_row b l.to r) v n l h)
  target_knows v l e r h (pair, turn, lv, o) f of =
      resolved_knows c n law some_key few k (with_row b l.to r) p kept_row l pair e h target weight turn.within z seen leaving v (target_serves v l e r (pair, turn, lv, o) f)
    where
      small : l.to < n
      small = to_small c n law some_key few k b p kept l pair

      small_key : l.to < 64
      small_key = omega (arith, small)

      is : draft_of (with_row b l.to r) p ≡ walk_in d l.to r
      is = draft_walked b p l.to kept small_key r

      kept_row : Kept (with_row b l.to r) p
      kept_row = kept_walked b p l.to kept small_key r

      key_same : (draft_of (with_row b l.to r) p).key ≡ d.key
      key_same = ap (λ (a : Draft). a.key) is

      z : 0 < (draft_of (with_row b l.to r) p).key l.from
      z = subst (λ g. 0 < g l.from) (sym key_same) (from_shown v l pair turn)

      seen : (draft_of (with_row b l.to r) p).seen l.to ≡ true
      seen = ap (λ (a : Draft). a.seen l.to) is ∙ put_here d.seen l.to true

      linked : CourseLinked c k (head.Edge l.from l.to) e
      linked = (found_stays c b.t k (head.Edge l.from l.to) e lv.row lv.edge k (omega arith)).linked

      target : h.target ≡ c.target e
      target = of.target ∙ law.target k l.from l.to e linked

      weight : h.weight ≡ c.weight e
      weight = of.weight ∙ law.weight k l.from l.to e linked

      leaving : Leaving c n k (draft_of (with_row b l.to r) p) l e
      leaving = record { row = lv.row; edge = lv.edge; source = lv.source ∙ ap (λ g. g l.from) (sym key_same) }

  -- a walk has found row r
  pub found_knows : (v : Survey) (j : Job) (r : ℕ) (h : Hand) → KnowsJob c n k v b p j → Found c b.t k (job_head j) r → HandFits (c.at k) j r h →
      KnowsWalked c n k v b.t p (walked_at b v j n r h)
  found_knows v (job.Key i) r h a f o = key_knows v i r a f
  found_knows v (job.Start i) r h a f o = start_knows v i r a f
  found_knows v (job.Pair l) r h a f o = pair_knows v l r h a f o
  found_knows v (job.Target l e) r h a f o = target_knows v l e r h a f o

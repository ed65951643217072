-- A walk has come to its end: the turns of the call so far.
use Rattle.std.proofs.Common.{◌≡◌, ℕ, suc, ◌+◌, ◌*◌, ◌/◌, ◌%◌, ◌<◌, ◌≤◌, ◌≢◌, Bool, true, false, cond, not, ◌&&◌, ◌||◌, eqb, ltb, refl, sym, ap, ◌∙◌, subst, arith, Break}
use Rattle.std.proofs.lemmas.Bool.Decides.{nat_tests}
use Rattle.codes.specs.declared.answer.Answer.TheVariants.{VertexAbsent}
use Rattle.layout.specs.Rows.{no_row}
use Rattle.layout.specs.declared.names.Head.TheVariants as head
use Rattle.places.specs.Touches.{job_head}
use Rattle.places.specs.declared.place.Survey.{Survey}
use Rattle.places.specs.declared.place.Survey.TheVariants.{Snapshot, Reach}
use Rattle.places.specs.declared.place.ServedPair.{ServedPair}
use Rattle.places.specs.declared.place.Job.{Job}
use Rattle.places.specs.declared.place.Job.TheVariants as job
use Rattle.places.specs.declared.place.Hand.{Hand}
use Rattle.books.specs.declared.book.Book.{Book}
use Rattle.books.specs.declared.walked.Entry.TheVariants as entry
use Rattle.books.specs.Books.{shown_of, row_of, is_seen, with_row, joined}
use Rattle.books.specs.Serving.{pair_number, open_pair, serve_from}
use Rattle.books.specs.Walked.{WalkOutcome, walk_of, walked_joined, key_walked, start_walked, joins, pair_walked, resolved, walked_at}
use Rattle.walks.specs.Courses.{Course, CourseLinked, Laws}
use Rattle.walks.specs.Visible.{Found}
use Rattle.walks.specs.Pages.{Page, with_key, with_pair, written}
use Rattle.walks.specs.Budgets.{sum_below, links_over}
use Rattle.walks.proofs.Times.{linked_some}
use Rattle.walks.proofs.Drafts.{Draft, draft_of, walk_in, join_in, put_here, Kept, draft_walked, kept_walked, draft_joined}
use Rattle.walks.proofs.Known.{Serving, Turning, Rising, Leaving, IsServedPair, KnowsJob}
use Rattle.walks.proofs.Counts.{shown_fewer}
use Rattle.walks.proofs.Resolves.{found_stays, to_small}
use Rattle.walks.proofs.Starts.{draft_is, rising}
use Rattle.walks.proofs.Jobs.{HandOf, HandFits, target_serves}
use Rattle.walks.proofs.Sums.{sum_le}
use Rattle.walks.proofs.Costs.{Once, Extra, key_cost, keys_cost, serving, base, SpentFlow, before_walk, before_answer, start_fits, serve_spent, more_key, more_pair, join_serving, once_join}

-- what is known of an outcome, after m turns
abbrev pub Spends : Course → ℕ → ℕ → ℕ → Survey → Page → WalkOutcome → Type 0
Spends c n k m v p o = SpentFlow c n k m v (draft_of o.book (written p o.entry)) o.out

module _ (c : Course) (n : ℕ) (law : Laws c n) (some_key : 0 < n) (few : n ≤ 64) (k m : ℕ) where
  -- on from the pair after the one in turn, where no key joins
  next_spent : (v : Survey) (b : Book) (p q : Page) (x : ℕ) → Once n v (draft_of b p) → x < n * b.len → m ≤ serving c n k (draft_of b p) (x + 1) → SpentFlow c n k m v (draft_of b q) (serve_from b v n (x + 1))
  next_spent Snapshot b p q x o l u = serve_spent c n law some_key k m Snapshot b q (x + 1) o (omega arith) u
  next_spent (Reach i) b p q x o l u = serve_spent c n law some_key k m (Reach i) b q (x + 1) o (omega arith) u

  module _ (b : Book) (p : Page) (kept : Kept b p) (l : ServedPair) (h : Hand) (small : l.to < n) (within : pair_number n l < n * b.len) (target : 0 < h.target)
      (u : m ≤ serving c n k (draft_of b p) (pair_number n l + 1)) where
    abbrev d : Draft
    d = draft_of b p

    abbrev x : ℕ
    x = pair_number n l

    abbrev pair_page : Page
    pair_page = with_pair p l.from l.to h.weight

    module _ (i : ℕ) (s : Serving c n k (Reach i) d x) (o : Once n (Reach i) d) (some : 0 < row_of b l.to) (new : shown_of b l.to ≡ no_row) where
      room : b.len < 64
      room = omega (arith, s.mode.2, shown_fewer d.key l.to n small new)

      abbrev joined_page : Page
      joined_page = with_key pair_page l.to (row_of b l.to)

      joined_is : draft_of (joined b l.to) joined_page ≡ join_in (draft_of b pair_page) l.to
      joined_is = draft_joined b pair_page l.to (record { keys = kept.keys; queue = kept.queue; page = kept.page }) (omega (arith, small)) room joined_page refl

      length_more : (joined b l.to).len ≡ b.len + 1
      length_more = ap (λ (a : Draft). a.len) joined_is

      join_spent : SpentFlow c n k m (Reach i) (draft_of (joined b l.to) joined_page) (serve_from (joined b l.to) (Reach i) n (x + 1))
      join_spent =
          serve_spent c n law some_key k m (Reach i) (joined b l.to) joined_page (x + 1)
          (subst (λ a. Once n (Reach i) a) (sym joined_is) (once_join c n law some_key i (draft_of b pair_page) l.to small new some o))
          (rw length_more (omega arith))
          (subst (λ a. m ≤ serving c n k a (x + 1)) (sym joined_is) (omega (arith, join_serving c n law some_key k (draft_of b pair_page) l.to (x + 1) (omega arith))))

    by_join : (v : Survey) → Serving c n k v d x → Once n v d → h.target ≡ row_of b l.to → (q : Bool) → joins v (shown_of b l.to) ≡ q →
        Spends c n k m v p
        (cond q (record { book = joined b l.to; out = serve_from (joined b l.to) v n (x + 1); entry = entry.Join l.from l.to h.weight (row_of b l.to) })
        (record { book = b; out = serve_from b v n (x + 1); entry = entry.Pair l.from l.to h.weight }))
    by_join Snapshot s o same true q = absurd (grind arith)
    by_join Snapshot s o same false q = next_spent Snapshot b p pair_page x o within u
    by_join (Reach i) s o same true q = join_spent i s o (omega (arith, same)) (grind (arith, nat_tests))
    by_join (Reach i) s o same false q = next_spent (Reach i) b p pair_page x o within u

    resolved_spent : (v : Survey) → Serving c n k v d x → Once n v d → Spends c n k m v p (resolved b v n l h)
    resolved_spent v s o = by_row (eqb h.target (row_of b l.to)) refl
      where
        by_row : (q : Bool) → eqb h.target (row_of b l.to) ≡ q →
            Spends c n k m v p
            (cond q
            (cond (joins v (shown_of b l.to))
            (record { book = joined b l.to; out = serve_from (joined b l.to) v n (x + 1); entry = entry.Join l.from l.to h.weight (row_of b l.to) })
            (record { book = b; out = serve_from b v n (x + 1); entry = entry.Pair l.from l.to h.weight }))
            (record { book = b; out = serve_from b v n (x + 1); entry = entry.Nothing }))
        by_row true q = by_join v s o (grind (arith, nat_tests)) (joins v (shown_of b l.to)) refl
        by_row false q = next_spent v b p p x o within u

  module _ (b : Book) (p : Page) (kept : Kept b p) where
    abbrev e : Draft
    e = draft_of b p

    key_spent : (v : Survey) (i r : ℕ) → KnowsJob c n k v b p (job.Key i) → Found c b.t k (head.Vertex i) r →
        m ≤ 1 + sum_below i (key_cost c n k) + (8 + links_over c k (head.Vertex i)) → Spends c n k m v p (key_walked b v n i r)
    unfolding sum_below key_cost
    key_spent v i r (q, small, h) f u = by_test (ltb (i + 1) n) refl
      where
        room : b.len < 64
        room = omega (arith, h.len)

        book : Book
        book = walked_joined b i r

        page : Page
        page = with_key p i r

        risen : Rising c n k (draft_of book page) (i + 1)
        risen = rw (draft_is c n law some_key few k b p kept i r small room) (rising c n law some_key few k b p kept i r small room h f)

        more : m ≤ 1 + sum_below (i + 1) (key_cost c n k)
        more = let s : i + 1 ≡ suc i = omega arith in rw s (omega arith)

        once : n ≡ i + 1 → Once n Snapshot (draft_of book page)
        once w g = rw (risen.len ∙ sym w) (sum_le n _ _ (λ y a. rw (risen.queued y (omega arith)) (omega arith)))

        all_keys : n ≡ i + 1 → sum_below (i + 1) (key_cost c n k) ≤ keys_cost c n k (draft_of book page)
        all_keys w = rw (sym w) (sum_le n (key_cost c n k) (λ y. cond ((draft_of book page).seen y) (key_cost c n k y) 0) (λ y a. rw ((risen.seen y (omega arith)).0) (omega arith)))

        by_test : (a : Bool) → ltb (i + 1) n ≡ a → SpentFlow c n k m v (draft_of book page) (cond a (walk_of v (job.Key (i + 1))) (serve_from book v n 0))
        by_test true w = before_walk (job.Key (i + 1)) tt more
        by_test false w =
            let full : n ≡ i + 1 = grind (arith, nat_tests) in
            rw q (serve_spent c n law some_key k m Snapshot book page 0 (once full) (omega arith) (omega (arith, more, all_keys full)))

    start_spent : (v : Survey) (i r : ℕ) → KnowsJob c n k v b p (job.Start i) → m ≤ 1 + (8 + links_over c k (head.Vertex i)) → Spends c n k m v p (start_walked b v n i r)
    unfolding sum_below key_cost
    start_spent v i r (q, small, h) u = by_test (eqb r no_row) refl
      where
        cost : m ≤ 1 + key_cost c n k i
        cost = u

        room : b.len < 64
        room = omega (arith, h.len)

        book : Book
        book = walked_joined b i r

        page : Page
        page = with_key p i r

        is : draft_of book page ≡ join_in (walk_in e i r) i
        is = draft_is c n law some_key few k b p kept i r small room

        none : Once n (Reach i) (walk_in e i r)
        none f = rw h.len (omega arith)

        once : 0 < r → Once n (Reach i) (draft_of book page)
        once z = subst (λ a. Once n (Reach i) a) (sym is) (once_join c n law some_key i (walk_in e i r) i small (h.keys i) (rw (put_here e.row i r) z) none)

        served : m ≤ serving c n k (draft_of book page) 0
        served = subst (λ a. m ≤ serving c n k a 0) (sym is)
            (omega (arith, cost, more_key c n law some_key k e i r 0 small (h.unseen i), join_serving c n law some_key k (walk_in e i r) i 0 (omega arith)))

        by_test : (a : Bool) → eqb r no_row ≡ a →
            Spends c n k m v p
            (cond a (record { book = b; out = Break VertexAbsent; entry = entry.Nothing })
            (record { book = walked_joined b i r; out = serve_from (walked_joined b i r) v n 0; entry = entry.Key i r }))
        by_test true w = before_answer VertexAbsent (omega (arith, cost, start_fits c n law some_key k i small))
        by_test false w = rw q (serve_spent c n law some_key k m (Reach i) book page 0 (once (grind (arith, nat_tests))) (omega arith) served)

    -- the key of a pair that is walked is another than its partner
    pub open_apart : (v : Survey) (i j : ℕ) → open_pair b v i j ≡ true → i ≢ j
    open_apart Snapshot i j q = apart (eqb i j) (not (eqb (shown_of b i) no_row) && not (eqb (shown_of b j) no_row)) refl q
      where
        apart : (a o : Bool) → eqb i j ≡ a → (not a && o) ≡ true → i ≢ j
        apart true o g f = absurd (grind arith)
        apart false o g f = grind (arith, nat_tests)
    open_apart (Reach y) i j q = grind (arith, nat_tests)

    pub walked_once : (v : Survey) (j r : ℕ) → Once n v e → Once n v (walk_in e j r)
    walked_once Snapshot j r o = o
    walked_once (Reach y) j r o = o

    module _ (l : ServedPair) (pair : IsServedPair c n b l) where
      abbrev number : ℕ
      number = pair_number n l

      small : l.to < n
      small = to_small c n law some_key few k b p kept l pair

      from_is : l.from ≡ e.queue (number / n)
      from_is = ap (λ (a : ServedPair). a.from) pair

      to_is : l.to ≡ number % n
      to_is = ap (λ (a : ServedPair). a.to) pair

      -- the pair in turn costs 8 turns, and one for each row of its head
      pub pair_more : (v : Survey) → Turning c n k v b p number → serving c n k e number + (8 + links_over c k (head.Edge l.from l.to)) ≤ serving c n k e (number + 1)
      pair_more v turn = more_pair c n law some_key k e number l.from l.to from_is to_is (λ q. open_apart v _ _ turn.good (sym from_is ∙ q ∙ to_is))

      linked_row : (r : ℕ) → 0 < r → Found c b.t k (head.Edge l.from l.to) r → CourseLinked c k (head.Edge l.from l.to) r
      linked_row r z f = (found_stays c b.t k (head.Edge l.from l.to) r z f k (omega arith)).linked

      target_some : (r : ℕ) (h : Hand) → CourseLinked c k (head.Edge l.from l.to) r → HandOf (c.at k) r h → 0 < h.target
      target_some r h w o = omega (arith, o.target, law.target k l.from l.to r w, linked_some (law.binds k l.from l.to r w).target)

      pair_spent : (v : Survey) (r : ℕ) (h : Hand) → Turning c n k v b p number → Found c b.t k (head.Edge l.from l.to) r → (0 < r → HandOf (c.at k) r h) → Once n v e →
          m ≤ serving c n k e number + (8 + links_over c k (head.Edge l.from l.to)) → Spends c n k m v p (pair_walked b v n l r h)
      pair_spent v r h turn f of o u = by_test (eqb r no_row) (eqb h.source (shown_of b l.from)) (is_seen b l.to) refl
        where
          next : m ≤ serving c n k e (number + 1)
          next = omega (arith, pair_more v turn)

          by_seen : 0 < r → (q : Bool) → Spends c n k m v p (cond q (resolved b v n l h) (record { book = b; out = walk_of v (job.Target l r); entry = entry.Nothing }))
          by_seen z true = resolved_spent b p kept l h small turn.within (target_some r h (linked_row r z f) (of z)) next v turn.sofar o
          by_seen z false = before_walk (job.Target l r) o next

          by_test : (a q w : Bool) → eqb r no_row ≡ a →
              Spends c n k m v p
              (cond (a || not q) (record { book = b; out = serve_from b v n (number + 1); entry = entry.Nothing })
              (cond w (resolved b v n l h) (record { book = b; out = walk_of v (job.Target l r); entry = entry.Nothing })))
          by_test true q w g = next_spent v b p p number o turn.within next
          by_test false false w g = next_spent v b p p number o turn.within next
          by_test false true w g = by_seen (grind (arith, nat_tests)) w

      target_spent : (v : Survey) (i r : ℕ) (h : Hand) → Turning c n k v b p number → Leaving c n k e l i → e.seen l.to ≡ false → HandOf (c.at k) i h → Once n v e →
          Serving c n k v (draft_of (with_row b l.to r) p) number →
          m ≤ serving c n k e (number + 1) + (8 + links_over c k (head.Vertex l.to)) → Spends c n k m v p (resolved (with_row b l.to r) v n l h)
      unfolding key_cost
      target_spent v i r h turn lv q of o s u =
          resolved_spent (with_row b l.to r) p kept_row l h small turn.within (target_some i h (linked_row i lv.row lv.edge) of) next v s once
        where
          is : draft_of (with_row b l.to r) p ≡ walk_in e l.to r
          is = draft_walked b p l.to kept (omega (arith, small)) r

          kept_row : Kept (with_row b l.to r) p
          kept_row = kept_walked b p l.to kept (omega (arith, small)) r

          once : Once n v (draft_of (with_row b l.to r) p)
          once = subst (λ a. Once n v a) (sym is) (walked_once v l.to r o)

          next : m ≤ serving c n k (draft_of (with_row b l.to r) p) (number + 1)
          next = subst (λ a. m ≤ serving c n k a (number + 1)) (sym is) (omega (arith, u, more_key c n law some_key k e l.to r (number + 1) small q))

    -- a walk has found row r
    pub job_spent : (v : Survey) (j : Job) (r : ℕ) (h : Hand) → KnowsJob c n k v b p j → Found c b.t k (job_head j) r → HandFits (c.at k) j r h → Extra n v e j →
        m ≤ base c n k e j + (8 + links_over c k (job_head j)) → Spends c n k m v p (walked_at b v j n r h)
    job_spent v (job.Key i) r h a f o x u = key_spent v i r a f u
    job_spent v (job.Start i) r h a f o x u = start_spent v i r a u
    job_spent v (job.Pair l) r h (pair, turn) f o x u = pair_spent l pair v r h turn f o x u
    job_spent v (job.Target l i) r h (pair, turn, lv, q) f o x u =
        target_spent l pair v i r h turn lv q o x (target_serves c n law some_key few k b p kept v l i r (pair, turn, lv, q) f) u

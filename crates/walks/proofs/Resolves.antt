-- The target of a visible edge row has had its walk.
use Rattle.std.proofs.Common.{◌≡◌, ℕ, ◌+◌, ◌*◌, ◌/◌, ◌%◌, ◌<◌, ◌≤◌, ◌≢◌, Bool, true, false, cond, eqb, refl, sym, ap, ◌∙◌, subst, subst₂, ◌⊎◌, inl, inr, arith, mod-lt}
use Rattle.std.proofs.lemmas.Bool.Decides.{nat_tests}
use Rattle.layout.specs.Rows.{no_row}
use Rattle.layout.specs.declared.names.Head.{Head}
use Rattle.layout.specs.declared.names.Head.TheVariants as head
use Rattle.places.specs.declared.place.Survey.{Survey}
use Rattle.places.specs.declared.place.Survey.TheVariants.{Snapshot, Reach}
use Rattle.places.specs.declared.place.ServedPair.{ServedPair}
use Rattle.places.specs.declared.place.Hand.{Hand}
use Rattle.books.specs.declared.book.Book.{Book}
use Rattle.books.specs.declared.walked.Entry.TheVariants as entry
use Rattle.books.specs.Books.{shown_of, row_of, joined}
use Rattle.books.specs.Serving.{pair_number, serve_from}
use Rattle.books.specs.Walked.{WalkOutcome, joins, resolved}
use Rattle.walks.specs.Courses.{Course, Laws}
use Rattle.walks.specs.Visible.{EdgeVisible, StaysVisible, Found}
use Rattle.walks.specs.Pages.{Page, with_key, with_pair, written}
use Rattle.walks.proofs.Times.{linked_some}
use Rattle.walks.proofs.Drafts.{put_here, Draft, draft_of, join_in, Kept, draft_joined, kept_joined}
use Rattle.walks.proofs.Known.{StaysEdge, NoEdge, go_on, Shown, weighs, Served, Serving, Leaving, IsServedPair}
use Rattle.walks.proofs.Counts.{shown_fewer}
use Rattle.walks.proofs.Serves.{KnowsFlow, served_none, serving_on, serve_knows}
use Rattle.walks.proofs.Fills.{in_queue, serving_pair, old_place, serving_joined}

-- what is known after a walk has gone into the book and the page
pub record KnowsWalked (c : Course) (n k : ℕ) (v : Survey) (t : ℕ) (p : Page) (o : WalkOutcome) : Type 0 where
  pub out : KnowsFlow c n k v o.book (written p o.entry) o.out
  pub kept : Kept o.book (written p o.entry)
  pub raise : o.book.t ≡ t

-- the visible row that a walk found stays visible
pub found_stays : (c : Course) (t k : ℕ) (h : Head) (r : ℕ) → 0 < r → Found c t k h r → StaysVisible c t k h r
found_stays c t k h r z f = by_row f.stays
  where
    by_row : (r ≡ no_row) ⊎ StaysVisible c t k h r → StaysVisible c t k h r
    by_row (inl e) = absurd (omega arith)
    by_row (inr s) = s

module _ (c : Course) (n : ℕ) (law : Laws c n) (some_key : 0 < n) (few : n ≤ 64) (k : ℕ) where
  serving_one : (v : Survey) (d : Draft) (x : ℕ) → Serving c n k v d x → Served c n k d (d.queue (x / n)) (x % n) → Serving c n k v d (x + 1)
  serving_one v d x s g = serving_on c n law k v d x (x + 1) s (λ y a m o. let q : y ≡ x = omega arith in rw q g)

  -- on from pair number x, which is served
  pub next_pair : (v : Survey) (b : Book) (p : Page) (x : ℕ) → x < n * b.len → Serving c n k v (draft_of b p) x →
      Served c n k (draft_of b p) ((draft_of b p).queue (x / n)) (x % n) → KnowsFlow c n k v b p (serve_from b v n (x + 1))
  next_pair v b p x l s g = serve_knows c n law k v b p (x + 1) (omega arith) (serving_one v (draft_of b p) x s g)

  module _ (b : Book) (p : Page) (kept : Kept b p) (l : ServedPair) (pair : IsServedPair c n b l) where
    abbrev d : Draft
    d = draft_of b p

    abbrev x : ℕ
    x = pair_number n l

    from_is : l.from ≡ d.queue (x / n)
    from_is = ap (λ (a : ServedPair). a.from) pair

    to_is : l.to ≡ x % n
    to_is = ap (λ (a : ServedPair). a.to) pair

    pub to_small : l.to < n
    to_small = rw to_is (mod-lt x some_key)

    -- the pair of the pair has no edge
    pub next_none : (v : Survey) → x < n * b.len → Serving c n k v d x → NoEdge c b.t k l.from l.to → KnowsFlow c n k v b p (serve_from b v n (x + 1))
    next_none v w s f = next_pair v b p x w s (subst₂ (λ i j. Served c n k d i j) from_is to_is (served_none c n law k v d x l.from l.to s f))

    module _ (e : ℕ) (h : Hand) (target : h.target ≡ c.target e) (weight : h.weight ≡ c.weight e)
        (within : x < n * b.len) (z : 0 < d.key l.from) (seen : d.seen l.to ≡ true) (lv : Leaving c n k d l e) where
      the_row : StaysVisible c b.t k (head.Edge l.from l.to) e
      the_row = found_stays c b.t k (head.Edge l.from l.to) e lv.row lv.edge

      only_one : (m y : ℕ) → k ≤ m → EdgeVisible c b.t m l.from l.to y → y ≡ e
      only_one m y a w = lv.edge.only m y a w.row (w.source, w.target)

      target_some : 0 < c.target e
      target_some = linked_some (law.binds k l.from l.to e (the_row k (omega arith)).linked).target

      no_target : (v : Survey) → Serving c n k v d x → c.target e ≢ d.row l.to → NoEdge c b.t k l.from l.to
      no_target v s o m y a w = o (rw (only_one m y a w) at ((s.rows l.to to_small seen).only m (c.target y) a w.target tt))

      key_lives : (v : Survey) (i : ℕ) → Serving c n k v d x → 0 < d.key i → StaysVisible c b.t k (head.Vertex i) (d.key i)
      key_lives v i s y = let g = s.joined i y in rw g.row (found_stays c b.t k (head.Vertex i) (d.row i) (omega (arith, g.row)) (s.rows i g.small g.seen))

      module _ (v : Survey) (s : Serving c n k v d x) (same : c.target e ≡ d.row l.to) where
        row_some : 0 < d.row l.to
        row_some = omega (arith, same, target_some)

        the_edge : StaysEdge c b.t k l.from l.to e
        the_edge m a = record {
          row = the_row m a;
          source = rw lv.source (key_lives v l.from s z m a);
          target = rw same (found_stays c b.t k (head.Vertex l.to) (d.row l.to) row_some (s.rows l.to to_small seen) m a);
        }

        weighed : Shown c b.t k l.from l.to h.weight
        weighed = weighs e weight the_edge only_one

        abbrev page : Page
        page = with_pair p l.from l.to h.weight

        kept_page : Kept b page
        kept_page = record { keys = kept.keys; queue = kept.queue; page = kept.page }

        filled : Serving c n k v (draft_of b page) x
        filled = serving_pair c n some_key k v d x l.from l.to h.weight s z weighed

        cell_here : (draft_of b page).pair l.from l.to ≡ h.weight
        cell_here = grind (arith, nat_tests)

        -- no key joins
        stays_knows : 0 < d.key l.to → KnowsFlow c n k v b page (serve_from b v n (x + 1))
        stays_knows y =
            next_pair v b page x within filled
            (subst₂ (λ i j. Served c n k (draft_of b page) i j) from_is to_is (record { shown = rw cell_here weighed; leads = λ m f a w. y }))

      -- in a reach the target joins, if it is not shown
      module _ (i : ℕ) (s : Serving c n k (Reach i) d x) (same : c.target e ≡ d.row l.to) (new : d.key l.to ≡ no_row) where
        row_shown : 0 < d.row l.to
        row_shown = row_some (Reach i) s same

        room : b.len < 64
        room = omega (arith, s.mode.2, shown_fewer d.key l.to n to_small new)

        abbrev filled_page : Page
        filled_page = page (Reach i) s same

        abbrev joined_page : Page
        joined_page = with_key filled_page l.to (row_of b l.to)

        small_key : l.to < 64
        small_key = omega (arith, to_small)

        draft_is : draft_of (joined b l.to) joined_page ≡ join_in (draft_of b filled_page) l.to
        draft_is = draft_joined b filled_page l.to (kept_page (Reach i) s same) small_key room joined_page refl

        kept_joined_page : Kept (joined b l.to) joined_page
        kept_joined_page = kept_joined b filled_page l.to (kept_page (Reach i) s same) small_key room joined_page (λ j. refl)

        serves : Serving c n k (Reach i) (join_in (draft_of b filled_page) l.to) x
        serves =
            serving_joined c n some_key k (draft_of b filled_page) l.to to_small seen row_shown new i x (omega arith)
            (go_on e (s.joined l.from z).reached (the_edge (Reach i) s same)) (filled (Reach i) s same)

        target_served : Served c n k (join_in (draft_of b filled_page) l.to) ((join_in (draft_of b filled_page) l.to).queue (x / n)) (x % n)
        target_served =
            rw (old_place c n some_key k (draft_of b filled_page) l.to to_small seen row_shown new (x / n) (in_queue c n some_key k x b.len within))
            (subst₂ (λ i j. Served c n k (join_in (draft_of b filled_page) l.to) i j) from_is to_is
            (record { shown = rw (cell_here (Reach i) s same) (weighed (Reach i) s same); leads = λ m f a w. rw (put_here d.key l.to (d.row l.to)) row_shown }))

        length_is : (joined b l.to).len ≡ b.len + 1
        length_is = ap (λ (a : Draft). a.len) draft_is

        joins_knows : KnowsFlow c n k (Reach i) (joined b l.to) joined_page (serve_from (joined b l.to) (Reach i) n (x + 1))
        joins_knows =
            next_pair (Reach i) (joined b l.to) joined_page x (rw length_is (omega arith)) (rw draft_is serves) (subst (λ a. Served c n k a (a.queue (x / n)) (x % n)) (sym draft_is) target_served)

        same_raise : (joined b l.to).t ≡ b.t
        same_raise = ap (λ (a : Draft). a.t) draft_is

      not_shown : (y : ℕ) → eqb y no_row ≡ true → y ≡ no_row
      not_shown y q = grind (arith, nat_tests)

      is_shown : (y : ℕ) → eqb y no_row ≡ false → 0 < y
      is_shown y q = grind (arith, nat_tests)

      -- the edge is there: its target joins, or not
      by_join : (v : Survey) → Serving c n k v d x → c.target e ≡ d.row l.to → (q : Bool) → joins v (shown_of b l.to) ≡ q →
          KnowsWalked c n k v b.t p
          (cond q (record { book = joined b l.to; out = serve_from (joined b l.to) v n (x + 1); entry = entry.Join l.from l.to h.weight (row_of b l.to) })
          (record { book = b; out = serve_from b v n (x + 1); entry = entry.Pair l.from l.to h.weight }))
      by_join Snapshot s same true q = absurd (grind arith)
      by_join Snapshot s same false q =
          let m = (s.mode.2 l.to to_small).1 in
          let r = row_some Snapshot s same in
          record { out = stays_knows Snapshot s same (omega arith); kept = kept_page Snapshot s same; raise = refl }
      by_join (Reach i) s same true q = record {
        out = joins_knows i s same (not_shown (shown_of b l.to) q);
        kept = kept_joined_page i s same (not_shown (shown_of b l.to) q);
        raise = same_raise i s same (not_shown (shown_of b l.to) q);
      }
      by_join (Reach i) s same false q =
          record { out = stays_knows (Reach i) s same (is_shown (shown_of b l.to) q); kept = kept_page (Reach i) s same; raise = refl }

      equal_rows : (y w : ℕ) → eqb y w ≡ true → y ≡ w
      equal_rows y w q = grind (arith, nat_tests)

      other_rows : (y w : ℕ) → eqb y w ≡ false → y ≢ w
      other_rows y w q = grind (arith, nat_tests)

      -- the target's walk found the target row of the edge, or another
      pub resolved_knows : (v : Survey) → Serving c n k v d x → KnowsWalked c n k v b.t p (resolved b v n l h)
      resolved_knows v s = by_row (eqb h.target (row_of b l.to)) refl
        where
          by_row : (q : Bool) → eqb h.target (row_of b l.to) ≡ q →
              KnowsWalked c n k v b.t p
              (cond q
              (cond (joins v (shown_of b l.to))
              (record { book = joined b l.to; out = serve_from (joined b l.to) v n (x + 1); entry = entry.Join l.from l.to h.weight (row_of b l.to) })
              (record { book = b; out = serve_from b v n (x + 1); entry = entry.Pair l.from l.to h.weight }))
              (record { book = b; out = serve_from b v n (x + 1); entry = entry.Nothing }))
          by_row true q = by_join v s (sym target ∙ equal_rows h.target (row_of b l.to) q) (joins v (shown_of b l.to)) refl
          by_row false q = record { out = next_none v within s (no_target v s (λ o. other_rows h.target (row_of b l.to) q (target ∙ o))); kept = kept; raise = refl }

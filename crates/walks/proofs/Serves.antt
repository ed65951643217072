-- From pair to pair: what is served, and where the call goes on.
use Rattle.std.proofs.Common.{◌≡◌, ℕ, zero, suc, ◌+◌, ◌-◌, ◌*◌, ◌/◌, ◌%◌, ◌<◌, ◌≤◌, Bool, true, false, cond, not, ◌&&◌, eqb, Option, Some, None, refl, ◌⊎◌, inl, inr, arith, Continue, Break, div-add-mod'}
use Rattle.std.proofs.lemmas.Bool.{cases_lt}
use Rattle.std.proofs.lemmas.Bool.Decides.{nat_tests}
use Rattle.codes.specs.declared.answer.Answer.{Answer}
use Rattle.codes.specs.declared.answer.Answer.TheVariants.{VertexAbsent, SnapshotTaken, ReachTaken}
use Rattle.layout.specs.Rows.{no_row}
use Rattle.layout.specs.declared.names.Head.TheVariants as head
use Rattle.places.specs.declared.place.Survey.{Survey}
use Rattle.places.specs.declared.place.Survey.TheVariants.{Snapshot, Reach}
use Rattle.places.specs.declared.place.Job.{Job}
use Rattle.places.specs.declared.place.Job.TheVariants as job
use Rattle.places.specs.declared.place.Place.TheVariants.{WalkHead}
use Rattle.places.specs.Flows.{Flow}
use Rattle.books.specs.declared.book.Book.{Book}
use Rattle.books.specs.Books.{shown_of}
use Rattle.books.specs.Serving.{open_pair, open_at, pair_numbered, pair_number, first_open, open_from, go_on as goes_on, serve_from, survey_done}
use Rattle.walks.specs.Courses.{Course, Laws}
use Rattle.walks.specs.Visible.{Found}
use Rattle.walks.specs.Pages.{Page}
use Rattle.walks.proofs.Times.{linked_some, ordered}
use Rattle.walks.proofs.Drafts.{Draft, draft_of}
use Rattle.walks.proofs.Known.{NoEdge, Shown, nothing, Served, Serving, KnowsJob}

-- what an answer comes with after a raise
pub data Ended (c : Course) (n k : ℕ) (v : Survey) (b : Book) (p : Page) : Answer → Type 0 where
  all_shown : v ≡ Snapshot → Serving c n k v (draft_of b p) (n * b.len) → Ended c n k v b p SnapshotTaken
  part_shown : (i : ℕ) → v ≡ Reach i → Serving c n k v (draft_of b p) (n * b.len) → Ended c n k v b p ReachTaken
  start_absent : (i : ℕ) → v ≡ Reach i → Found c b.t k (head.Vertex i) no_row → Ended c n k v b p VertexAbsent

-- on to a walk, or an answer
pub data KnowsFlow (c : Course) (n k : ℕ) (v : Survey) (b : Book) (p : Page) : Flow → Type 0 where
  walks_on : (j : Job) → KnowsJob c n k v b p j → KnowsFlow c n k v b p (Continue (WalkHead (record { survey = v; job = j })))
  answers : (a : Answer) → Ended c n k v b p a → KnowsFlow c n k v b p (Break a)

-- the first pair to walk from number x on
pub data Opened (b : Book) (v : Survey) (n x : ℕ) : Option Job → Type 0 where
  none_open : ((z : ℕ) → x ≤ z → z < n * b.len → open_at b v n z ≡ false) → Opened b v n x None
  first : (y : ℕ) → x ≤ y → y < n * b.len → ((z : ℕ) → x ≤ z → z < y → open_at b v n z ≡ false) → open_at b v n y ≡ true → Opened b v n x (Some (job.Pair (pair_numbered b n y)))

module _ (b : Book) (v : Survey) (n : ℕ) where
  skip : (x z y : ℕ) → open_at b v n x ≡ false → ((z : ℕ) → x + 1 ≤ z → z < y → open_at b v n z ≡ false) → x ≤ z → z < y → open_at b v n z ≡ false
  skip x z y e f l m = elim (ordered x z) [
    | inl o ↦ f z (omega arith) m
    | inr q ↦ elim q [ inl q ↦ rw (← q) e | inr q ↦ absurd (omega arith) ]
  ]

  first_opened : (d x : ℕ) → x + d ≡ n * b.len → Opened b v n x (first_open b v n d x)
  first_opened zero x e = none_open (λ z l m. absurd (omega arith))
  first_opened (suc d) x e = by_test (open_at b v n x) refl (first_opened d (x + 1) (omega arith))
    where
      after : open_at b v n x ≡ false → (o : Option Job) → Opened b v n (x + 1) o → Opened b v n x o
      after q o (none_open f) = none_open (λ z l m. skip x z (n * b.len) q f l m)
      after q o (first y l m f g) = first y (omega arith) m (λ z i j. skip x z y q f i j) g

      by_test : (a : Bool) → open_at b v n x ≡ a → Opened b v n (x + 1) (first_open b v n d (x + 1)) → Opened b v n x (cond a (Some (job.Pair (pair_numbered b n x))) (first_open b v n d (x + 1)))
      by_test true q o = first x (omega arith) (omega arith) (λ z l m. absurd (omega arith)) q
      by_test false q o = after q _ o

  pub opened : (x : ℕ) → x ≤ n * b.len → Opened b v n x (open_from b v n x)
  opened x l = first_opened (n * b.len - x) x (omega arith)

  -- the number of the pair of pair number y
  pub pair_number_is : (y : ℕ) → pair_number n (pair_numbered b n y) ≡ y
  pair_number_is y = div-add-mod' y n

module _ (c : Course) (n : ℕ) (law : Laws c n) (k : ℕ) where
  -- keys that are shown, and differ, make a pair to walk
  shut_keys : (x y z : Bool) → (not x && (not y && not z)) ≡ false → x ≡ false → y ≡ false → z ≡ false → ⊥
  shut_keys x y z e p q r = grind arith

  -- a pair that is not to be walked has no edge
  no_edge : (v : Survey) (b : Book) (p : Page) (x i j : ℕ) → Serving c n k v (draft_of b p) x → open_pair b v i j ≡ false → NoEdge c b.t k i j
  no_edge Snapshot b p x i j s e l f a w =
      let g = law.binds _ i j f w.row.linked in
      let m = (s.mode.2 i g.from) in
      let o = (s.mode.2 j g.to) in
      let q = (s.rows i g.from m.0).only l _ a w.source tt in
      let r = (s.rows j g.to o.0).only l _ a w.target tt in
      let y = linked_some w.source.linked in
      let z = linked_some w.target.linked in
      let apart = g.apart in
      shut_keys (eqb i j) (eqb (shown_of b i) no_row) (eqb (shown_of b j) no_row) e (grind (arith, nat_tests)) (some_key (shown_of b i) (omega (arith, m.1))) (some_key (shown_of b j) (omega (arith, o.1)))
    where
      some_key : (y : ℕ) → 0 < y → eqb y no_row ≡ false
      some_key y l = grind (arith, nat_tests)
  no_edge (Reach y) b p x i j s e l f a w = let d = (law.binds _ i j f w.row.linked).apart in grind (arith, nat_tests)

  -- a pair with no edge is served as it is
  pub served_none : (v : Survey) (d : Draft) (x i j : ℕ) → Serving c n k v d x → NoEdge c d.t k i j → Served c n k d i j
  served_none v d x i j s f = record { shown = cell (s.cells i j); leads = λ l e a w. absurd (f l e a w) }
    where
      cell : (d.pair i j ≡ 0) ⊎ ((0 < d.key i) × Shown c d.t k i j (d.pair i j)) → Shown c d.t k i j (d.pair i j)
      cell (inl e) = nothing e f
      cell (inr (z, h)) = h

  -- served further
  pub serving_on : (v : Survey) (d : Draft) (x y : ℕ) → Serving c n k v d x →
      ((z : ℕ) → x ≤ z → z < y → z < n * d.len → Served c n k d (d.queue (z / n)) (z % n)) → Serving c n k v d y
  serving_on v d x y s f = record {
    rows = s.rows;
    joined = s.joined;
    queued = s.queued;
    mode = s.mode;
    cells = s.cells;
    served = λ z a m. elim (cases_lt z x) [ inl l ↦ s.served z l m | inr l ↦ f z l a m ];
  }

  ended_with : (v : Survey) (b : Book) (p : Page) → Serving c n k v (draft_of b p) (n * b.len) → Ended c n k v b p (survey_done v)
  ended_with Snapshot b p s = all_shown refl s
  ended_with (Reach i) b p s = part_shown i refl s

  -- on from pair number x
  pub serve_knows : (v : Survey) (b : Book) (p : Page) (x : ℕ) → x ≤ n * b.len → Serving c n k v (draft_of b p) x → KnowsFlow c n k v b p (serve_from b v n x)
  serve_knows v b p x l s = by_first _ (opened b v n x l)
    where
      on_to : (y : ℕ) → ((z : ℕ) → x ≤ z → z < y → z < n * b.len → open_at b v n z ≡ false) → Serving c n k v (draft_of b p) y
      on_to y f = serving_on v (draft_of b p) x y s (λ z a i m. served_none v (draft_of b p) x _ _ s (no_edge v b p x _ _ s (f z a i m)))

      turning : (y : ℕ) → y < n * b.len → ((z : ℕ) → x ≤ z → z < y → open_at b v n z ≡ false) → open_at b v n y ≡ true → KnowsJob c n k v b p (job.Pair (pair_numbered b n y))
      turning y m f g = rw (pair_number_is b v n y) (refl, record { sofar = on_to y (λ z a i o. f z a i); within = m; good = g })

      by_first : (o : Option Job) → Opened b v n x o → KnowsFlow c n k v b p (goes_on v o)
      by_first o (none_open f) = answers (survey_done v) (ended_with v b p (on_to (n * b.len) (λ z a i m. f z a m)))
      by_first o (first y a m f g) = walks_on (job.Pair (pair_numbered b n y)) (turning y m f g)

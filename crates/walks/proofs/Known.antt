-- What a worker knows of its page: which keys are walked, joined and served.
use Rattle.std.proofs.Common.{◌≡◌, ℕ, zero, suc, ◌+◌, ◌*◌, ◌/◌, ◌%◌, ◌<◌, ◌≤◌, true, false, cond, eqb, ◌⊎◌}
use Rattle.layout.specs.Rows.{no_row}
use Rattle.layout.specs.declared.names.Head.TheVariants as head
use Rattle.places.specs.declared.place.Survey.{Survey}
use Rattle.places.specs.declared.place.Survey.TheVariants.{Snapshot, Reach}
use Rattle.places.specs.declared.place.ServedPair.{ServedPair}
use Rattle.places.specs.declared.place.Job.{Job}
use Rattle.places.specs.declared.place.Job.TheVariants as job
use Rattle.books.specs.declared.book.Book.{Book}
use Rattle.books.specs.Serving.{pair_numbered, pair_number, open_at}
use Rattle.walks.specs.Courses.{Course}
use Rattle.walks.specs.Visible.{EdgeVisible, Found}
use Rattle.walks.specs.Pages.{Page}
use Rattle.walks.proofs.Drafts.{Draft, draft_of}

-- how many keys below n are shown
unfoldable pub shown_keys : (ℕ → ℕ) → ℕ → ℕ
shown_keys key zero = 0
shown_keys key (suc n) = cond (eqb (key n) no_row) (shown_keys key n) (shown_keys key n + 1)

module _ (c : Course) (t k : ℕ) where
  -- an edge that stays visible
  abbrev pub StaysEdge : ℕ → ℕ → ℕ → Type 0
  StaysEdge i j e = (l : ℕ) → k ≤ l → EdgeVisible c t l i j e

  abbrev pub NoEdge : ℕ → ℕ → Type 0
  NoEdge i j = (l e : ℕ) → k ≤ l → EdgeVisible c t l i j e → ⊥

  -- a walk along such edges, from key i
  pub data Way (i : ℕ) : ℕ → Type 0 where
    stay : Way i i
    go_on : {a b : ℕ} (e : ℕ) → Way i a → StaysEdge a b e → Way i b

  -- a pair's cell holds 0 where there is no edge, or the weight of its one edge
  pub data Shown (i j x : ℕ) : Type 0 where
    nothing : x ≡ 0 → NoEdge i j → Shown i j x
    weighs : (e : ℕ) → x ≡ c.weight e → StaysEdge i j e → ((l f : ℕ) → k ≤ l → EdgeVisible c t l i j f → f ≡ e) → Shown i j x

module _ (c : Course) (n : ℕ) where
  -- a snapshot serves all keys rising, a reach the keys that it shows
  abbrev pub Queued : Survey → Draft → Type 0
  Queued Snapshot d = (n ≤ d.len) × ((m : ℕ) → m < n → d.queue m ≡ m) × ((j : ℕ) → j < n → (d.seen j ≡ true) × (d.key j ≡ d.row j))
  Queued (Reach i) d = ((m : ℕ) → m < d.len → 0 < d.key (d.queue m)) × (0 < d.key i) × (d.len ≡ shown_keys d.key n)

  abbrev pub Reached : Survey → ℕ → ℕ → ℕ → Type 0
  Reached Snapshot t k j = Unit {0}
  Reached (Reach i) t k j = Way c t k i j

  -- key j has joined
  pub record Joined (k : ℕ) (v : Survey) (d : Draft) (j : ℕ) : Type 0 where
    pub small : j < n
    pub seen : d.seen j ≡ true
    pub row : d.key j ≡ d.row j
    pub nth : ℕ
    pub within : nth < d.len
    pub queued : d.queue nth ≡ j
    pub reached : Reached v d.t k j

  -- the pair from i to j is served
  pub record Served (k : ℕ) (d : Draft) (i j : ℕ) : Type 0 where
    pub shown : Shown c d.t k i j (d.pair i j)
    pub leads : (l e : ℕ) → k ≤ l → EdgeVisible c d.t l i j e → 0 < d.key j

  -- the pairs with numbers below x are served
  pub record Serving (k : ℕ) (v : Survey) (d : Draft) (x : ℕ) : Type 0 where
    pub rows : (j : ℕ) → j < n → d.seen j ≡ true → Found c d.t k (head.Vertex j) (d.row j)
    pub joined : (j : ℕ) → 0 < d.key j → Joined k v d j
    pub queued : (m : ℕ) → m < d.len → d.queue m < n
    pub mode : Queued v d
    pub cells : (i j : ℕ) → (d.pair i j ≡ 0) ⊎ ((0 < d.key i) × Shown c d.t k i j (d.pair i j))
    pub served : (y : ℕ) → y < x → y < n * d.len → Served k d (d.queue (y / n)) (y % n)

  -- at a pair that is to be walked
  pub record Turning (k : ℕ) (v : Survey) (b : Book) (p : Page) (x : ℕ) : Type 0 where
    pub sofar : Serving k v (draft_of b p) x
    pub within : x < n * b.len
    pub good : open_at b v n x ≡ true

  -- the keys of a snapshot below i have had their walk
  pub record Rising (k : ℕ) (d : Draft) (i : ℕ) : Type 0 where
    pub rows : (j : ℕ) → j < i → Found c d.t k (head.Vertex j) (d.key j)
    pub rest : (j : ℕ) → i ≤ j → d.key j ≡ no_row
    pub bare : (a j : ℕ) → d.pair a j ≡ 0
    pub seen : (j : ℕ) → j < i → (d.seen j ≡ true) × (d.key j ≡ d.row j)
    pub len : d.len ≡ i
    pub queued : (m : ℕ) → m < i → d.queue m ≡ m

  -- nothing is walked yet
  pub record Fresh (d : Draft) : Type 0 where
    pub keys : (j : ℕ) → d.key j ≡ no_row
    pub unseen : (j : ℕ) → d.seen j ≡ false
    pub bare : (a j : ℕ) → d.pair a j ≡ 0
    pub len : d.len ≡ 0

  -- the walk of a pair found the edge row e, which leaves the row of its key
  pub record Leaving (k : ℕ) (d : Draft) (l : ServedPair) (e : ℕ) : Type 0 where
    pub row : 0 < e
    pub edge : Found c d.t k (head.Edge l.from l.to) e
    pub source : c.source e ≡ d.key l.from

  -- the pair of the pair in turn
  abbrev pub IsServedPair : Book → ServedPair → Type 0
  IsServedPair b l = l ≡ pair_numbered b n (pair_number n l)

  abbrev pub KnowsJob : ℕ → Survey → Book → Page → Job → Type 0
  KnowsJob k v b p (job.Key i) = (v ≡ Snapshot) × (i < n) × Rising k (draft_of b p) i
  KnowsJob k v b p (job.Start i) = (v ≡ Reach i) × (i < n) × Fresh (draft_of b p)
  KnowsJob k v b p (job.Pair l) = IsServedPair b l × Turning k v b p (pair_number n l)
  KnowsJob k v b p (job.Target l e) = IsServedPair b l × Turning k v b p (pair_number n l) × Leaving k (draft_of b p) l e × ((draft_of b p).seen l.to ≡ false)

-- The turns that the walks of a snapshot or reach may take.
use Rattle.std.proofs.Common.{◌≡◌, ℕ, suc, ◌+◌, ◌*◌, ◌/◌, ◌%◌, ◌<◌, ◌≤◌, ◌≢◌, Bool, true, false, cond, not, eqb, refl, sym, ap, subst, arith, Option, Continue, Break, mul-le-mul_left}
use Rattle.std.proofs.lemmas.Bool.Decides.{nat_tests}
use Rattle.codes.specs.declared.answer.Answer.{Answer}
use Rattle.layout.specs.Rows.{no_row}
use Rattle.layout.specs.declared.names.Head.TheVariants as head
use Rattle.places.specs.declared.place.Survey.{Survey}
use Rattle.places.specs.declared.place.Survey.TheVariants.{Snapshot, Reach}
use Rattle.places.specs.declared.place.Job.{Job}
use Rattle.places.specs.declared.place.Job.TheVariants as job
use Rattle.places.specs.declared.place.Place.TheVariants.{WalkHead}
use Rattle.places.specs.Flows.{Flow}
use Rattle.books.specs.declared.book.Book.{Book}
use Rattle.books.specs.Serving.{pair_numbered, pair_number, go_on as goes_on, serve_from, survey_done}
use Rattle.walks.specs.Courses.{Course, Laws}
use Rattle.walks.specs.Pages.{Page}
use Rattle.walks.specs.Budgets.{sum_below, links_over, rows_in, limit}
use Rattle.walks.proofs.Drafts.{Draft, draft_of, put_at, at_puts, put_here, put_there, walk_in, join_in}
use Rattle.walks.proofs.Serves.{Opened, none_open, first, opened, pair_number_is}
use Rattle.walks.proofs.Fills.{in_queue}
use Rattle.walks.proofs.Sums.{sum_le, sum_up, sum_at, sum_flag, sum_eights, sum_others, sum_scale, sum_pairs}
use Rattle.walks.proofs.Paces.{links_mono}

-- each key is queued once
abbrev pub Once : ℕ → Survey → Draft → Type 0
Once n Snapshot d = (f : ℕ → ℕ) → sum_below d.len (λ m. f (d.queue m)) ≤ sum_below n f
Once n (Reach i) d = (f : ℕ → ℕ) → sum_below d.len (λ m. f (d.queue m)) ≤ sum_below n (λ a. cond (not (eqb (d.key a) no_row)) (f a) 0)

abbrev pub Extra : ℕ → Survey → Draft → Job → Type 0
Extra n v d (job.Key i) = Unit {0}
Extra n v d (job.Start i) = Unit {0}
Extra n v d (job.Pair l) = Once n v d
Extra n v d (job.Target l e) = Once n v d

module _ (c : Course) (n : ℕ) where
  unfoldable pub key_cost : ℕ → ℕ → ℕ
  key_cost k y = 8 + links_over c k (head.Vertex y)

  unfoldable pub pair_cost : ℕ → ℕ → ℕ → ℕ
  pair_cost k a j = cond (eqb a j) 0 (8 + links_over c k (head.Edge a j))

  -- the rows of all heads
  unfoldable pub total : ℕ → ℕ
  total k = limit n (rows_in c n k)

  -- keys that have had their walk, and pairs with numbers below x
  abbrev pub keys_cost : ℕ → Draft → ℕ
  keys_cost k d = sum_below n (λ y. cond (d.seen y) (key_cost k y) 0)

  abbrev pub pairs_cost : ℕ → Draft → ℕ → ℕ
  pairs_cost k d x = sum_below x (λ y. pair_cost k (d.queue (y / n)) (y % n))

  abbrev pub serving : ℕ → Draft → ℕ → ℕ
  serving k d x = 1 + keys_cost k d + pairs_cost k d x

  -- the turns before the walk of a job
  abbrev pub base : ℕ → Draft → Job → ℕ
  base k d (job.Key i) = 1 + sum_below i (key_cost k)
  base k d (job.Start i) = 1
  base k d (job.Pair l) = serving k d (pair_number n l)
  base k d (job.Target l e) = serving k d (pair_number n l + 1)

  -- on to a walk, or an answer, after m turns
  pub data SpentFlow (k m : ℕ) (v : Survey) (d : Draft) : Flow → Type 0 where
    before_walk : (j : Job) → Extra n v d j → m ≤ base k d j → SpentFlow k m v d (Continue (WalkHead (record { survey = v; job = j })))
    before_answer : (a : Answer) → m ≤ total k → SpentFlow k m v d (Break a)

flag_le : (q : Bool) (u v : ℕ) → u ≤ v → cond q u 0 ≤ cond q v 0
flag_le true u v l = l
flag_le false u v l = omega arith

skip_le : (q : Bool) (u v : ℕ) → u ≤ v → cond q 0 u ≤ cond q 0 v
skip_le true u v l = omega arith
skip_le false u v l = l

flag_all : (q : Bool) (u : ℕ) → cond q u 0 ≤ u
flag_all true u = omega arith
flag_all false u = omega arith

module _ (c : Course) (n : ℕ) (law : Laws c n) (some_key : 0 < n) where
  -- costs grow over time
  key_mono : (k l y : ℕ) → k ≤ l → key_cost c n k y ≤ key_cost c n l y
  unfolding key_cost
  key_mono k l y u = omega (arith, links_mono c n law k l (head.Vertex y) u)

  pair_mono : (k l a j : ℕ) → k ≤ l → pair_cost c n k a j ≤ pair_cost c n l a j
  unfolding pair_cost
  pair_mono k l a j u = skip_le (eqb a j) (8 + links_over c k (head.Edge a j)) (8 + links_over c l (head.Edge a j)) (omega (arith, links_mono c n law k l (head.Edge a j) u))

  serving_mono : (k l : ℕ) (d : Draft) (x : ℕ) → k ≤ l → serving c n k d x ≤ serving c n l d x
  serving_mono k l d x u = omega (
    arith,
    sum_le n (λ y. cond (d.seen y) (key_cost c n k y) 0) (λ y. cond (d.seen y) (key_cost c n l y) 0) (λ y a. flag_le (d.seen y) _ _ (key_mono k l y u)),
    sum_le x (λ y. pair_cost c n k (d.queue (y / n)) (y % n)) (λ y. pair_cost c n l (d.queue (y / n)) (y % n)) (λ y a. pair_mono k l _ _ u),
  )

  pub base_mono : (k l : ℕ) (d : Draft) (j : Job) → k ≤ l → base c n k d j ≤ base c n l d j
  base_mono k l d (job.Key i) u = omega (arith, sum_le i (key_cost c n k) (key_cost c n l) (λ y a. key_mono k l y u))
  base_mono k l d (job.Start i) u = omega arith
  base_mono k l d (job.Pair g) u = serving_mono k l d (pair_number n g) u
  base_mono k l d (job.Target g e) u = serving_mono k l d (pair_number n g + 1) u

  pub rows_mono : (k l : ℕ) → k ≤ l → rows_in c n k ≤ rows_in c n l
  unfolding rows_in
  rows_mono k l u = omega (
    arith,
    sum_le n (λ i. links_over c k (head.Vertex i)) (λ i. links_over c l (head.Vertex i)) (λ i a. links_mono c n law k l (head.Vertex i) u),
    sum_le n (λ a. sum_below n (λ j. links_over c k (head.Edge a j))) (λ a. sum_below n (λ j. links_over c l (head.Edge a j)))
        (λ a m. sum_le n (λ j. links_over c k (head.Edge a j)) (λ j. links_over c l (head.Edge a j)) (λ j o. links_mono c n law k l (head.Edge a j) u)),
  )

  pub total_mono : (k l : ℕ) → k ≤ l → total c n k ≤ total c n l
  unfolding total
  total_mono k l u = omega (arith, rows_mono k l u)

  -- all that is served stays within the limit
  once_le : (v : Survey) (d : Draft) → Once n v d → (f : ℕ → ℕ) → sum_below d.len (λ m. f (d.queue m)) ≤ sum_below n f
  once_le Snapshot d o f = o f
  once_le (Reach i) d o f = omega (arith, o f, sum_le n (λ a. cond (not (eqb (d.key a) no_row)) (f a) 0) f (λ a m. flag_all (not (eqb (d.key a) no_row)) (f a)))

  keys_total : (k : ℕ) (d : Draft) → keys_cost c n k d ≤ 8 * n + sum_below n (λ i. links_over c k (head.Vertex i))
  unfolding key_cost
  keys_total k d = omega (
    arith,
    sum_le n (λ y. cond (d.seen y) (key_cost c n k y) 0) (λ y. 8 + links_over c k (head.Vertex y)) (λ y a. flag_all (d.seen y) (key_cost c n k y)),
    sum_eights n (λ y. links_over c k (head.Vertex y)),
  )

  pairs_total : (k : ℕ) (v : Survey) (d : Draft) (x : ℕ) → x ≤ n * d.len → Once n v d →
      pairs_cost c n k d x + 8 * n ≤ 8 * (n * n) + sum_below n (λ a. sum_below n (λ j. links_over c k (head.Edge a j)))
  unfolding pair_cost
  pairs_total k v d x l o =
      let u = sum_up x (n * d.len) (λ y. pair_cost c n k (d.queue (y / n)) (y % n)) l in
      let w = sum_pairs n d.len (λ m j. pair_cost c n k (d.queue m) j) in
      let z = once_le v d o (λ a. sum_below n (pair_cost c n k a)) in
      let s = sum_scale n (8 * n) (λ a. sum_below n (pair_cost c n k a)) (λ a. sum_below n (λ j. links_over c k (head.Edge a j))) (λ a m. sum_others n a (λ j. links_over c k (head.Edge a j)) m) in
      omega arith

  pub serving_total : (k : ℕ) (v : Survey) (d : Draft) (x : ℕ) → x ≤ n * d.len → Once n v d → serving c n k d x ≤ total c n k
  unfolding total rows_in
  serving_total k v d x l o = omega (arith, keys_total k d, pairs_total k v d x l o)

  square : n ≤ n * n
  square = omega (arith, mul-le-mul_left n some_key)

  pub keys_fit : (k i : ℕ) → i ≤ n → 1 + sum_below i (key_cost c n k) ≤ total c n k
  unfolding total rows_in key_cost
  keys_fit k i l = omega (arith, sum_up i n (key_cost c n k) l, sum_eights n (λ y. links_over c k (head.Vertex y)), square)

  pub start_fits : (k i : ℕ) → i < n → 1 + key_cost c n k i ≤ total c n k
  unfolding total rows_in key_cost
  start_fits k i l = omega (arith, sum_at n i (key_cost c n k) l, keys_fit k n (omega arith))

  -- on from pair number x
  pub serve_spent : (k m : ℕ) (v : Survey) (b : Book) (p : Page) (x : ℕ) → Once n v (draft_of b p) → x ≤ n * b.len → m ≤ serving c n k (draft_of b p) x →
      SpentFlow c n k m v (draft_of b p) (serve_from b v n x)
  serve_spent k m v b p x o l u = by_first _ (opened b v n x l)
    where
      by_first : (a : Option Job) → Opened b v n x a → SpentFlow c n k m v (draft_of b p) (goes_on v a)
      by_first a (none_open f) = before_answer (survey_done v) (omega (arith, serving_total k v (draft_of b p) x l o))
      by_first a (first y q w f g) =
          before_walk (job.Pair (pair_numbered b n y)) o
          (rw (pair_number_is b v n y) (omega (arith, sum_up x y (λ y. pair_cost c n k ((draft_of b p).queue (y / n)) (y % n)) q)))

  -- one more key has had its walk
  pub more_key : (k : ℕ) (d : Draft) (j r x : ℕ) → j < n → d.seen j ≡ false → serving c n k d x + key_cost c n k j ≤ serving c n k (walk_in d j r) x
  more_key k d j r x l e = omega (arith, sum_flag n j d.seen (key_cost c n k) l e)

  -- one more pair
  pub more_pair : (k : ℕ) (d : Draft) (x a j : ℕ) → a ≡ d.queue (x / n) → j ≡ x % n → a ≢ j → serving c n k d x + (8 + links_over c k (head.Edge a j)) ≤ serving c n k d (x + 1)
  unfolding sum_below pair_cost
  more_pair k d x a j e f q =
      let s : x + 1 ≡ suc x = omega arith in
      let o : eqb (d.queue (x / n)) (x % n) ≡ false = grind (arith, nat_tests) in
      rw (s, e, f) (rw o (omega arith))

  -- a key joins
  pub join_serving : (k : ℕ) (d : Draft) (j x : ℕ) → x ≤ n * d.len → serving c n k d x ≤ serving c n k (join_in d j) x
  join_serving k d j x l = omega (
    arith,
    sum_le x (λ y. pair_cost c n k (d.queue (y / n)) (y % n)) (λ y. pair_cost c n k ((join_in d j).queue (y / n)) (y % n))
        (λ y a. same y (put_there d.queue d.len j (y / n) (λ q. omega (arith, in_queue c n some_key k y d.len (omega arith))))),
  )
    where
      same : (y : ℕ) → (join_in d j).queue (y / n) ≡ d.queue (y / n) → pair_cost c n k (d.queue (y / n)) (y % n) ≤ pair_cost c n k ((join_in d j).queue (y / n)) (y % n)
      same y q = subst (λ z. pair_cost c n k (d.queue (y / n)) (y % n) ≤ pair_cost c n k z (y % n)) (sym q) (omega arith)

  pub once_join : (i : ℕ) (d : Draft) (j : ℕ) → j < n → d.key j ≡ no_row → 0 < d.row j → Once n (Reach i) d → Once n (Reach i) (join_in d j)
  unfolding sum_below
  once_join i d j l e z o f =
      let s : d.len + 1 ≡ suc d.len = omega arith in
      let u : sum_below d.len (λ m. f (put_at d.queue d.len j m)) ≤ sum_below d.len (λ m. f (d.queue m)) = sum_le d.len _ _ (λ m a. rw (put_there d.queue d.len j m (λ q. omega arith)) (omega arith)) in
      let v : f (put_at d.queue d.len j d.len) ≡ f j = ap f (put_here d.queue d.len j) in
      let w = sum_flag n j (λ a. not (eqb (d.key a) no_row)) f l none in
      let y = sum_le n (λ a. cond (put_at (λ a. not (eqb (d.key a) no_row)) j true a) (f a) 0) (λ a. cond (not (eqb (put_at d.key j (d.row j) a) no_row)) (f a) 0) (λ a m. same a) in
      rw s (omega (arith, o f))
    where
      none : not (eqb (d.key j) no_row) ≡ false
      none = rw e refl

      same : (a : ℕ) → cond (put_at (λ a. not (eqb (d.key a) no_row)) j true a) (f a) 0 ≤ cond (not (eqb (put_at d.key j (d.row j) a) no_row)) (f a) 0
      same a = at_puts (λ a q y. cond q (f a) 0 ≤ cond (not (eqb y no_row)) (f a) 0) (λ a. not (eqb (d.key a) no_row)) d.key j true (d.row j)
          (let q : eqb (d.row j) no_row ≡ false = grind (arith, nat_tests) in rw q (omega arith)) (λ y q. omega arith) a

-- A book whose queue holds keys serves keys.
use Rattle.std.proofs.Common.{rules, ℕ, zero, suc, ◌+◌, ◌-◌, ◌*◌, ◌<◌, ◌≤◌, Bool, cond, List, length, get_or, set, replicate, Some, None, Option, sym, subst, ⊎_elim}
use Rattle.std.proofs.lemmas.Nat.{mod_below}
use Rattle.std.proofs.lemmas.List.{set_past}
use Rattle.std.proofs.lemmas.Bool.{cases_lt, ltb-true, cond_both}
use Rattle.places.specs.declared.place.Survey.{Survey}
use Rattle.places.specs.declared.place.ServedPair.{ServedPair}
use Rattle.places.specs.declared.place.Job.{Job}
use Rattle.places.specs.declared.place.Job.TheVariants as job
use Rattle.places.specs.declared.place.Hand.{Hand}
use Rattle.books.specs.declared.book.Book.{Book}
use Rattle.books.specs.declared.walked.Entry.{Entry}
use Rattle.books.specs.Books.{blank, with_row, joined}
use Rattle.books.specs.Serving.{first_open, open_from, go_on, serve_from}
use Rattle.books.specs.Walked.{WalkOutcome, resolved, pair_walked, walked_at}
use Rattle.machine.specs.States.{State}
use Rattle.laws.specs.Fits.{IsKey, FitServedPair, FitJob}
use Rattle.laws.proofs.Puts.{set_each}
use Rattle.laws.proofs.Flows.{FitFlow}

abbrev pub QueueFits : ℕ → Book → Type 0
QueueFits n b = (i : ℕ) → get_or b.queue i 0 < n

-- each item of a list of copies is the copy, or the one that stands for none
pub get_or-replicate : {A : Type 0} (P : A → Type 0) (m i : ℕ) (x d : A) → P x → P d → P (get_or (replicate m x) i d)
get_or-replicate P zero i x d a b = b
get_or-replicate P (suc m) zero x d a b = a
get_or-replicate P (suc m) (suc i) x d a b = get_or-replicate P m i x d a b

pub blank_queue : (n t : ℕ) → 0 < n → QueueFits n (blank t)
blank_queue n t p i = get_or-replicate (λ x. x < n) 64 i 0 0 p p

set_queue : (n : ℕ) (q : List ℕ) (l k : ℕ) → ((i : ℕ) → get_or q i 0 < n) → k < n → (i : ℕ) → get_or (set q l k) i 0 < n
set_queue n q l k f h i =
    ⊎_elim
    (λ (b : l < length q). set_each (λ j x. x < n) q l k 0 b h (λ j ne. f j) i)
    (λ (b : length q ≤ l). subst (λ (x : List ℕ). get_or x i 0 < n) (sym (set_past q l k b)) (f i))
    (cases_lt l (length q))

joined_queue : (n : ℕ) (b : Book) (k : ℕ) → QueueFits n b → k < n → QueueFits n (joined b k)
joined_queue n b k f h = search (rules, set_queue)

module _ (s : State) (p : 0 < s.sizes.keys) where
  abbrev n : ℕ
  n = s.sizes.keys

  abbrev FitJobs : Option Job → Type 0
  FitJobs None = Unit {0}
  FitJobs (Some j) = FitJob s j

  first_open_fit : (b : Book) (v : Survey) (d x : ℕ) → QueueFits n b → FitJobs (first_open b v n d x)
  first_open_fit b v zero x f = tt
  first_open_fit b v (suc d) x f = let more : FitJobs (first_open b v n d (x + 1)) = first_open_fit b v d (x + 1) f in search (rules, mod_below)

  go_on_fit : (v : Survey) (j : Option Job) → FitJobs j → FitFlow s (go_on v j)
  go_on_fit v None f = tt
  go_on_fit v (Some j) f = f

  serve_from_fit : (b : Book) (v : Survey) (x : ℕ) → QueueFits n b → FitFlow s (serve_from b v n x)
  serve_from_fit b v x f = go_on_fit v (open_from b v n x) (first_open_fit b v (n * b.len - x) x f)

  -- the book after a walk, and what follows
  pub record Good (o : WalkOutcome) : Type 0 where
    pub queue : QueueFits n o.book
    pub out : FitFlow s o.out

  good_if : (t : Bool) (x y : WalkOutcome) → Good x → Good y → Good (cond t x y)
  good_if t x y f g = cond_both t x y Good (λ _. f) (λ _. g)

  serves : (b : Book) (v : Survey) (x : ℕ) (e : Entry) → QueueFits n b → Good (record { book = b; out = serve_from b v n x; entry = e })
  serves b v x e f = record { queue = f; out = serve_from_fit b v x f }

  resolved_good : (b : Book) (v : Survey) (l : ServedPair) (h : Hand) → QueueFits n b → IsKey s l.to → Good (resolved b v n l h)
  resolved_good b v l h f k = let q = joined_queue n b l.to f k in search (rules, good_if, serves)

  pair_walked_good : (b : Book) (v : Survey) (l : ServedPair) (r : ℕ) (h : Hand) → QueueFits n b → FitServedPair s l → Good (pair_walked b v n l r h)
  pair_walked_good b v l r h f k = search (rules, good_if, serves, resolved_good)

  pub walked_at_good : (b : Book) (v : Survey) (k : Job) (r : ℕ) (h : Hand) → QueueFits n b → FitJob s k → Good (walked_at b v k n r h)
  walked_at_good b v (job.Key i) r h f k = let q = joined_queue n (with_row b i r) i f k in record { queue = q; out = search (rules, ltb-true, serve_from_fit) }
  walked_at_good b v (job.Start i) r h f k = let q = joined_queue n (with_row b i r) i f k in search (rules, good_if, serves)
  walked_at_good b v (job.Pair l) r h f k = pair_walked_good b v l r h f k
  walked_at_good b v (job.Target l e) r h f k = resolved_good (with_row b l.to r) v l h f k.1

-- What a worker knows of its page stays known.
use Rattle.std.proofs.Common.{◌≡◌, ℕ, ◌<◌, ◌≤◌, ◌⊎◌, inl, inr, arith}
use Rattle.places.specs.declared.place.Survey.{Survey}
use Rattle.places.specs.declared.place.Survey.TheVariants.{Snapshot, Reach}
use Rattle.places.specs.declared.place.Job.{Job}
use Rattle.places.specs.declared.place.Job.TheVariants as job
use Rattle.books.specs.declared.book.Book.{Book}
use Rattle.walks.specs.Courses.{Course, Laws}
use Rattle.walks.specs.Pages.{Page}
use Rattle.walks.proofs.Walking.{found_later}
use Rattle.walks.proofs.Drafts.{Draft}
use Rattle.walks.proofs.Known.{Way, stay, go_on, Shown, nothing, weighs, Reached, Joined, Served, Serving, Turning, KnowsJob}

module _ (c : Course) (n : ℕ) (law : Laws c n) (k l : ℕ) (u : k ≤ l) where
  way_later : {t i j : ℕ} → Way c t k i j → Way c t l i j
  way_later stay = stay
  way_later (go_on e w x) = go_on e (way_later w) (λ m a. x m (omega arith))

  shown_later : {t i j x : ℕ} → Shown c t k i j x → Shown c t l i j x
  shown_later (nothing e f) = nothing e (λ m x a. f m x (omega arith))
  shown_later (weighs e q x f) = weighs e q (λ m a. x m (omega arith)) (λ m y a. f m y (omega arith))

  reached_later : (v : Survey) (t j : ℕ) → Reached c n v t k j → Reached c n v t l j
  reached_later Snapshot t j h = tt
  reached_later (Reach i) t j h = way_later h

  joined_later : (v : Survey) (d : Draft) (j : ℕ) → Joined c n k v d j → Joined c n l v d j
  joined_later v d j h = record { small = h.small; seen = h.seen; row = h.row; nth = h.nth; within = h.within; queued = h.queued; reached = reached_later v d.t j h.reached }

  served_later : (d : Draft) (i j : ℕ) → Served c n k d i j → Served c n l d i j
  served_later d i j h = record { shown = shown_later h.shown; leads = λ m e a. h.leads m e (omega arith) }

  pub serving_later : (v : Survey) (d : Draft) (x : ℕ) → Serving c n k v d x → Serving c n l v d x
  serving_later v d x h = record {
    rows = λ j a s. found_later c n law d.t k l _ _ u (h.rows j a s);
    joined = λ j a. joined_later v d j (h.joined j a);
    queued = h.queued;
    mode = h.mode;
    cells = λ i j. cell_later i j (h.cells i j);
    served = λ y a s. served_later d _ _ (h.served y a s);
  }
    where
      cell_later : (i j : ℕ) → (d.pair i j ≡ 0) ⊎ ((0 < d.key i) × Shown c d.t k i j (d.pair i j)) → (d.pair i j ≡ 0) ⊎ ((0 < d.key i) × Shown c d.t l i j (d.pair i j))
      cell_later i j (inl e) = inl e
      cell_later i j (inr (z, s)) = inr (z, shown_later s)

  turning_later : (v : Survey) (b : Book) (p : Page) (x : ℕ) → Turning c n k v b p x → Turning c n l v b p x
  turning_later v b p x h = record { sofar = serving_later v _ x h.sofar; within = h.within; good = h.good }

  pub job_later : (v : Survey) (b : Book) (p : Page) (j : Job) → KnowsJob c n k v b p j → KnowsJob c n l v b p j
  job_later v b p (job.Key i) (e, s, h) =
      (e, s, record { rows = λ j a. found_later c n law b.t k l _ _ u (h.rows j a); rest = h.rest; bare = h.bare; seen = h.seen; len = h.len; queued = h.queued })
  job_later v b p (job.Start i) h = h
  job_later v b p (job.Pair g) (e, h) = (e, turning_later v b p _ h)
  job_later v b p (job.Target g e) (q, h, m, s) = (q, turning_later v b p _ h, record { row = m.row; edge = found_later c n law b.t k l _ _ u m.edge; source = m.source }, s)

-- What a turn of a place that fits enters into the page has keys of the opening.
use Rattle.std.proofs.Common.{rules, ℕ, Option, subst}
use Rattle.layout.specs.declared.names.Kind.{Kind}
use Rattle.places.specs.declared.place.Survey.{Survey}
use Rattle.places.specs.declared.place.ServedPair.{ServedPair}
use Rattle.places.specs.declared.place.Job.{Job}
use Rattle.places.specs.declared.place.Job.TheVariants as job
use Rattle.places.specs.declared.place.Walk.{Walk}
use Rattle.places.specs.declared.place.Hand.{Hand}
use Rattle.places.specs.declared.place.Purpose.TheVariants as purpose
use Rattle.places.specs.declared.place.Place.{Place}
use Rattle.places.specs.declared.place.Place.TheVariants as place
use Rattle.places.specs.Moved.{Next, Next as next}
use Rattle.places.specs.Nexts.{next_of}
use Rattle.books.specs.declared.book.Book.{Book}
use Rattle.books.specs.Books.{with_row}
use Rattle.books.specs.Walked.{resolved, walked_at}
use Rattle.machine.specs.declared.worker.Worker.{Worker}
use Rattle.machine.specs.States.{State}
use Rattle.machine.specs.Workers.{followed}
use Rattle.laws.specs.Fits.{Linked, FitServedPair, FitJob, FitPlaceBy, FitPlace}
use Rattle.laws.proofs.Follows.{AtWalk, Follows, follows}
use Rattle.laws.proofs.Pages.{FitEntry}

-- the keys of a walk are keys
place_job : (L : State → Kind → ℕ → Type 0) (s : State) (p : Place) (k : Walk) → FitPlaceBy L s p → AtWalk p k → FitJob s k.job
place_job L s (place.Settle st (purpose.Walk g j r)) k f a = subst (λ u. FitJob s u.job) a f.0
place_job L s (place.WalkHead j) k f a = subst (λ u. FitJob s u.job) a f
place_job L s (place.WalkOlder j r) k f a = subst (λ u. FitJob s u.job) a f.0
place_job L s p k f a = absurd a

resolved_entry : (s : State) (b : Book) (v : Survey) (n : ℕ) (l : ServedPair) (h : Hand) → FitServedPair s l → FitEntry s.sizes (resolved b v n l h).entry
resolved_entry s b v n l h f = search rules

walked_at_entry : (s : State) (b : Book) (v : Survey) (k : Job) (n r : ℕ) (h : Hand) → FitJob s k → FitEntry s.sizes (walked_at b v k n r h).entry
walked_at_entry s b v (job.Key i) n r h f = f
walked_at_entry s b v (job.Start i) n r h f = search rules
walked_at_entry s b v (job.Pair l) n r h f = search (rules, resolved_entry)
walked_at_entry s b v (job.Target l e) n r h f = resolved_entry s (with_row b l.to r) v n l h f

module _ (L : State → Kind → ℕ → Type 0) (s : State) (n : ℕ) (v : Worker) (h : Hand) where
  followed_entry : (x : Next) → FitPlaceBy L s v.place → Follows v.place h x → FitEntry s.sizes (followed n v h x).entry
  followed_entry (next.Walked k r) f a = walked_at_entry s v.book k.survey k.job n r h (place_job L s v.place k f a)
  followed_entry x f a = tt

  pub entry_fits_by : (g : Option ℕ) → FitPlaceBy L s v.place → FitEntry s.sizes (followed n v h (next_of v.place h g)).entry
  entry_fits_by g f = followed_entry (next_of v.place h g) f (follows v.place h g)

pub entry_fits : (s : State) (n : ℕ) (v : Worker) (h : Hand) (g : Option ℕ) → FitPlace s v.place → FitEntry s.sizes (followed n v h (next_of v.place h g)).entry
entry_fits s n v h g f = entry_fits_by Linked s n v h g f

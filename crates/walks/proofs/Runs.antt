-- A turn of a worker of a run is a turn of a worker that makes a page.
use Rattle.std.proofs.Common.{◌≡◌, ℕ, Bool, true, false, cond, length, refl, subst₂, arith, Continue, Break}
use Rattle.std.proofs.lemmas.Bool.{lt-ltb}
use Rattle.layout.specs.declared.names.Kind.{Kind}
use Rattle.layout.specs.declared.names.Kind.TheVariants as kind
use Rattle.layout.specs.declared.names.Field.TheVariants.{Ins, Del}
use Rattle.places.specs.declared.place.Job.{Job}
use Rattle.places.specs.declared.place.Job.TheVariants as job
use Rattle.places.specs.declared.place.Hand.{Hand}
use Rattle.places.specs.declared.place.Stage.TheVariants as stage
use Rattle.places.specs.declared.place.Place.{Place}
use Rattle.places.specs.declared.place.Place.TheVariants as place
use Rattle.places.specs.Moved.{Next, Next as next}
use Rattle.places.specs.Flows.{Flow}
use Rattle.places.specs.Touches.{touch_of, change_kind, job_head}
use Rattle.places.specs.Nexts.{next_of}
use Rattle.machine.specs.States.{State}
use Rattle.machine.specs.Turns.{worker_at, hand_of, hand_at, next_at}
use Rattle.machine.specs.Effects.{got_of}
use Rattle.machine.specs.Workers.{finishes, followed, flow_answer, arrived, counted, with_book, finished, at}
use Rattle.books.specs.Walked.{walked_of, WalkOutcome}
use Rattle.machine.specs.declared.worker.Worker.{Worker}
use Rattle.laws.specs.Fits.{FitPlace, FitJob, Fit}
use Rattle.walks.specs.Memory.{head_inside, memory_of}
use Rattle.walks.specs.Walking.{hand_in, next_in}
use Rattle.walks.specs.Pages.{Page, page_of, written}
use Rattle.walks.specs.Surveys.{going}
use Rattle.walks.specs.Turns.{surveyor_of, goes, InSurvey, at_raise, at_head, at_older, at_field, place_then, TurnGoes, TurnsGo}
use Rattle.walks.proofs.Effects.{effect}

-- the same after any turn
record Follows (n : ℕ) (v : Worker) (p : Page) (h : Hand) (x : Next) : Type 0 where
  answer : (followed n v h x).answer ≡ flow_answer (going n (record { place = v.place; book = v.book; page = p }) h x).out
  place : (followed n v h x).worker.place ≡ place_then (going n (record { place = v.place; book = v.book; page = p }) h x).out
  book : (followed n v h x).worker.book ≡ (going n (record { place = v.place; book = v.book; page = p }) h x).book
  page : written p (followed n v h x).entry ≡ (going n (record { place = v.place; book = v.book; page = p }) h x).page

arrived_place : (v : Worker) (o : Flow) → (arrived v o).place ≡ place_then o
arrived_place v (Continue p) = refl
arrived_place v (Break a) = by_test (finishes a)
  where
    by_test : (q : Bool) → (cond q (finished v) (at v place.Idle)).place ≡ place.Idle
    by_test true = refl
    by_test false = refl

pub arrived_book : (v : Worker) (o : Flow) → (arrived v o).book ≡ v.book
arrived_book v (Continue p) = refl
arrived_book v (Break a) = by_test (finishes a)
  where
    by_test : (q : Bool) → (cond q (finished v) (at v place.Idle)).book ≡ v.book
    by_test true = refl
    by_test false = refl

pub counted_book : (v : Worker) (k : Kind) → (counted v k).book ≡ v.book
counted_book v kind.Vertex = refl
counted_book v kind.Edge = refl

follows : (n : ℕ) (v : Worker) (p : Page) (h : Hand) (x : Next) → Follows n v p h x
follows n v p h (next.Moved o) = record { answer = refl; place = arrived_place v o; book = arrived_book v o; page = refl }
follows n v p h (next.Linked c r) = record { answer = refl; place = refl; book = counted_book v (change_kind c); page = refl }
follows n v p h (next.Raised s t) = record { answer = refl; place = refl; book = refl; page = refl }
follows n v p h (next.Walked k r) =
    let o : WalkOutcome = walked_of v.book k n r h in
    record { answer = refl; place = arrived_place (with_book v o.book) o.out; book = arrived_book (with_book v o.book) o.out; page = refl }

-- the head of a job is a head of the sizes
head_known : (s : State) (j : Job) → FitJob s j → head_inside s.sizes (job_head j) ≡ true
head_known s (job.Key i) f = lt-ltb i s.sizes.keys f
head_known s (job.Start i) f = lt-ltb i s.sizes.keys f
head_known s (job.Pair l) (f, g) = rw (lt-ltb l.from s.sizes.keys f, lt-ltb l.to s.sizes.keys g) refl
head_known s (job.Target l e) (f, g) = lt-ltb l.to s.sizes.keys g

module _ (s : State) (w : ℕ) (fit : Fit s w) where
  -- what follows from a place of a snapshot or reach
  same_next : (p : Place) → InSurvey p → FitPlace s p →
      next_of p (hand_of s.sizes s.cells w (worker_at s w) p) (got_of s.sizes s.cells (touch_of p (hand_of s.sizes s.cells w (worker_at s w) p).spare)) ≡
      next_in s.sizes.top (memory_of s) (worker_at s w).book.t p
  same_next p (at_raise v) f = rw (lt-ltb 0 (length s.cells) (omega (arith, fit.cells))) refl
  same_next p (at_head k) f = rw (head_known s k.job f) refl
  same_next p (at_older k r) f = refl
  same_next p (at_field stage.First Ins k r) f = refl
  same_next p (at_field stage.First Del k r) f = refl
  same_next p (at_field stage.Clock d k r) f = refl
  same_next p (at_field (stage.Swap x) d k r) f = refl
  same_next p (at_field stage.Reread Ins k r) f = refl
  same_next p (at_field stage.Reread Del k r) f = refl

  same_hand : (p : Place) → InSurvey p → hand_of s.sizes s.cells w (worker_at s w) p ≡ hand_in (memory_of s) (worker_at s w).book.t p
  same_hand p (at_raise v) = refl
  same_hand p (at_head k) = refl
  same_hand p (at_older k r) = refl
  same_hand p (at_field st Ins k r) = refl
  same_hand p (at_field st Del k r) = refl

  turn_goes : InSurvey (worker_at s w).place → TurnGoes s w (goes s w)
  turn_goes i =
      subst₂ (λ h x. TurnGoes s w (going s.sizes.keys (surveyor_of s w) h x)) (same_hand (worker_at s w).place i) (same_next (worker_at s w).place i fit.place)
      (let f = follows s.sizes.keys (worker_at s w) (page_of s w) (hand_at s w) (next_at s w) in record { answer = f.answer; place = f.place; book = f.book; page = f.page })

pub turns_go : TurnsGo
turns_go s w fit i = (turn_goes s w fit i, effect s w fit i)

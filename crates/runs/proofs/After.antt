-- From what follows a turn to the worker's place or answer after it.
use Rattle.std.proofs.Common.{rules, ◌≡◌, ℕ, Some, None, Option, sym, refl, subst}
use Rattle.std.proofs.lemmas.Bool.{cond_both}
use Rattle.std.specs.declared.ops.ControlFlow.TheVariants.{Continue, Break}
use Rattle.codes.specs.declared.answer.Answer.{Answer}
use Rattle.places.specs.declared.place.Call.{Call}
use Rattle.places.specs.declared.place.Call.TheVariants as call
use Rattle.places.specs.declared.place.Hand.{Hand}
use Rattle.places.specs.declared.place.Job.{Job}
use Rattle.places.specs.declared.place.Job.TheVariants as job
use Rattle.places.specs.declared.place.ServedPair.{ServedPair}
use Rattle.places.specs.declared.place.Survey.{Survey}
use Rattle.places.specs.declared.place.Place.{Place}
use Rattle.places.specs.declared.place.Place.TheVariants as place
use Rattle.places.specs.declared.place.Purpose.TheVariants as purpose
use Rattle.places.specs.declared.place.Stage.TheVariants as stage
use Rattle.layout.specs.declared.names.Field.TheVariants.{Ins}
use Rattle.places.specs.Moved.{Next, Next as next}
use Rattle.places.specs.Flows.{Flow}
use Rattle.books.specs.declared.book.Book.{Book}
use Rattle.books.specs.Books.{with_row}
use Rattle.books.specs.Serving.{go_on, open_from, serve_from}
use Rattle.books.specs.Walked.{WalkOutcome, resolved, walked_at, walked_of}
use Rattle.machine.specs.declared.worker.Worker.{Worker}
use Rattle.machine.specs.Workers.{at, finishes, finished, with_book, arrived, flow_answer, followed}
use Rattle.runs.specs.Runs.{RunInTime}
use Rattle.runs.specs.Purposes.{InCall, MadeChange}
use Rattle.runs.specs.Known.{Known}
use Rattle.runs.specs.Reasons.{HasReason}
use Rattle.runs.proofs.Goods.{Good}

-- a walk leads to a walk of the same snapshot or reach, or to an answer
abbrev WalksOn : Survey → Flow → Type 0
WalksOn v (Continue (place.WalkHead k)) = k.survey ≡ v
WalksOn v (Continue p) = ⊥
WalksOn v (Break a) = Unit {0}

go_on_walks : (v : Survey) (j : Option Job) → WalksOn v (go_on v j)
go_on_walks v None = tt
go_on_walks v (Some j) = refl

serve_walks : (b : Book) (v : Survey) (n x : ℕ) → WalksOn v (serve_from b v n x)
serve_walks b v n x = go_on_walks v (open_from b v n x)

resolved_walks : (b : Book) (v : Survey) (n : ℕ) (l : ServedPair) (h : Hand) → WalksOn v (resolved b v n l h).out
resolved_walks b v n l h = search (rules, serve_walks)

walked_walks : (b : Book) (v : Survey) (k : Job) (n r : ℕ) (h : Hand) → WalksOn v (walked_at b v k n r h).out
walked_walks b v (job.Key i) n r h = search (rules, serve_walks)
walked_walks b v (job.Start i) n r h = search (rules, serve_walks)
walked_walks b v (job.Pair l) n r h = search (rules, serve_walks, resolved_walks)
walked_walks b v (job.Target l e) n r h = resolved_walks (with_row b l.to r) v n l h

module _ (R : RunInTime) (u b : ℕ) (c : Call) (m : Option MadeChange) where
  -- after a turn that answered, or did not
  abbrev pub After : Option Answer → Place → Type 0
  After None p = Known R u b p × InCall p c
  After (Some a) p = (p ≡ place.Idle) × HasReason R u b c m a

  after_out : (v : Worker) (o : Flow) → Good R u b c m o → After (flow_answer o) (arrived v o).place
  after_out v (Continue p) g = g
  after_out v (Break a) g = (cond_both (finishes a) (finished v) (at v place.Idle) (λ y. y.place ≡ place.Idle) (λ _. refl) (λ _. refl), g)

  walk_good : (v : Survey) → call.Survey v ≡ c → (o : Flow) → WalksOn v o → Good R u b c m o
  walk_good v e (Continue (place.WalkHead k)) h = (tt, subst (λ (x : Survey). call.Survey x ≡ c) (sym h) e)
  walk_good v e (Break a) h = subst (λ x. HasReason R u b x m a) e tt
  walk_good v e (Continue p) h = absurd h

  -- what follows a turn
  abbrev pub FollowsWell : Next → Type 0
  FollowsWell (next.Moved o) = Good R u b c m o
  FollowsWell (next.Linked d r) = Good R u b c m (Continue (place.Settle stage.First (purpose.Own Ins d r)))
  FollowsWell (next.Raised v t) = call.Survey v ≡ c
  FollowsWell (next.Walked w r) = call.Survey w.survey ≡ c

  pub after_next : (n : ℕ) (v : Worker) (h : Hand) (x : Next) → FollowsWell x → After (followed n v h x).answer (followed n v h x).worker.place
  after_next n v h (next.Moved o) g = after_out v o g
  after_next n v h (next.Linked d r) g = g
  after_next n v h (next.Raised s t) g = (tt, g)
  after_next n v h (next.Walked w r) g =
      let o : WalkOutcome = walked_of v.book w n r h in
      after_out (with_book v o.book) o.out (walk_good w.survey g o.out (walked_walks v.book w.survey w.job n r h))

-- What a snapshot or reach answers at its turns.
use Rattle.std.proofs.Common.{◌≡◌, ℕ, zero, suc, ◌+◌, ◌-◌, ◌*◌, cond, not, ◌||◌, Some, None, Option, ◌==◌, nat_lt, refl, sym, subst, inl, inr}
use Rattle.std.proofs.lemmas.Bool.{cond_both}
use Rattle.std.specs.declared.ops.ControlFlow.TheVariants.{Continue, Break}
use Rattle.codes.specs.declared.answer.Answer.{Answer}
use Rattle.codes.specs.declared.answer.Answer.TheVariants.{VertexAbsent, ClockSpent}
use Rattle.layout.specs.declared.names.Field.{Field}
use Rattle.layout.specs.declared.names.Field.TheVariants.{Ins, Del}
use Rattle.layout.specs.Rows.{no_row}
use Rattle.places.specs.declared.mark.Mark.{Mark}
use Rattle.places.specs.declared.place.Survey.{Survey}
use Rattle.places.specs.declared.place.Survey.TheVariants.{Snapshot, Reach}
use Rattle.places.specs.declared.place.ServedPair.{ServedPair}
use Rattle.places.specs.declared.place.Job.{Job}
use Rattle.places.specs.declared.place.Job.TheVariants as job
use Rattle.places.specs.declared.place.Walk.{Walk}
use Rattle.places.specs.declared.place.Hand.{Hand}
use Rattle.places.specs.declared.place.Stage.{Stage}
use Rattle.places.specs.declared.place.Stage.TheVariants as stage
use Rattle.places.specs.declared.place.Purpose.TheVariants as purpose
use Rattle.places.specs.declared.place.Place.{Place}
use Rattle.places.specs.declared.place.Place.TheVariants as place
use Rattle.places.specs.Marks.{pending, mark_of}
use Rattle.places.specs.Flows.{Flow}
use Rattle.places.specs.Moved.{Next, Next as next}
use Rattle.places.specs.Rules.{first}
use Rattle.places.specs.Walks.{first_job, above, walked_ins}
use Rattle.places.specs.Nexts.{number_of, settle_on, settled, raise_done, next_of}
use Rattle.books.specs.declared.book.Book.{Book}
use Rattle.books.specs.Books.{shown_of, row_of, is_seen, with_row, joined}
use Rattle.books.specs.Serving.{pair_numbered, pair_number, open_at as pair_open, first_open, open_from, survey_done, go_on, serve_from}
use Rattle.books.specs.Walked.{WalkOutcome, walk_of, walked_joined, joins, resolved, walked_at, walked_of}
use Rattle.machine.specs.declared.worker.Worker.{Worker}
use Rattle.machine.specs.Workers.{with_book, arrived, flow_answer, followed}
use Rattle.promise.specs.Answers.{Surveyed}

-- only a reach walks its start
abbrev pub JobFor : Survey → Job → Type 0
JobFor Snapshot (job.Start i) = ⊥
JobFor v j = Unit {0}

-- a place is in no walk, or in one that is for its snapshot or reach
abbrev pub Proper : Place → Type 0
Proper (place.Settle st (purpose.Walk f k r)) = JobFor k.survey k.job
Proper (place.WalkHead k) = JobFor k.survey k.job
Proper (place.WalkOlder k r) = JobFor k.survey k.job
Proper p = Unit {0}

-- a walk goes on, or has come to its end
abbrev pub WalkNext : Walk → Next → Type 0
WalkNext k (next.Moved (Continue q)) = Proper q
WalkNext k (next.Walked j r) = j ≡ k
WalkNext k n = ⊥

module _ (k : Walk) (proper : JobFor k.survey k.job) where
  on_ins : (r : ℕ) (h : Hand) (m : Mark) → WalkNext k (walked_ins k r h m)
  on_ins r h m =
      cond_both (above h.t m) (cond (h.older == no_row) (next.Walked k no_row) (next.Moved (Continue (place.WalkOlder k h.older)))) (next.Moved (first (purpose.Walk Del k r))) (WalkNext k)
      (λ e. cond_both (h.older == no_row) (next.Walked k no_row) (next.Moved (Continue (place.WalkOlder k h.older))) (WalkNext k) (λ e. refl) (λ e. proper))
      (λ e. proper)

  pub on_head : (h : Hand) (g : Option ℕ) → WalkNext k (next_of (place.WalkHead k) h g)
  on_head h g = cond_both (number_of g == no_row) (next.Walked k no_row) (next.Moved (first (purpose.Walk Ins k (number_of g)))) (WalkNext k) (λ e. refl) (λ e. proper)

  pub on_older : (r : ℕ) (h : Hand) (g : Option ℕ) → WalkNext k (next_of (place.WalkOlder k r) h g)
  on_older r h g = on_ins r h (mark_of (number_of g))

  on_settled : (f : Field) (r : ℕ) (h : Hand) (m : Mark) → WalkNext k (settled (purpose.Walk f k r) h m)
  on_settled Ins r h m = on_ins r h m
  on_settled Del r h m = refl

  pub on_settle : (st : Stage) (f : Field) (r : ℕ) (h : Hand) (g : Option ℕ) → WalkNext k (next_of (place.Settle st (purpose.Walk f k r)) h g)
  on_settle stage.First f r h g =
      cond_both (number_of g == pending) (settle_on stage.Clock (purpose.Walk f k r)) (settled (purpose.Walk f k r) h (mark_of (number_of g))) (WalkNext k)
      (λ e. proper) (λ e. on_settled f r h (mark_of (number_of g)))
  on_settle stage.Clock f r h g = proper
  on_settle (stage.Swap n) f r h g = proper
  on_settle stage.Reread f r h g = on_settled f r h (mark_of (number_of g))

-- where a snapshot or reach goes on to, or what it answers
abbrev FlowFor : Survey → Flow → Type 0
FlowFor v (Continue q) = Proper q
FlowFor v (Break a) = Surveyed v a

abbrev SomeFor : Survey → Option Job → Type 0
SomeFor v None = Unit {0}
SomeFor v (Some j) = JobFor v j

key_for : (v : Survey) (i : ℕ) → JobFor v (job.Key i)
key_for Snapshot i = tt
key_for (Reach s) i = tt

pair_for : (v : Survey) (l : ServedPair) → JobFor v (job.Pair l)
pair_for Snapshot l = tt
pair_for (Reach s) l = tt

target_for : (v : Survey) (l : ServedPair) (e : ℕ) → JobFor v (job.Target l e)
target_for Snapshot l e = tt
target_for (Reach s) l e = tt

first_for : (v : Survey) → JobFor v (first_job v)
first_for Snapshot = tt
first_for (Reach s) = tt

done_for : (v : Survey) → Surveyed v (survey_done v)
done_for Snapshot = refl
done_for (Reach s) = inl refl

absent_for : (v : Survey) (i : ℕ) → JobFor v (job.Start i) → Surveyed v VertexAbsent
absent_for Snapshot i a = absurd a
absent_for (Reach s) i a = inr refl

open_for : (b : Book) (v : Survey) (n d x : ℕ) → SomeFor v (first_open b v n d x)
open_for b v n zero x = tt
open_for b v n (suc d) x = cond_both (pair_open b v n x) (Some (job.Pair (pair_numbered b n x))) (first_open b v n d (x + 1)) (SomeFor v) (λ e. pair_for v (pair_numbered b n x)) (λ e. open_for b v n d (x + 1))

go_on_for : (v : Survey) (o : Option Job) → SomeFor v o → FlowFor v (go_on v o)
go_on_for v None a = done_for v
go_on_for v (Some j) a = a

serve_for : (b : Book) (v : Survey) (n x : ℕ) → FlowFor v (serve_from b v n x)
serve_for b v n x = go_on_for v (open_from b v n x) (open_for b v n (n * b.len - x) x)

abbrev OutcomeFor : Survey → WalkOutcome → Type 0
OutcomeFor v o = FlowFor v o.out

resolved_for : (b : Book) (v : Survey) (n : ℕ) (l : ServedPair) (h : Hand) → OutcomeFor v (resolved b v n l h)
resolved_for b v n l h = cond_both (h.target == row_of b l.to) _ _ (OutcomeFor v)
    (λ e. cond_both (joins v (shown_of b l.to)) _ _ (OutcomeFor v) (λ e. serve_for (joined b l.to) v n (pair_number n l + 1)) (λ e. serve_for b v n (pair_number n l + 1)))
    (λ e. serve_for b v n (pair_number n l + 1))

walked_for : (b : Book) (v : Survey) (j : Job) (n r : ℕ) (h : Hand) → JobFor v j → OutcomeFor v (walked_at b v j n r h)
walked_for b v (job.Key k) n r h a = cond_both (nat_lt (k + 1) n) (walk_of v (job.Key (k + 1))) (serve_from (walked_joined b k r) v n 0) (FlowFor v) (λ e. key_for v (k + 1)) (λ e. serve_for (walked_joined b k r) v n 0)
walked_for b v (job.Start k) n r h a = cond_both (r == no_row) _ _ (OutcomeFor v) (λ e. absent_for v k a) (λ e. serve_for (walked_joined b k r) v n 0)
walked_for b v (job.Pair l) n r h a = cond_both (r == no_row || not (h.source == shown_of b l.from)) _ _ (OutcomeFor v) (λ e. serve_for b v n (pair_number n l + 1))
    (λ e. cond_both (is_seen b l.to) _ _ (OutcomeFor v) (λ e. resolved_for b v n l h) (λ e. target_for v l r))
walked_for b v (job.Target l e) n r h a = resolved_for (with_row b l.to r) v n l h

-- the answer of a turn and the place after it
abbrev pub AfterFor : Survey → Option Answer → Place → Type 0
AfterFor v None q = Proper q
AfterFor v (Some a) q = Surveyed v a

arrived_for : (v : Survey) (w : Worker) (o : Flow) → FlowFor v o → AfterFor v (flow_answer o) (arrived w o).place
arrived_for v w (Continue q) a = a
arrived_for v w (Break x) a = a

pub walk_after : (n : ℕ) (w : Worker) (h : Hand) (k : Walk) → JobFor k.survey k.job → (x : Next) → WalkNext k x → AfterFor k.survey (followed n w h x).answer (followed n w h x).worker.place
walk_after n w h k a (next.Moved (Continue q)) s = s
walk_after n w h k a (next.Moved (Break x)) s = absurd s
walk_after n w h k a (next.Linked c r) s = absurd s
walk_after n w h k a (next.Raised v t) s = absurd s
walk_after n w h k a (next.Walked j r) s =
    subst (λ j. AfterFor k.survey (followed n w h (next.Walked j r)).answer (followed n w h (next.Walked j r)).worker.place) (sym s)
    (arrived_for k.survey (with_book w (walked_of w.book k n r h).book) (walked_of w.book k n r h).out (walked_for w.book k.survey k.job n r h a))

-- a raise answers that the clock is spent, or goes on to the first walk
abbrev pub AfterRaise : Option ℕ → Option Answer → Place → Type 0
AfterRaise None a q = a ≡ Some ClockSpent
AfterRaise (Some t) a q = (a ≡ None) × Proper q

pub raise_after : (n : ℕ) (w : Worker) (h : Hand) (v : Survey) (g : Option ℕ) → AfterRaise g (followed n w h (raise_done v g)).answer (followed n w h (raise_done v g)).worker.place
raise_after n w h v None = refl
raise_after n w h v (Some t) = (refl, first_for v)

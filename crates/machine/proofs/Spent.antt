-- When exactly a turn answers 40 and 41.
use Rattle.std.proofs.Common.{rules, ◌≡◌, ℕ, ◌+◌, ◌*◌, ◌<◌, ◌≤◌, Bool, true, false, ltb, List, length, Some, None, Option, sym, refl, ap, ◌∙◌, subst, arith}
use Rattle.std.proofs.lemmas.Bool.{cond_both, ltb-true, ltb-false, lt-ltb, le-ltb}
use Rattle.std.proofs.Math.Bool.{true-and, and-false}
use Rattle.std.specs.Option.{is_some}
use Rattle.std.specs.declared.ops.ControlFlow.TheVariants.{Continue, Break}
use Rattle.codes.specs.declared.answer.Answer.{Answer}
use Rattle.codes.specs.declared.answer.Answer.TheVariants.{RowsSpent, ClockSpent}
use Rattle.codes.specs.declared.refusal.Refusal.{Refusal}
use Rattle.cells.specs.Cells.{raise_of}
use Rattle.layout.specs.declared.sizes.Sizes.{Sizes}
use Rattle.layout.specs.declared.names.Kind.{Kind}
use Rattle.layout.specs.Rows.{rows_each, row_at}
use Rattle.places.specs.declared.place.Change.{Change}
use Rattle.places.specs.declared.place.Change.TheVariants as change
use Rattle.places.specs.declared.place.Survey.{Survey}
use Rattle.places.specs.declared.place.Survey.TheVariants.{Snapshot, Reach}
use Rattle.places.specs.declared.place.Hand.{Hand}
use Rattle.places.specs.declared.place.Job.{Job}
use Rattle.places.specs.declared.place.Job.TheVariants as job
use Rattle.places.specs.declared.place.ServedPair.{ServedPair}
use Rattle.places.specs.declared.place.Place.{Place}
use Rattle.places.specs.declared.place.Place.TheVariants as place
use Rattle.places.specs.Moved.{Next, Next as next}
use Rattle.places.specs.Flows.{Flow}
use Rattle.places.specs.Touches.{change_kind, touch_of}
use Rattle.places.specs.Private.{link_kind}
use Rattle.places.specs.Nexts.{link_done, raise_done, next_of}
use Rattle.books.specs.declared.book.Book.{Book}
use Rattle.books.specs.Books.{with_row}
use Rattle.books.specs.Serving.{go_on, open_from, serve_from, survey_done}
use Rattle.books.specs.Walked.{WalkOutcome, resolved, walked_at}
use Rattle.machine.specs.declared.worker.Worker.{Worker}
use Rattle.machine.specs.declared.request.Request.TheVariants.{Turn}
use Rattle.machine.specs.declared.request.Reply.TheVariants.{Answered}
use Rattle.machine.specs.States.{State}
use Rattle.machine.specs.Effects.{got_of}
use Rattle.machine.specs.Turns.{worker_at, spare_for, hand_at, touch_at, next_at, answer_at}
use Rattle.machine.specs.Workers.{linked_of, flow_answer, followed}
use Rattle.machine.specs.Requests.{is_idle, turn_refused, answered_or, unless_refused, reply_of}
use Rattle.machine.specs.Counts.{Counts}
use Rattle.machine.specs.Spent.{OutOfRows, OutOfClock, RowsSpentExactly, ClockSpentExactly}
use Rattle.machine.proofs.SeveralTurns.{refused_none}
use Rattle.machine.proofs.ClockCells.{clock_in, has_cells}
use Rattle.machine.proofs.Finishing.{Finishes, next_finishes}

-- no walk answers 40 or 41
abbrev Walks : Flow → Type 0
Walks (Break RowsSpent) = ⊥
Walks (Break ClockSpent) = ⊥
Walks o = Unit {0}

done_walks : (v : Survey) → Walks (Break (survey_done v))
done_walks Snapshot = tt
done_walks (Reach i) = tt

go_on_walks : (v : Survey) (j : Option Job) → Walks (go_on v j)
go_on_walks v None = done_walks v
go_on_walks v (Some j) = tt

serve_walks : (b : Book) (v : Survey) (n x : ℕ) → Walks (serve_from b v n x)
serve_walks b v n x = go_on_walks v (open_from b v n x)

resolved_walks : (b : Book) (v : Survey) (n : ℕ) (l : ServedPair) (h : Hand) → Walks (resolved b v n l h).out
resolved_walks b v n l h = search (rules, serve_walks)

walked_walks : (b : Book) (v : Survey) (k : Job) (n r : ℕ) (h : Hand) → Walks (walked_at b v k n r h).out
walked_walks b v (job.Key i) n r h = search (rules, serve_walks)
walked_walks b v (job.Start i) n r h = search (rules, serve_walks)
walked_walks b v (job.Pair l) n r h = search (rules, serve_walks, resolved_walks)
walked_walks b v (job.Target l e) n r h = resolved_walks (with_row b l.to r) v n l h

-- an answer 40 or 41 comes from the place itself
rows_out : (o : Flow) → flow_answer o ≡ Some RowsSpent → o ≡ Break RowsSpent
rows_out (Continue q) e = absurd cc
rows_out (Break a) e = cc

clock_out : (o : Flow) → flow_answer o ≡ Some ClockSpent → o ≡ Break ClockSpent
clock_out (Continue q) e = absurd cc
clock_out (Break a) e = cc

rows_next : (n : ℕ) (v : Worker) (h : Hand) (x : Next) → (followed n v h x).answer ≡ Some RowsSpent → x ≡ next.Moved (Break RowsSpent)
rows_next n v h (next.Moved o) e = ap (λ y. next.Moved y) (rows_out o e)
rows_next n v h (next.Linked c r) e = absurd cc
rows_next n v h (next.Raised q t) e = absurd cc
rows_next n v h (next.Walked k r) e =
    let o : WalkOutcome = walked_at v.book k.survey k.job n r h in
    absurd (subst Walks (rows_out o.out e) (walked_walks v.book k.survey k.job n r h))

clock_next : (n : ℕ) (v : Worker) (h : Hand) (x : Next) → (followed n v h x).answer ≡ Some ClockSpent → x ≡ next.Moved (Break ClockSpent)
clock_next n v h (next.Moved o) e = ap (λ y. next.Moved y) (clock_out o e)
clock_next n v h (next.Linked c r) e = absurd cc
clock_next n v h (next.Raised q t) e = absurd cc
clock_next n v h (next.Walked k r) e =
    let o : WalkOutcome = walked_at v.book k.survey k.job n r h in
    absurd (subst Walks (clock_out o.out e) (walked_walks v.book k.survey k.job n r h))

-- only a link with no row to take answers 40
record NoRow (p : Place) (h : Hand) : Type 0 where
  change : Change
  head : ℕ
  at_link : p ≡ place.Link change head
  none : h.spare ≡ None

link_spent : (c : Change) (spare : Option ℕ) (done : Bool) → link_done c spare done ≡ next.Moved (Break RowsSpent) → spare ≡ None
link_spent c None done e = refl
link_spent c (Some r) true e = absurd cc
link_spent (change.Vertex i) (Some r) false e = absurd cc
link_spent (change.Edge b) (Some r) false e = absurd cc

rows_place : (p : Place) (h : Hand) (g : Option ℕ) → next_of p h g ≡ next.Moved (Break RowsSpent) → NoRow p h
rows_place (place.Link c b) h g e = record { change = c; head = b; at_link = refl; none = link_spent c h.spare (is_some g) e }
rows_place p h g e = absurd (subst (Finishes p) e (next_finishes p h g))

-- only a raise that gave nothing answers 41
record NoTime (p : Place) (g : Option ℕ) : Type 0 where
  survey : Survey
  at_raise : p ≡ place.Raise survey
  none : g ≡ None

raise_spent : (v : Survey) (g : Option ℕ) → raise_done v g ≡ next.Moved (Break ClockSpent) → g ≡ None
raise_spent v None e = refl
raise_spent v (Some t) e = absurd cc

clock_place : (p : Place) (h : Hand) (g : Option ℕ) → next_of p h g ≡ next.Moved (Break ClockSpent) → NoTime p g
clock_place (place.Raise v) h g e = record { survey = v; at_raise = refl; none = raise_spent v g e }
clock_place p h g e = absurd (subst (Finishes p) e (next_finishes p h g))

link_next : (p : Place) (h : Hand) (g : Option ℕ) (c : Change) (b : ℕ) → p ≡ place.Link c b → h.spare ≡ None → next_of p h g ≡ next.Moved (Break RowsSpent)
link_next p h g c b e f = subst (λ q. next_of q h g ≡ next.Moved (Break RowsSpent)) (sym e) (ap (λ x. link_done c x (is_some g)) f)

raise_next : (p : Place) (h : Hand) (g : Option ℕ) (v : Survey) → p ≡ place.Raise v → g ≡ None → next_of p h g ≡ next.Moved (Break ClockSpent)
raise_next p h g v e f = subst (λ q. next_of q h g ≡ next.Moved (Break ClockSpent)) (sym e) (ap (raise_done v) f)

-- a worker that there is has no next row exactly if all its rows are linked
no_next : (z : Sizes) (k : Kind) (w n : ℕ) → row_at z k w n ≡ None → w < z.workers → rows_each z k ≤ n
no_next z k w n e l =
    cond_both (ltb n (rows_each z k)) (Some (w * rows_each z k + n + 1)) None (λ x. x ≡ None → rows_each z k ≤ n)
    (λ _ f. absurd cc) (λ t _. ltb-false n (rows_each z k) t)
    (rw (lt-ltb w z.workers l, true-and) at e)

all_linked : (z : Sizes) (k : Kind) (w n : ℕ) → n ≡ rows_each z k → row_at z k w n ≡ None
all_linked z k w n e = rw (le-ltb n (rows_each z k) (omega (arith, e)), and-false) refl

-- a raise gives nothing exactly if the clock is at its greatest number
no_raise : (cs : List ℕ) (top : ℕ) → 0 < length cs → raise_of cs 0 top ≡ None → top ≤ clock_in cs
no_raise cs top l e =
    cond_both (ltb (clock_in cs) top) (Some (clock_in cs)) None (λ x. x ≡ None → top ≤ clock_in cs)
    (λ _ f. absurd cc) (λ t _. ltb-false (clock_in cs) top t)
    (rw (lt-ltb 0 (length cs) l) at e)

at_top : (cs : List ℕ) (top : ℕ) → 0 < length cs → clock_in cs ≡ top → raise_of cs 0 top ≡ None
at_top cs top l e = rw (lt-ltb 0 (length cs) l, le-ltb (clock_in cs) top (omega (arith, e))) refl

answered_is : (r : Option Refusal) (a : Option Answer) (b : Answer) → answered_or (unless_refused r a) ≡ Answered b → (r ≡ None) × (a ≡ Some b)
answered_is None (Some a) b e = (refl, cc)
answered_is None None b e = absurd cc
answered_is (Some x) a b e = absurd cc

-- a turn of a worker in its call is not refused
accepted : (s : State) (w : ℕ) → w < s.sizes.workers → is_idle (worker_at s w).place ≡ false → turn_refused s w ≡ None
accepted s w l e = rw (lt-ltb w s.sizes.workers l, e) refl

reply_is : (s : State) (w : ℕ) (a : Answer) → turn_refused s w ≡ None → answer_at s w ≡ Some a → reply_of s (Turn w) ≡ Answered a
reply_is s w a e f = rw (e, f) refl

module _ (s : State) (w : ℕ) (n : Counts s) where
  abbrev own : Worker
  own = worker_at s w

  abbrev got : Option ℕ
  got = got_of s.sizes s.cells (touch_at s w)

  rows_to : reply_of s (Turn w) ≡ Answered RowsSpent → OutOfRows s w
  rows_to e =
      let a = answered_is (turn_refused s w) (answer_at s w) RowsSpent e in
      let l : w < s.sizes.workers = ltb-true w s.sizes.workers (refused_none (ltb w s.sizes.workers) (is_idle own.place) a.0).0 in
      let x : next_at s w ≡ next.Moved (Break RowsSpent) = rows_next s.sizes.keys own (hand_at s w) (next_at s w) a.1 in
      let r = rows_place own.place (hand_at s w) got x in
      let k : Kind = change_kind r.change in
      let none : row_at s.sizes k w (linked_of own k) ≡ None = ap (λ p. spare_for s.sizes w own (link_kind p)) (sym r.at_link) ∙ r.none in
      record {
        within = l;
        change = r.change;
        head = r.head;
        at_link = r.at_link;
        all_linked = omega (arith, no_next s.sizes k w (linked_of own k) none l, (n.each w).rows k);
      }

  rows_from : OutOfRows s w → reply_of s (Turn w) ≡ Answered RowsSpent
  rows_from r =
      let k : Kind = change_kind r.change in
      let none : (hand_at s w).spare ≡ None = ap (λ p. spare_for s.sizes w own (link_kind p)) r.at_link ∙ all_linked s.sizes k w (linked_of own k) r.all_linked in
      let x : next_at s w ≡ next.Moved (Break RowsSpent) = link_next own.place (hand_at s w) got r.change r.head r.at_link none in
      reply_is s w RowsSpent (accepted s w r.within (ap is_idle r.at_link)) (ap (λ y. (followed s.sizes.keys own (hand_at s w) y).answer) x)

  cells_there : 0 < length s.cells
  cells_there = has_cells s.cells (omega (arith, (n.each w).pages))

  clock_to : reply_of s (Turn w) ≡ Answered ClockSpent → OutOfClock s w
  clock_to e =
      let a = answered_is (turn_refused s w) (answer_at s w) ClockSpent e in
      let l : w < s.sizes.workers = ltb-true w s.sizes.workers (refused_none (ltb w s.sizes.workers) (is_idle own.place) a.0).0 in
      let x : next_at s w ≡ next.Moved (Break ClockSpent) = clock_next s.sizes.keys own (hand_at s w) (next_at s w) a.1 in
      let r = clock_place own.place (hand_at s w) got x in
      let none : raise_of s.cells 0 s.sizes.top ≡ None = ap (λ p. got_of s.sizes s.cells (touch_of p (hand_at s w).spare)) (sym r.at_raise) ∙ r.none in
      record {
        within = l;
        survey = r.survey;
        at_raise = r.at_raise;
        at_top = omega (arith, no_raise s.cells s.sizes.top cells_there none, n.clock);
      }

  clock_from : OutOfClock s w → reply_of s (Turn w) ≡ Answered ClockSpent
  clock_from r =
      let none : got ≡ None = ap (λ p. got_of s.sizes s.cells (touch_of p (hand_at s w).spare)) r.at_raise ∙ at_top s.cells s.sizes.top cells_there r.at_top in
      let x : next_at s w ≡ next.Moved (Break ClockSpent) = raise_next own.place (hand_at s w) got r.survey r.at_raise none in
      reply_is s w ClockSpent (accepted s w r.within (ap is_idle r.at_raise)) (ap (λ y. (followed s.sizes.keys own (hand_at s w) y).answer) x)

pub rows_spent_exactly : RowsSpentExactly
rows_spent_exactly s w n = (rows_to s w n, rows_from s w n)

pub clock_spent_exactly : ClockSpentExactly
clock_spent_exactly s w n = (clock_to s w n, clock_from s w n)

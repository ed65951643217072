-- What a turn of a snapshot or reach makes of its place and of the number of its raise.
use Rattle.std.proofs.Common.{rules, ◌≡◌, ℕ, ◌+◌, Bool, true, false, cond, ltb, eqb, not, ◌||◌, Some, None, Option, Continue, Break, refl, ap, ◌∙◌}
use Rattle.std.proofs.lemmas.Bool.{cond_both}
use Rattle.codes.specs.declared.answer.Answer.{Answer}
use Rattle.codes.specs.declared.answer.Answer.TheVariants.{ClockSpent}
use Rattle.layout.specs.Rows.{no_row}
use Rattle.layout.specs.declared.names.Field.{Field}
use Rattle.layout.specs.declared.names.Field.TheVariants.{Ins, Del}
use Rattle.places.specs.declared.mark.Mark.{Mark}
use Rattle.places.specs.declared.place.Survey.{Survey}
use Rattle.places.specs.declared.place.Survey.TheVariants.{Snapshot, Reach}
use Rattle.places.specs.declared.place.ServedPair.{ServedPair}
use Rattle.places.specs.declared.place.Job.{Job}
use Rattle.places.specs.declared.place.Job.TheVariants as job
use Rattle.places.specs.declared.place.Walk.{Walk}
use Rattle.places.specs.declared.place.Hand.{Hand}
use Rattle.places.specs.declared.place.Stage.TheVariants as stage
use Rattle.places.specs.declared.place.Purpose.TheVariants as purpose
use Rattle.places.specs.declared.place.Place.{Place}
use Rattle.places.specs.declared.place.Place.TheVariants as place
use Rattle.places.specs.Moved.{Next, Next as next}
use Rattle.places.specs.Flows.{Flow}
use Rattle.places.specs.Walks.{first_job, walked_ins}
use Rattle.places.specs.Nexts.{raise_done, settled, next_of}
use Rattle.books.specs.declared.book.Book.{Book}
use Rattle.books.specs.Books.{blank, row_of, shown_of, is_seen, with_row, joined}
use Rattle.books.specs.Serving.{go_on, serve_from, open_from}
use Rattle.books.specs.Walked.{WalkOutcome, walked_joined, joins, resolved, walked_at}
use Rattle.walks.specs.Memory.{Memory}
use Rattle.walks.specs.Walking.{hand_in, next_in}
use Rattle.walks.specs.Pages.{clear}
use Rattle.walks.specs.Surveys.{Surveyor, Going, going, turn_of}

-- a place after the raise
abbrev pub WalkPlace : Place → Type 0
WalkPlace (place.WalkHead k) = Unit {0}
WalkPlace (place.WalkOlder k r) = Unit {0}
WalkPlace (place.Settle st (purpose.Walk f k r)) = Unit {0}
WalkPlace p = ⊥

-- any answer but 41
abbrev pub NotSpent : Answer → Type 0
NotSpent ClockSpent = ⊥
NotSpent a = Unit {0}

abbrev pub WalkFlow : Flow → Type 0
WalkFlow (Continue p) = WalkPlace p
WalkFlow (Break a) = NotSpent a

abbrev WalkNext : Next → Type 0
WalkNext (next.Moved o) = WalkFlow o
WalkNext (next.Linked d r) = ⊥
WalkNext (next.Raised v t) = ⊥
WalkNext (next.Walked k r) = Unit {0}

ins_walk : (k : Walk) (r : ℕ) (h : Hand) (m : Mark) → WalkNext (walked_ins k r h m)
ins_walk k r h m = search rules

settled_walk : (f : Field) (k : Walk) (r : ℕ) (h : Hand) (m : Mark) → WalkNext (settled (purpose.Walk f k r) h m)
settled_walk Ins k r h m = ins_walk k r h m
settled_walk Del k r h m = tt

walk_next : (p : Place) → WalkPlace p → (h : Hand) (g : Option ℕ) → WalkNext (next_of p h g)
walk_next (place.WalkHead k) z h g = search rules
walk_next (place.WalkOlder k r) z h g = ins_walk k r h _
walk_next (place.Settle stage.First (purpose.Walk f k r)) z h g = search (rules, settled_walk)
walk_next (place.Settle stage.Clock (purpose.Walk f k r)) z h g = tt
walk_next (place.Settle (stage.Swap x) (purpose.Walk f k r)) z h g = tt
walk_next (place.Settle stage.Reread (purpose.Walk f k r)) z h g = settled_walk f k r h _
walk_next p z h g = absurd z

-- the end of a walk
abbrev Good : ℕ → WalkOutcome → Type 0
Good t o = WalkFlow o.out × (o.book.t ≡ t)

go_out : (v : Survey) (o : Option Job) → WalkFlow (go_on v o)
go_out Snapshot None = tt
go_out (Reach i) None = tt
go_out v (Some j) = tt

serve_out : (b : Book) (v : Survey) (n x : ℕ) → WalkFlow (serve_from b v n x)
serve_out b v n x = go_out v (open_from b v n x)

joined_t : (b : Book) (k : ℕ) → (joined b k).t ≡ b.t
joined_t b k = cond_both (ltb b.len 64) _ b (λ (x : Book). x.t ≡ b.t) (λ _. refl) (λ _. refl)

resolved_good : (b : Book) (v : Survey) (n : ℕ) (l : ServedPair) (h : Hand) → Good b.t (resolved b v n l h)
resolved_good b v n l h = cond_both (eqb h.target (row_of b l.to)) _ _ (Good b.t)
    (λ _. cond_both (joins v (shown_of b l.to)) _ _ (Good b.t) (λ _. (serve_out (joined b l.to) v n _, joined_t b l.to)) (λ _. (serve_out b v n _, refl)))
    (λ _. (serve_out b v n _, refl))

walked_good : (b : Book) (v : Survey) (j : Job) (n r : ℕ) (h : Hand) → Good b.t (walked_at b v j n r h)
walked_good b v (job.Key k) n r h = (cond_both (ltb (k + 1) n) _ _ WalkFlow (λ _. tt) (λ _. serve_out (walked_joined b k r) v n 0), joined_t (with_row b k r) k)
walked_good b v (job.Start k) n r h = cond_both (eqb r no_row) _ _ (Good b.t) (λ _. (tt, refl)) (λ _. (serve_out (walked_joined b k r) v n 0, joined_t (with_row b k r) k))
walked_good b v (job.Pair l) n r h = cond_both (eqb r no_row || not (eqb h.source (shown_of b l.from))) _ _ (Good b.t)
    (λ _. (serve_out b v n _, refl))
    (λ _. cond_both (is_seen b l.to) _ _ (Good b.t) (λ _. resolved_good b v n l h) (λ _. (tt, refl)))
walked_good b v (job.Target l e) n r h = resolved_good (with_row b l.to r) v n l h

going_good : (n : ℕ) (s : Surveyor) (h : Hand) (x : Next) → WalkNext x → WalkFlow (going n s h x).out × ((going n s h x).book.t ≡ s.book.t)
going_good n s h (next.Moved o) z = (z, refl)
going_good n s h (next.Linked d r) z = absurd z
going_good n s h (next.Raised v t) z = absurd z
going_good n s h (next.Walked k r) z = walked_good s.book k.survey k.job n r h

-- a turn after the raise
pub walk_turn : (n top : ℕ) (m : Memory) (s : Surveyor) → WalkPlace s.place → WalkFlow (turn_of n top m s).out × ((turn_of n top m s).book.t ≡ s.book.t)
walk_turn n top m s z = going_good n s (hand_in m s.book.t s.place) (next_in top m s.book.t s.place) (walk_next s.place z _ _)

-- a turn at the raise
abbrev pub raised_going : Memory → Survey → Surveyor → Bool → Going
raised_going m v s true = record { out = Continue (place.WalkHead (record { survey = v; job = first_job v })); book = blank m.clock; page = clear }
raised_going m v s false = record { out = Break ClockSpent; book = s.book; page = s.page }

pub raise_turn : (n top : ℕ) (m : Memory) (s : Surveyor) (v : Survey) → s.place ≡ place.Raise v → (t : Bool) → ltb m.clock top ≡ t → turn_of n top m s ≡ raised_going m v s t
raise_turn n top m s v e t q =
    ap (λ p. turn_of n top m (record { place = p; book = s.book; page = s.page })) e
    ∙ ap (λ x. going n (record { place = place.Raise v; book = s.book; page = s.page }) (hand_in m s.book.t (place.Raise v)) (raise_done v (cond x (Some m.clock) None))) q
    ∙ by_test t
  where
    by_test : (t : Bool) →
        going n (record { place = place.Raise v; book = s.book; page = s.page }) (hand_in m s.book.t (place.Raise v)) (raise_done v (cond t (Some m.clock) None)) ≡ raised_going m v s t
    by_test true = refl
    by_test false = refl

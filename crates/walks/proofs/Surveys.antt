-- What a worker knows of a snapshot or reach, from turn to turn.
use Rattle.std.proofs.Common.{◌≡◌, ℕ, suc, ◌<◌, ◌≤◌, Bool, true, false, cond, eqb, ltb, Some, None, refl, sym, ap, ◌⊎◌, inl, inr, arith, Continue, Break, is_some}
use Rattle.std.proofs.Math.Decide.{le_ind}
use Rattle.std.proofs.lemmas.Bool.Decides.{nat_tests}
use Rattle.codes.specs.declared.answer.Answer.{Answer}
use Rattle.codes.specs.declared.answer.Answer.TheVariants.{ClockSpent}
use Rattle.layout.specs.Rows.{no_row}
use Rattle.places.specs.declared.place.Survey.{Survey}
use Rattle.places.specs.declared.place.Survey.TheVariants.{Snapshot, Reach}
use Rattle.places.specs.declared.place.Job.{Job}
use Rattle.places.specs.declared.place.Job.TheVariants as job
use Rattle.places.specs.declared.place.Walk.{Walk}
use Rattle.places.specs.declared.place.Hand.{Hand}
use Rattle.places.specs.declared.place.Place.{Place}
use Rattle.places.specs.declared.place.Place.TheVariants as place
use Rattle.places.specs.Moved.{Next}
use Rattle.places.specs.Flows.{Flow}
use Rattle.places.specs.Walks.{first_job}
use Rattle.places.specs.Private.{job_edge, edge_row}
use Rattle.places.specs.Nexts.{raise_done}
use Rattle.books.specs.declared.book.Book.{Book}
use Rattle.books.specs.declared.book.KeyState.{KeyState}
use Rattle.books.specs.Books.{blank}
use Rattle.walks.specs.Memory.{Memory}
use Rattle.walks.specs.Courses.{Course, Laws}
use Rattle.walks.specs.Walking.{hand_in, next_in}
use Rattle.walks.specs.Pages.{Page, clear}
use Rattle.walks.specs.Surveys.{Surveyor, Going, going, turn_of, TurnDone, goes_to, SurveyFits, Surveying, Raised, RaisedFor}
use Rattle.walks.proofs.Times.{later, clock_mono}
use Rattle.walks.proofs.Walking.{Knows, at_head, at_ins, at_older, at_del, KnowsNext, goes_on, has_found, found_later, knows_later, turn_knows}
use Rattle.walks.proofs.Drafts.{draft_of, Kept, blank_key, kept_blank}
use Rattle.walks.proofs.Known.{KnowsJob}
use Rattle.walks.proofs.Later.{serving_later, job_later}
use Rattle.walks.proofs.Serves.{Ended, all_shown, part_shown, start_absent, KnowsFlow, walks_on, answers}
use Rattle.walks.proofs.Jobs.{HandOf, HandFits, found_knows}

abbrev pub walk_for : Survey → Job → Walk
walk_for v j = record { survey = v; job = j }

-- at a place of the call that began at b, at time k
pub data KnowsSurvey (c : Course) (n : ℕ) (v : Survey) (b k : ℕ) (s : Surveyor) : Type 0 where
  at_raise : s.place ≡ place.Raise v → b ≤ k → KnowsSurvey c n v b k s
  in_walk : (j : Job) → Knows c s.book.t (walk_for v j) k s.place → KnowsJob c n k v s.book s.page j → Kept s.book s.page → Raised c b s.book.t k → KnowsSurvey c n v b k s

-- an answer after the raise, or for want of clock
pub data Answered (c : Course) (n : ℕ) (v : Survey) (b k : ℕ) (book : Book) (page : Page) : Answer → Type 0 where
  with_page : {a : Answer} → Ended c n k v book page a → Kept book page → Raised c b book.t k → Answered c n v b k book page a
  clock_spent : Answered c n v b k book page ClockSpent

-- after a turn
abbrev pub KnowsAfter : Course → ℕ → Survey → ℕ → ℕ → Book → Page → Flow → Type 0
KnowsAfter c n v b k book page (Continue p) = KnowsSurvey c n v b k (record { place = p; book = book; page = page })
KnowsAfter c n v b k book page (Break a) = Answered c n v b k book page a

abbrev pub KnowsGoing : Course → ℕ → Survey → ℕ → ℕ → Going → Type 0
KnowsGoing c n v b k g = KnowsAfter c n v b k g.book g.page g.out

-- what is at hand of the edge row that a place is about
hand_of : (m : Memory) (t : ℕ) (p : Place) (e : ℕ) → edge_row p ≡ e → 0 < e → HandOf m e (hand_in m t p)
hand_of m t p e q z = rw q (rw some (record { source = refl; target = refl; weight = refl }))
  where
    some : eqb e no_row ≡ false
    some = grind (arith, nat_tests)

-- in a walk of a target the place is about the edge row of its job
target_row : (c : Course) (t k : ℕ) (w : Walk) (e : ℕ) (p : Place) → ((r : ℕ) → job_edge w.job r ≡ e) → Knows c t w k p → edge_row p ≡ e
target_row c t k w e p f at_head = f no_row
target_row c t k w e p f (at_ins st r a m b) = f no_row
target_row c t k w e p f (at_older r a m b) = f no_row
target_row c t k w e p f (at_del st r a m b s) = f r

pub raised_for : (c : Course) (n k : ℕ) (v : Survey) (b : Book) (p : Page) (a : Answer) (began : ℕ) → Ended c n k v b p a → Raised c began b.t k → RaisedFor a c began b.t k
raised_for c n k v b p a began (all_shown e s) r = r
raised_for c n k v b p a began (part_shown i e s) r = r
raised_for c n k v b p a began (start_absent i e s) r = r

-- after the raise nothing is walked yet
raise_job : (c : Course) (n : ℕ) → 0 < n → (v : Survey) → SurveyFits n v → (t k : ℕ) → KnowsJob c n k v (blank t) clear (first_job v)
raise_job c n some_key Snapshot fits t k = (
  refl,
  some_key,
  record {
    rows = λ j a. absurd (omega arith);
    rest = λ j a. ap (λ (s : KeyState). s.shown) (blank_key j 64);
    bare = λ a j. refl;
    seen = λ j a. absurd (omega arith);
    len = refl;
    queued = λ m a. absurd (omega arith);
  },
)
raise_job c n some_key (Reach i) fits t k = (
  refl,
  fits,
  record {
    keys = λ j. ap (λ (s : KeyState). s.shown) (blank_key j 64);
    unseen = λ j. ap (λ (s : KeyState). is_some s.found) (blank_key j 64);
    bare = λ a j. refl;
    len = refl;
  },
)

module _ (c : Course) (n : ℕ) (law : Laws c n) (some_key : 0 < n) (few : n ≤ 64) (v : Survey) (fits : SurveyFits n v) (began : ℕ) where
  ended_later : (k l : ℕ) (b : Book) (p : Page) (a : Answer) → k ≤ l → Ended c n k v b p a → Ended c n l v b p a
  ended_later k l b p a u (all_shown e s) = all_shown e (serving_later c n law k l u v (draft_of b p) _ s)
  ended_later k l b p a u (part_shown i e s) = part_shown i e (serving_later c n law k l u v (draft_of b p) _ s)
  ended_later k l b p a u (start_absent i e f) = start_absent i e (found_later c n law b.t k l _ _ u f)

  pub survey_later : (k l : ℕ) (s : Surveyor) → k ≤ l → KnowsSurvey c n v began k s → KnowsSurvey c n v began l s
  survey_later k l s u (at_raise e b) = at_raise e (omega arith)
  survey_later k l s u (in_walk j a w h r) = in_walk j (knows_later c n law s.book.t (walk_for v j) k l s.place u a) (job_later c n law k l u v s.book s.page j w) h (later u r)

  raise_knows : (top k : ℕ) (book : Book) (page : Page) → began ≤ k → ((c.at k).clock < top → (c.at (suc k)).clock ≡ suc (c.at k).clock) → (hand : Hand) →
      KnowsGoing c n v began (suc k) (going n (record { place = place.Raise v; book = book; page = page }) hand (raise_done v (cond (ltb (c.at k).clock top) (Some (c.at k).clock) None)))
  raise_knows top k book page b d hand = by_test (ltb (c.at k).clock top) refl
    where
      by_test : (q : Bool) → ltb (c.at k).clock top ≡ q →
          KnowsGoing c n v began (suc k) (going n (record { place = place.Raise v; book = book; page = page }) hand (raise_done v (cond q (Some (c.at k).clock) None)))
      by_test true q =
          let below : (c.at k).clock < top = grind (arith, nat_tests) in
          in_walk (first_job v) at_head (raise_job c n some_key v fits (c.at k).clock (suc k)) (kept_blank (c.at k).clock) (record { time = k; before = omega arith; was = (b, refl, d below) })
      by_test false q = clock_spent

  -- a walk goes on, or has found a row
  module _ (k : ℕ) (j : Job) (s : Surveyor) (a : KnowsJob c n k v s.book s.page j) (kept : Kept s.book s.page) (raised : Raised c began s.book.t k)
      (knows : Knows c s.book.t (walk_for v j) k s.place) where
    abbrev hand : Hand
    hand = hand_in (c.at k) s.book.t s.place

    pub now : s.book.t < (c.at k).clock
    now = omega (arith, raised.was.2, clock_mono c n law (suc raised.time) k raised.before)

    pub hand_fits : (i : Job) → j ≡ i → (r : ℕ) → KnowsJob c n k v s.book s.page i → (r ≡ no_row) ⊎ (job_edge i r ≡ edge_row s.place) → HandFits (c.at k) i r hand
    hand_fits (job.Key i) q r w o = tt
    hand_fits (job.Start i) q r w o = tt
    hand_fits (job.Pair l) q r w (inl o) = λ z. absurd (omega arith)
    hand_fits (job.Pair l) q r w (inr o) = λ z. hand_of (c.at k) s.book.t s.place r (sym o) z
    hand_fits (job.Target l e) q r w o = hand_of (c.at k) s.book.t s.place e (target_row c s.book.t k (walk_for v j) e s.place (λ x. rw q refl) knows) (w.2).row

    -- what follows when a walk has gone into the book and the page
    out_knows : (book : Book) (page : Page) (o : Flow) → book.t ≡ s.book.t → Kept book page → KnowsFlow c n k v book page o → KnowsAfter c n v began (suc k) book page o
    out_knows book page o e h (walks_on i w) = in_walk i at_head (job_later c n law k (suc k) (omega arith) v book page i w) h (rw e (later (omega arith) raised))
    out_knows book page o e h (answers x w) = with_page (ended_later k (suc k) book page x (omega arith) w) h (rw e (later (omega arith) raised))

    by_next : (x : Next) → KnowsNext c s.book.t (walk_for v j) k (suc k) (edge_row s.place) x → KnowsGoing c n v began (suc k) (going n s hand x)
    by_next x (goes_on p w) = in_walk j w (job_later c n law k (suc k) (omega arith) v s.book s.page j a) kept (later (omega arith) raised)
    by_next x (has_found r f o) =
        let w = found_knows c n law some_key few k s.book s.page kept v j r hand a f (hand_fits j refl r a o) in
        out_knows _ _ _ w.raise w.kept w.out

    pub walk_turn : (top : ℕ) → TurnDone top (c.at k) (c.at (suc k)) s → KnowsGoing c n v began (suc k) (turn_of n top (c.at k) s)
    walk_turn top d = by_next (next_in top (c.at k) s.book.t s.place) (turn_knows c n law s.book.t (walk_for v j) k now top s.place knows d)

  pub survey_turn : (top k : ℕ) (s : Surveyor) → TurnDone top (c.at k) (c.at (suc k)) s → KnowsSurvey c n v began k s → KnowsGoing c n v began (suc k) (turn_of n top (c.at k) s)
  survey_turn top k s d (at_raise e b) = at_place s.place e d
    where
      at_place : (p : Place) → p ≡ place.Raise v → TurnDone top (c.at k) (c.at (suc k)) (record { place = p; book = s.book; page = s.page }) →
          KnowsGoing c n v began (suc k) (turn_of n top (c.at k) (record { place = p; book = s.book; page = s.page }))
      at_place p e = rw e (λ d. raise_knows top k s.book s.page b d (hand_in (c.at k) s.book.t (place.Raise v)))
  survey_turn top k s d (in_walk j m a h r) = walk_turn k j s a h r m top d

module _ (c : Course) (n : ℕ) (law : Laws c n) (top : ℕ) (v : Survey) (began now : ℕ) (at : ℕ → Surveyor) (run : Surveying c n top v began now at) where
  turn : (k : ℕ) (s : Surveyor) → TurnDone top (c.at k) (c.at (suc k)) s → KnowsSurvey c n v began k s → KnowsGoing c n v began (suc k) (turn_of n top (c.at k) s)
  turn = survey_turn c n law run.some_key run.few_keys v run.fits began top

  step : (k : ℕ) → began ≤ k → k < now → KnowsSurvey c n v began k (at k) → KnowsSurvey c n v began (suc k) (at (suc k))
  step k l m a = by_turn (run.turns k l m)
    where
      by_turn : (at (suc k) ≡ at k) ⊎ ((turn_of n top (c.at k) (at k) ≡ goes_to (at (suc k))) × TurnDone top (c.at k) (c.at (suc k)) (at k)) → KnowsSurvey c n v began (suc k) (at (suc k))
      by_turn (inl e) = rw e (survey_later c n law run.some_key run.few_keys v run.fits began k (suc k) (at k) (omega arith) a)
      by_turn (inr (e, d)) = rw e at (turn k (at k) d a)

  -- what the worker knows at each time
  pub knows : (k : ℕ) → began ≤ k → k ≤ now → KnowsSurvey c n v began k (at k)
  knows k l = le_ind (λ m. m ≤ now → KnowsSurvey c n v began m (at m)) (λ z. at_raise run.starts (omega arith)) (λ m a g z. step m a (omega arith) (g (omega arith))) k l

  pub answered : began ≤ now → (a : Answer) → TurnDone top (c.at now) (c.at (suc now)) (at now) → (turn_of n top (c.at now) (at now)).out ≡ Break a →
      Answered c n v began (suc now) (turn_of n top (c.at now) (at now)).book (turn_of n top (c.at now) (at now)).page a
  answered l a d e =
      let g : Going = turn_of n top (c.at now) (at now) in
      rw e at (turn now (at now) d (knows now l (omega arith)))

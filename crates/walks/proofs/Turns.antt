-- The turns of a snapshot or reach, up to any moment.
use Rattle.std.proofs.Common.{◌≡◌, ℕ, suc, ◌+◌, ◌<◌, ◌≤◌, Bool, true, false, cond, ltb, Some, None, refl, ap, arith, Continue, Break}
use Rattle.codes.specs.declared.answer.Answer.{Answer}
use Rattle.places.specs.Touches.{job_head}
use Rattle.places.specs.declared.place.Survey.{Survey}
use Rattle.places.specs.declared.place.Survey.TheVariants.{Snapshot, Reach}
use Rattle.places.specs.declared.place.Job.{Job}
use Rattle.places.specs.declared.place.Job.TheVariants as job
use Rattle.places.specs.declared.place.Walk.{Walk}
use Rattle.places.specs.declared.place.Hand.{Hand}
use Rattle.places.specs.declared.place.Place.{Place}
use Rattle.places.specs.declared.place.Place.TheVariants as place
use Rattle.places.specs.Moved.{Next}
use Rattle.places.specs.Flows.{Flow}
use Rattle.places.specs.Walks.{first_job}
use Rattle.places.specs.Private.{edge_row}
use Rattle.places.specs.Nexts.{raise_done}
use Rattle.books.specs.declared.book.Book.{Book}
use Rattle.books.specs.Books.{blank}
use Rattle.books.specs.Serving.{pair_number}
use Rattle.walks.specs.Courses.{Course, Laws}
use Rattle.walks.specs.Walking.{hand_in, next_in}
use Rattle.walks.specs.Pages.{Page, clear}
use Rattle.walks.specs.Surveys.{Surveyor, Going, going, turn_of, TurnDone, SurveyFits, Raised}
use Rattle.walks.specs.Budgets.{sum_below, links_over}
use Rattle.walks.proofs.Times.{later}
use Rattle.walks.proofs.Walking.{Knows, at_head, KnowsNext, goes_on, has_found, knows_later, turn_knows}
use Rattle.walks.proofs.Drafts.{Draft, draft_of, walk_in, Kept}
use Rattle.walks.proofs.Known.{KnowsJob}
use Rattle.walks.proofs.Later.{job_later}
use Rattle.walks.proofs.Serves.{KnowsFlow, walks_on, answers}
use Rattle.walks.proofs.Resolves.{to_small}
use Rattle.walks.proofs.Jobs.{found_knows}
use Rattle.walks.proofs.Surveys.{walk_for, KnowsSurvey, at_raise, in_walk, hand_fits, now, KnowsGoing, survey_turn}
use Rattle.walks.proofs.Paces.{SpentPlace, SpentNext, at_place, at_end, place_later, turn_spends, place_fits}
use Rattle.walks.proofs.Costs.{Extra, key_cost, total, base, SpentFlow, before_walk, before_answer, base_mono, total_mono, serving_total, keys_fit, start_fits, more_key}
use Rattle.walks.proofs.Spends.{walked_once, pair_more, job_spent}

-- at a place of the call that began at b, at time k, after m turns
pub data SpentSurvey (c : Course) (n : ℕ) (v : Survey) (b k m : ℕ) (s : Surveyor) : Type 0 where
  raise_spent : s.place ≡ place.Raise v → m ≡ 0 → SpentSurvey c n v b k m s
  walk_spent : (j : Job) → Knows c s.book.t (walk_for v j) k s.place → KnowsJob c n k v s.book s.page j → Kept s.book s.page → Raised c b s.book.t k →
      Extra n v (draft_of s.book s.page) j → SpentPlace c k m (base c n k (draft_of s.book s.page) j) s.place → SpentSurvey c n v b k m s

-- after a turn
abbrev pub SpentAfter : Course → ℕ → Survey → ℕ → ℕ → ℕ → Book → Page → Flow → Type 0
SpentAfter c n v b k m book page (Continue p) = SpentSurvey c n v b k m (record { place = p; book = book; page = page })
SpentAfter c n v b k m book page (Break a) = m ≤ total c n k

abbrev pub SpentGoing : Course → ℕ → Survey → ℕ → ℕ → ℕ → Going → Type 0
SpentGoing c n v b k m g = SpentAfter c n v b k m g.book g.page g.out

spent_walk : (c : Course) (n k m : ℕ) (v : Survey) (d : Draft) (w : Walk) → SpentFlow c n k m v d (Continue (place.WalkHead w)) → Extra n v d w.job × (m ≤ base c n k d w.job)
spent_walk c n k m v d w (before_walk j x u) = (x, u)

spent_answer : (c : Course) (n k m : ℕ) (v : Survey) (d : Draft) (a : Answer) → SpentFlow c n k m v d (Break a) → m ≤ total c n k
spent_answer c n k m v d a (before_answer b u) = u

first_extra : (n : ℕ) (v : Survey) (d : Draft) → Extra n v d (first_job v)
first_extra n Snapshot d = tt
first_extra n (Reach i) d = tt

first_base : (c : Course) (n k : ℕ) (v : Survey) (d : Draft) → 1 ≤ base c n k d (first_job v)
first_base c n k Snapshot d = omega arith
first_base c n k (Reach i) d = omega arith

module _ (c : Course) (n : ℕ) (law : Laws c n) (some_key : 0 < n) (few : n ≤ 64) (v : Survey) (fits : SurveyFits n v) (began : ℕ) where
  pub spent_later : (k l m : ℕ) (s : Surveyor) → k ≤ l → SpentSurvey c n v began k m s → SpentSurvey c n v began l m s
  spent_later k l m s u (raise_spent e q) = raise_spent e q
  spent_later k l m s u (walk_spent j a w h r x y) =
      walk_spent j (knows_later c n law s.book.t (walk_for v j) k l s.place u a) (job_later c n law k l u v s.book s.page j w) h (later u r) x
      (place_later c n law k l m _ _ s.book.t k (walk_for v j) s.place u (base_mono c n law some_key k l (draft_of s.book s.page) j u) a y)

  no_raise : (k m : ℕ) (w : Walk) (book : Book) (page : Page) → m ≤ 1 → KnowsSurvey c n v began k (record { place = place.WalkHead w; book = book; page = page }) → w ≡ walk_for v (first_job v) →
      SpentSurvey c n v began k m (record { place = place.WalkHead w; book = book; page = page })
  no_raise k m w book page u (at_raise e b) q = absurd (grind arith)
  no_raise k m w book page u (in_walk j at_head a h r) q =
      let e : j ≡ first_job v = ap (λ (x : Walk). x.job) q in
      walk_spent j at_head a h r (rw e (first_extra n v (draft_of book page))) (rw e (omega (arith, first_base c n k v (draft_of book page))))

  -- a raise
  raise_turn : (k m : ℕ) (book : Book) (page : Page) (hand : Hand) → m ≡ 0 → (q : Bool) →
      KnowsGoing c n v began (suc k) (going n (record { place = place.Raise v; book = book; page = page }) hand (raise_done v (cond q (Some (c.at k).clock) None))) →
      SpentGoing c n v began (suc k) (suc m) (going n (record { place = place.Raise v; book = book; page = page }) hand (raise_done v (cond q (Some (c.at k).clock) None)))
  unfolding total
  raise_turn k m book page hand e true a = no_raise (suc k) (suc m) (walk_for v (first_job v)) (blank (c.at k).clock) clear (omega arith) a refl
  raise_turn k m book page hand e false a = omega arith

  module _ (k m : ℕ) (j : Job) (s : Surveyor) (a : KnowsJob c n k v s.book s.page j) (kept : Kept s.book s.page) (raised : Raised c began s.book.t k)
      (knows : Knows c s.book.t (walk_for v j) k s.place) (extra : Extra n v (draft_of s.book s.page) j) where
    abbrev hand : Hand
    hand = hand_in (c.at k) s.book.t s.place

    -- a walk goes on, or an answer
    out_spent : (book : Book) (page : Page) (o : Flow) → book.t ≡ s.book.t → Kept book page → KnowsFlow c n k v book page o → SpentFlow c n k (suc m) v (draft_of book page) o →
        SpentAfter c n v began (suc k) (suc m) book page o
    out_spent book page o e h (walks_on i w) z =
        let (x, u) = spent_walk c n k (suc m) v (draft_of book page) (walk_for v i) z in
        walk_spent i at_head (job_later c n law k (suc k) (omega arith) v book page i w) h (rw e (later (omega arith) raised)) x
        (omega (arith, u, base_mono c n law some_key k (suc k) (draft_of book page) i (omega arith)))
    out_spent book page o e h (answers x w) z = omega (arith, spent_answer c n k (suc m) v (draft_of book page) x z, total_mono c n law some_key k (suc k) (omega arith))

    by_next : (x : Next) → KnowsNext c s.book.t (walk_for v j) k (suc k) (edge_row s.place) x → SpentNext c k (suc m) (base c n k (draft_of s.book s.page) j) (job_head j) x →
        SpentGoing c n v began (suc k) (suc m) (going n s hand x)
    by_next x (goes_on p w) (at_place q u) =
        walk_spent j w (job_later c n law k (suc k) (omega arith) v s.book s.page j a) kept (later (omega arith) raised) extra
        (place_later c n law k (suc k) (suc m) _ _ s.book.t (suc k) (walk_for v j) p (omega arith) (base_mono c n law some_key k (suc k) (draft_of s.book s.page) j (omega arith)) w u)
    by_next x (has_found r f o) (at_end w q u) =
        let h = hand_fits c n law some_key few v fits began k j s a kept raised knows j refl r a o in
        let g = found_knows c n law some_key few k s.book s.page kept v j r hand a f h in
        out_spent _ _ _ g.raise g.kept g.out (job_spent c n law some_key few k (suc m) s.book s.page kept v j r hand a f h extra u)

    walk_turn_spent : (top : ℕ) → TurnDone top (c.at k) (c.at (suc k)) s → SpentPlace c k m (base c n k (draft_of s.book s.page) j) s.place →
        SpentGoing c n v began (suc k) (suc m) (turn_of n top (c.at k) s)
    walk_turn_spent top d u =
        by_next (next_in top (c.at k) s.book.t s.place)
        (turn_knows c n law s.book.t (walk_for v j) k (now c n law some_key few v fits began k j s a kept raised knows) top s.place knows d)
        (turn_spends c n law k m (base c n k (draft_of s.book s.page) j) s.book.t (walk_for v j) top s.place knows u)

  -- all that a job may take stays within the limit
  job_fits : (k : ℕ) (b : Book) (p : Page) → Kept b p → (j : Job) → KnowsJob c n k v b p j → Extra n v (draft_of b p) j →
      base c n k (draft_of b p) j + (8 + links_over c k (job_head j)) ≤ total c n k
  unfolding sum_below key_cost
  job_fits k b p kept (job.Key i) (e, l, h) x = omega (arith, keys_fit c n law some_key k (suc i) l)
  job_fits k b p kept (job.Start i) (e, l, h) x = omega (arith, start_fits c n law some_key k i l)
  job_fits k b p kept (job.Pair l) (pair, turn) x =
      omega (arith, pair_more c n law some_key few k 0 b p kept l pair v turn, serving_total c n law some_key k v (draft_of b p) (pair_number n l + 1) (omega (arith, turn.within)) x)
  job_fits k b p kept (job.Target l e) (pair, turn, lv, q) x =
      omega (
        arith,
        more_key c n law some_key k (draft_of b p) l.to 0 (pair_number n l + 1) (to_small c n law some_key few k b p kept l pair) q,
        serving_total c n law some_key k v (walk_in (draft_of b p) l.to 0) (pair_number n l + 1) (omega (arith, turn.within)) (walked_once c n law some_key few k 0 b p kept v l.to 0 x),
      )

  pub survey_fits : (k m : ℕ) (s : Surveyor) → SpentSurvey c n v began k m s → m ≤ total c n k
  unfolding total
  survey_fits k m s (raise_spent e q) = omega arith
  survey_fits k m s (walk_spent j a w h r x y) =
      omega (arith, place_fits c n law k m (base c n k (draft_of s.book s.page) j) s.book.t (walk_for v j) s.place a y, job_fits k s.book s.page h j w x)

  pub survey_turn_spent : (top k m : ℕ) (s : Surveyor) → began ≤ k → TurnDone top (c.at k) (c.at (suc k)) s → SpentSurvey c n v began k m s →
      SpentGoing c n v began (suc k) (suc m) (turn_of n top (c.at k) s)
  survey_turn_spent top k m s b d (raise_spent e q) = at_raised s.place e (survey_turn c n law some_key few v fits began top k s d (at_raise e b))
    where
      at_raised : (p : Place) → p ≡ place.Raise v → KnowsGoing c n v began (suc k) (turn_of n top (c.at k) (record { place = p; book = s.book; page = s.page })) →
          SpentGoing c n v began (suc k) (suc m) (turn_of n top (c.at k) (record { place = p; book = s.book; page = s.page }))
      at_raised p e = rw e (λ g. raise_turn k m s.book s.page (hand_in (c.at k) s.book.t (place.Raise v)) q (ltb (c.at k).clock top) g)
  survey_turn_spent top k m s b d (walk_spent j a w h r x y) = walk_turn_spent k m j s w h r a x top d y

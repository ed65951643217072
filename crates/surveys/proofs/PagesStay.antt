-- The page of a worker stays until the worker next begins a snapshot or reach.
use Rattle.std.proofs.Common.{rules, ◌≡◌, ℕ, zero, suc, ◌+◌, ◌-◌, ◌<◌, ◌≤◌, Bool, Some, None, Option, sym, refl, ap, ap₂, ◌∙◌, subst, ⊎_elim, arith}
use Rattle.std.proofs.lemmas.Bool.{cases_eq, cases_lt}
use Rattle.codes.specs.declared.answer.Answer.{Answer}
use Rattle.codes.specs.declared.refusal.Refusal.{Refusal}
use Rattle.layout.specs.declared.sizes.Sizes.{Sizes}
use Rattle.layout.specs.declared.names.Field.TheVariants.{Ins, Del}
use Rattle.layout.specs.declared.names.Cell.{Cell}
use Rattle.layout.specs.declared.names.Cell.TheVariants as cell
use Rattle.layout.specs.Layout.{Named}
use Rattle.places.specs.Marks.{pending}
use Rattle.places.specs.declared.mark.Mark.{Mark}
use Rattle.places.specs.declared.place.Survey.{Survey}
use Rattle.places.specs.declared.place.Side.TheVariants.{Source, Target}
use Rattle.places.specs.declared.place.Call.{Call}
use Rattle.places.specs.declared.place.Call.TheVariants as call
use Rattle.places.specs.declared.place.Change.{Change}
use Rattle.places.specs.declared.place.Hand.{Hand}
use Rattle.places.specs.declared.place.Stage.{Stage}
use Rattle.places.specs.declared.place.Stage.TheVariants as stage
use Rattle.places.specs.declared.place.Purpose.{Purpose}
use Rattle.places.specs.declared.place.Purpose.TheVariants as purpose
use Rattle.places.specs.declared.place.Place.{Place}
use Rattle.places.specs.declared.place.Place.TheVariants as place
use Rattle.places.specs.Moved.{Next, Next as next}
use Rattle.places.specs.Nexts.{settled, link_done, next_of}
use Rattle.places.specs.Private.{link_kind}
use Rattle.places.specs.Touches.{change_head, change_kind, settled_field, link_touch, touch_of}
use Rattle.books.specs.declared.walked.Entry.TheVariants as entry
use Rattle.machine.specs.declared.worker.Worker.{Worker}
use Rattle.machine.specs.declared.request.Reply.TheVariants as reply
use Rattle.machine.specs.States.{State}
use Rattle.machine.specs.Effects.{filled, cells_after, entered}
use Rattle.machine.specs.Turns.{worker_at, cell_at, spare_for, hand_at, touch_at, next_at, turned}
use Rattle.machine.specs.Workers.{followed}
use Rattle.machine.specs.Requests.{turn_refused, unless_refused, answered_or}
use Rattle.laws.specs.Fits.{FitChange, FitPlace}
use Rattle.laws.specs.Changes.{OnPage, next_own, number_in}
use Rattle.laws.specs.Sound.{Sound}
use Rattle.laws.proofs.Heads.{change_named}
use Rattle.laws.proofs.Puts.{Enough, swap_at, raise_at}
use Rattle.laws.proofs.Fills.{fill_at, enough_filled}
use Rattle.laws.proofs.Owned.{linked_row, next_own_lem}
use Rattle.laws.proofs.Touched.{settled_field_lem}
use Rattle.questions.specs.Graph.{Graph}
use Rattle.order.specs.Seen.{CallSight.finishes}
use Rattle.runs.specs.Runs.{RunInTime}
use Rattle.runs.specs.Views.{place_at}
use Rattle.runs.specs.Purposes.{InCall}
use Rattle.runs.specs.Seen.{page_graph, seen, open_at}
use Rattle.runs.specs.Reasons.{BegunBy, WorkerKnows, WorkerKnows.free, WorkerKnows.busy}
use Rattle.runs.specs.Sights.{AnswerAt}
use Rattle.laws.proofs.Taken.{turn_taken}
use Rattle.runs.proofs.Steps.{StepCase, StepCase.rests, StepCase.begins, StepCase.turns, sound_at, sizes_at, case_at, laws_at}
use Rattle.runs.proofs.Opens.{answer_closes}
use Rattle.walks.specs.Pages.{page_of, graph_of}
use Rattle.walks.proofs.Written.{page_stays}
use Rattle.walks.proofs.RunSurveys.{page_same}
use Rattle.walks.proofs.OpenBack.{open_back}
use Rattle.surveys.specs.Pages.{BeginsNone, PageGraphsStay}
use Rattle.surveys.proofs.PagesSeen.{same_graph}
use Rattle.runs.proofs.Knows.{runs_know as know}
use Rattle.runs.proofs.Sights.{runs_seen as sees}
use Rattle.laws.proofs.Stays.{row_no_page}

-- a place of no snapshot or reach
abbrev pub NoWalk : Place → Type 0
NoWalk (place.Raise v) = ⊥
NoWalk (place.WalkHead k) = ⊥
NoWalk (place.WalkOlder k r) = ⊥
NoWalk (place.Settle st (purpose.Walk f k r)) = ⊥
NoWalk p = Unit {0}

pub no_walk : (p : Place) → ((v : Survey) → ¬ (InCall p (call.Survey v))) → NoWalk p
no_walk (place.Raise v) n = n v refl
no_walk (place.WalkHead k) n = n k.survey refl
no_walk (place.WalkOlder k r) n = n k.survey refl
no_walk (place.Settle st (purpose.Walk f k r)) n = n k.survey refl
no_walk (place.Settle st p) n = tt
no_walk p n = tt

-- what follows writes nothing into a page
abbrev pub WritesNone : Next → Type 0
WritesNone (next.Moved o) = Unit {0}
WritesNone (next.Linked d r) = Unit {0}
WritesNone (next.Raised v t) = ⊥
WritesNone (next.Walked k r) = ⊥

entry_none : (n : ℕ) (v : Worker) (h : Hand) (x : Next) → WritesNone x → (followed n v h x).entry ≡ entry.Nothing
entry_none n v h (next.Moved o) z = refl
entry_none n v h (next.Linked d r) z = refl
entry_none n v h (next.Raised s t) z = absurd z
entry_none n v h (next.Walked k r) z = absurd z

settled_none : (st : Stage) (q : Purpose) → NoWalk (place.Settle st q) → (h : Hand) (m : Mark) → WritesNone (settled q h m)
settled_none st (purpose.Look Ins l r) n h m = tt
settled_none st (purpose.Look Del l r) n h m = tt
settled_none st (purpose.Own f c r) n h m = tt
settled_none st (purpose.LostDel c r) n h m = tt
settled_none st (purpose.WinnerIns i r) n h m = tt
settled_none st (purpose.SourceAgain o b) n h m = tt
settled_none st (purpose.CheckAgain Source o b f) n h m = tt
settled_none st (purpose.CheckAgain Target o b f) n h m = tt
settled_none st (purpose.Compare Source b f e x) n h m = tt
settled_none st (purpose.Compare Target b f e x) n h m = tt
settled_none st (purpose.Walk f k r) n h m = absurd n

link_none : (c : Change) (o : Option ℕ) (d : Bool) → WritesNone (link_done c o d)
link_none c None d = tt
link_none c (Some r) d = search rules

pub next_none : (p : Place) (h : Hand) (g : Option ℕ) → NoWalk p → WritesNone (next_of p h g)
next_none place.Idle h g n = tt
next_none (place.Head l) h g n = search rules
next_none (place.Settle stage.First q) h g n = search (rules, settled_none)
next_none (place.Settle stage.Clock q) h g n = tt
next_none (place.Settle (stage.Swap m) q) h g n = tt
next_none (place.Settle stage.Reread q) h g n = settled_none stage.Reread q n h _
next_none (place.Link c o) h g n = link_none c h.spare _
next_none (place.End c r) h g n = tt
next_none (place.LostHead i) h g n = tt
next_none (place.Raise v) h g n = absurd n
next_none (place.WalkHead k) h g n = absurd n
next_none (place.WalkOlder k r) h g n = absurd n

-- the operation of a turn leaves the cells of pages
module _ (s : State) (w : ℕ) (c : Cell) (v : ℕ) (o : OnPage v c) (m : Named s.sizes c) (l : Enough s.sizes s.cells) where
  abbrev P : ℕ → Type 0
  P y = y ≡ number_in s c

  linked_same : (d : Change) (h : ℕ) → FitChange s d → (x : Option ℕ) → next_own s w (change_kind d) ≡ x → P (cell_at s.sizes (cells_after s.sizes s.cells (link_touch d h x)) c)
  linked_same d h f None q = refl
  linked_same d h f (Some r) q =
      swap_at s.sizes P (filled s.sizes s.cells d h r) (cell.Head (change_head d)) c h r m (change_named s d f) (enough_filled s.sizes s.cells d h r l)
      (λ e x. absurd (subst (OnPage v) e o))
      (fill_at s.sizes s.cells d h r (next_own_lem s w (change_kind d) r q).0 l P c m (λ a y. absurd (row_no_page (change_kind d) r v c a o)) refl)

  touched_same : (p : Place) → FitPlace s p → P (cell_at s.sizes (cells_after s.sizes s.cells (touch_of p (spare_for s.sizes w (worker_at s w) (link_kind p)))) c)
  touched_same (place.Settle (stage.Swap n) p) f =
      let q = settled_field_lem s p f in
      swap_at s.sizes P s.cells (settled_field p) c pending n m q.named l (λ i x. absurd (subst (OnPage v) (i ∙ q.is) o)) refl
  touched_same (place.Settle st p) f = refl
  touched_same (place.Link d h) f = linked_same d h f.0 (next_own s w (change_kind d)) refl
  touched_same (place.End d r) f =
      swap_at s.sizes P s.cells (cell.Stamp (change_kind d) Del r) c 0 pending m (linked_row s (change_kind d) r f.1.linked) l (λ i x. absurd (subst (OnPage v) i o)) refl
  touched_same (place.Raise x) f =
      raise_at s.sizes P s.cells cell.Clock c s.sizes.top m tt l (λ i b. absurd (subst (OnPage v) i o)) refl
  touched_same p f = refl

  turned_same : FitPlace s (worker_at s w).place → NoWalk (worker_at s w).place → P (number_in (turned s w) c)
  turned_same f n =
      ap (λ e. cell_at s.sizes (entered s.sizes w (cells_after s.sizes s.cells (touch_at s w)) e) c)
      (entry_none s.sizes.keys (worker_at s w) (hand_at s w) (next_at s w) (next_none (worker_at s w).place (hand_at s w) _ n))
      ∙ touched_same (worker_at s w).place f

pub same_place : (p : Place) (c d : Call) → InCall p c → InCall p d → c ≡ d
same_place place.Idle c d a b = absurd a
same_place (place.Head x) c d a b = sym a ∙ b
same_place (place.Settle st x) c d a b = sym a ∙ b
same_place (place.Link x h) c d a b = sym a ∙ b
same_place (place.End x r) c d a b = sym a ∙ b
same_place (place.LostHead i) c d a b = sym a ∙ b
same_place (place.Raise v) c d a b = sym a ∙ b
same_place (place.WalkHead k) c d a b = sym a ∙ b
same_place (place.WalkOlder k r) c d a b = sym a ∙ b

taken : (r : Option Refusal) (x : Option Answer) (a : Answer) → answered_or (unless_refused r x) ≡ reply.Answered a → r ≡ None
taken None x a e = refl
taken (Some y) x a e = absurd cc

module _ (R : RunInTime) (w f : ℕ) (a : Answer) (g : Graph) (finished : seen R f ≡ finishes w a g) where
  pub at : AnswerAt R f w a g
  at = (sees R).finished f w a g finished

  pub inside : w < R.sizes.workers
  inside = subst (λ (z : Sizes). w < z.workers) (sizes_at R f) (turn_taken (R.state f) w (taken (turn_refused (R.state f) w) _ a at.reply))

  closed : open_at R (suc f) w ≡ None
  closed = answer_closes R f w at.asked a at.reply

  -- a call that the worker has open later was begun later
  begun_later : (k b : ℕ) → suc f ≤ k → b < k → open_at R k w ≡ Some b → suc f ≤ b
  begun_later k b l m o = ⊎_elim (λ (u : b < suc f). absurd (let x : None ≡ Some b = sym closed ∙ open_back R w b k o (suc f) u l in cc)) (λ (u : suc f ≤ b). u) (cases_lt b (suc f))

  module _ (k : ℕ) (l : suc f ≤ k) (none : BeginsNone R w (suc f) k) where
    -- so it is no snapshot or reach
    pub not_survey : (v : Survey) → ¬ (InCall (place_at R k w) (call.Survey v))
    not_survey v i = by_worker ((know R).workers k w inside)
      where
        by_worker : WorkerKnows R k w → ⊥
        by_worker (free o e) = subst (λ p. InCall p (call.Survey v)) e i
        by_worker (busy b c o by j n) =
            let q : c ≡ call.Survey v = same_place (place_at R k w) c (call.Survey v) j i in
            none b v (begun_later k b l by.before o) by.before ((sees R).begun k w b (call.Survey v) (subst (BegunBy R k w b) q by))

    good : Sound (R.state k)
    good = sound_at R k

    there : w < (R.state k).sizes.workers
    there = subst (λ (z : Sizes). w < z.workers) (sym (sizes_at R k)) inside

    pub page_next : page_of (R.state (suc k)) w ≡ page_of (R.state k) w
    page_next = by_case (case_at R k)
      where
        s : State
        s = R.state k

        own_page : page_of (turned s w) w ≡ page_of s w
        own_page =
            let n = no_walk (place_at R k w) not_survey in
            let p = good.places w there in
            page_stays s.sizes w there s.cells (turned s w).cells
            (λ i u. turned_same s w (cell.PageKey w i) w refl (there, u) good.cells p n)
            (λ i j u x. turned_same s w (cell.PagePair w i j) w refl (there, u, x) good.cells p n)

        by_case : StepCase s (R.request k) (R.state (suc k)) → page_of (R.state (suc k)) w ≡ page_of s w
        by_case (rests q e) = page_same s (R.state (suc k)) e w
        by_case (begins b d q t q' e) = ap (λ t. page_of t w) e
        by_case (turns u q n q' e) = ⊎_elim
            (λ (x : u ≡ w). ap (λ t. page_of t w) (e ∙ ap (turned s) x) ∙ own_page)
            (λ (x : ¬ (u ≡ w)). ap (λ t. page_of t w) e ∙
            (let law = laws_at R k u q n e in
            page_stays s.sizes w there s.cells (turned s u).cells
            (λ i h. law.pages w (cell.PageKey w i) (there, h) refl (λ y. x (sym y)))
            (λ i j h y. law.pages w (cell.PagePair w i j) (there, h, y) refl (λ z. x (sym z)))))
            (cases_eq u w)

  page_later : (d : ℕ) → BeginsNone R w (suc f) (suc f + d) → page_of (R.state (suc f + d)) w ≡ page_of (R.state (suc f)) w
  page_later zero none = ap (λ k. page_of (R.state k) w) (omega arith)
  page_later (suc d) none =
      let less : BeginsNone R w (suc f) (suc f + d) = λ t v l m. none t v l (omega arith) in
      ap (λ k. page_of (R.state k) w) (let e : suc f + suc d ≡ suc (suc f + d) = omega arith in e) ∙ page_next (suc f + d) (omega arith) less ∙ page_later d less

  graph_same : (j k : ℕ) → page_of (R.state j) w ≡ page_of (R.state k) w → page_graph (R.state j) w ≡ page_graph (R.state k) w
  graph_same j k e =
      same_graph (R.state j) w
      ∙ ap₂ (λ (z : Sizes) p. graph_of z.keys p) (sizes_at R j ∙ sym (sizes_at R k)) e
      ∙ sym (same_graph (R.state k) w)

  stays : (k : ℕ) → f < k → BeginsNone R w (suc f) k → page_graph (R.state k) w ≡ g
  stays k l none =
      let e : suc f + (k - suc f) ≡ k = omega arith in
      let p : page_of (R.state k) w ≡ page_of (R.state (suc f)) w = subst (λ j. page_of (R.state j) w ≡ page_of (R.state (suc f)) w) e (page_later (k - suc f) (subst (BeginsNone R w (suc f)) (sym e) none)) in
      graph_same k (suc f) p ∙ sym at.page

pub pages_stay : PageGraphsStay
pages_stay R w f k a g finished l none = stays R w f a g finished k l none

-- A finished page stays as it was at its answer, until its worker begins a snapshot or reach.
use Rattle.std.proofs.Common.{◌≡◌, ℕ, zero, suc, ◌+◌, ◌-◌, ◌<◌, ◌≤◌, true, false, cond, List, [], ◌∷◌, length, get_or, drop, Some, None, Ok, Option, refl, sym, ◌∙◌, ap, ap₂, subst, inl, inr, arith, length-drop}
use Rattle.std.proofs.lemmas.List.{get_or-take, get_or-drop, length-take}
use Rattle.std.proofs.lemmas.Bool.{cases_eq, cases_Bool, eq-eqb, ne_eqb}
use Rattle.layout.specs.declared.sizes.Sizes.{Sizes}
use Rattle.layout.specs.declared.names.Cell.{Cell}
use Rattle.layout.specs.Layout.{Named, needed, page_size, page_start}
use Rattle.layout.proofs.Regions.{index_lt}
use Rattle.layout.specs.declared.names.Kind.{Kind}
use Rattle.layout.specs.declared.names.Cell.TheVariants as cell
use Rattle.codes.specs.declared.answer.Answer.{Answer}
use Rattle.places.specs.declared.call.Begin.{Begin}
use Rattle.places.specs.declared.place.Op.TheVariants.{Add, Remove}
use Rattle.places.specs.declared.place.Survey.{Survey}
use Rattle.places.specs.declared.place.Call.{Call}
use Rattle.places.specs.declared.place.Call.TheVariants as call
use Rattle.places.specs.declared.place.Purpose.{Purpose}
use Rattle.places.specs.declared.place.Purpose.TheVariants as purpose
use Rattle.places.specs.declared.place.Place.{Place}
use Rattle.places.specs.declared.place.Place.TheVariants as place
use Rattle.places.specs.Touches.{settled_field}
use Rattle.places.specs.Calls.{call_named}
use Rattle.machine.specs.declared.request.Request.{Request}
use Rattle.machine.specs.declared.request.Request.TheVariants as request
use Rattle.machine.specs.declared.request.Reply.{Reply}
use Rattle.machine.specs.declared.request.Reply.TheVariants as reply
use Rattle.machine.specs.declared.worker.Worker.{Worker}
use Rattle.machine.specs.States.{State}
use Rattle.machine.specs.Turns.{worker_at, cell_at, answer_at, turned}
use Rattle.machine.specs.Workers.{finishes}
use Rattle.machine.specs.Requests.{call_to_begin, state_begun, answered_or, reply_of}
use Rattle.laws.specs.Changes.{OnPage, OfRow, Surveys, Changes, Changes.keeps, Changes.ticks, Changes.links, Changes.stamps, Changes.ends, Changes.fills, Changes.writes}
use Rattle.laws.proofs.Pages.{page_cell_lem}
use Rattle.order.specs.Seen as timed
use Rattle.runs.specs.Runs.{RunInTime, history_at}
use Rattle.runs.specs.Views.{place_at}
use Rattle.runs.specs.Seen.{open_at, page_graph as masked, sight_of as timed_sight}
use Rattle.runs.specs.Purposes.{InCall, change_op}
use Rattle.runs.specs.Reasons.{BegunBy, WorkerKnows, WorkerKnows.free, WorkerKnows.busy}
use Rattle.runs.proofs.Histories.{traced}
use Rattle.runs.proofs.Turns.{others_after}
use Rattle.laws.proofs.Taken.{begin_taken, begun_others}
use Rattle.runs.proofs.Opens.{begin_opens, runs_keeps, answer_closes}
use Rattle.runs.proofs.Steps.{StepCase, StepCase.rests as rest, StepCase.begins, StepCase.turns, sound_at, sizes_at, case_at, here, within}
use Rattle.promise.specs.Sights.{Sight.begins, Sight.turns, page_in}
use Rattle.promise.specs.Promise.{is_survey, page_after, finished_page}
use Rattle.promise.specs.Bridges.{shown_at, RunsKeepPages}
use Rattle.promise.proofs.Bridges.{sight_at}
use Rattle.promise.proofs.Deeds.{Taken, changes_at}
use Rattle.promise.proofs.DeedRuns.{opened_at, same_begin, sight_is, sight_in, rest_seen}
use Rattle.laws.proofs.Runs.{runs_keep_laws as keep}
use Rattle.runs.proofs.Knows.{runs_know as know}
use Rattle.runs.proofs.Sights.{runs_seen as seen}
use Rattle.walks.proofs.RunSurveys.{look_none, change_none}

same_lists : (xs ys : List ℕ) → length xs ≡ length ys → ((i : ℕ) → i < length xs → get_or xs i 0 ≡ get_or ys i 0) → xs ≡ ys
same_lists [] [] e h = refl
same_lists [] (y ∷ ys) e h = absurd (omega arith)
same_lists (x ∷ xs) [] e h = absurd (omega arith)
same_lists (x ∷ xs) (y ∷ ys) e h = ap₂ (λ (a : ℕ) (l : List ℕ). a ∷ l) (h 0 (omega arith)) (same_lists xs ys (omega arith) (λ i l. h (suc i) (omega arith)))

no_page_field : (w : ℕ) (p : Purpose) → OnPage w (settled_field p) → ⊥
no_page_field w (purpose.Look f l r) o = o
no_page_field w (purpose.Own f c r) o = o
no_page_field w (purpose.LostDel c r) o = o
no_page_field w (purpose.WinnerIns i r) o = o
no_page_field w (purpose.SourceAgain q b) o = o
no_page_field w (purpose.CheckAgain s q b f) o = o
no_page_field w (purpose.Compare s b f e x) o = o
no_page_field w (purpose.Walk f k r) o = o

no_page_row : (w : ℕ) (k : Kind) (r : ℕ) (c : Cell) → OnPage w c → OfRow k r c → ⊥
no_page_row w k r (cell.PageKey v i) o f = f
no_page_row w k r (cell.PagePair v i j) o f = f
no_page_row w k r c o f = o

module _ (z : Sizes) (w : ℕ) (within : w < z.workers) where
  -- the cells of a page lie among the needed ones
  page_room : (cells : List ℕ) → needed z ≤ length cells → (o : ℕ) → o < page_size z → page_start z w + o < length cells
  page_room cells l o h = let p = page_cell_lem z w o within h in omega (arith, p.lies, index_lt z p.name p.named)

  page_length : (cells : List ℕ) → needed z ≤ length cells → length (page_in z cells w) ≡ page_size z
  page_length cells l = elim (cases_eq (page_size z) 0) [
    | inl q ↦ omega (arith, length-take (page_size z) (drop (page_start z w) cells))
    | inr q ↦ (let r = page_room cells l (page_size z - 1) (omega arith) in omega (arith, length-take (page_size z) (drop (page_start z w) cells), length-drop (page_start z w) cells))
  ]

  read_page : (cells : List ℕ) → needed z ≤ length cells → (o : ℕ) (h : o < page_size z) → get_or (page_in z cells w) o 0 ≡ cell_at z cells (page_cell_lem z w o within h).name
  read_page cells l o h = get_or-take (page_size z) (drop (page_start z w) cells) o 0 h ∙ get_or-drop (page_start z w) cells o 0 ∙ ap (λ i. get_or cells i 0) (sym (page_cell_lem z w o within h).lies)

  -- pages whose cells hold the same are the same
  pub same_page : (a b : List ℕ) → needed z ≤ length a → needed z ≤ length b → ((c : Cell) → Named z c → OnPage w c → cell_at z a c ≡ cell_at z b c) → page_in z a w ≡ page_in z b w
  same_page a b l m h = same_lists (page_in z a w) (page_in z b w) (page_length a l ∙ sym (page_length b m))
      (λ i k. (let q : i < page_size z = omega (arith, page_length a l) in let p = page_cell_lem z w i within q in read_page a l i q ∙ h p.name p.named p.on ∙ sym (read_page b m i q)))

-- what a snapshot or reach is, by its place and by its call
pub survey_call : (p : Place) (c : Call) → InCall p c → Surveys p → (v : Survey) × (c ≡ call.Survey v)
survey_call (place.Settle st (purpose.Walk f k r)) c i q = (k.survey, sym i)
survey_call (place.Raise v) c i q = (v, sym i)
survey_call (place.WalkHead k) c i q = (k.survey, sym i)
survey_call (place.WalkOlder k r) c i q = (k.survey, sym i)
survey_call p c i q = absurd q

pub place_surveys : (p : Place) (v : Survey) → InCall p (call.Survey v) → Surveys p
place_surveys place.Idle v i = absurd i
place_surveys (place.Head l) v i = absurd (look_none l v i)
place_surveys (place.Settle st (purpose.Walk f k r)) v i = tt
place_surveys (place.Settle st (purpose.Look f l r)) v i = absurd (look_none l v i)
place_surveys (place.Settle st (purpose.Own f c r)) v i = absurd (change_none c (change_op f) v i)
place_surveys (place.Settle st (purpose.LostDel c r)) v i = absurd (change_none c Remove v i)
place_surveys (place.Settle st (purpose.WinnerIns j r)) v i = absurd cc
place_surveys (place.Settle st (purpose.SourceAgain o b)) v i = absurd cc
place_surveys (place.Settle st (purpose.CheckAgain s o b f)) v i = absurd cc
place_surveys (place.Settle st (purpose.Compare s b f e x)) v i = absurd cc
place_surveys (place.Link d h) v i = absurd (change_none d Add v i)
place_surveys (place.End d r) v i = absurd (change_none d Remove v i)
place_surveys (place.LostHead j) v i = absurd cc
place_surveys (place.Raise u) v i = tt
place_surveys (place.WalkHead k) v i = tt
place_surveys (place.WalkOlder k r) v i = tt

-- a sight leaves the finished page of a worker, or ends that it is finished, or finishes it
is_survey_of : (c : Call) → is_survey c ≡ false → (v : Survey) → ¬ (c ≡ call.Survey v)
is_survey_of (call.Vertex o i) e v f = absurd cc
is_survey_of (call.Edge o p) e v f = absurd cc
is_survey_of (call.Survey u) e v f = absurd (let x : true ≡ false = e in cc)

module _ (R : RunInTime) where
  -- a worker whose page is finished: it shows what it showed, and the worker is in no snapshot or reach
  pub record PageKept (k w : ℕ) (page : List ℕ) : Type 0 where
    pub within : w < R.sizes.workers
    pub same : page_in R.sizes (R.state k).cells w ≡ page
    pub out : ¬ (Surveys (place_at R k w))

  abbrev room : ℕ → Type 0
  room k = needed R.sizes ≤ length (R.state k).cells

  room_at : (k : ℕ) → room k
  room_at k = subst (λ z. needed z ≤ length (R.state k).cells) (sizes_at R k) (sound_at R k).cells

  -- a step that leaves the worker's place and the cells of its page
  keeps_on : (k w : ℕ) (page : List ℕ) → PageKept k w page → place_at R (suc k) w ≡ place_at R k w →
      ((c : Cell) → Named R.sizes c → OnPage w c → cell_at R.sizes (R.state (suc k)).cells c ≡ cell_at R.sizes (R.state k).cells c) → PageKept (suc k) w page
  keeps_on k w page p e h = record {
    within = p.within;
    same = same_page R.sizes w p.within (R.state (suc k)).cells (R.state k).cells (room_at (suc k)) (room_at k) h ∙ p.same;
    out = λ q. p.out (subst Surveys e q);
  }

  -- a turn of the worker itself, in no snapshot or reach: its page stays
  own_page : (k w : ℕ) (t : Taken R k w) → ¬ (Surveys (place_at R k w)) → (c : Cell) → Named R.sizes c → OnPage w c → cell_at R.sizes (R.state (suc k)).cells c ≡ cell_at R.sizes (R.state k).cells c
  own_page k w t n c m o = go (cell_at R.sizes (R.state k).cells c) (cell_at R.sizes (R.state (suc k)).cells c) (changes_at R k w t c m)
    where
      go : (x y : ℕ) → Changes (R.state k) w c x y → y ≡ x
      go x y (keeps e) = e
      go x y (ticks v e i b q) = absurd (subst (OnPage w) i o)
      go x y (links d e i p) = absurd (subst (OnPage w) i o)
      go x y (stamps p e i q) = absurd (no_page_field w p (subst (OnPage w) i o))
      go x y (ends d r e i p q) = absurd (subst (OnPage w) i o)
      go x y (fills j r p i b) = absurd (no_page_row w j r c o i)
      go x y (writes i q) = absurd (n q)

  -- another worker's turn leaves the place and the page
  other_turn : (k u w : ℕ) (page : List ℕ) (t : Taken R k u) → ¬ (w ≡ u) → PageKept k w page → PageKept (suc k) w page
  other_turn k u w page t n p =
      let l = here R k u t.asked t.accepted t.next in
      let laws = keep (R.state 0) R.clean (history_at R k) (R.state k) (traced R k) u l in
      let pages = subst (λ z. (c : Cell) → Named z c → OnPage w c → cell_at z (turned (R.state k) u).cells c ≡ cell_at z (R.state k).cells c) (sizes_at R k) (λ c m o. laws.pages w c m o n) in
      keeps_on k w page p
      (ap (λ s. (worker_at s w).place) t.next ∙ ap (λ (v : Worker). v.place) (others_after (R.state k) u (sound_at R k) l w n))
      (λ c m o. ap (λ (s : State). cell_at R.sizes s.cells c) t.next ∙ pages c m o)

  -- a worker that answers is idle
  pub idle_after : (k u : ℕ) (t : Taken R k u) (a : Answer) → answer_at (R.state k) u ≡ Some a → place_at R (suc k) u ≡ place.Idle
  idle_after k u t a e = go ((know R).workers (suc k) u t.within)
    where
      closed : open_at R (suc k) u ≡ None
      closed = answer_closes R k u t.asked a (ap (reply_of (R.state k)) (sym t.asked) ∙ t.reply ∙ ap (λ a. answered_or (Ok a)) e)

      go : WorkerKnows R (suc k) u → place_at R (suc k) u ≡ place.Idle
      go (free o i) = i
      go (busy b c o g i n) = absurd (let f : None ≡ Some b = sym closed ∙ o in cc)

  idle_out : (k w : ℕ) → place_at R k w ≡ place.Idle → ¬ (Surveys (place_at R k w))
  idle_out k w e q = subst Surveys e q

  -- a turn that does not answer stays in its call
  own_out : (k u : ℕ) (t : Taken R k u) → answer_at (R.state k) u ≡ None → ¬ (Surveys (place_at R k u)) → ¬ (Surveys (place_at R (suc k) u))
  own_out k u t e out q = go ((know R).workers (suc k) u t.within)
    where
      opens : open_at R (suc k) u ≡ open_at R k u
      opens = runs_keeps R k u t.asked u (ap (reply_of (R.state k)) (sym t.asked) ∙ t.reply ∙ ap (λ a. answered_or (Ok a)) e)

      go : WorkerKnows R (suc k) u → ⊥
      go (free o i) = subst Surveys i q
      go (busy b c o g i n) = (
          let (v, is) = survey_call (place_at R (suc k) u) c i q in
          let was = opened_at R k u b t.within (sym opens ∙ o) in
          let same = (same_begin R was.begun g).1 in
          out (place_surveys (place_at R k u) v (subst (InCall (place_at R k u)) (same ∙ is) was.place)))

  own_turn : (k u : ℕ) (page : List ℕ) (t : Taken R k u) → PageKept k u page → ¬ (Surveys (place_at R (suc k) u)) → PageKept (suc k) u page
  own_turn k u page t p out = record {
    within = p.within;
    same = same_page R.sizes u p.within (R.state (suc k)).cells (R.state k).cells (room_at (suc k)) (room_at k) (own_page k u t p.out) ∙ p.same;
    out = out;
  }

  -- a begin
  module _ (k : ℕ) (b : Begin) (c : Call) (q : R.request k ≡ request.Begin b) (a : call_to_begin (R.state k) b ≡ Ok c) (f : reply_of (R.state k) (R.request k) ≡ reply.Done) (s : R.state (suc k) ≡ state_begun (R.state k) b.worker (Ok c)) where
    pub begun_by : BegunBy R (suc k) b.worker k c
    begun_by = record { before = omega arith; begin = b; asked = q; worker = refl; call = a }

    pub is_named : c ≡ call_named b
    is_named =
        let x : timed.CallSight.begins b.worker (call_named b) ≡ timed.CallSight.begins b.worker c = sym (ap₂ (λ q r. timed_sight (masked (R.state (suc k))) q r) q f) ∙ (seen R).begun (suc k) b.worker k c begun_by in cc

    begin_out : is_survey (call_named b) ≡ false → ¬ (Surveys (place_at R (suc k) b.worker))
    begin_out e q2 =
        let l = (begin_taken (R.state k) b c a).within in
        let within : b.worker < R.sizes.workers = subst (λ (z : Sizes). b.worker < z.workers) (sizes_at R k) l in
        let o = opened_at R (suc k) b.worker k within (begin_opens R k b q (ap (reply_of (R.state k)) (sym q) ∙ f)) in
        let (v, is) = survey_call (place_at R (suc k) b.worker) o.call o.place q2 in
        is_survey_of (call_named b) e v (sym is_named ∙ (same_begin R begun_by o.begun).1 ∙ is)

    begin_cells : (w : ℕ) (d : Cell) → Named R.sizes d → OnPage w d → cell_at R.sizes (R.state (suc k)).cells d ≡ cell_at R.sizes (R.state k).cells d
    begin_cells w d m o = ap (λ (s : State). cell_at R.sizes s.cells d) s

    begin_kept : (w : ℕ) (page : List ℕ) (before : Option (List ℕ)) → (before ≡ Some page → PageKept k w page) → page_after (begins b.worker (call_named b)) w before ≡ Some page → PageKept (suc k) w page
    begin_kept w page before earlier e = elim (cases_eq b.worker w) [
      | inl i ↦ (let d : cond (is_survey (call_named b)) None before ≡ Some page = rw (eq-eqb b.worker w i) at e in elim (cases_Bool (is_survey (call_named b))) [
        | inl y ↦ absurd (let x : None ≡ Some page = rw y at d in cc)
        | inr y ↦ (let p = earlier (rw y at d) in record {
          within = p.within;
          same = same_page R.sizes w p.within (R.state (suc k)).cells (R.state k).cells (room_at (suc k)) (room_at k) (begin_cells w) ∙ p.same;
          out = subst (λ w. ¬ (Surveys (place_at R (suc k) w))) i (begin_out y);
        })
      ])
      | inr i ↦ keeps_on k w page (earlier (rw (ne_eqb b.worker w i) at e))
          (ap (λ s. (worker_at s w).place) s ∙ ap (λ (v : Worker). v.place) (begun_others (R.state k) (sound_at R k) b.worker (begin_taken (R.state k) b c a).within c w (λ j. i (sym j))))
          (begin_cells w)
    ]

  -- an accepted turn
  turn_kept : (k u w : ℕ) (page : List ℕ) (before : Option (List ℕ)) (t : Taken R k u) → (before ≡ Some page → PageKept k w page) →
      (x : Option Answer) → answer_at (R.state k) u ≡ x → page_after (sight_in R k (request.Turn u) (answered_or (Ok x))) w before ≡ Some page → PageKept (suc k) w page
  turn_kept k u w page before t earlier None a e = elim (cases_eq w u) [
    | inl i ↦ (let p = subst (λ w. PageKept k w page) i (earlier e) in subst (λ w. PageKept (suc k) w page) (sym i) (own_turn k u page t p (own_out k u t a p.out)))
    | inr i ↦ other_turn k u w page t i (earlier e)
  ]
  turn_kept k u w page before t earlier (Some x) a e = elim (cases_eq w u) [
    | inl i ↦ (let d : cond (finishes x) (Some (page_in R.sizes (R.state (suc k)).cells u)) before ≡ Some page = rw (eq-eqb u w (sym i)) at e in
        let out = idle_out (suc k) u (idle_after k u t x a) in
        subst (λ w. PageKept (suc k) w page) (sym i) (elim (cases_Bool (finishes x)) [
          | inl y ↦ (let z : Some (page_in R.sizes (R.state (suc k)).cells u) ≡ Some page = rw y at d in record { within = t.within; same = cc; out = out })
          | inr y ↦ (let p = earlier (rw y at d) in own_turn k u page t (subst (λ w. PageKept k w page) i p) out)
        ]))
    | inr i ↦ other_turn k u w page t i (earlier (rw (ne_eqb u w (λ j. i (sym j))) at e))
  ]

  page_next : (k w : ℕ) (page : List ℕ) → (finished_page (shown_at R k).sights w ≡ Some page → PageKept k w page) → page_after (sight_at R k) w (finished_page (shown_at R k).sights w) ≡ Some page → PageKept (suc k) w page
  page_next k w page earlier e = go (case_at R k)
    where
      before : Option (List ℕ)
      before = finished_page (shown_at R k).sights w

      told : (q : Request) (r : Reply) → R.request k ≡ q → reply_of (R.state k) (R.request k) ≡ r → page_after (sight_in R k q r) w (finished_page (shown_at R k).sights w) ≡ Some page
      told q r i f = subst (λ s. page_after s w (finished_page (shown_at R k).sights w) ≡ Some page) (sight_is R k ∙ ap₂ (λ q r. sight_in R k q r) i f) e

      go : StepCase (R.state k) (R.request k) (R.state (suc k)) → PageKept (suc k) w page
      go (rest f s) = keeps_on k w page (earlier (subst (λ s. page_after s w (finished_page (shown_at R k).sights w) ≡ Some page) (rest_seen R k f) e)) (s.workers w).place (λ c m o. ap (λ (l : List ℕ). cell_at R.sizes l c) s.rows.cells)
      go (begins b c q a f s) = begin_kept k b c q a f s w page (finished_page (shown_at R k).sights w) earlier (told (request.Begin b) reply.Done q f)
      go (turns u q n f s) = (
          let t : Taken R k u = record { asked = q; within = within R k u q n s; accepted = n; reply = f; next = s } in
          turn_kept k u w page (finished_page (shown_at R k).sights w) t earlier (answer_at (R.state k) u) refl (told (request.Turn u) (answered_or (Ok (answer_at (R.state k) u))) q f))

  pub page_kept : (k w : ℕ) (page : List ℕ) → finished_page (shown_at R k).sights w ≡ Some page → PageKept k w page
  unfolding history_at
  page_kept zero w page e = absurd (let f : None ≡ Some page = e in cc)
  page_kept (suc k) w page e = page_next k w page (page_kept k w page) e

pub pages_stay : RunsKeepPages
pages_stay R now w page e = (page_kept R now w page e).same

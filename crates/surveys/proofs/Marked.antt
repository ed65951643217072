-- The finished snapshots and reaches of a run have what the order wants of them.
use Rattle.std.proofs.Common.{◌≡◌, ℕ, suc, ◌<◌, ◌≤◌, ◌≢◌, min, Bool, true, cond, Some, None, Option, IsSome, IfSome, option_map, sym, refl, ap, ap₂, ◌∙◌, subst, subst₂, inl, inr, ⊎_elim, arith}
use Rattle.std.proofs.lemmas.Bool.{lt-ltb, cases_lt}
use Rattle.codes.specs.declared.answer.Answer.{Answer}
use Rattle.codes.specs.declared.answer.Answer.TheVariants.{ClockSpent}
use Rattle.places.specs.declared.place.Survey.{Survey}
use Rattle.places.specs.declared.place.Call.{Call}
use Rattle.places.specs.declared.place.Call.TheVariants as call
use Rattle.machine.specs.Workers as workers
use Rattle.order.specs.Past.{Finish, Past, fed_until, fed_as, fed}
use Rattle.order.specs.Keys.{Key, Fits}
use Rattle.order.specs.Marks.{Mark, Marks, MarksSound}
use Rattle.order.specs.Rows.{graph_before}
use Rattle.order.specs.Raises.{Settled, AllSettled, raise_key, RaiseMeets}
use Rattle.order.specs.Finds.{RowChange, no_change, makes_change, Finds, Finds.ends_spent}
use Rattle.order.specs.Seen.{CallSight.begins, finish_by, call_begun}
use Rattle.order.specs.Marked.{Marking, end_of, RaiseKey, Told, CallMarked}
use Rattle.runs.specs.Runs.{RunInTime}
use Rattle.runs.specs.Views.{clock_at}
use Rattle.runs.specs.Seen.{seen, open_at}
use Rattle.runs.specs.Known.{TurnOf}
use Rattle.runs.specs.Reasons.{BegunBy, AnswerRight}
use Rattle.runs.specs.Marking.{time_bound, MarksTellRun}
use Rattle.runs.specs.Sights.{AnswerAt}
use Rattle.runs.specs.VertexFinds.{turn_key}
use Rattle.walks.specs.Pages.{graph_of}
use Rattle.walks.specs.Surveys.{Says}
use Rattle.walks.specs.Turns.{goes}
use Rattle.walks.specs.Placed.{RightAtRaise}
use Rattle.walks.specs.Histories.{run_course}
use Rattle.bounds.proofs.Open.{some_same, worker_is}
use Rattle.surveys.specs.Raises.{raise_before}
use Rattle.surveys.specs.Pages.{PagesJoin}
use Rattle.surveys.specs.Marked.{run_past, run_marking, key_from, survey_key, SurveyMarked, SurveysMarked}
use Rattle.surveys.proofs.Raised.{Raised, Ended, spent, shown, ended}
use Rattle.surveys.proofs.Past.{finish_of}
use Rattle.surveys.proofs.Found.{found}
use Rattle.surveys.proofs.Joined.{says_joins, page_survey}
use Rattle.runs.proofs.Times.{runs_last as last}
use Rattle.order.proofs.Raises.{raises_show_visible as show}
use Rattle.walks.proofs.RunMarks.{runs_tell_marks as tells}
use Rattle.walks.proofs.RunAnswers.{runs_pages_right as right}
use Rattle.surveys.proofs.Raises.{runs_settle as settle}
use Rattle.surveys.proofs.PagesSeen.{pages_seen as pages}
use Rattle.runs.proofs.Knows.{runs_know as know}
use Rattle.runs.proofs.Sights.{runs_seen as sees}
use Rattle.runs.proofs.MarkSound.{runs_marked as marks}

same_begins : {v w : ℕ} {c d : Call} → begins v c ≡ begins w d → (v ≡ w) × (c ≡ d)
same_begins e = (cc, cc)

-- what is known of the call: who began it, and the turn that answered
pub record Answers (R : RunInTime) (now w b : ℕ) (v : Survey) (f : Finish) : Type 0 where
  pub inside : w < R.sizes.workers
  pub early : f.time < now
  pub begun : BegunBy R f.time w b (call.Survey v)
  pub opened : open_at R f.time w ≡ Some b
  pub at : AnswerAt R f.time w f.answer f.page

answers : (R : RunInTime) (now w b : ℕ) (v : Survey) (f : Finish) → seen R b ≡ begins w (call.Survey v) →
    finish_by (seen R) now b ≡ Some f → Answers R now w b v f
answers R now w b v f e q =
    let x = finish_of (seen R) b now f q in
    let at = (sees R).finished f.time x.worker f.answer f.page x.finished in
    let r : AnswerRight R f.time x.worker f.answer = (know R).answers f.time x.worker f.answer at.asked at.reply in
    let same : r.began ≡ b = some_same (sym r.whose ∙ x.whose) in
    let by : BegunBy R f.time x.worker b r.call = subst (λ y. BegunBy R f.time x.worker y r.call) same r.begun in
    let s = same_begins (sym ((sees R).begun f.time x.worker b r.call by) ∙ e) in
    let by' : BegunBy R f.time w b (call.Survey v) = subst₂ (λ y c. BegunBy R f.time y b c) s.0 s.1 by in
    record {
      inside = worker_is R f.time w b (call.Survey v) by';
      early = x.before;
      begun = by';
      opened = subst (λ y. open_at R f.time y ≡ Some b) s.0 x.whose;
      at = subst (λ y. AnswerAt R f.time y f.answer f.page) s.0 at;
    }

module _ (R : RunInTime) (now : ℕ) where
  clock_later : (j k : ℕ) → j ≤ k → clock_at R j ≤ clock_at R k
  clock_later j k l = ((last R).times j k l).clock

  -- changes that are settled in the run are so in its course
  settled_course : (r top : ℕ) (x : Mark) → Settled (clock_at R) r top x → Settled (λ j. clock_at R (min j now)) r top x
  settled_course r top x h l = (⊎_elim (λ (o : (x.time ≡ 0) × (x.stamp ≤ clock_at R 0)). inl (o.0, subst (λ k. x.stamp ≤ clock_at R k) (let e : 0 ≡ min 0 now = omega arith in e) o.1)) (λ (o : clock_at R x.time ≤ x.stamp). inr (omega (arith, o, clock_later (min x.time now) x.time (omega arith)))) (h l).0, (h l).1)

  all_course : (r top : ℕ) (m : Marks) → AllSettled (clock_at R) r top m → AllSettled (λ j. clock_at R (min j now)) r top m
  all_course r top m a = record {
    vertex_ins = λ v. settled_course r top (m.vertex_ins v) (a.vertex_ins v);
    vertex_del = λ v. settled_course r top (m.vertex_del v) (a.vertex_del v);
    edge_ins = λ v. settled_course r top (m.edge_ins v) (a.edge_ins v);
    edge_del = λ v. settled_course r top (m.edge_del v) (a.edge_del v);
  }

  clock_then : (j : ℕ) → j ≤ now → ((run_course R now).at j).clock ≡ clock_at R j
  clock_then j l = ap (clock_at R) (let e : min j now ≡ j = omega arith in e)

module _ (R : RunInTime) (now : ℕ) (m : Marks) (tell : MarksTellRun R now m)
    (good : MarksSound (time_bound now) (clock_at R now) m) (w b : ℕ) (v : Survey) (f : Finish) (known : Answers R now w b v f) where
  abbrev bound : ℕ
  bound = time_bound now

  abbrev top : ℕ
  top = clock_at R now

  abbrev Ends : Type 0
  Ends = Ended R w b v known.inside f.time known.begun known.opened f.answer known.at.asked known.at.reply now

  ends : Ends
  ends = ended R w b v known.inside f.time known.begun known.opened f.answer known.at.asked known.at.reply now known.early

  -- the key is that of a turn of the call
  pub record Keyed (k : Key) : Type 0 where
    pub turn : TurnOf R k.time b
    pub before : k.time ≤ f.time
    pub stamp : k.stamp ≡ clock_at R k.time
    pub part : k.part ≤ bound
    pub found : Finds bound top m k (fed_until (call.Survey v) f.answer) no_change f.answer × Told (graph_before bound top m k) (fed_until (call.Survey v) f.answer) f.answer f

  own_turn : TurnOf R f.time b
  own_turn = record { after = known.begun.before; worker = w; asked = known.at.asked; whose = known.opened }

  -- 41
  spent_found : (k : Key) (a : Answer) → a ≡ ClockSpent → f.answer ≡ a → Finds bound top m k (fed_until (call.Survey v) a) no_change a × Told (graph_before bound top m k) (fed_until (call.Survey v) a) a f
  spent_found k a e q = subst (λ x. f.answer ≡ x → Finds bound top m k (fed_until (call.Survey v) x) no_change x × Told (graph_before bound top m k) (fed_until (call.Survey v) x) x f) (sym e)
      (λ z. (ends_spent ClockSpent refl, record { answer = z; page = tt })) q

  spent_keyed : f.answer ≡ ClockSpent → Keyed (turn_key R now f.time)
  spent_keyed e = record { turn = own_turn; before = omega arith; stamp = refl; part = omega arith; found = spent_found (turn_key R now f.time) f.answer e refl }

  -- any other answer
  module _ (n : f.answer ≢ ClockSpent) (r : ℕ) (raised : Raised R b r) (from : clock_at R r ≡ (goes (R.state f.time) w).book.t) where
    at : RightAtRaise (run_course R now) R.sizes.keys v (suc b) (suc f.time) f.answer (goes (R.state f.time) w)
    at = right R now w b f.time v f.answer known.early known.inside known.begun known.opened known.at.asked known.at.reply n

    next : clock_at R (suc r) ≡ suc (clock_at R r)
    next = raised.step.next

    time_from : clock_at R at.time ≡ clock_at R r
    time_from = sym (clock_then R now at.time (omega (arith, at.before, known.early))) ∙ at.from ∙ sym from

    time_next : clock_at R (suc at.time) ≡ suc (clock_at R r)
    time_next = sym (clock_then R now (suc at.time) (omega (arith, at.before, known.early))) ∙ at.next ∙ ap suc (sym from)

    -- the clock moved from there once
    same_time : at.time ≡ r
    same_time = ⊎_elim
        (λ (l : at.time < r). absurd (omega (arith, clock_later R now (suc at.time) r l, time_next)))
        (λ (l : r ≤ at.time). ⊎_elim (λ (u : r < at.time). absurd (omega (arith, clock_later R now (suc r) at.time u, time_from, next))) (λ (u : at.time ≤ r). omega arith) (cases_lt r at.time))
        (cases_lt at.time r)

    moved : clock_at R (suc r) ≢ clock_at R r
    moved e = omega (arith, next, e)

    settled : AllSettled (clock_at R) r top m
    settled = settle R now m tell r moved

    early : suc r ≤ now
    early = omega (arith, same_time, at.before, known.early)

    low : clock_at R r ≤ top
    low = clock_later R now r now (omega (arith, early))

    key : Key
    key = raise_key bound r (clock_at R r)

    meets : RaiseMeets bound top m (raise_key bound r (clock_at R r)) (clock_at R r)
    meets = show (clock_at R) bound top m good r (clock_at R r) (omega (arith, early)) low (record { rises = clock_later R now; from = refl; next = next }) settled

    page_is : f.page ≡ graph_of R.sizes.keys (goes (R.state f.time) w).page
    page_is = known.at.page ∙ pages R w b f.time v f.answer known.inside known.begun known.opened known.at.asked known.at.reply

    says : Says f.answer v (graph_before bound top m (raise_key bound r (clock_at R r))) f.page
    says = subst₂ (λ k p. Says f.answer v (graph_before bound top m k) p) (ap₂ (raise_key bound) same_time (sym from)) (sym page_is)
        (at.says now bound top m known.early (tells R now m tell) good (all_course R now at.time top m (subst (λ x. AllSettled (clock_at R) x top m) (sym same_time) settled))
        (omega (arith, same_time, early)) (omega (arith, from, low)))

    shown_keyed : Keyed (raise_key bound r (clock_at R r))
    shown_keyed = record {
      turn = record { after = raised.begun.before; worker = raised.step.worker; asked = raised.step.turn.asked; whose = raised.whose };
      before = omega (arith, same_time, at.before);
      stamp = refl;
      part = omega arith;
      found = found bound top m (raise_key bound r (clock_at R r)) (clock_at R r) meets v f.answer f refl n says;
    }

  keyed : Ends → Keyed (survey_key R now b f.time)
  keyed (spent e z) = subst (λ x. Keyed (key_from R now x f.time)) (sym z) (spent_keyed e)
  keyed (shown n r raised z from) = subst (λ x. Keyed (key_from R now x f.time)) (sym z) (shown_keyed n r raised from)

  -- an edge of its page joins two keys that the page shows
  pub joins : workers.finishes f.answer ≡ true → (i j x : ℕ) → f.page.edge i j ≡ Some x → (f.page.has i ≡ true) × (f.page.has j ≡ true)
  joins page i j x e = by_end ends
    where
      by_end : Ends → (f.page.has i ≡ true) × (f.page.has j ≡ true)
      by_end (spent q z) = absurd (let y = sym (ap workers.finishes q) ∙ page in cc)
      by_end (shown n r raised z from) = says_joins m (clock_at R r) _ f.page (meets n r raised from).shows f.answer v (says n r raised from) page i j x e

  -- what the past tells of the raise
  raise_key_of : Ends → (run : Marking) → run.clock ≡ clock_at R → run.bound ≡ bound → run.top ≡ top → (t : ℕ) → raise_before R now b ≡ Some t → RaiseKey run (survey_key R now b f.time) t
  raise_key_of (spent e z) run c d u t q = absurd (let x : None ≡ Some t = sym (ap (option_map (clock_at R)) z) ∙ q in cc)
  raise_key_of (shown n r raised z from) run c d u t q =
      let x : clock_at R r ≡ t = some_same (sym (ap (option_map (clock_at R)) z) ∙ q) in
      subst (λ o. RaiseKey run (key_from R now o f.time) t) (sym z) (record {
        stamp = x;
        part = sym d;
        raised = ap (λ h. h (suc r)) c ∙ raised.step.next ∙ ap suc x;
        high = omega (arith, u, x, raised.step.next, clock_later R now (suc r) now (early n r raised from));
      })

  module _ (starts : seen R b ≡ begins w (call.Survey v)) (finish : finish_by (seen R) now b ≡ Some f) (stamp : ℕ → Option ℕ) (lower_end : ℕ → Bool) (key_of : ℕ → Option Key)
      (change : ℕ → RowChange) (none : change b ≡ no_change) where
    abbrev h : Past
    h = run_past R now stamp lower_end

    abbrev run : Marking
    run = run_marking R now m key_of change

    abbrev k : Key
    k = survey_key R now b f.time

    owner : Keyed k
    owner = keyed ends

    before_now : b < now
    before_now = omega (arith, known.begun.before, known.early)

    begun_is : h.begun b ≡ Some (call.Survey v)
    begun_is = ap (λ t. cond t (call_begun (seen R b)) None) (lt-ltb b now before_now) ∙ ap call_begun starts

    fed_is : fed h b ≡ fed_until (call.Survey v) f.answer
    fed_is = ap₂ fed_as begun_is finish

    no_stamp : makes_change (change b) ≡ true → ⊥
    no_stamp e = (let x = sym (ap makes_change none) ∙ e in absurd cc)

    pub owed : CallMarked h run b k
    owed = record {
      belongs = record { began = subst IsSome (sym begun_is) refl; done = inl (subst IsSome (sym finish) refl) };
      early = before_now;
      bounded = record { time = omega (arith, owner.before, known.early); part = omega (arith, owner.part) };
      time = omega (arith, owner.turn.after);
      low = omega (arith, owner.stamp, clock_later R now 0 k.time (omega arith));
      high = omega (arith, owner.stamp, clock_later R now k.time now (omega (arith, owner.before, known.early)));
      fits = subst (λ o. Fits (clock_at R) k b (end_of now o)) (sym finish) (record {
        time = owner.before;
        stamp = omega (arith, owner.stamp, clock_later R now k.time f.time owner.before);
        since = inl (omega (arith, owner.turn.after));
        fair = omega (arith, owner.stamp);
      });
      stamp = λ e. absurd (no_stamp e);
      counts = λ e. absurd (let x : None ≡ Some f = sym e ∙ finish in cc);
      raise = λ t q. raise_key_of ends run refl refl refl t q;
      answer = f.answer;
      finds = subst₂ (λ x y. Finds bound top m k x y f.answer) (sym fed_is) (sym none) owner.found.0;
      told = subst (λ o. IfSome o (Told (graph_before bound top m k) (fed h b) f.answer)) (sym finish) (subst (λ x. Told (graph_before bound top m k) x f.answer f) (sym fed_is) owner.found.1);
    }

    spent_key : Ends → f.answer ≡ ClockSpent → k ≡ turn_key R now f.time
    spent_key (spent e z) q = ap (λ o. key_from R now o f.time) z
    spent_key (shown n r raised z from) q = absurd (n q)

    raised_from : Ends → f.answer ≢ ClockSpent → (t : ℕ) × (raise_before R now b ≡ Some t)
    raised_from (spent e z) q = absurd (q e)
    raised_from (shown n r raised z from) q = (clock_at R r, ap (option_map (clock_at R)) z)

    pub marked : SurveyMarked R now m stamp lower_end key_of change b f
    marked = record { owed = owed; turn = owner.turn; part = owner.part; spent = spent_key ends; raises = raised_from ends }

pub pages_join : PagesJoin
pages_join R w f i j x a g e page edge =
    let at = (sees R).finished f w a g e in
    let r : AnswerRight R f w a = (know R).answers f w a at.asked at.reply in
    let c = page_survey R (suc f) r.began r.call _ a r.right page in
    let by : BegunBy R f w r.began (call.Survey c.0) = subst (BegunBy R f w r.began) c.1 r.begun in
    let all = marks R (suc f) in
    joins R (suc f) all.marks all.tells all.sound w r.began c.0 (record { time = f; answer = a; page = g })
    (record { inside = worker_is R f w r.began (call.Survey c.0) by; early = omega arith; begun = by; opened = r.whose; at = at }) page i j x edge

pub surveys_marked : SurveysMarked
surveys_marked R now m tell good stamp lower_end key change w b v f begun finish none =
    let known = answers R now w b v f begun finish in
    marked R now m tell good w b v f known begun finish stamp lower_end key change none

-- Each call that belongs to the order has a key, with what is owed for it.
use Rattle.std.proofs.Common.{◌≡◌, ℕ, ◌<◌, ◌⊎◌, Some, None, Option, sym, refl, ap, ap₂, ◌∙◌, subst, inl, inr, ⊎_elim, arith}
use Rattle.std.specs.Prelude.{IsSome, IfSome}
use Rattle.codes.specs.declared.answer.Answer.{Answer}
use Rattle.codes.specs.declared.answer.Answer.TheVariants.{RowsSpent, ClockSpent}
use Rattle.layout.specs.declared.names.Field.{Field}
use Rattle.places.specs.declared.place.Change.{Change}
use Rattle.places.specs.declared.place.Change.TheVariants as change
use Rattle.places.specs.declared.place.Call.{Call}
use Rattle.places.specs.declared.place.Call.TheVariants as call
use Rattle.places.specs.declared.place.Survey.{Survey}
use Rattle.machine.specs.declared.request.Request.TheVariants.{Turn}
use Rattle.machine.specs.declared.request.Reply.TheVariants.{Answered}
use Rattle.machine.specs.Requests.{reply_of}
use Rattle.questions.specs.Graph.{Graph}
use Rattle.order.specs.Graph.{asks, Shows}
use Rattle.order.specs.Past.{Finish, Past, Belongs, fed_until, fed_as, fed}
use Rattle.order.specs.Keys.{Key, Fits}
use Rattle.order.specs.Marks.{Marks}
use Rattle.order.specs.Rows.{graph_before}
use Rattle.order.specs.Finds.{RowChange, no_change, Finds}
use Rattle.order.specs.Marked.{end_of, Told, CallMarked}
use Rattle.runs.specs.Runs.{RunInTime}
use Rattle.runs.specs.Views.{clock_at}
use Rattle.runs.specs.Seen.{open_at}
use Rattle.runs.specs.Purposes.{change_op, change_call}
use Rattle.runs.specs.Known.{ChangeEvent}
use Rattle.runs.specs.Reasons.{BegunBy}
use Rattle.runs.specs.Marking.{time_bound}
use Rattle.keys.specs.Standing.{OfRows, Owner, StampedBy, Makes, Placing}
use Rattle.keys.specs.Told.{CallTold, answered as told_answered, unfinished as told_unfinished, PastTold}
use Rattle.keys.specs.Marking.{marking_for, SurveyMarked, SurveysMarked}
use Rattle.keys.proofs.Laws.{RunLaws}
use Rattle.runs.proofs.Once.{by_turn}
use Rattle.keys.proofs.Base.{open_call_of}
use Rattle.keys.proofs.Answers.{in_call, answered, changed_yet}
use Rattle.keys.proofs.Effects.{counts}

-- only snapshots and reaches show a page
shows_fed : (y : Graph) (p : Graph) (c : Call) (a : Answer) → OfRows c → Shows y (fed_until c a) p
shows_fed y p (call.Vertex o i) RowsSpent r = tt
shows_fed y p (call.Vertex o i) ClockSpent r = tt
shows_fed y p (call.Vertex o i) a r = tt
shows_fed y p (call.Edge o i) RowsSpent r = tt
shows_fed y p (call.Edge o i) ClockSpent r = tt
shows_fed y p (call.Edge o i) a r = tt
shows_fed y p (call.Survey v) a r = absurd r

survey_or : (c : Call) → ((v : Survey) × (c ≡ call.Survey v)) ⊎ OfRows c
survey_or (call.Vertex o i) = inr tt
survey_or (call.Edge o i) = inr tt
survey_or (call.Survey v) = inl (v, refl)

one_call_some : {c d : Call} → Some c ≡ Some d → c ≡ d
one_call_some e = cc

no_call : {c : Call} → None ≡ Some c → ⊥
no_call e = cc

no_finish : {f : Finish} → Some f ≡ None → ⊥
no_finish e = cc

not_none_some : {X : Type 0} (o : Option X) → o ≡ None → IsSome o → ⊥
not_none_some None e s = absurd cc
not_none_some (Some x) e s = absurd cc

pub is_some : {X : Type 0} (o : Option X) (x : X) → o ≡ Some x → IsSome o
is_some o x e = subst IsSome (sym e) refl

module _ (R : RunInTime) (N : ℕ) (m : Marks) (g : RunLaws R N m) (h : Past) (past : PastTold R N h) where
  -- a call with its key
  pub record Keyed (b : ℕ) : Type 0 where
    pub key : Key
    pub change : RowChange
    pub owner : Owner R N key b
    pub marked : CallMarked h (marking_for R N m change) b key
    pub makes : (f : Field) (p : ℕ) (d : Change) (r : ℕ) → p < N → ChangeEvent R f p b d r → Makes R N m f d r key change

  -- a call on vertices or edges raises no clock
  no_raise : (b t : ℕ) (c : Call) → h.begun b ≡ Some c → OfRows c → ¬ (h.raise b ≡ Some t)
  no_raise b t c begun rows e = let x = past.raises b t c begun e in subst OfRows x.1 rows

  -- the event of a stamped change gives its stamp to the past
  stamp_told : (b n : ℕ) → StampedBy R N b n → h.stamp b ≡ Some n
  stamp_told b n s = past.changes.bears s.field s.made.time b s.change s.row n s.made.before s.made.held s.bears

  -- an answered call
  answered_keyed : (b w : ℕ) (c : Call) (f : Finish) → h.begun b ≡ Some c → OfRows c → h.finish b ≡ Some f → f.time < N → R.request f.time ≡ Turn w → reply_of (R.state f.time) (Turn w) ≡ Answered f.answer →
      open_at R f.time w ≡ Some b → BegunBy R f.time w b c → Keyed b
  answered_keyed b w c f is rows done l asked reply whose begun =
      let p : Placing R N m b f.time (fed_until c f.answer) f.answer = answered R N m g f.time w b c f.answer l asked reply whose begun rows in
      let before = begun.before in
      let fed_is : fed h b ≡ fed_until c f.answer = ap₂ fed_as is done in
      record {
        key = p.key;
        change = p.change;
        owner = p.stands.owner;
        makes = p.makes;
        marked = record {
          belongs = record { began = is_some (h.begun b) c is; done = inl (is_some (h.finish b) f done) };
          early = omega arith;
          bounded = p.stands.bounded;
          time = p.stands.time;
          low = p.stands.low;
          high = p.stands.high;
          fits = subst (λ o. Fits (clock_at R) p.key b (end_of N o)) (sym done) p.stands.fits;
          stamp = λ e. stamp_told b p.key.stamp (p.bears e);
          counts = λ e. absurd (no_finish (sym done ∙ e));
          raise = λ t e. absurd (no_raise b t c is rows e);
          answer = f.answer;
          finds = subst (λ z. Finds (time_bound N) (clock_at R N) m p.key z p.change f.answer) (sym fed_is) p.stands.finds;
          told = subst (λ o. IfSome o (Told (graph_before (time_bound N) (clock_at R N) m p.key) (fed h b) f.answer)) (sym done)
              (record { answer = refl; page = subst (λ z. Shows (graph_before (time_bound N) (clock_at R N) m p.key) z f.page) (sym fed_is) (shows_fed (graph_before (time_bound N) (clock_at R N) m p.key) f.page c f.answer rows) });
        };
      }

  -- an unfinished call whose change bears its stamp
  unfinished_keyed : (b w n : ℕ) (c : Call) → h.begun b ≡ Some c → OfRows c → h.finish b ≡ None → w < R.sizes.workers → open_at R N w ≡ Some b → BegunBy R N w b c → h.stamp b ≡ Some n → Keyed b
  unfinished_keyed b w n c is rows waits within whose begun stamped =
      let s = past.changes.stamped b n stamped in
      let x = changed_yet R N m g w b c within whose begun n s in
      let p : Placing R N m b N (asks c) x.0 = x.1 in
      let fed_is : fed h b ≡ asks c = ap₂ fed_as is waits in
      record {
        key = p.key;
        change = p.change;
        owner = p.stands.owner;
        makes = p.makes;
        marked = record {
          belongs = record { began = is_some (h.begun b) c is; done = inr (is_some (h.stamp b) n stamped) };
          early = begun.before;
          bounded = p.stands.bounded;
          time = p.stands.time;
          low = p.stands.low;
          high = p.stands.high;
          fits = subst (λ o. Fits (clock_at R) p.key b (end_of N o)) (sym waits) p.stands.fits;
          stamp = λ e. stamp_told b p.key.stamp (p.bears e);
          counts = λ e. counts R N m g h past.changes s.field s.made.time b s.change s.row n p.key p.change s.made.before s.made.held s.bears (p.makes s.field s.made.time s.change s.row s.made.before s.made.held);
          raise = λ t e. absurd (no_raise b t c is rows e);
          answer = x.0;
          finds = subst (λ z. Finds (time_bound N) (clock_at R N) m p.key z p.change x.0) (sym fed_is) p.stands.finds;
          told = subst (λ o. IfSome o (Told (graph_before (time_bound N) (clock_at R N) m p.key) (fed h b) x.0)) (sym waits) tt;
        };
      }

  -- a call that makes a change is on vertices or edges
  change_rows : (f : Field) (d : Change) (c : Call) → c ≡ change_call (change_op f) d → OfRows c
  change_rows f (change.Vertex i) c e = subst OfRows (sym e) tt
  change_rows f (change.Edge d) c e = subst OfRows (sym e) tt

  -- the call of a change
  pub change_begun : (f : Field) (p b : ℕ) (d : Change) (r : ℕ) → p < N → ChangeEvent R f p b d r → (c : Call) × (h.begun b ≡ Some c) × OfRows c
  change_begun f p b d r l ev =
      let t = by_turn R f p b d r ev in
      let o = open_call_of R N m g p t.worker b t.within t.whose in
      (o.call, past.calls.begun p t.worker b o.call (omega arith) o.begun, change_rows f d o.call (in_call R N m g f p b d r ev p t.worker o.call o.begun))

  survey_keyed : (b : ℕ) (v : Survey) → h.begun b ≡ Some (call.Survey v) → SurveyMarked R N m h b → Keyed b
  survey_keyed b v is s = record {
    key = s.key;
    change = no_change;
    owner = s.owner;
    marked = s.marked;
    makes = λ f p d r l ev. (let y = change_begun f p b d r l ev in absurd (subst OfRows (one_call_some (sym y.1 ∙ is)) y.2));
  }

  module _ (surveys : SurveysMarked R N m h) where
    -- whether it belongs to the order
    belongs_or : (b : ℕ) (c : Call) → h.begun b ≡ Some c → Belongs h b ⊎ ¬ (Belongs h b)
    belongs_or b c is = go (h.finish b) refl (h.stamp b) refl
      where
        go : (o : Option Finish) → h.finish b ≡ o → (s : Option ℕ) → h.stamp b ≡ s → Belongs h b ⊎ ¬ (Belongs h b)
        go (Some f) e s q = inl (record { began = is_some (h.begun b) c is; done = inl (is_some (h.finish b) f e) })
        go None e (Some n) q = inl (record { began = is_some (h.begun b) c is; done = inr (is_some (h.stamp b) n q) })
        go None e None q = inr (λ y. ⊎_elim (λ (z : IsSome (h.finish b)). not_none_some (h.finish b) e z) (λ (z : IsSome (h.stamp b)). not_none_some (h.stamp b) q z) y.done)

    rows_keyed : (b : ℕ) (c : Call) → h.begun b ≡ Some c → OfRows c → CallTold R N h b c → Keyed b ⊎ ¬ (Belongs h b)
    rows_keyed b c is rows (told_answered w f done l asked reply whose begun) = inl (answered_keyed b w c f is rows done l asked reply whose begun)
    rows_keyed b c is rows (told_unfinished w waits within whose begun) = go (h.stamp b) refl
      where
        go : (s : Option ℕ) → h.stamp b ≡ s → Keyed b ⊎ ¬ (Belongs h b)
        go (Some n) q = inl (unfinished_keyed b w n c is rows waits within whose begun q)
        go None q = inr (λ y. ⊎_elim (λ (z : IsSome (h.finish b)). not_none_some (h.finish b) waits z) (λ (z : IsSome (h.stamp b)). not_none_some (h.stamp b) q z) y.done)

    pub keyed_or : (b : ℕ) → Keyed b ⊎ ¬ (Belongs h b)
    keyed_or b = go (h.begun b) refl
      where
        survey : (v : Survey) → h.begun b ≡ Some (call.Survey v) → Belongs h b ⊎ ¬ (Belongs h b) → Keyed b ⊎ ¬ (Belongs h b)
        survey v is (inl y) = inl (survey_keyed b v is (surveys b v is y))
        survey v is (inr n) = inr n

        go : (o : Option Call) → h.begun b ≡ o → Keyed b ⊎ ¬ (Belongs h b)
        go None e = inr (λ y. not_none_some (h.begun b) e y.began)
        go (Some c) e =
            ⊎_elim (λ (v : (v : Survey) × (c ≡ call.Survey v)). survey v.0 (e ∙ ap (λ z. Some z) v.1) (belongs_or b c e))
            (λ (rows : OfRows c). rows_keyed b c e rows (past.calls.call b c e))
            (survey_or c)

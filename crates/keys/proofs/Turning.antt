-- What is used of a run: the turn that answers, keys of calls, and rows.
use Rattle.std.proofs.Common.{◌≡◌, ℕ, zero, suc, ◌<◌, ◌≤◌, Bool, true, false, cond, eqb, nat_lt, ◌==◌, Some, None, Ok, Option, sym, refl, ap, ap₂, ◌∙◌, subst, ⊎_elim, arith}
use Rattle.std.proofs.lemmas.Bool.{cases_lt, le-leb, lt-leb, ltb-true, ne_eqb, and_parts, false≢true}
use Rattle.codes.specs.declared.answer.Answer.{Answer}
use Rattle.codes.specs.declared.refusal.Refusal.TheVariants.{NoSuchCall, KeyOutside, WeightOutside}
use Rattle.layout.specs.declared.names.Kind.{Kind}
use Rattle.layout.specs.declared.names.Field.{Field}
use Rattle.layout.specs.declared.names.Field.TheVariants.{Ins, Del}
use Rattle.layout.specs.declared.names.Cell.TheVariants as cell
use Rattle.layout.specs.declared.sizes.Sizes.{Sizes}
use Rattle.layout.specs.Limits.{between}
use Rattle.layout.specs.Rows.{rows_all}
use Rattle.places.specs.declared.call.Begin.{Begin}
use Rattle.places.specs.declared.place.Change.{Change}
use Rattle.places.specs.declared.place.Change.TheVariants as change
use Rattle.places.specs.declared.place.Call.{Call}
use Rattle.places.specs.declared.place.Call.TheVariants as call
use Rattle.places.specs.declared.place.Survey.{Survey}
use Rattle.places.specs.declared.place.Survey.TheVariants.{Snapshot, Reach}
use Rattle.places.specs.declared.place.Place.TheVariants as place
use Rattle.places.specs.Calls.{keys_fit, edge_keys_fit, weight_fits, call_named, call_of}
use Rattle.places.specs.Marks.{pending}
use Rattle.places.specs.Moved.{Next as next}
use Rattle.places.specs.Rules.{end_done}
use Rattle.places.specs.Touches.{head_kind, change_head, change_kind}
use Rattle.machine.specs.declared.request.Request.TheVariants as request
use Rattle.machine.specs.declared.request.Reply.TheVariants as reply
use Rattle.machine.specs.States.{State}
use Rattle.machine.specs.Turns.{worker_at, hand_at, next_at, answer_at, turned}
use Rattle.machine.specs.Workers.{followed}
use Rattle.machine.specs.Requests.{turn_refused, answered_or, reply_of}
use Rattle.laws.specs.Laws.{TurnLaws}
use Rattle.laws.specs.Fits.{FitChange, FitPlace, Linked, RowOrNone}
use Rattle.laws.specs.Changes.{number_in, next_own, Changes, Changes.keeps as held, Changes.ticks, Changes.links as heads_on, Changes.stamps as puts, Changes.ends as del_waits, Changes.fills, Changes.writes}
use Rattle.order.specs.Marks.{Marks, MarksSound}
use Rattle.order.proofs.Seen.{Began, GoesOn, open_step, open_began, one_worker}
use Rattle.runs.specs.Runs.{RunInTime, history_at}
use Rattle.runs.specs.Views.{clock_at, head_at, place_at, LinkedAt}
use Rattle.runs.specs.Seen.{seen, open_at}
use Rattle.runs.specs.Purposes.{InCall}
use Rattle.runs.specs.Known.{LinkEvent, EndEvent, ChangeEvent}
use Rattle.runs.specs.Reasons.{BegunBy, WorkerKnows, WorkerKnows.free, WorkerKnows.busy}
use Rattle.runs.specs.Marking.{time_bound, MarksTellRun}
use Rattle.runs.proofs.Decides.{linked_or}
use Rattle.runs.proofs.Kept.{settled_is}
use Rattle.runs.proofs.Histories.{traced}
use Rattle.runs.proofs.Opens.{answer_closes}
use Rattle.laws.proofs.Taken.{ok_if, begin_taken}
use Rattle.runs.proofs.Steps.{acts, StepCase, StepCase.rests, StepCase.begins, StepCase.turns, sizes_at, sound_at, case_at, here}
use Rattle.runs.proofs.Swaps.{mark_zero, swap_done}
use Rattle.runs.proofs.Turns.{next_is, LinkTurn, LinkTurn.spent, LinkTurn.lost, LinkTurn.won, link_turn}
use Rattle.keys.specs.Standing.{OfRows}
use Rattle.keys.proofs.Laws.{KeysIn, RunLaws}
use Rattle.keys.proofs.Base.{same_some, none_some}
use Rattle.keys.proofs.Answers.{same_call}
use Rattle.laws.proofs.Runs.{runs_keep_laws as keep}
use Rattle.runs.proofs.Knows.{runs_know as know}
use Rattle.runs.proofs.Times.{runs_last as last}
use Rattle.runs.proofs.Ends.{runs_events as events}
use Rattle.runs.proofs.Once.{runs_change_once as once}
use Rattle.runs.proofs.VertexFinds.{runs_find_vertices as vertices}
use Rattle.runs.proofs.EdgeFinds.{runs_find_edges as edges}
use Rattle.runs.proofs.EdgeMisses.{runs_miss_edges as misses}
use Rattle.laws.proofs.Owned.{linked_row}
use Rattle.laws.proofs.Heads.{change_named}
use Rattle.runs.proofs.Sights.{one_call_of}

-- the keys of the call that a begin names
module _ (n : ℕ) (b : Begin) (fit : keys_fit n b ≡ true) where
  low_keys : b.call < 4 → KeysIn n (call_named b)
  low_keys l =
      let x : nat_lt b.from n ≡ true = rw (lt-leb 4 b.call l, ne_eqb b.call 7 (λ e. omega arith)) at fit in
      rw (le-leb b.call 3 (omega arith)) (ltb-true b.from n x)

  middle_keys : 4 ≤ b.call → b.call < 7 → KeysIn n (call_named b)
  middle_keys l h =
      let x : edge_keys_fit n b ≡ true = rw (le-leb 4 b.call l, le-leb b.call 6 (omega arith)) at fit in
      let y = and_parts (nat_lt b.from n) _ x in
      let z = and_parts (nat_lt b.to n) _ y.1 in
      rw (lt-leb b.call 3 (omega arith), le-leb b.call 6 (omega arith)) (ltb-true b.from n y.0, ltb-true b.to n z.0)

  high_keys : 7 ≤ b.call → KeysIn n (call_named b)
  high_keys l = rw (lt-leb b.call 3 (omega arith), lt-leb b.call 6 (omega arith)) (go (b.call == 7))
    where
      go : (t : Bool) → KeysIn n (cond t (call.Survey Snapshot) (call.Survey (Reach b.from)))
      go true = tt
      go false = tt

  named_keys : KeysIn n (call_named b)
  named_keys = ⊎_elim (λ (l : b.call < 4). low_keys l) (λ (l : 4 ≤ b.call). ⊎_elim (λ (h : b.call < 7). middle_keys l h) (λ (h : 7 ≤ b.call). high_keys h) (cases_lt b.call 7)) (cases_lt b.call 4)

called_keys : (n : ℕ) (b : Begin) (c : Call) → call_of n b ≡ Ok c → KeysIn n c
called_keys n b c e =
    let known = ok_if (between 1 b.call 8) _ NoSuchCall c e in
    let keys = ok_if (keys_fit n b) _ KeyOutside c known.1 in
    let weight = ok_if (weight_fits b) _ WeightOutside c keys.1 in
    subst (KeysIn n) (one_call_of (call_named b) c weight.1) (named_keys n b keys.0)

answer_one : {x y : Answer} → reply.Answered x ≡ reply.Answered y → x ≡ y
answer_one e = cc

module _ (R : RunInTime) where
  keys_of : (k w b : ℕ) (c : Call) → BegunBy R k w b c → KeysIn R.sizes.keys c
  keys_of k w b c h = called_keys R.sizes.keys h.begin c (subst (λ (z : Sizes). call_of z.keys h.begin ≡ Ok c) (sizes_at R b) (begin_taken (R.state b) h.begin c h.call).call)

  pub worker_of : (k w b : ℕ) (c : Call) → BegunBy R k w b c → w < R.sizes.workers
  worker_of k w b c h = subst (λ v. v < R.sizes.workers) h.worker (subst (λ (z : Sizes). h.begin.worker < z.workers) (sizes_at R b) (begin_taken (R.state b) h.begin c h.call).within)

  row_of : (k : ℕ) (c : Kind) (r : ℕ) → LinkedAt R k c r → (0 < r) × (r ≤ rows_all R.sizes c)
  row_of k c r l =
      let y = linked_row (R.state k) c r l in
      let e : rows_all (R.state k).sizes c ≡ rows_all R.sizes c = ap (λ (z : Sizes). rows_all z c) (sizes_at R k) in
      (omega (arith, y.0), omega (arith, y.1))

  -- a turn that answers
  module _ (a w b : ℕ) (x : Answer) (asked : R.request a ≡ request.Turn w) (answer : reply_of (R.state a) (request.Turn w) ≡ reply.Answered x) (whose : open_at R a w ≡ Some b) where
    abbrev s : State
    s = R.state a

    record Taken : Type 0 where
      pub free : turn_refused s w ≡ None
      pub next : R.state (suc a) ≡ turned s w
      pub gives : answer_at s w ≡ Some x

    given : (o : Option Answer) → answered_or (Ok o) ≡ reply.Answered x → o ≡ Some x
    given None e = absurd cc
    given (Some y) e = ap (λ z. Some z) (answer_one e)

    taken : Taken
    taken = go (case_at R a)
      where
        go : StepCase s (R.request a) (R.state (suc a)) → Taken
        go (rests f e) = absurd (false≢true (sym f ∙ ap₂ acts asked (ap (reply_of s) asked ∙ answer)))
        go (begins v c q t f e) = let z : request.Begin v ≡ request.Turn w = sym q ∙ asked in absurd cc
        go (turns v q n f e) =
            let z : request.Turn v ≡ request.Turn w = sym q ∙ asked in
            let i : v ≡ w = cc in
            record {
              free = subst (λ u. turn_refused s u ≡ None) i n;
              next = subst (λ u. R.state (suc a) ≡ turned s u) i e;
              gives = subst (λ u. answer_at s u ≡ Some x) i (given (answer_at s v) (sym f ∙ ap (reply_of s) asked ∙ answer));
            }

    laws_here : TurnLaws s w
    laws_here = keep (R.state 0) R.clean (history_at R a) (R.state a) (traced R a) w (here R a w asked taken.free taken.next)

    -- the clock stays
    clock_stays : (c : Call) → BegunBy R a w b c → OfRows c → clock_at R (suc a) ≤ clock_at R a
    clock_stays c begun rows =
        let q : clock_at R (suc a) ≡ number_in (turned s w) cell.Clock = ap (λ u. number_in u cell.Clock) taken.next in
        let y : number_in (turned s w) cell.Clock ≡ clock_at R a = go ((laws_here).changes cell.Clock tt) in
        omega arith
      where
        no_raise : (v : Survey) → (worker_at s w).place ≡ place.Raise v → ⊥
        no_raise v e = by ((know R).workers a w (worker_of a w b c begun))
          where
            by : WorkerKnows R a w → ⊥
            by (free o i) = none_some (sym o ∙ whose)
            by (busy d y o h i k) =
                let z : d ≡ b = same_some (sym o ∙ whose) in
                let same : y ≡ c = same_call R a w a w b y c (subst (λ u. BegunBy R a w u y) z h) begun in
                let at : call.Survey v ≡ y = subst (λ p. InCall p y) e i in
                subst OfRows (sym (at ∙ same)) rows

        go : Changes s w cell.Clock (number_in s cell.Clock) (number_in (turned s w) cell.Clock) → number_in (turned s w) cell.Clock ≡ number_in s cell.Clock
        go (held e) = e
        go (ticks v p e l q) = absurd (no_raise v p)
        go (heads_on d p e o) = absurd cc
        go (puts p y e o) = let z : cell.Clock ≡ cell.Stamp _ _ _ = e ∙ settled_is p in absurd cc
        go (del_waits d r p e o q) = absurd cc
        go (fills k r o f y) = absurd f
        go (writes f y) = absurd f

    -- it makes no change
    no_end : (d : Change) (r : ℕ) → EndEvent R a b d r → ⊥
    no_end d r ev = go (eqb (number_in s (cell.Stamp (change_kind d) Del r)) 0) refl
      where
        same : ev.worker ≡ w
        same = let z : request.Turn ev.worker ≡ request.Turn w = sym ev.turn.asked ∙ asked in cc

        at : place_at R a w ≡ place.End d r
        at = ap (place_at R a) (sym same) ∙ ev.turn.place

        says : next_at s w ≡ next.Moved (end_done (eqb (number_in s (cell.Stamp (change_kind d) Del r)) 0) d r)
        says = next_is s w (place.End d r) at ∙ ap (λ v. next.Moved (end_done v d r)) (swap_done s w (sound_at R a) (cell.Stamp (change_kind d) Del r) 0 pending (linked_row s (change_kind d) r ev.linked))

        go : (v : Bool) → eqb (number_in s (cell.Stamp (change_kind d) Del r)) 0 ≡ v → ⊥
        go true v = let z : None ≡ Some x = sym (ap (λ y. (followed s.sizes.keys (worker_at s w) (hand_at s w) y).answer) (says ∙ ap (λ y. next.Moved (end_done y d r)) v)) ∙ taken.gives in absurd cc
        go false v = mark_zero _ v ev.before

    no_link : (d : Change) (r : ℕ) → LinkEvent R a b d r → ⊥
    no_link d r ev = go (link_turn s w (sound_at R a) within d (head_at R a (change_head d)) at)
      where
        same : ev.step.worker ≡ w
        same = let z : request.Turn ev.step.worker ≡ request.Turn w = sym ev.step.turn.asked ∙ asked in cc

        within : w < s.sizes.workers
        within = here R a w asked taken.free taken.next

        at : place_at R a w ≡ place.Link d (head_at R a (change_head d))
        at = ap (place_at R a) (sym same) ∙ ev.step.turn.place

        fits : FitChange s d
        fits = let f : FitPlace s (place.Link d (head_at R a (change_head d))) = subst (FitPlace s) at ((sound_at R a).places w within) in f.0

        -- no row was left, so no head moved
        not_spent : next_own s w (change_kind d) ≡ None → ⊥
        not_spent n = stays (by ((laws_here).changes (cell.Head (change_head d)) (change_named s d fits)))
          where
            by : Changes s w (cell.Head (change_head d)) (number_in s (cell.Head (change_head d))) (number_in (turned s w) (cell.Head (change_head d))) → number_in (turned s w) (cell.Head (change_head d)) ≡ number_in s (cell.Head (change_head d))
            by (held e) = e
            by (ticks v p e l q) = absurd cc
            by (heads_on c p e o) =
                let z : place.Link c (number_in s (cell.Head (change_head d))) ≡ place.Link d (head_at R a (change_head d)) = sym p ∙ at in
                let i : c ≡ d = cc in
                absurd (none_some (sym n ∙ ap (λ u. next_own s w (change_kind u)) (sym i) ∙ o))
            by (puts p y e o) = let z : cell.Head (change_head d) ≡ cell.Stamp _ _ _ = e ∙ settled_is p in absurd cc
            by (del_waits c q p e o y) = absurd cc
            by (fills k q o f y) = absurd f
            by (writes f y) = absurd f

            kind : (d : Change) → head_kind (change_head d) ≡ change_kind d
            kind (change.Vertex i) = refl
            kind (change.Edge c) = refl

            stays : number_in (turned s w) (cell.Head (change_head d)) ≡ number_in s (cell.Head (change_head d)) → ⊥
            stays e =
                let q : number_in s (cell.Head (change_head d)) ≡ r = sym e ∙ ap (λ u. number_in u (cell.Head (change_head d))) (sym taken.next) ∙ ev.step.head in
                let pos = (linked_row (R.state (suc a)) (change_kind d) r ev.step.linked).0 in
                was (subst (λ c. RowOrNone s c r) (kind d) (subst (RowOrNone s (head_kind (change_head d))) q ((sound_at R a).heads (change_head d) (change_named s d fits))))
              where
                was : RowOrNone s (change_kind d) r → ⊥
                was h = ⊎_elim (λ (z : r ≡ 0). let pos = (linked_row (R.state (suc a)) (change_kind d) r ev.step.linked).0 in omega arith) (λ (l : Linked s (change_kind d) r). ev.step.fresh l) h

        go : LinkTurn s w d (head_at R a (change_head d)) → ⊥
        go (spent y z) = not_spent y
        go (lost y q z i) = z refl
        go (won y q z i v o) = let u : None ≡ Some x = sym (ap (λ y. (followed s.sizes.keys (worker_at s w) (hand_at s w) y).answer) i) ∙ taken.gives in absurd cc

    no_change : (f : Field) (d : Change) (r : ℕ) → ChangeEvent R f a b d r → ⊥
    no_change Ins d r ev = no_link d r ev
    no_change Del d r ev = no_end d r ev

    -- the call is open no more
    just_closed : (v : ℕ) → open_at R a v ≡ Some b → ¬ (open_at R (suc a) v ≡ Some b)
    just_closed v y o =
        let same : v ≡ w = one_worker (seen R) a a v w b y whose in
        none_some (sym (answer_closes R a w asked x answer) ∙ ap (open_at R (suc a)) (sym same) ∙ o)

    closed : b < a → (k v : ℕ) → a < k → ¬ (open_at R k v ≡ Some b)
    closed l zero v h o = absurd (omega arith)
    closed l (suc k) v h o =
        ⊎_elim (λ (y : (b ≡ k) × Began (seen R) k v). omega (arith, y.0))
        (λ (y : (open_at R k v ≡ Some b) × GoesOn (seen R) k v).
        ⊎_elim (λ (z : a < k). closed l k v z y.0)
        (λ (z : k ≤ a). let e : k ≡ a = omega arith in just_closed v (subst (λ i. open_at R i v ≡ Some b) e y.0) (subst (λ i. open_at R (suc i) v ≡ Some b) e o)) (cases_lt a k))
        (open_step (seen R) k v b o)

    change_early : (f : Field) (p : ℕ) (d : Change) (r : ℕ) → ChangeEvent R f p b d r → p < a
    change_early f p d r ev =
        ⊎_elim (λ (y : p < a). y)
        (λ (y : a ≤ p).
        ⊎_elim (λ (z : a < p). absurd (closed open_before p (turn f ev).0 z (turn f ev).1)) (λ (z : p ≤ a). let i : p ≡ a = omega arith in absurd (no_change f d r (subst (λ j. ChangeEvent R f j b d r) i ev))) (cases_lt a p))
        (cases_lt p a)
      where
        open_before : b < a
        open_before = (open_began (seen R) a w b whose).0

        turn : (f : Field) → ChangeEvent R f p b d r → (v : ℕ) × (open_at R p v ≡ Some b)
        turn Ins ev = (ev.step.worker, ev.whose)
        turn Del ev = (ev.worker, ev.whose)

pub run_laws : (R : RunInTime) (N : ℕ) (m : Marks) → MarksTellRun R N m → MarksSound (time_bound N) (clock_at R N) m → RunLaws R N m
run_laws R N m tell ok = record {
  last = last R;
  know = know R;
  events = events R;
  once = once R;
  tell = tell;
  sound = ok;
  vertices = vertices R N m tell ok;
  edges = edges R N m tell ok;
  misses = misses R N m tell ok;
  row = row_of R;
  linked_or = linked_or R N;
  keys = keys_of R;
  worker = worker_of R;
  still = λ a w b c x asked answer whose. clock_stays R a w b x asked answer whose c;
  over = λ a w b x asked answer whose. change_early R a w b x asked answer whose;
}

-- From runs as functions of time to histories, and to what calls of the stepper can say.
use Rattle.std.proofs.Common.{◌≡◌, ℕ, zero, suc, Bool, true, false, cond, List, [], ◌∷◌, ◌++◌, drop, length, Some, None, Option, nat_lt, refl, sym, ◌∙◌, ap, ap₂, subst, subst₂, inl, inr, arith}
use Rattle.std.specs.Option.{option_or, option_map}
use Rattle.std.proofs.lemmas.Bool.{cases_eq, eq-eqb, ne_eqb, lt-ltb}
use Rattle.std.proofs.lemmas.Bool.Decides.{nat_tests}
use Rattle.layout.specs.declared.sizes.Sizes.{Sizes}
use Rattle.machine.specs.declared.request.Request.{Request}
use Rattle.machine.specs.declared.request.Request.TheVariants as request
use Rattle.machine.specs.declared.request.Reply.{Reply}
use Rattle.machine.specs.declared.request.Reply.TheVariants as reply
use Rattle.machine.specs.States.{State}
use Rattle.machine.specs.Requests.{reply_of, stepped}
use Rattle.machine.specs.Opening.{opened_state}
use Rattle.machine.specs.History.{Event, Traces}
use Rattle.order.specs.Graph.{empty}
use Rattle.order.specs.Order.{Ordered}
use Rattle.order.specs.Past.{Finish}
use Rattle.order.specs.Seen as timed
use Rattle.runs.proofs.Steps.{sizes_at}
use Rattle.runs.specs.Runs.{RunInTime, history_at}
use Rattle.runs.specs.Starts.{ShowsGraph}
use Rattle.runs.specs.Seen.{seen, sight_of as timed_sight}
use Rattle.promise.specs.Sights.{Sight, Sight.begins, Sight.turns, Sight.rests, sight_of, page_in, page_graph}
use Rattle.promise.specs.Calls.{begun_in, call_begun, call_as, open_after, open_by, is_call, is_sight_of_call, end_of, finish_at, finish_by, past_of, deed_by, stamp_as, lower_as}
use Rattle.promise.specs.Left.{graph_in}
use Rattle.promise.specs.Histories.{shown_by}
use Rattle.promise.specs.Bounds.{rows_held}
use Rattle.promise.specs.Promise.{PagesStay, Kept, Promised}
use Rattle.promise.specs.Bridges.{shown_at, raise_at, past_at, RunsShown, RunsSuffice, ContractsFollow, RunsKeepPages, RunsBounded, OrdersSuffice}
use Rattle.promise.proofs.Named.{page_named}
use Rattle.promise.proofs.Traced.{traces_shown}
use Rattle.promise.proofs.Left.{opened_rows}
use Rattle.runs.proofs.Histories.{histories_are_runs as histories}
use Rattle.runs.proofs.Starts.{openings_empty as fresh_starts}

-- a sight as `order` has it, where pages have n keys: turns that do not answer are not seen
abbrev forget : ℕ → Sight → timed.CallSight
forget n (begins w c) = timed.CallSight.begins w c
forget n (turns w d (Some e)) = timed.CallSight.finishes w e.answer (page_graph n e.page)
forget n (turns w d None) = timed.CallSight.neither
forget n rests = timed.CallSight.neither

forgotten : (z : Sizes) (before after : List ℕ) (q : Request) (r : Reply) → forget z.keys (sight_of z before after q r) ≡ timed_sight (λ w. page_graph z.keys (page_in z after w)) q r
forgotten z before after (request.Begin b) reply.Done = refl
forgotten z before after (request.Turn w) reply.Running = refl
forgotten z before after (request.Turn w) (reply.Answered a) = refl
forgotten z before after q r = refl

opens_alike : (n : ℕ) (s : Sight) (k w : ℕ) (x : Option ℕ) → open_after s k w x ≡ timed.open_after (forget n s) k w x
opens_alike n (begins v c) k w x = refl
opens_alike n (turns v d (Some e)) k w x = refl
opens_alike n (turns v d None) k w x = refl
opens_alike n rests k w x = refl

begins_alike : (n : ℕ) (s : Sight) → call_as (begun_in s) ≡ timed.call_begun (forget n s)
begins_alike n (begins v c) = refl
begins_alike n (turns v d (Some e)) = refl
begins_alike n (turns v d None) = refl
begins_alike n rests = refl

or_alike : {X : Type 0} (t : Bool) (x : X) (before : Option X) → option_or (cond t (Some x) None) before ≡ cond t (Some x) before
or_alike true x before = refl
or_alike false x before = refl

call_alike : (o : Option ℕ) (b : ℕ) → is_call o b ≡ timed.is_open o b
call_alike None b = refl
call_alike (Some a) b = refl

none_alike : {X : Type 0} (t : Bool) (before : Option X) → option_or (cond t None None) before ≡ before
none_alike true before = refl
none_alike false before = refl

finishes_alike : (n : ℕ) (s : Sight) (ss : List Sight) (k b : ℕ) (opens : ℕ → Option ℕ) (before : Option Finish) → length ss ≡ k → ((w : ℕ) → open_by ss w ≡ opens w) →
    option_or (cond (is_sight_of_call s ss b) (option_map (finish_at n (length ss)) (end_of s)) None) before ≡ timed.finish_after opens (forget n s) k b before
finishes_alike n (begins w c) ss k b opens before l o = refl
finishes_alike n (turns w d (Some e)) ss k b opens before l o =
    or_alike (is_call (open_by ss w) b) (finish_at n (length ss) e) before
    ∙ (ap₂ (λ (t : Bool) (time : ℕ). cond t (Some (finish_at n time e)) before) (call_alike (open_by ss w) b ∙ ap (λ x. timed.is_open x b) (o w)) l)
finishes_alike n (turns w d None) ss k b opens before l o = none_alike (is_call (open_by ss w) b) before
finishes_alike n rests ss k b opens before l o = refl

none_before : (b : ℕ) → nat_lt b 0 ≡ false
none_before b = grind (arith, nat_tests)

test_later : (b k : ℕ) → ¬ (b ≡ k) → nat_lt b k ≡ nat_lt b (suc k)
test_later b k n = grind (arith, nat_tests)

module _ (R : RunInTime) where
  pub shown_state : (k : ℕ) → (shown_at R k).state ≡ R.state k
  unfolding history_at
  shown_state zero = refl
  shown_state (suc k) = ap (λ s. stepped s (R.request k)) (shown_state k) ∙ sym (R.next k)

  pub shown_length : (k : ℕ) → length (shown_at R k).sights ≡ k
  unfolding history_at
  shown_length zero = refl
  shown_length (suc k) = ap suc (shown_length k)

  -- what is seen of request k
  abbrev pub sight_at : ℕ → Sight
  sight_at k = sight_of (shown_at R k).state.sizes (shown_at R k).state.cells (stepped (shown_at R k).state (R.request k)).cells (R.request k) (reply_of (R.state k) (R.request k))

  pub shown_next : (k : ℕ) → (shown_at R (suc k)).sights ≡ sight_at k ∷ (shown_at R k).sights
  unfolding history_at
  shown_next k = refl

  abbrev timed_by : Sizes → State → ℕ → timed.CallSight
  timed_by z after k = timed_sight (λ w. page_graph z.keys (page_in z after.cells w)) (R.request k) (reply_of (R.state k) (R.request k))

  seen_step : (k : ℕ) → forget R.sizes.keys (sight_at k) ≡ seen R k
  seen_step k =
      let here : (shown_at R k).state.sizes ≡ R.sizes = ap (λ (s : State). s.sizes) (shown_state k) ∙ sizes_at R k in
      ap (λ (z : Sizes). forget z.keys (sight_at k)) (sym here)
      ∙ forgotten (shown_at R k).state.sizes (shown_at R k).state.cells (stepped (shown_at R k).state (R.request k)).cells (R.request k) (reply_of (R.state k) (R.request k))
      ∙ ap (λ (z : Sizes). timed_by z (stepped (shown_at R k).state (R.request k)) k) (here ∙ sym (sizes_at R (suc k)))
      ∙ ap (λ (s : State). timed_by (R.state (suc k)).sizes s k) (ap (λ s. stepped s (R.request k)) (shown_state k) ∙ sym (R.next k))
      ∙ (λ i. timed_sight (λ w. page_named (R.state (suc k)) w i) (R.request k) (reply_of (R.state k) (R.request k)))

  pub shown_opens : (k w : ℕ) → open_by (shown_at R k).sights w ≡ timed.open_call (seen R) k w
  unfolding history_at timed.open_call
  shown_opens zero w = refl
  shown_opens (suc k) w =
      ap₂ (λ (time : ℕ) (x : Option ℕ). open_after (sight_at k) time w x) (shown_length k) (shown_opens k w)
      ∙ opens_alike R.sizes.keys (sight_at k) k w (timed.open_call (seen R) k w)
      ∙ ap (λ s. timed.open_after s k w (timed.open_call (seen R) k w)) (seen_step k)

  shown_finish : (k b : ℕ) → finish_by R.sizes.keys (shown_at R k).sights b ≡ timed.finish_by (seen R) k b
  unfolding history_at timed.finish_by
  shown_finish zero b = refl
  shown_finish (suc k) b =
      finishes_alike R.sizes.keys (sight_at k) (shown_at R k).sights k b (timed.open_call (seen R) k) (finish_by R.sizes.keys (shown_at R k).sights b) (shown_length k) (shown_opens k)
      ∙ ap₂ (λ (s : timed.CallSight) (x : Option Finish). timed.finish_after (timed.open_call (seen R) k) s k b x) (seen_step k) (shown_finish k b)

  shown_begun : (k b : ℕ) → call_as (call_begun (shown_at R k).sights b) ≡ cond (nat_lt b k) (timed.call_begun (seen R b)) None
  unfolding history_at
  shown_begun zero b = rw (none_before b) refl
  shown_begun (suc k) b = elim (cases_eq b k) [
    | inl q ↦
        ap call_as (rw (eq-eqb b (length (shown_at R k).sights) (q ∙ sym (shown_length k))) refl)
        ∙ begins_alike R.sizes.keys (sight_at k) ∙ ap timed.call_begun (seen_step k ∙ ap (seen R) (sym q)) ∙ (rw (lt-ltb b (suc k) (omega arith)) refl)
    | inr q ↦
        ap call_as (rw (ne_eqb b (length (shown_at R k).sights) (λ e. q (e ∙ shown_length k))) refl)
        ∙ shown_begun k b ∙ ap (λ t. cond t (timed.call_begun (seen R b)) None) (test_later b k q)
  ]

  pub shown_past : (k : ℕ) → past_of R.sizes (shown_at R k).sights (shown_at R k).state.cells ≡ past_at R k
  shown_past k = λ i. record {
    begun = λ b. shown_begun k b i;
    finish = λ b. shown_finish k b i;
    stamp = λ b. stamp_as R.sizes (shown_state k i).cells (deed_by (shown_at R k).sights b);
    raise = raise_at R k;
    lower_end = λ b. lower_as R.sizes (shown_state k i).cells (deed_by (shown_at R k).sights b);
  }

pub runs_shown : RunsShown
runs_shown R now = record { state = shown_state R now; opens = shown_opens R now; past = shown_past R now }

-- every history is that of a run
pub runs_suffice : RunsSuffice
runs_suffice promised start g h s clean shows t =
    let f = histories start clean h s t in
    let p : Promised (f.run.state 0) g (history_at f.run (length h)) = promised f.run g (subst (λ s. ShowsGraph s g) (sym f.starts) shows) (length h) in
    subst₂ (λ s h. Promised s g h) f.starts f.history p

-- a history that leads somewhere led somewhere before its latest events
traces_part : (start : State) (h more : List Event) (s : State) → Traces start (more ++ h) s → (k : ℕ) → (t : State) × Traces start (drop k more ++ h) t
traces_part start h [] s t zero = (s, t)
traces_part start h [] s t (suc k) = (s, t)
traces_part start h (e ∷ more) s t zero = (s, t)
traces_part start h (e ∷ more) s t (suc k) = traces_part start h more t.0 t.1 k

pub contracts_follow : ContractsFollow
contracts_follow = record {
  opening = λ p cs z room. (let o = fresh_starts z cs room in p (opened_state cs z) empty [] (opened_state cs z) o.0 o.1 refl);
  openings = λ p cs z h s room t.
      let o = fresh_starts z cs room in
      subst₂ (λ n x. Kept z n empty (shown_by (opened_state cs z) h).sights x) (opened_rows z cs room) (ap (λ (s : State). s.cells) (traces_shown (opened_state cs z) h s t)) (p (opened_state cs z) empty h s o.0 o.1 t);
  request = λ p before after q r extends start g h clean shows t.
      let more : Traces start (record { request = q; reply = r } ∷ h) after = extends start h t in
      (more, p start g (record { request = q; reply = r } ∷ h) after clean shows more);
  several = λ p before after more continues start g h clean shows t.
      let all : Traces start (more ++ h) after = continues start h t in
      (all, λ k. (let (s, part) = traces_part start h more after all k in p start g (drop k more ++ h) s clean shows part));
}

pub orders_suffice : RunsKeepPages → RunsBounded → OrdersSuffice
orders_suffice keep bounds ordered R g shows now = subst (λ (z : Sizes). Kept z (rows_held z (R.state 0).cells) g (shown_at R now).sights (shown_at R now).state.cells) (sym R.start) (record {
  order = subst₂ (λ h e. Ordered h g e) (sym (shown_past R now)) (ap (λ (s : State). graph_in R.sizes s.cells) (sym (shown_state R now))) (ordered R g shows now);
  bounds = bounds R now;
  pages = subst (λ (s : State). PagesStay R.sizes (shown_at R now).sights s.cells) (sym (shown_state R now)) (keep R now);
})

-- Rows that their owners count are linked: a turn counts at most one more and links it, a begin counts none, and an opening has counted none.
use Rattle.std.proofs.Common.{◌≡◌, ℕ, ◌+◌, ◌<◌, cond, Some, Ok, ◌⊎◌, inl, inr, ⊎_elim, sym, refl, ap, ◌∙◌, subst, arith}
use Rattle.std.proofs.lemmas.Bool.{cases_eq}
use Rattle.layout.specs.declared.names.Kind.{Kind}
use Rattle.layout.specs.declared.names.Kind.TheVariants.{Vertex, Edge}
use Rattle.layout.specs.Rows.{row_at}
use Rattle.places.specs.declared.call.Begin.{Begin}
use Rattle.places.specs.declared.place.Call.{Call}
use Rattle.places.specs.Moved.{Next, Next as next}
use Rattle.places.specs.Touches.{change_kind}
use Rattle.machine.specs.States.{State}
use Rattle.machine.specs.Opening.{opened_state}
use Rattle.machine.specs.Workers.{fresh, nobody, linked_of}
use Rattle.machine.specs.Turns.{worker_at, next_at, turned}
use Rattle.machine.specs.Requests.{call_to_begin, state_begun}
use Rattle.laws.specs.Fits.{Linked, Counted}
use Rattle.laws.specs.Changes.{next_own}
use Rattle.laws.specs.Sound.{Sound}
use Rattle.laws.specs.CountedRows.{CountedLinked, RunsLinkCounted, CountedRowsLinked, CountedRowsSound}
use Rattle.laws.proofs.Stays.{turns_keep_counted}
use Rattle.laws.proofs.Grows.{LaterBy, row_later, place_later}
use Rattle.laws.proofs.Counts.{same_kind, count_after}
use Rattle.laws.proofs.Keeps.{record_each, own_count, linking, new_linked, later}
use Rattle.laws.proofs.Begins.{count_same}
use Rattle.laws.proofs.Rests.{Rests, rest_each}
use Rattle.laws.proofs.Served.{get_or-replicate}
use Rattle.laws.proofs.Steps.{step_each, run_each}
use Rattle.laws.proofs.Clean.{open_clean}
use Rattle.laws.proofs.Runs.{runs_sound}
use Rattle.laws.proofs.StampRuns.{runs_stamp}

-- a number below the count after a link of kind c was below the count before, or it is that count and the kind is c
counted_now : (c k : Kind) (m n : ℕ) → m < cond (same_kind c k) (n + 1) n → (m < n) ⊎ ((c ≡ k) × (m ≡ n))
counted_now Vertex Vertex m n l = ⊎_elim (λ (e : m ≡ n). inr (refl, e)) (λ (u : m ≡ n → ⊥). inl (omega (arith, u))) (cases_eq m n)
counted_now Edge Edge m n l = ⊎_elim (λ (e : m ≡ n). inr (refl, e)) (λ (u : m ≡ n → ⊥). inl (omega (arith, u))) (cases_eq m n)
counted_now c k m n l = inl l

-- a turn
module _ (s : State) (w : ℕ) (z : Sound s) (b : w < s.sizes.workers) (c : CountedLinked s) where
  abbrev t : State
  t = turned s w

  abbrev n : Kind → ℕ
  n k = linked_of (worker_at s w) k

  -- what was counted is linked, and stays so
  old_linked : (v m : ℕ) (k : Kind) (r : ℕ) → m < linked_of (worker_at s v) k → row_at s.sizes k v m ≡ Some r → Linked t k r
  old_linked v m k r l i = (later s w z b).linked k r (c k r (record { owner = v; nth = m; before = l; is = i }))

  own_linked : (x : Next) → next_at s w ≡ x → (m : ℕ) (k : Kind) (r : ℕ) → m < count_after x k (n k) → row_at s.sizes k w m ≡ Some r → Linked t k r
  own_linked (next.Linked d q) e m k r l i =
      ⊎_elim (λ (o : m < n k). old_linked w m k r o i)
      (λ (o : (change_kind d ≡ k) × (m ≡ n k)).
      let own : next_own s w k ≡ Some q = subst (λ (j : Kind). next_own s w j ≡ Some q) o.0 (linking s w z b d q e).own in
      let same : Some q ≡ Some r = sym own ∙ ap (row_at s.sizes k w) (sym o.1) ∙ i in
      let row : q ≡ r = cc in
      subst (Linked t k) row (subst (λ (j : Kind). Linked t j q) o.0 (new_linked s w z b d q e)))
      (counted_now (change_kind d) k m (n k) l)
  own_linked x e m k r l i = old_linked w m k r l i

  pub turn_counted : CountedLinked t
  turn_counted k r x =
      record_each s w z b (λ v u. x.nth < linked_of u k → row_at s.sizes k v x.nth ≡ Some r → Linked t k r)
      (λ l i. own_linked (next_at s w) refl x.nth k r (subst (λ m. x.nth < m) (own_count s w z b k) l) i)
      (λ v l i. old_linked v x.nth k r l i)
      x.owner x.before x.is

-- a begin counts no row and changes no cell
begin_counted : (s : State) (b : Begin) (z : Sound s) (c : Call) (e : call_to_begin s b ≡ Ok c) → CountedLinked s → CountedLinked (state_begun s b.worker (Ok c))
begin_counted s b z c e l k r x = l k r (record { owner = x.owner; nth = x.nth; before = subst (λ m. x.nth < m) (count_same s b z c e x.owner k) x.before; is = x.is })

-- nor does what rests
rest_counted : (s : State) → CountedLinked s → (t : State) → Rests s t → CountedLinked t
rest_counted s l t r = rest_each s t r CountedLinked (λ k q x. l k q (record { owner = x.owner; nth = x.nth; before = omega (arith, x.before, (r.workers x.owner).linked k); is = x.is }))

pub runs_link_counted : RunsLinkCounted
runs_link_counted start c l =
    run_each start (λ h s. CountedLinked s) l
    (λ e h s t k. let z = runs_sound start c h s t in step_each s CountedLinked (rest_counted s k) (λ b c q. begin_counted s b z c q k) (λ w b. turn_counted s w z b k) e.request)

-- an opening has counted no row
none_counted : (k : Kind) → linked_of fresh k ≡ 0
none_counted Vertex = refl
none_counted Edge = refl

nobody_counts : (k : Kind) → linked_of nobody k ≡ 0
nobody_counts Vertex = refl
nobody_counts Edge = refl

pub counted_rows_linked : CountedRowsLinked
counted_rows_linked z cs l =
    runs_link_counted (opened_state cs z) (open_clean z cs l)
    (λ k r x. let none : linked_of (worker_at (opened_state cs z) x.owner) k ≡ 0 = get_or-replicate (λ u. linked_of u k ≡ 0) 8 x.owner fresh nobody (none_counted k) (nobody_counts k) in absurd (omega (arith, x.before, none)))

pub counted_rows_sound : CountedRowsSound
counted_rows_sound z cs e h s t =
    let start = open_clean z cs e in
    let c = counted_rows_linked z cs e h s t in
    let k = runs_sound (opened_state cs z) start h s t in
    let l = runs_stamp (opened_state cs z) start h s t in
    let same : LaterBy Linked Counted s s = record { sizes = refl; linked = k.counted; some = λ h m p. p } in
    let places = λ (w : ℕ) (b : w < s.sizes.workers). place_later s s same (worker_at s w).place (k.places w b) in
    record {
      heads = λ g m. row_later s s same _ _ (k.heads g m);
      olders = λ j r x. row_later s s same j _ (k.olders j r (c j r x));
      places = places;
      laws = λ w b. turns_keep_counted s w b k.cells (places w b);
      fields = λ j f r x. l.fields j f r (c j r x);
      turns = λ w b j f r x. l.turns w b j f r (c j r x);
      starts = λ w b j f r n x. l.starts w b j f r (λ o. n (k.counted j r o)) (turn_counted s w k b c j r x);
    }

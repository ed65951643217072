-- One turn of a run: the deed that its cells tell is the one that it did.
use Rattle.std.proofs.Common.{◌≡◌, ℕ, suc, ◌+◌, ◌<◌, false, List, Some, None, Ok, Option, refl, sym, ◌∙◌, ap, subst, inl, inr, arith}
use Rattle.std.proofs.lemmas.Bool.{cases_eq, eq-eqb, ne_eqb, lt-ltb}
use Rattle.layout.specs.declared.sizes.Sizes.{Sizes}
use Rattle.layout.specs.declared.names.Kind.{Kind}
use Rattle.layout.specs.declared.names.Kind.TheVariants.{Vertex, Edge}
use Rattle.layout.specs.declared.names.Field.TheVariants.{Del}
use Rattle.layout.specs.declared.names.Head.{Head}
use Rattle.layout.specs.declared.names.Cell.{Cell}
use Rattle.layout.specs.declared.names.Cell.TheVariants as cell
use Rattle.layout.specs.Layout.{Named, IsRow}
use Rattle.places.specs.declared.place.Change.{Change}
use Rattle.places.specs.declared.place.Survey.{Survey}
use Rattle.places.specs.declared.place.Place.{Place}
use Rattle.places.specs.declared.place.Place.TheVariants as place
use Rattle.places.specs.declared.mark.Mark.TheVariants.{NotEnded, Pending, Stamp}
use Rattle.places.specs.Marks.{pending, mark_of}
use Rattle.places.specs.Touches.{change_head, change_kind}
use Rattle.machine.specs.declared.request.Request.TheVariants as request
use Rattle.machine.specs.States.{State}
use Rattle.machine.specs.Turns.{worker_at, cell_at, answer_at, turned}
use Rattle.machine.specs.Requests.{is_idle, turn_refused, answered_or, unless_refused, state_or, reply_of, stepped}
use Rattle.laws.specs.Fits.{Linked, FitPlace, RowOrNone}
use Rattle.laws.specs.Changes.{number_in, Changes, Changes.keeps, Changes.ticks, Changes.links, Changes.stamps, Changes.ends, Changes.fills, Changes.writes}
use Rattle.runs.specs.Runs.{RunInTime, history_at}
use Rattle.runs.specs.Views.{number_at, clock_at, head_at, place_at}
use Rattle.runs.specs.Seen.{open_at}
use Rattle.runs.specs.Steps.{TurnAt, HeadSteps, HeadSteps.stays, HeadSteps.moves}
use Rattle.runs.specs.Known.{Known, LinkEvent, EndEvent}
use Rattle.runs.specs.Reasons.{WorkerKnows, WorkerKnows.free, WorkerKnows.busy}
use Rattle.runs.proofs.Histories.{traced}
use Rattle.runs.proofs.TurnSteps.{no_settled_head}
use Rattle.runs.proofs.Steps.{sound_at, sizes_at}
use Rattle.promise.specs.Sights.{Deed, Deed.links, Deed.ends, Deed.raises, head_moved, del_begun, some_head_moved, some_del_begun, deed_in}
use Rattle.promise.specs.Deeds.{RaiseEvent, DeedEvent}
use Rattle.promise.proofs.Firsts.{moved_is, is_moved, begun_is, is_begun, clock_is, is_clock, head_found, heads_none, del_found, dels_none, DeedFrom, DeedFrom.from_head, DeedFrom.from_del, DeedFrom.from_clock, deed_from, deed_of_head, deed_of_vertex, deed_of_edge, deed_of_clock, some_or_none}
use Rattle.laws.proofs.Runs.{runs_keep_laws as keep}
use Rattle.runs.proofs.Steps.{runs_step as step}
use Rattle.runs.proofs.Knows.{runs_know as know}
use Rattle.laws.proofs.Owned.{linked_row}
use Rattle.laws.proofs.Heads.{change_named}
use Rattle.surveys.proofs.Raises.{no_settled_clock}

not_idle : (p : Place) → ¬ (p ≡ place.Idle) → is_idle p ≡ false
not_idle place.Idle n = absurd (n refl)
not_idle p n = refl

same_link : (h g : Head) (r q : ℕ) → ◌≡◌ {A = Deed} (links h r) (links g q) → h ≡ g
same_link h g r q e = cc

pub not_ended : (n : ℕ) → mark_of n ≡ NotEnded → n ≡ 0
not_ended n e = elim (cases_eq n 0) [
  | inl q ↦ q
  | inr q ↦ elim (cases_eq n pending) [
    | inl p ↦ absurd (let f : Pending ≡ NotEnded = rw (ne_eqb n 0 q, eq-eqb n pending p) at e in cc)
    | inr p ↦ absurd (let f : Stamp n ≡ NotEnded = rw (ne_eqb n 0 q, ne_eqb n pending p) at e in cc)
  ]
]

pub is_pending : (n : ℕ) → mark_of n ≡ Pending → n ≡ pending
is_pending n e = elim (cases_eq n 0) [
  | inl q ↦ absurd (let f : NotEnded ≡ Pending = rw (eq-eqb n 0 q) at e in cc)
  | inr q ↦ elim (cases_eq n pending) [
    | inl p ↦ p
    | inr p ↦ absurd (let f : Stamp n ≡ Pending = rw (ne_eqb n 0 q, ne_eqb n pending p) at e in cc)
  ]
]

module _ (R : RunInTime) (k : ℕ) where
  abbrev before : List ℕ
  before = (R.state k).cells

  abbrev after : List ℕ
  after = (R.state (suc k)).cells

  abbrev old : Cell → ℕ
  old c = cell_at R.sizes before c

  abbrev new : Cell → ℕ
  new c = cell_at R.sizes after c

  -- the deed that the cells tell
  abbrev pub deed_at : Option Deed
  deed_at = deed_in R.sizes before after

  is_old : (c : Cell) → number_at R k c ≡ old c
  is_old c = ap (λ z. cell_at z before c) (sizes_at R k)

  is_new : (c : Cell) → number_at R (suc k) c ≡ new c
  is_new c = ap (λ z. cell_at z after c) (sizes_at R (suc k))

  -- an accepted turn of a worker
  pub record Taken (w : ℕ) : Type 0 where
    pub asked : R.request k ≡ request.Turn w
    pub within : w < R.sizes.workers
    pub accepted : turn_refused (R.state k) w ≡ None
    pub reply : reply_of (R.state k) (R.request k) ≡ answered_or (Ok (answer_at (R.state k) w))
    pub next : R.state (suc k) ≡ turned (R.state k) w

  pub taken_where : (w : ℕ) → R.request k ≡ request.Turn w → w < R.sizes.workers → turn_refused (R.state k) w ≡ None → Taken w
  taken_where w e l n = record {
    asked = e;
    within = l;
    accepted = n;
    reply = ap (reply_of (R.state k)) e ∙ ap (λ r. answered_or (unless_refused r (answer_at (R.state k) w))) n;
    next = R.next k ∙ ap (stepped (R.state k)) e ∙ ap (λ r. state_or r (R.state k) (turned (R.state k) w)) n;
  }

  -- a turn at a place of a call is accepted
  pub taken_at : (w : ℕ) (p : Place) → TurnAt R k w p → ¬ (p ≡ place.Idle) → Taken w
  taken_at w p t n =
      let l : w < (R.state k).sizes.workers = subst (λ (z : Sizes). w < z.workers) (sym (sizes_at R k)) t.within in
      let i : is_idle (worker_at (R.state k) w).place ≡ false = ap is_idle t.place ∙ not_idle p n in
      taken_where w t.asked t.within (rw (lt-ltb w (R.state k).sizes.workers l, i) refl)

  module _ (w : ℕ) (t : Taken w) where
    pub changes_at : (c : Cell) → Named R.sizes c → Changes (R.state k) w c (old c) (new c)
    changes_at c n =
        let here : w < (R.state k).sizes.workers = subst (λ (z : Sizes). w < z.workers) (sym (sizes_at R k)) t.within in
        let laws = keep (R.state 0) R.clean (history_at R k) (R.state k) (traced R k) w here in
        let there = subst (λ z. (c : Cell) → Named z c → Changes (R.state k) w c (cell_at z before c) (cell_at z (turned (R.state k) w).cells c)) (sizes_at R k) laws.changes in
        subst (λ (s : State). Changes (R.state k) w c (old c) (cell_at R.sizes s.cells c)) (sym t.next) (there c n)

    -- a head moves in a link turn
    pub record HeadDid (h : Head) : Type 0 where
      pub change : Change
      pub at : place_at R k w ≡ place.Link change (old (cell.Head h))
      pub is : change_head change ≡ h

    head_did : (h : Head) (x y : ℕ) → Changes (R.state k) w (cell.Head h) x y → x ≡ old (cell.Head h) → ¬ (x ≡ y) → HeadDid h
    head_did h x y (keeps e) o n = absurd (n (sym e))
    head_did h x y (ticks v e i b q) o n = absurd cc
    head_did h x y (links d e i p) o n = record { change = d; at = subst (λ m. place_at R k w ≡ place.Link d m) o e; is = cc }
    head_did h x y (stamps p e i q) o n = absurd (no_settled_head h p i)
    head_did h x y (ends d r e i p q) o n = absurd cc
    head_did h x y (fills c r p i b) o n = absurd i
    head_did h x y (writes i z) o n = absurd i

    pub moved_head : (h : Head) → Named R.sizes (cell.Head h) → ¬ (old (cell.Head h) ≡ new (cell.Head h)) → HeadDid h
    moved_head h m n = head_did h (old (cell.Head h)) (new (cell.Head h)) (changes_at (cell.Head h) m) refl n

    -- del goes from 0 to pending in the turn that ends the row
    pub record DelDid (c : Kind) (r : ℕ) : Type 0 where
      pub change : Change
      pub at : place_at R k w ≡ place.End change r
      pub is : change_kind change ≡ c

    del_did : (c : Kind) (r x y : ℕ) → Changes (R.state k) w (cell.Stamp c Del r) x y → x ≡ 0 → y ≡ pending → DelDid c r
    del_did c r x y (keeps e) o n = absurd (omega arith)
    del_did c r x y (ticks v e i b q) o n = absurd cc
    del_did c r x y (links d e i p) o n = absurd cc
    del_did c r x y (stamps p e i q) o n = absurd (omega arith)
    del_did c r x y (ends d q e i p m) o n = (let a : c ≡ change_kind d = cc in let b : r ≡ q = cc in record { change = d; at = subst (λ j. place_at R k w ≡ place.End d j) (sym b) e; is = sym a })
    del_did c r x y (fills j q p i b) o n = absurd (omega arith)
    del_did c r x y (writes i z) o n = absurd i

    pub begun_del : (c : Kind) (r : ℕ) → IsRow R.sizes c r → old (cell.Stamp c Del r) ≡ 0 → new (cell.Stamp c Del r) ≡ pending → DelDid c r
    begun_del c r m e f = del_did c r (old (cell.Stamp c Del r)) (new (cell.Stamp c Del r)) (changes_at (cell.Stamp c Del r) m) e f

    -- the clock moves in a raise
    pub record ClockDid : Type 0 where
      pub survey : Survey
      pub at : place_at R k w ≡ place.Raise survey
      pub by_one : new cell.Clock ≡ old cell.Clock + 1

    clock_did : (x y : ℕ) → Changes (R.state k) w cell.Clock x y → x ≡ old cell.Clock → y ≡ new cell.Clock → ¬ (x ≡ y) → ClockDid
    clock_did x y (keeps e) o m n = absurd (n (sym e))
    clock_did x y (ticks v e i b q) o m n = record { survey = v; at = e; by_one = omega arith }
    clock_did x y (links d e i p) o m n = absurd cc
    clock_did x y (stamps p e i q) o m n = absurd (no_settled_clock p i)
    clock_did x y (ends d r e i p q) o m n = absurd cc
    clock_did x y (fills c r p i b) o m n = absurd i
    clock_did x y (writes i z) o m n = absurd i

    pub moved_clock : ¬ (old cell.Clock ≡ new cell.Clock) → ClockDid
    moved_clock n = clock_did (old cell.Clock) (new cell.Clock) (changes_at cell.Clock tt) refl refl n

    -- in a turn at another place no head moves, and no del becomes pending
    no_heads : ((d : Change) (h : ℕ) → ¬ (place_at R k w ≡ place.Link d h)) → some_head_moved R.sizes before after ≡ None
    no_heads n = heads_none R.sizes before after (λ x s. let m = moved_is R.sizes before after s.it x s.moved in let d = moved_head s.it s.named m.0 in n d.change (old (cell.Head s.it)) d.at)

    no_dels : ((d : Change) (r : ℕ) → ¬ (place_at R k w ≡ place.End d r)) → (c : Kind) → some_del_begun R.sizes before after c ≡ None
    no_dels n c = dels_none R.sizes before after c (λ x s. let m = begun_is R.sizes before after c s.row x s.begun in let d = begun_del c s.row s.named m.0 m.1 in n d.change s.row d.at)

  -- a turn of the call b tells what it did
  module _ (w b : ℕ) (t : Taken w) (o : open_at R k w ≡ Some b) where
    turn_at : (p : Place) → place_at R k w ≡ p → TurnAt R k w p
    turn_at p e = record { asked = t.asked; within = t.within; place = e }

    knows : (p : Place) → place_at R k w ≡ p → Known R k b p
    knows p e = go ((know R).workers k w t.within)
      where
        go : WorkerKnows R k w → Known R k b p
        go (free f i) = absurd (let g : None ≡ Some b = sym f ∙ o in cc)
        go (busy a c f g i n) = (let q : Some a ≡ Some b = sym f ∙ o in let same : a ≡ b = cc in subst (Known R k b) e (subst (λ a. Known R k a (place_at R k w)) same n))

    link_told : (h : Head) → Named R.sizes (cell.Head h) → ¬ (old (cell.Head h) ≡ new (cell.Head h)) → DeedEvent R k b (links h (new (cell.Head h)))
    link_told h m n = go (head_at R (suc k) h) refl ((step R k).heads h m)
      where
        go : (y : ℕ) → head_at R (suc k) h ≡ y → HeadSteps R k h y → DeedEvent R k b (links h (new (cell.Head h)))
        go y q (stays e) = absurd (n (sym (is_old (cell.Head h)) ∙ sym e ∙ sym q ∙ is_new (cell.Head h)))
        go y q (moves d c l) =
            let f : request.Turn l.worker ≡ request.Turn w = sym l.turn.asked ∙ t.asked in
            let same : l.worker ≡ w = cc in
            let at : place_at R k w ≡ place.Link d (head_at R k (change_head d)) = subst (λ v. place_at R k v ≡ place.Link d (head_at R k (change_head d))) same l.turn.place in
            let ev : LinkEvent R k b d y = record { step = l; whose = subst (λ v. open_at R k v ≡ Some b) (sym same) o; why = knows (place.Link d (head_at R k (change_head d))) at } in
            (d, c, subst (LinkEvent R k b d) (sym q ∙ is_new (cell.Head h)) ev)

    end_told : (c : Kind) (r : ℕ) → IsRow R.sizes c r → old (cell.Stamp c Del r) ≡ 0 → new (cell.Stamp c Del r) ≡ pending → DeedEvent R k b (ends c r)
    end_told c r m e f =
        let did = begun_del w t c r m e f in
        let d = did.change in
        let here : w < (R.state k).sizes.workers = subst (λ (z : Sizes). w < z.workers) (sym (sizes_at R k)) t.within in
        let fits : FitPlace (R.state k) (place.End d r) = subst (FitPlace (R.state k)) did.at ((sound_at R k).places w here) in
        let known = knows (place.End d r) did.at in
        let was : number_at R k (cell.Stamp (change_kind d) Del r) ≡ 0 = is_old (cell.Stamp (change_kind d) Del r) ∙ subst (λ c. old (cell.Stamp c Del r) ≡ 0) (sym did.is) e in
        let now : number_at R (suc k) (cell.Stamp (change_kind d) Del r) ≡ pending = is_new (cell.Stamp (change_kind d) Del r) ∙ subst (λ c. new (cell.Stamp c Del r) ≡ pending) (sym did.is) f in
        (d, did.is, record { worker = w; turn = turn_at (place.End d r) did.at; whose = o; before = ap mark_of was; after = ap mark_of now; linked = fits.1.linked; born = known.0; why = known.1 })

    raise_told : ¬ (old cell.Clock ≡ new cell.Clock) → DeedEvent R k b (raises (old cell.Clock))
    raise_told n =
        let did = moved_clock w t n in
        (record { worker = w; survey = did.survey; turn = turn_at (place.Raise did.survey) did.at; whose = o; moved = omega (arith, is_old cell.Clock, is_new cell.Clock, did.by_one) }, is_old cell.Clock)

    pub deed_told : (x : Deed) → deed_at ≡ Some x → DeedEvent R k b x
    deed_told x e = go (deed_from R.sizes before after x e)
      where
        go : DeedFrom R.sizes before after x → DeedEvent R k b x
        go (from_head s) = (let m = moved_is R.sizes before after s.it x s.moved in subst (DeedEvent R k b) (sym m.1) (link_told s.it s.named m.0))
        go (from_del c s) = (let m = begun_is R.sizes before after c s.row x s.begun in subst (DeedEvent R k b) (sym m.2) (end_told c s.row s.named m.0 m.1))
        go (from_clock c) = (let m = clock_is R.sizes before after x c in subst (DeedEvent R k b) (sym m.1) (raise_told m.0))

  stays_none : (h : Head) → old (cell.Head h) ≡ new (cell.Head h) → head_moved R.sizes before after h ≡ None
  stays_none h e = rw (eq-eqb (old (cell.Head h)) (new (cell.Head h)) e) refl

  -- what a call did at a turn is seen
  module _ (b : ℕ) where
    link_seen : (d : Change) (r : ℕ) → LinkEvent R k b d r → deed_at ≡ Some (links (change_head d) r)
    link_seen d r ev =
        let w = ev.step.worker in
        let at = ev.step.turn.place in
        let t = taken_at w (place.Link d (head_at R k (change_head d))) ev.step.turn (λ q. absurd cc) in
        let z = sound_at R k in
        let here : w < (R.state k).sizes.workers = subst (λ (z : Sizes). w < z.workers) (sym (sizes_at R k)) t.within in
        let fits : FitPlace (R.state k) (place.Link d (head_at R k (change_head d))) = subst (FitPlace (R.state k)) at (z.places w here) in
        let named : Named R.sizes (cell.Head (change_head d)) = subst (λ z. Named z (cell.Head (change_head d))) (sizes_at R k) (change_named (R.state k) d fits.0) in
        let now : new (cell.Head (change_head d)) ≡ r = sym (is_new (cell.Head (change_head d))) ∙ ev.step.head in
        let moved : ¬ (old (cell.Head (change_head d)) ≡ new (cell.Head (change_head d))) = λ q. fresh d r ev (is_old (cell.Head (change_head d)) ∙ q ∙ now) (z.heads (change_head d) (change_named (R.state k) d fits.0)) in
        deed_of_head R.sizes before after (links (change_head d) r)
        (head_found R.sizes before after (change_head d) (links (change_head d) r) named
        (is_moved R.sizes before after (change_head d) moved ∙ ap (λ y. Some (links (change_head d) y)) now)
        (λ g n a. others d w t at g n a))
      where
        fresh : (d : Change) (r : ℕ) → LinkEvent R k b d r → number_at R k (cell.Head (change_head d)) ≡ r → RowOrNone (R.state k) (change_kind d) (number_in (R.state k) (cell.Head (change_head d))) → ⊥
        fresh d r ev e (inl q) = (let n = linked_row (R.state (suc k)) (change_kind d) r ev.step.linked in omega (arith, e, q, n.0))
        fresh d r ev e (inr l) = ev.step.fresh (subst (Linked (R.state k) (change_kind d)) e l)

        others : (d : Change) (w : ℕ) → Taken w → place_at R k w ≡ place.Link d (head_at R k (change_head d)) → (g : Head) → Named R.sizes (cell.Head g) → ¬ (g ≡ change_head d) → head_moved R.sizes before after g ≡ None
        others d w t at g n a = elim (cases_eq (old (cell.Head g)) (new (cell.Head g))) [
          | inl q ↦ stays_none g q
          | inr q ↦ absurd (let m = moved_head w t g n q in let p : place.Link m.change (old (cell.Head g)) ≡ place.Link d (head_at R k (change_head d)) = sym m.at ∙ at in let c : m.change ≡ d = cc in a (sym m.is ∙ ap change_head c))
        ]

    module _ (d : Change) (r : ℕ) (ev : EndEvent R k b d r) where
      end_taken : Taken ev.worker
      end_taken = taken_at ev.worker (place.End d r) ev.turn (λ q. absurd cc)

      no_head : some_head_moved R.sizes before after ≡ None
      no_head = no_heads ev.worker end_taken (λ e h q. absurd (let p : place.End d r ≡ place.Link e h = sym ev.turn.place ∙ q in cc))

      -- a del that became pending is that of this row
      only_del : (c : Kind) (q : ℕ) (x : Deed) → IsRow R.sizes c q → del_begun R.sizes before after c q ≡ Some x → (change_kind d ≡ c) × (q ≡ r)
      only_del c q x n e =
          let m = begun_is R.sizes before after c q x e in
          let did = begun_del ev.worker end_taken c q n m.0 m.1 in
          let p : place.End did.change q ≡ place.End d r = sym did.at ∙ ev.turn.place in
          let same : did.change ≡ d = cc in
          (ap change_kind (sym same) ∙ did.is, cc)

      this_del : del_begun R.sizes before after (change_kind d) r ≡ Some (ends (change_kind d) r)
      this_del =
          is_begun R.sizes before after (change_kind d) r
          (sym (is_old (cell.Stamp (change_kind d) Del r)) ∙ not_ended (number_at R k (cell.Stamp (change_kind d) Del r)) ev.before)
          (sym (is_new (cell.Stamp (change_kind d) Del r)) ∙ is_pending (number_at R (suc k) (cell.Stamp (change_kind d) Del r)) ev.after)

      this_row : IsRow R.sizes (change_kind d) r
      this_row = subst (λ z. IsRow z (change_kind d) r) (sizes_at R k) (linked_row (R.state k) (change_kind d) r ev.linked)

      these_dels : some_del_begun R.sizes before after (change_kind d) ≡ Some (ends (change_kind d) r)
      these_dels = del_found R.sizes before after (change_kind d) r (ends (change_kind d) r) this_row this_del
          (λ q n a. some_or_none (del_begun R.sizes before after (change_kind d) q) (λ x e. a (only_del (change_kind d) q x n e).1))

      other_dels : (c : Kind) → ¬ (change_kind d ≡ c) → some_del_begun R.sizes before after c ≡ None
      other_dels c a = dels_none R.sizes before after c (λ x s. a (only_del c s.row x s.named s.begun).0)

      end_seen_as : (c : Kind) → change_kind d ≡ c → some_del_begun R.sizes before after c ≡ Some (ends c r) → deed_at ≡ Some (ends c r)
      end_seen_as Vertex e f = deed_of_vertex R.sizes before after (ends Vertex r) no_head f
      end_seen_as Edge e f = deed_of_edge R.sizes before after (ends Edge r) no_head (other_dels Vertex (λ q. absurd (let p : Edge ≡ Vertex = sym e ∙ q in cc))) f

      end_seen : deed_at ≡ Some (ends (change_kind d) r)
      end_seen = end_seen_as (change_kind d) refl these_dels

    raise_seen : RaiseEvent R k b → deed_at ≡ Some (raises (clock_at R k))
    raise_seen ev =
        let w = ev.worker in
        let t = taken_at w (place.Raise ev.survey) ev.turn (λ q. absurd cc) in
        let heads = no_heads w t (λ d h q. absurd (let p : place.Raise ev.survey ≡ place.Link d h = sym ev.turn.place ∙ q in cc)) in
        let dels = no_dels w t (λ d r q. absurd (let p : place.Raise ev.survey ≡ place.End d r = sym ev.turn.place ∙ q in cc)) in
        let moved : ¬ (old cell.Clock ≡ new cell.Clock) = λ q. omega (arith, is_old cell.Clock, is_new cell.Clock, ev.moved, q) in
        deed_of_clock R.sizes before after (raises (clock_at R k)) heads (dels Vertex) (dels Edge)
        (is_clock R.sizes before after moved ∙ ap (λ y. Some (raises y)) (sym (is_old cell.Clock)))

    pub event_seen : (x : Deed) → DeedEvent R k b x → deed_at ≡ Some x
    event_seen (links h r) (d, e, ev) = link_seen d r ev ∙ ap (λ h. Some (links h r)) e
    event_seen (ends c r) (d, e, ev) = end_seen d r ev ∙ ap (λ c. Some (ends c r)) e
    event_seen (raises t) (ev, e) = raise_seen ev ∙ ap (λ t. Some (raises t)) e

    -- the worker whose turn it was
    pub record DeedTurn : Type 0 where
      pub worker : ℕ
      pub taken : Taken worker
      pub whose : open_at R k worker ≡ Some b

    pub deed_turn : (x : Deed) → DeedEvent R k b x → DeedTurn
    deed_turn (links h r) (d, e, ev) = record { worker = ev.step.worker; taken = taken_at ev.step.worker (place.Link d (head_at R k (change_head d))) ev.step.turn (λ q. absurd cc); whose = ev.whose }
    deed_turn (ends c r) (d, e, ev) = record { worker = ev.worker; taken = taken_at ev.worker (place.End d r) ev.turn (λ q. absurd cc); whose = ev.whose }
    deed_turn (raises t) (ev, e) = record { worker = ev.worker; taken = taken_at ev.worker (place.Raise ev.survey) ev.turn (λ q. absurd cc); whose = ev.whose }

  -- a head that moved is the deed of the turn, and no other head moved
  module _ (w : ℕ) (t : Taken w) (h : Head) (n : Named R.sizes (cell.Head h)) (m : ¬ (old (cell.Head h) ≡ new (cell.Head h))) where
    pub only_moved : (g : Head) → Named R.sizes (cell.Head g) → ¬ (g ≡ h) → old (cell.Head g) ≡ new (cell.Head g)
    only_moved g l a = elim (cases_eq (old (cell.Head g)) (new (cell.Head g))) [
      | inl q ↦ q
      | inr q ↦ absurd (
          let x = moved_head w t h n m in
          let y = moved_head w t g l q in
          let p : place.Link y.change (old (cell.Head g)) ≡ place.Link x.change (old (cell.Head h)) = sym y.at ∙ x.at in
          let c : y.change ≡ x.change = cc in a (sym y.is ∙ ap change_head c ∙ x.is))
    ]

    pub moved_deed : deed_at ≡ Some (links h (new (cell.Head h)))
    moved_deed = deed_of_head R.sizes before after (links h (new (cell.Head h)))
        (head_found R.sizes before after h (links h (new (cell.Head h))) n (is_moved R.sizes before after h m) (λ g l a. stays_none g (only_moved g l a)))

  -- a link that is seen moved its head
  pub record Moved (h : Head) : Type 0 where
    pub named : Named R.sizes (cell.Head h)
    pub moved : ¬ (old (cell.Head h) ≡ new (cell.Head h))

  pub deed_moved : (h : Head) (r : ℕ) → deed_at ≡ Some (links h r) → Moved h
  deed_moved h r e = go (deed_from R.sizes before after (links h r) e)
    where
      go : DeedFrom R.sizes before after (links h r) → Moved h
      go (from_head s) = (let m = moved_is R.sizes before after s.it (links h r) s.moved in subst Moved (sym (same_link h s.it r (new (cell.Head s.it)) m.1)) (record { named = s.named; moved = m.0 }))
      go (from_del c s) = absurd (let f : links h r ≡ ends c s.row = (begun_is R.sizes before after c s.row (links h r) s.begun).2 in cc)
      go (from_clock c) = absurd (let f : links h r ≡ raises (old cell.Clock) = (clock_is R.sizes before after (links h r) c).1 in cc)

  -- heads in words of the run
  pub head_still : (h : Head) → old (cell.Head h) ≡ new (cell.Head h) → head_at R (suc k) h ≡ head_at R k h
  head_still h e = is_new (cell.Head h) ∙ sym e ∙ sym (is_old (cell.Head h))

  pub still_head : (h : Head) → head_at R (suc k) h ≡ head_at R k h → old (cell.Head h) ≡ new (cell.Head h)
  still_head h e = sym (is_old (cell.Head h)) ∙ sym e ∙ is_new (cell.Head h)

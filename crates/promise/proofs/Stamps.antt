-- The stamps and the numbers of raises that cells and turns tell.
use Rattle.std.proofs.Common.{◌≡◌, ℕ, suc, ◌<◌, false, ◌||◌, List, Some, None, Option, refl, sym, ◌∙◌, ap, ap₂, subst, inl, inr, arith}
use Rattle.std.proofs.lemmas.Bool.{cases_eq, eq-eqb, ne_eqb}
use Rattle.layout.specs.declared.names.Kind.{Kind}
use Rattle.layout.specs.declared.names.Kind.TheVariants.{Vertex, Edge}
use Rattle.layout.specs.declared.names.Head.TheVariants as head
use Rattle.layout.specs.declared.names.Field.{Field}
use Rattle.layout.specs.declared.names.Field.TheVariants.{Ins, Del}
use Rattle.layout.specs.declared.names.Cell.{Cell}
use Rattle.layout.specs.declared.names.Cell.TheVariants as cell
use Rattle.places.specs.declared.mark.Mark.{Mark}
use Rattle.places.specs.declared.mark.Mark.TheVariants.{NotEnded, Pending, Stamp}
use Rattle.places.specs.declared.place.Bound.{Bound}
use Rattle.places.specs.declared.place.Change.{Change}
use Rattle.places.specs.declared.place.Change.TheVariants as change
use Rattle.places.specs.Marks.{pending, mark_of, is_below}
use Rattle.places.specs.Touches.{change_head, change_kind}
use Rattle.machine.specs.Turns.{cell_at}
use Rattle.runs.specs.Runs.{RunInTime}
use Rattle.runs.specs.Views.{number_at, clock_at, mark_at}
use Rattle.runs.specs.Times.{Before}
use Rattle.runs.specs.Known.{ChangeEvent}
use Rattle.promise.specs.Sights.{Deed, Deed.links, Deed.ends, Deed.raises}
use Rattle.promise.specs.Calls.{deed_by, unless_pending, deed_stamp, deed_raise, stamp_as, raise_as, edge_row, lower_if, lower_as}
use Rattle.promise.specs.Bridges.{shown_at, stamp_at, raise_at, lower_at}
use Rattle.keys.specs.Standing.{StampedBy}
use Rattle.promise.specs.Deeds.{RaiseEvent, DeedEvent, RunsStampsTold}
use Rattle.runs.proofs.Steps.{sizes_at}
use Rattle.promise.proofs.Deeds.{is_pending}
use Rattle.runs.proofs.Times.{runs_last as last}
use Rattle.promise.proofs.DeedRuns.{runs_deeds as deeds}

unless_stamp : (x n : ℕ) → mark_of x ≡ Stamp n → unless_pending x ≡ Some n
unless_stamp x n e = elim (cases_eq x 0) [
  | inl q ↦ absurd (let f : NotEnded ≡ Stamp n = rw (eq-eqb x 0 q) at e in cc)
  | inr q ↦ elim (cases_eq x pending) [
    | inl p ↦ absurd (let f : Pending ≡ Stamp n = rw (ne_eqb x 0 q, eq-eqb x pending p) at e in cc)
    | inr p ↦ (let f : Stamp x ≡ Stamp n = rw (ne_eqb x 0 q, ne_eqb x pending p) at e in let g : x ≡ n = cc in rw (ne_eqb x pending p) (ap (λ x. Some x) g))
  ]
]

unless_waits : (x : ℕ) → mark_of x ≡ Pending → unless_pending x ≡ None
unless_waits x e = rw (eq-eqb x pending (is_pending x e)) refl

stamp_unless : (x n : ℕ) → ¬ (mark_of x ≡ NotEnded) → unless_pending x ≡ Some n → mark_of x ≡ Stamp n
stamp_unless x n h e = elim (cases_eq x pending) [
  | inl p ↦ absurd (let f : None ≡ Some n = rw (eq-eqb x pending p) at e in cc)
  | inr p ↦ elim (cases_eq x 0) [
    | inl q ↦ absurd (h (rw (eq-eqb x 0 q) refl))
    | inr q ↦ (let f : Some x ≡ Some n = rw (ne_eqb x pending p) at e in let g : x ≡ n = cc in rw (ne_eqb x 0 q, ne_eqb x pending p) (ap Stamp g))
  ]
]

module _ (R : RunInTime) (now b : ℕ) where
  abbrev cells : List ℕ
  cells = (R.state now).cells

  number_is : (c : Cell) → number_at R now c ≡ cell_at R.sizes cells c
  number_is c = ap (λ z. cell_at z cells c) (sizes_at R now)

  mark_told : (k : Kind) (f : Field) (r : ℕ) (m : Mark) → mark_at R now k f r ≡ m → mark_of (cell_at R.sizes cells (cell.Stamp k f r)) ≡ m
  mark_told k f r m e = ap mark_of (sym (number_is (cell.Stamp k f r))) ∙ e

  stamp_of_deed : (x : Deed) → deed_by (shown_at R now).sights b ≡ Some x → stamp_at R now b ≡ deed_stamp R.sizes cells x
  stamp_of_deed x e = ap (stamp_as R.sizes cells) e

  seen_change : (f : Field) (p : ℕ) (d : Change) (r : ℕ) → p < now → ChangeEvent R f p b d r → stamp_at R now b ≡ unless_pending (cell_at R.sizes cells (cell.Stamp (change_kind d) f r))
  seen_change Ins p d r l ev = stamp_of_deed (links (change_head d) r) ((deeds R now b).seen (links (change_head d) r) p l (d, refl, ev))
  seen_change Del p d r l ev = stamp_of_deed (ends (change_kind d) r) ((deeds R now b).seen (ends (change_kind d) r) p l (d, refl, ev))

  bears : (f : Field) (p : ℕ) (d : Change) (r n : ℕ) → p < now → ChangeEvent R f p b d r → mark_at R now (change_kind d) f r ≡ Stamp n → stamp_at R now b ≡ Some n
  bears f p d r n l ev e = seen_change f p d r l ev ∙ unless_stamp (cell_at R.sizes cells (cell.Stamp (change_kind d) f r)) n (mark_told (change_kind d) f r (Stamp n) e)

  waits : (f : Field) (p : ℕ) (d : Change) (r : ℕ) → p < now → ChangeEvent R f p b d r → mark_at R now (change_kind d) f r ≡ Pending → stamp_at R now b ≡ None
  waits f p d r l ev e = seen_change f p d r l ev ∙ unless_waits (cell_at R.sizes cells (cell.Stamp (change_kind d) f r)) (mark_told (change_kind d) f r Pending e)

  -- ins or del of a change that was made is pending or a stamp
  filled : (f : Field) (p : ℕ) (d : Change) (r : ℕ) → p < now → ChangeEvent R f p b d r → ¬ (mark_at R now (change_kind d) f r ≡ NotEnded)
  filled Ins p d r l ev = (last R).filled now (change_kind d) r (((last R).times (suc p) now (omega arith)).linked (change_kind d) r ev.step.linked)
  filled Del p d r l ev =
      ((last R).times (suc p) now (omega arith)).begun (change_kind d) Del r (((last R).times p (suc p) (omega arith)).linked (change_kind d) r ev.linked)
      (λ q. absurd (let e : Pending ≡ NotEnded = sym ev.after ∙ q in cc))

  stamped_by : (f : Field) (d : Change) (r n : ℕ) → Before now (λ p. ChangeEvent R f p b d r) → unless_pending (cell_at R.sizes cells (cell.Stamp (change_kind d) f r)) ≡ Some n → StampedBy R now b n
  stamped_by f d r n h e = record {
    field = f;
    change = d;
    row = r;
    made = h;
    bears = ap mark_of (number_is (cell.Stamp (change_kind d) f r)) ∙ stamp_unless (cell_at R.sizes cells (cell.Stamp (change_kind d) f r)) n
        (λ q. filled f h.time d r h.before h.held (ap mark_of (number_is (cell.Stamp (change_kind d) f r)) ∙ q)) e;
  }

  stamped : (n : ℕ) → stamp_at R now b ≡ Some n → StampedBy R now b n
  stamped n e = go (deed_by (shown_at R now).sights b) refl e
    where
      at : (x : Deed) → Before now (λ p. DeedEvent R p b x) → deed_stamp R.sizes cells x ≡ Some n → StampedBy R now b n
      at (links h r) z e = (let (d, c, ev) = z.held in stamped_by Ins d r n (record { time = z.time; before = z.before; held = ev }) (subst (λ h. deed_stamp R.sizes cells (links h r) ≡ Some n) (sym c) e))
      at (ends k r) z e = (let (d, c, ev) = z.held in stamped_by Del d r n (record { time = z.time; before = z.before; held = ev }) (subst (λ k. deed_stamp R.sizes cells (ends k r) ≡ Some n) (sym c) e))
      at (raises t) z e = absurd (let f : None ≡ Some n = e in cc)

      go : (o : Option Deed) → deed_by (shown_at R now).sights b ≡ o → stamp_as R.sizes cells o ≡ Some n → StampedBy R now b n
      go None q e = absurd (let f : None ≡ Some n = e in cc)
      go (Some x) q e = at x ((deeds R now b).done x q) e

  raised : (t : ℕ) → raise_at R now b ≡ Some t → Before now (λ p. RaiseEvent R p b × (clock_at R p ≡ t))
  raised t e = go (deed_by (shown_at R now).sights b) refl e
    where
      at : (x : Deed) → Before now (λ p. DeedEvent R p b x) → deed_raise x ≡ Some t → Before now (λ p. RaiseEvent R p b × (clock_at R p ≡ t))
      at (links h r) z e = absurd (let f : None ≡ Some t = e in cc)
      at (ends k r) z e = absurd (let f : None ≡ Some t = e in cc)
      at (raises u) z e = (let f : Some u ≡ Some t = e in let g : u ≡ t = cc in record { time = z.time; before = z.before; held = (z.held.0, z.held.1 ∙ g) })

      go : (o : Option Deed) → deed_by (shown_at R now).sights b ≡ o → raise_as o ≡ Some t → Before now (λ p. RaiseEvent R p b × (clock_at R p ≡ t))
      go None q e = absurd (let f : None ≡ Some t = e in cc)
      go (Some x) q e = at x ((deeds R now b).done x q) e

  raises_from : (p : ℕ) → p < now → RaiseEvent R p b → raise_at R now b ≡ Some (clock_at R p)
  raises_from p l ev = ap raise_as ((deeds R now b).seen (raises (clock_at R p)) p l (ev, refl))

  -- the edge row of a change is bound to the rows of its pair
  pub bound_now : (f : Field) (p : ℕ) (d : Bound) (r : ℕ) → p < now → ChangeEvent R f p b (change.Edge d) r → (number_at R now (cell.Source r) ≡ d.source) × (number_at R now (cell.Target r) ≡ d.target)
  bound_now Ins p d r l ev = (
      let t = (last R).times (suc p) now (omega arith) in
      (t.source r ev.step.linked ∙ ev.step.bound.0, t.target r ev.step.linked ∙ ev.step.bound.1))
  bound_now Del p d r l ev = (
      let t = (last R).times ev.why.time now (omega (arith, ev.why.before)) in
      let hit = ev.why.held in
      (t.source r hit.linked ∙ hit.bound.0, t.target r hit.linked ∙ hit.bound.1))

  lower_of_deed : (x : Deed) → deed_by (shown_at R now).sights b ≡ Some x → lower_at R now b ≡ lower_if R.sizes cells (edge_row x) (deed_stamp R.sizes cells x)
  lower_of_deed x e = ap (lower_as R.sizes cells) e

  -- a vertex row that a cell of the edge row names
  end_is : (c : Cell) (v n : ℕ) → number_at R now c ≡ v → is_below n (mark_of (cell_at R.sizes cells (cell.Stamp Vertex Del (cell_at R.sizes cells c)))) ≡ is_below n (mark_at R now Vertex Del v)
  end_is c v n e =
      ap (λ v. is_below n (mark_of (cell_at R.sizes cells (cell.Stamp Vertex Del v)))) (sym (number_is c) ∙ e)
      ∙ ap (λ x. is_below n (mark_of x)) (sym (number_is (cell.Stamp Vertex Del v)))

  lower_seen : (f : Field) (p : ℕ) (d : Bound) (r : ℕ) → p < now → ChangeEvent R f p b (change.Edge d) r → lower_at R now b ≡ lower_if R.sizes cells (Some r) (unless_pending (cell_at R.sizes cells (cell.Stamp Edge f r)))
  lower_seen Ins p d r l ev = lower_of_deed (links (head.Edge d.pair.from d.pair.to) r) ((deeds R now b).seen (links (head.Edge d.pair.from d.pair.to) r) p l (change.Edge d, refl, ev))
  lower_seen Del p d r l ev = lower_of_deed (ends Edge r) ((deeds R now b).seen (ends Edge r) p l (change.Edge d, refl, ev))

  lower : (f : Field) (p : ℕ) (d : Bound) (r n : ℕ) → p < now → ChangeEvent R f p b (change.Edge d) r → mark_at R now Edge f r ≡ Stamp n →
      lower_at R now b ≡ (is_below n (mark_at R now Vertex Del d.source) || is_below n (mark_at R now Vertex Del d.target))
  lower f p d r n l ev e =
      let (x, y) = bound_now f p d r l ev in
      lower_seen f p d r l ev
      ∙ ap (lower_if R.sizes cells (Some r)) (unless_stamp (cell_at R.sizes cells (cell.Stamp Edge f r)) n (mark_told Edge f r (Stamp n) e))
      ∙ ap₂ (λ s t. s || t) (end_is (cell.Source r) d.source n x) (end_is (cell.Target r) d.target n y)

  no_lower : (f : Field) (p i r : ℕ) → p < now → ChangeEvent R f p b (change.Vertex i) r → lower_at R now b ≡ false
  no_lower Ins p i r l ev = lower_of_deed (links (head.Vertex i) r) ((deeds R now b).seen (links (head.Vertex i) r) p l (change.Vertex i, refl, ev))
  no_lower Del p i r l ev = lower_of_deed (ends Vertex r) ((deeds R now b).seen (ends Vertex r) p l (change.Vertex i, refl, ev))

  without_stamp : (e : Option ℕ) → lower_if R.sizes cells e None ≡ false
  without_stamp None = refl
  without_stamp (Some r) = refl

  unstamped : stamp_at R now b ≡ None → lower_at R now b ≡ false
  unstamped e = go (deed_by (shown_at R now).sights b) e
    where
      go : (o : Option Deed) → stamp_as R.sizes cells o ≡ None → lower_as R.sizes cells o ≡ false
      go None q = refl
      go (Some x) q = ap (lower_if R.sizes cells (edge_row x)) q ∙ without_stamp (edge_row x)

pub stamps_told : RunsStampsTold
stamps_told R now b = record {
  stamped = stamped R now b;
  bears = bears R now b;
  waits = waits R now b;
  raised = raised R now b;
  raises_from = raises_from R now b;
  lower = lower R now b;
  no_lower = no_lower R now b;
  unstamped = unstamped R now b;
}

-- What the touch of a turn can do to a named cell.
use Rattle.std.proofs.Common.{rules, ◌≡◌, ℕ, ◌+◌, ◌<◌, List, Some, None, Option, ◌⊎◌, inl, inr, ⊎_elim, sym, refl, ap, ◌∙◌, subst}
use Rattle.layout.specs.declared.sizes.Sizes.{Sizes}
use Rattle.layout.specs.declared.names.Kind.{Kind}
use Rattle.layout.specs.declared.names.Kind.TheVariants.{Vertex}
use Rattle.layout.specs.declared.names.Field.{Field}
use Rattle.layout.specs.declared.names.Field.TheVariants.{Ins, Del}
use Rattle.layout.specs.declared.names.Cell.{Cell}
use Rattle.layout.specs.declared.names.Cell.TheVariants as cell
use Rattle.layout.specs.Layout.{Named, IsRow}
use Rattle.places.specs.declared.place.Bound.{Bound}
use Rattle.places.specs.declared.place.Side.{Side}
use Rattle.places.specs.declared.place.Side.TheVariants.{Source, Target}
use Rattle.places.specs.declared.place.Change.{Change}
use Rattle.places.specs.declared.place.Stage.TheVariants as stage
use Rattle.places.specs.declared.place.Purpose.{Purpose}
use Rattle.places.specs.declared.place.Purpose.TheVariants as purpose
use Rattle.places.specs.declared.place.Place.{Place}
use Rattle.places.specs.declared.place.Place.TheVariants as place
use Rattle.places.specs.declared.place.Touch.{Touch}
use Rattle.places.specs.declared.place.Touch.TheVariants as touch
use Rattle.places.specs.Marks.{pending}
use Rattle.places.specs.Private.{link_kind}
use Rattle.places.specs.Touches.{side_row, look_kind, change_head, change_kind, job_kind, settled_field, link_touch, touch_of}
use Rattle.machine.specs.States.{State}
use Rattle.machine.specs.Effects.{filled, cells_after}
use Rattle.machine.specs.Turns.{worker_at, cell_at, spare_for}
use Rattle.laws.specs.Fits.{Linked, FitBoundBy, FitPurposeBy, FitPlaceBy, FitBound, FitPurpose}
use Rattle.laws.specs.Changes.{OfRow, next_own, number_in, Changes, Changes.keeps, Changes.ticks, Changes.links, Changes.stamps, Changes.ends, Changes.fills}
use Rattle.laws.proofs.Heads.{change_named_by}
use Rattle.laws.proofs.Puts.{Enough, enough_set, swap_at, raise_at}
use Rattle.laws.proofs.Fills.{fill_at, filled_with, head_filled, enough_filled}
use Rattle.laws.proofs.Owned.{linked_row, next_own_lem}

module _ (L : State → Kind → ℕ → Type 0) (s : State) where
  -- the field that is settled is of a linked row
  pub record SettledBy (p : Purpose) : Type 0 where
    pub kind : Kind
    pub field : Field
    pub row : ℕ
    pub is : settled_field p ≡ cell.Stamp kind field row
    pub named : Named s.sizes (settled_field p)
    pub linked : L s kind row

  side_linked_by : (b : Bound) (d : Side) → FitBoundBy L s b → L s Vertex (side_row b d)
  side_linked_by b Source f = f.source
  side_linked_by b Target f = f.target

  -- a linked row is a row
  module _ (rows : (k : Kind) (r : ℕ) → L s k r → IsRow s.sizes k r) where
    settled_as : (p : Purpose) (k : Kind) (g : Field) (r : ℕ) → settled_field p ≡ cell.Stamp k g r → L s k r → SettledBy p
    settled_as p k g r e l = record { kind = k; field = g; row = r; is = e; named = subst (Named s.sizes) (sym e) (rows k r l); linked = l }

    pub settled_by : (p : Purpose) → FitPurposeBy L s p → SettledBy p
    settled_by (purpose.Look g l r) f = settled_as _ (look_kind l) g r refl f.1.linked
    settled_by (purpose.Own g c r) f = settled_as _ (change_kind c) g r refl f.1
    settled_by (purpose.LostDel c r) f = settled_as _ (change_kind c) Del r refl f.1.linked
    settled_by (purpose.WinnerIns i r) f = settled_as _ Vertex Ins r refl f
    settled_by (purpose.SourceAgain o b) f = settled_as _ Vertex Del b.source refl f.source
    settled_by (purpose.CheckAgain d o b g) f = settled_as _ Vertex Del (side_row b d) refl (side_linked_by b d f.0)
    settled_by (purpose.Compare d b g e x) f = settled_as _ Vertex Del (side_row b d) refl (side_linked_by b d f)
    settled_by (purpose.Walk g k r) f = settled_as _ (job_kind k.job) g r refl f.1

abbrev pub Settled : State → Purpose → Type 0
Settled s p = SettledBy Linked s p

pub side_linked : (s : State) (b : Bound) (d : Side) → FitBound s b → Linked s Vertex (side_row b d)
side_linked s b d f = side_linked_by Linked s b d f

pub settled_field_lem : (s : State) (p : Purpose) → FitPurpose s p → Settled s p
settled_field_lem s p f = settled_by Linked s (linked_row s) p f

-- a link turn
module _ (s : State) (w : ℕ) (c : Cell) (d : Change) (h : ℕ) (at : (worker_at s w).place ≡ place.Link d h) (m : Named s.sizes c) (l : Enough s.sizes s.cells) (top : Named s.sizes (cell.Head (change_head d))) where
  abbrev P : ℕ → Type 0
  P y = Changes s w c (number_in s c) y

  linked_at : (r : ℕ) → next_own s w (change_kind d) ≡ Some r → Changes s w c (number_in s c) (cell_at s.sizes (cells_after s.sizes s.cells (touch.Link d h r)) c)
  linked_at r q =
      let z = s.sizes in
      let n : IsRow s.sizes (change_kind d) r = (next_own_lem s w (change_kind d) r q).0 in
      swap_at z P (filled z s.cells d h r) (cell.Head (change_head d)) c h r m top (enough_filled z s.cells d h r l)
      (λ e v.
      let x : number_in s c ≡ h = ap (number_in s) e ∙ sym (head_filled s.sizes s.cells d h r n l (change_head d) top) ∙ v in
      links d (subst (λ y. (worker_at s w).place ≡ place.Link d y) (sym x) at) e q)
      (⊎_elim (λ (o : OfRow (change_kind d) r c). fills (change_kind d) r q o (filled_with z s.cells d h r n l c o)) (λ (x : P (cell_at z (filled z s.cells d h r) c)). x)
      (fill_at z s.cells d h r n l (λ y. OfRow (change_kind d) r c ⊎ P y) c m (λ o y. inl o) (inr (keeps refl))))

  link_at : (o : Option ℕ) → next_own s w (change_kind d) ≡ o → Changes s w c (number_in s c) (cell_at s.sizes (cells_after s.sizes s.cells (link_touch d h o)) c)
  link_at None q = keeps refl
  link_at (Some r) q = linked_at r q

-- each turn's touch
module _ (L : State → Kind → ℕ → Type 0) (s : State) (rows : (k : Kind) (r : ℕ) → L s k r → IsRow s.sizes k r) where
  pub touched_at : (w : ℕ) (c : Cell) (p : Place) → (worker_at s w).place ≡ p → Named s.sizes c → Enough s.sizes s.cells → FitPlaceBy L s p → Changes s w c (number_in s c) (cell_at s.sizes (cells_after s.sizes s.cells (touch_of p (spare_for s.sizes w (worker_at s w) (link_kind p)))) c)
  touched_at w c (place.Settle (stage.Swap n) p) e m l f =
      let q = settled_by L s rows p f in
      swap_at s.sizes (λ y. Changes s w c (number_in s c) y) s.cells (settled_field p) c pending n m q.named l
      (λ i v. stamps p e i (ap (number_in s) i ∙ v)) (keeps refl)
  touched_at w c (place.Settle st p) e m l f = keeps refl
  touched_at w c (place.Link d h) e m l f = link_at s w c d h e m l (change_named_by L s d f.0) (next_own s w (change_kind d)) refl
  touched_at w c (place.End d r) e m l f =
      swap_at s.sizes (λ y. Changes s w c (number_in s c) y) s.cells (cell.Stamp (change_kind d) Del r) c 0 pending m (rows (change_kind d) r f.1.linked) l
      (λ i v. ends d r e i (ap (number_in s) i ∙ v) refl) (keeps refl)
  touched_at w c (place.Raise v) e m l f =
      raise_at s.sizes (λ y. Changes s w c (number_in s c) y) s.cells cell.Clock c s.sizes.top m tt l
      (λ i b. ticks v e i (subst (λ d. number_in s d < s.sizes.top) (sym i) b) (ap (λ d. number_in s d + 1) (sym i))) (keeps refl)
  touched_at w c p e m l f = keeps refl

-- a touch leaves cells enough
pub enough_after : (z : Sizes) (cs : List ℕ) (t : Touch) → Enough z cs → Enough z (cells_after z cs t)
enough_after z cs touch.Nothing l = l
enough_after z cs (touch.Read c) l = l
enough_after z cs (touch.Swap c old new) l = search (rules, enough_set)
enough_after z cs touch.Raise l = search (rules, enough_set)
enough_after z cs (touch.Link d h r) l = let e = enough_filled z cs d h r l in search (rules, enough_set)

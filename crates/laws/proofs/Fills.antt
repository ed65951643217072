-- A row that is filled for a link: which cells change, and what they then hold.
use Rattle.std.proofs.Common.{rules, ◌≡◌, ℕ, List, sym, refl, subst, subst₂}
use Rattle.layout.specs.declared.sizes.Sizes.{Sizes}
use Rattle.layout.specs.declared.names.Kind.{Kind}
use Rattle.layout.specs.declared.names.Kind.TheVariants.{Edge}
use Rattle.layout.specs.declared.names.Field.{Field}
use Rattle.layout.specs.declared.names.Field.TheVariants.{Ins, Del}
use Rattle.layout.specs.declared.names.Head.{Head}
use Rattle.layout.specs.declared.names.Cell.{Cell}
use Rattle.layout.specs.declared.names.Cell.TheVariants as cell
use Rattle.layout.specs.Layout.{Named, IsRow}
use Rattle.places.specs.declared.place.Change.{Change}
use Rattle.places.specs.declared.place.Change.TheVariants as change
use Rattle.places.specs.Marks.{pending}
use Rattle.places.specs.Touches.{change_kind}
use Rattle.machine.specs.Effects.{put, bound, filled}
use Rattle.machine.specs.Turns.{cell_at}
use Rattle.laws.specs.Changes.{OfRow, FilledWith}
use Rattle.laws.specs.Stamps.{field_start}
use Rattle.laws.proofs.Puts.{Enough, enough_set, put_at, put_same}

-- the cells by which edge row r is bound
abbrev IsBound : ℕ → Cell → Type 0
IsBound r (cell.Source q) = q ≡ r
IsBound r (cell.Target q) = q ≡ r
IsBound r (cell.Weight q) = q ≡ r
IsBound r c = ⊥

bound_row : (k : Kind) (r : ℕ) (c : Cell) → k ≡ Edge → IsBound r c → OfRow k r c
bound_row k r (cell.Source q) e b = (e, b)
bound_row k r (cell.Target q) e b = (e, b)
bound_row k r (cell.Weight q) e b = (e, b)
bound_row k r c e b = absurd b

bound_at : (z : Sizes) (P : ℕ → Type 0) (cs : List ℕ) (d : Change) (r : ℕ) (c : Cell) → Named z c → IsRow z (change_kind d) r → Enough z cs → (change_kind d ≡ Edge → IsBound r c → (y : ℕ) → P y) → P (cell_at z cs c) → P (cell_at z (bound z cs d r) c)
bound_at z P cs (change.Vertex i) r c m n l here there = there
bound_at z P cs (change.Edge b) r c m n l here there =
    let one : List ℕ = put z cs (cell.Source r) b.source in
    let two : List ℕ = put z one (cell.Target r) b.target in
    let l₁ : Enough z one = enough_set z cs _ b.source l in
    let bind = λ (x : Cell) (o : IsBound r x) (e : c ≡ x). here refl (subst (IsBound r) (sym e) o) in
    put_at z P two (cell.Weight r) c (b.pair.weight) m n (enough_set z one _ b.target l₁) (λ e. bind (cell.Weight r) refl e _)
    (put_at z P one (cell.Target r) c b.target m n l₁ (λ e. bind (cell.Target r) refl e _)
    (put_at z P cs (cell.Source r) c b.source m n l (λ e. bind (cell.Source r) refl e _) there))

enough_bound : (z : Sizes) (cs : List ℕ) (d : Change) (r : ℕ) → Enough z cs → Enough z (bound z cs d r)
enough_bound z cs (change.Vertex i) r l = l
enough_bound z cs (change.Edge b) r l = search (rules, enough_set)

pub enough_filled : (z : Sizes) (cs : List ℕ) (d : Change) (h r : ℕ) → Enough z cs → Enough z (filled z cs d h r)
enough_filled z cs d h r l = search (rules, enough_set, enough_bound)

module _ (z : Sizes) (cs : List ℕ) (d : Change) (h r : ℕ) (n : IsRow z (change_kind d) r) (l : Enough z cs) where
  abbrev k : Kind
  k = change_kind d

  abbrev one : List ℕ
  one = put z cs (cell.Older k r) h

  abbrev two : List ℕ
  two = put z one (cell.Stamp k Ins r) pending

  abbrev three : List ℕ
  three = put z two (cell.Stamp k Del r) 0

  enough_one : Enough z one
  enough_one = enough_set z cs _ h l

  enough_two : Enough z two
  enough_two = enough_set z one _ pending enough_one

  enough_three : Enough z three
  enough_three = enough_set z two _ 0 enough_two

  -- a cell of another row stays
  pub fill_at : (P : ℕ → Type 0) (c : Cell) → Named z c → (OfRow (change_kind d) r c → (y : ℕ) → P y) → P (cell_at z cs c) → P (cell_at z (filled z cs d h r) c)
  fill_at P c m here there =
      let fill = λ (x : Cell) (o : OfRow k r x) (e : c ≡ x). here (subst (OfRow k r) (sym e) o) in
      bound_at z P three d r c m n enough_three (λ e b. here (bound_row k r c e b))
      (put_at z P two (cell.Stamp k Del r) c 0 m n enough_two (λ e. fill (cell.Stamp k Del r) (refl, refl) e _)
      (put_at z P one (cell.Stamp k Ins r) c pending m n enough_one (λ e. fill (cell.Stamp k Ins r) (refl, refl) e _)
      (put_at z P cs (cell.Older k r) c h m n l (λ e. fill (cell.Older k r) (refl, refl) e _) there)))

  pub head_filled : (g : Head) → Named z (cell.Head g) → cell_at z (filled z cs d h r) (cell.Head g) ≡ cell_at z cs (cell.Head g)
  head_filled g m = fill_at (λ y. y ≡ cell_at z cs (cell.Head g)) (cell.Head g) m (λ b y. absurd b) refl

  -- older is the head that was read
  pub older_filled : cell_at z (filled z cs d h r) (cell.Older (change_kind d) r) ≡ h
  older_filled =
      let P : ℕ → Type 0 = λ v. v ≡ h in
      bound_at z P three d r (cell.Older k r) n n enough_three (λ e b y. absurd b)
      (put_at z P two (cell.Stamp k Del r) (cell.Older k r) 0 n n enough_two (λ e. absurd cc)
      (put_at z P one (cell.Stamp k Ins r) (cell.Older k r) pending n n enough_one (λ e. absurd cc)
      (put_same z cs (cell.Older k r) h n l)))

  -- ins is pending, del is 0
  pub stamp_filled : (f : Field) → cell_at z (filled z cs d h r) (cell.Stamp (change_kind d) f r) ≡ field_start f
  stamp_filled Ins =
      let P : ℕ → Type 0 = λ v. v ≡ pending in
      bound_at z P three d r (cell.Stamp k Ins r) n n enough_three (λ e b y. absurd b)
      (put_at z P two (cell.Stamp k Del r) (cell.Stamp k Ins r) 0 n n enough_two (λ e. absurd cc)
      (put_same z one (cell.Stamp k Ins r) pending n enough_one))
  stamp_filled Del = bound_at z (λ v. v ≡ 0) three d r (cell.Stamp k Del r) n n enough_three (λ e b y. absurd b) (put_same z two (cell.Stamp k Del r) 0 n enough_two)

  pub filled_with : (c : Cell) → OfRow (change_kind d) r c → FilledWith c (cell_at z (filled z cs d h r) c)
  filled_with (cell.Stamp j Del q) (e, f) = subst₂ (λ j q. cell_at z (filled z cs d h r) (cell.Stamp j Del q) ≡ 0) (sym e) (sym f) (stamp_filled Del)
  filled_with c o = tt

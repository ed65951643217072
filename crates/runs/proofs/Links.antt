-- A link turn: whether it links, and what the new row then holds.
use Rattle.std.proofs.Common.{◌≡◌, ℕ, ◌+◌, ◌*◌, ◌<◌, ◌≤◌, true, eqb, List, length, refl, ap, ◌∙◌, arith}
use Rattle.std.proofs.lemmas.Bool.{eq-eqb, lt-ltb}
use Rattle.std.proofs.lemmas.List.{get_or-set_other}
use Rattle.layout.specs.declared.sizes.Sizes.{Sizes}
use Rattle.layout.specs.declared.names.Kind.{Kind}
use Rattle.layout.specs.declared.names.Kind.TheVariants.{Vertex, Edge}
use Rattle.layout.specs.declared.names.Field.TheVariants.{Ins, Del}
use Rattle.layout.specs.declared.names.Head.{Head}
use Rattle.layout.specs.declared.names.Cell.{Cell}
use Rattle.layout.specs.declared.names.Cell.TheVariants as cell
use Rattle.layout.specs.Layout.{index_of, Named, IsRow}
use Rattle.layout.proofs.Regions.{index_lt}
use Rattle.layout.proofs.Inverse.{same_name}
use Rattle.places.specs.declared.place.Bound.{Bound}
use Rattle.places.specs.declared.place.Change.{Change}
use Rattle.places.specs.declared.place.Change.TheVariants as change
use Rattle.places.specs.Marks.{pending}
use Rattle.places.specs.Touches.{change_head, change_kind}
use Rattle.machine.specs.Effects.{put, filled, link_done, linked_cells}
use Rattle.machine.specs.Turns.{cell_at}
use Rattle.laws.proofs.Puts.{Enough, enough_set, put_same}

module _ (z : Sizes) where
  pub put_enough : (cs : List ℕ) (d : Cell) (v : ℕ) → Enough z cs → Enough z (put z cs d v)
  put_enough cs d v l = enough_set z cs (index_of z d) v l

  pub put_other : (cs : List ℕ) (d c : Cell) (v : ℕ) → Named z c → Named z d → ¬ (c ≡ d) → cell_at z (put z cs d v) c ≡ cell_at z cs c
  put_other cs d c v n m a = get_or-set_other cs (index_of z d) (index_of z c) v 0 (λ e. a (same_name z c d n m e))

-- a row r that is filled for a change
module _ (z : Sizes) (cs : List ℕ) (l : Enough z cs) (h r : ℕ) where
  module _ (k : Kind) (n : IsRow z k r) where
    abbrev one : List ℕ
    one = put z cs (cell.Older k r) h

    abbrev two : List ℕ
    two = put z one (cell.Stamp k Ins r) pending

    abbrev pub three : List ℕ
    three = put z two (cell.Stamp k Del r) 0

    three_enough : Enough z three
    three_enough = put_enough z two (cell.Stamp k Del r) 0 (put_enough z one (cell.Stamp k Ins r) pending (put_enough z cs (cell.Older k r) h l))

    three_older : cell_at z three (cell.Older k r) ≡ h
    three_older = put_other z two (cell.Stamp k Del r) (cell.Older k r) 0 n n (λ e. absurd cc) ∙ put_other z one (cell.Stamp k Ins r) (cell.Older k r) pending n n (λ e. absurd cc) ∙ put_same z cs (cell.Older k r) h n l

    three_head : (g : Head) → Named z (cell.Head g) → cell_at z three (cell.Head g) ≡ cell_at z cs (cell.Head g)
    three_head g m = put_other z two (cell.Stamp k Del r) (cell.Head g) 0 m n (λ e. absurd cc) ∙ put_other z one (cell.Stamp k Ins r) (cell.Head g) pending m n (λ e. absurd cc) ∙ put_other z cs (cell.Older k r) (cell.Head g) h m n (λ e. absurd cc)

  pub filled_enough : (d : Change) → IsRow z (change_kind d) r → Enough z (filled z cs d h r)
  filled_enough (change.Vertex i) n = three_enough Vertex n
  filled_enough (change.Edge b) n =
      put_enough z (put z (put z (three Edge n) (cell.Source r) b.source) (cell.Target r) b.target) (cell.Weight r) b.pair.weight
      (put_enough z (put z (three Edge n) (cell.Source r) b.source) (cell.Target r) b.target (put_enough z (three Edge n) (cell.Source r) b.source (three_enough Edge n)))

  pub filled_older : (d : Change) → IsRow z (change_kind d) r → cell_at z (filled z cs d h r) (cell.Older (change_kind d) r) ≡ h
  filled_older (change.Vertex i) n = three_older Vertex n
  filled_older (change.Edge b) n =
      put_other z (put z (put z (three Edge n) (cell.Source r) b.source) (cell.Target r) b.target) (cell.Weight r) (cell.Older Edge r) b.pair.weight n n (λ e. absurd cc)
      ∙ put_other z (put z (three Edge n) (cell.Source r) b.source) (cell.Target r) (cell.Older Edge r) b.target n n (λ e. absurd cc)
      ∙ put_other z (three Edge n) (cell.Source r) (cell.Older Edge r) b.source n n (λ e. absurd cc) ∙ three_older Edge n

  pub filled_head : (d : Change) → IsRow z (change_kind d) r → (g : Head) → Named z (cell.Head g) → cell_at z (filled z cs d h r) (cell.Head g) ≡ cell_at z cs (cell.Head g)
  filled_head (change.Vertex i) n g m = three_head Vertex n g m
  filled_head (change.Edge b) n g m =
      put_other z (put z (put z (three Edge n) (cell.Source r) b.source) (cell.Target r) b.target) (cell.Weight r) (cell.Head g) b.pair.weight m n (λ e. absurd cc)
      ∙ put_other z (put z (three Edge n) (cell.Source r) b.source) (cell.Target r) (cell.Head g) b.target m n (λ e. absurd cc)
      ∙ put_other z (three Edge n) (cell.Source r) (cell.Head g) b.source m n (λ e. absurd cc) ∙ three_head Edge n g m

  module _ (b : Bound) (n : IsRow z Edge r) where
    pub filled_source : cell_at z (filled z cs (change.Edge b) h r) (cell.Source r) ≡ b.source
    filled_source =
        put_other z (put z (put z (three Edge n) (cell.Source r) b.source) (cell.Target r) b.target) (cell.Weight r) (cell.Source r) b.pair.weight n n (λ e. absurd cc)
        ∙ put_other z (put z (three Edge n) (cell.Source r) b.source) (cell.Target r) (cell.Source r) b.target n n (λ e. absurd cc)
        ∙ put_same z (three Edge n) (cell.Source r) b.source n (three_enough Edge n)

    pub filled_target : cell_at z (filled z cs (change.Edge b) h r) (cell.Target r) ≡ b.target
    filled_target =
        put_other z (put z (put z (three Edge n) (cell.Source r) b.source) (cell.Target r) b.target) (cell.Weight r) (cell.Target r) b.pair.weight n n (λ e. absurd cc)
        ∙ put_same z (put z (three Edge n) (cell.Source r) b.source) (cell.Target r) b.target n (put_enough z (three Edge n) (cell.Source r) b.source (three_enough Edge n))

    pub filled_weight : cell_at z (filled z cs (change.Edge b) h r) (cell.Weight r) ≡ b.pair.weight
    filled_weight =
        put_same z (put z (put z (three Edge n) (cell.Source r) b.source) (cell.Target r) b.target) (cell.Weight r) b.pair.weight n
        (put_enough z (put z (three Edge n) (cell.Source r) b.source) (cell.Target r) b.target (put_enough z (three Edge n) (cell.Source r) b.source (three_enough Edge n)))

  -- the swap of the head says yes where it still is the row that was read
  pub link_says : (d : Change) → IsRow z (change_kind d) r → Named z (cell.Head (change_head d)) → link_done z cs d h r ≡ eqb (cell_at z cs (cell.Head (change_head d))) h
  link_says d n m =
      let i : index_of z (cell.Head (change_head d)) < length (filled z cs d h r) = omega (arith, index_lt z (cell.Head (change_head d)) m, filled_enough d n) in
      rw (lt-ltb (index_of z (cell.Head (change_head d))) (length (filled z cs d h r)) i, filled_head d n (change_head d) m) refl

  -- then the head is the new row, and the other cells are as they were filled
  module _ (d : Change) (n : IsRow z (change_kind d) r) (m : Named z (cell.Head (change_head d))) (won : cell_at z cs (cell.Head (change_head d)) ≡ h) where
    swapped_is : linked_cells z cs d h r ≡ put z (filled z cs d h r) (cell.Head (change_head d)) r
    swapped_is = let e : eqb (cell_at z (filled z cs d h r) (cell.Head (change_head d))) h ≡ true = eq-eqb _ _ (filled_head d n (change_head d) m ∙ won) in rw e refl

    pub linked_head : cell_at z (linked_cells z cs d h r) (cell.Head (change_head d)) ≡ r
    linked_head = ap (λ (x : List ℕ). cell_at z x (cell.Head (change_head d))) swapped_is ∙ put_same z (filled z cs d h r) (cell.Head (change_head d)) r m (filled_enough d n)

    pub linked_cell : (c : Cell) → Named z c → ¬ (c ≡ cell.Head (change_head d)) → cell_at z (linked_cells z cs d h r) c ≡ cell_at z (filled z cs d h r) c
    linked_cell c q a = ap (λ (x : List ℕ). cell_at z x c) swapped_is ∙ put_other z (filled z cs d h r) (cell.Head (change_head d)) c r q m a

-- A list after one item was set, and a named cell after other named cells were: what holds of the new one there and of the old one elsewhere.
use Rattle.std.proofs.Common.{◌≡◌, ℕ, ◌+◌, ◌<◌, ◌≤◌, Bool, true, false, eqb, ltb, List, length, get_or, set, refl, sym, ap, ◌∙◌, subst, ⊎_elim, arith}
use Rattle.std.proofs.lemmas.List.{length-set, get_or-set_same, get_or-set_other}
use Rattle.std.proofs.lemmas.Bool.{cases_eq, eqb-true, ltb-true, cond_both}
use Rattle.std.specs.Bool.{then_some}
use Rattle.std.specs.Option.{is_some}
use Rattle.cells.specs.Cells.{swapped, raised}
use Rattle.layout.specs.declared.sizes.Sizes.{Sizes}
use Rattle.layout.specs.declared.names.Cell.{Cell}
use Rattle.layout.specs.Layout.{index_of, needed, Named}
use Rattle.layout.proofs.Regions.{index_lt}
use Rattle.layout.proofs.Inverse.{same_name}
use Rattle.machine.specs.Effects.{put}
use Rattle.machine.specs.Turns.{cell_at}

pub set_each : {A : Type 0} (P : ℕ → A → Type 0) (xs : List A) (w : ℕ) (x d : A) → w < length xs → P w x → ((v : ℕ) → ¬ (v ≡ w) → P v (get_or xs v d)) → (v : ℕ) → P v (get_or (set xs w x) v d)
set_each P xs w x d l here there v =
    ⊎_elim
    (λ (e : v ≡ w). subst (λ u. P u (get_or (set xs w x) u d)) (sym e) (subst (P w) (sym (get_or-set_same xs w x d l)) here))
    (λ (n : v ≡ w → ⊥). subst (P v) (sym (get_or-set_other xs w v x d n)) (there v n))
    (cases_eq v w)

-- cells enough for the sizes
abbrev pub Enough : Sizes → List ℕ → Type 0
Enough z cs = needed z ≤ length cs

pub enough_set : (z : Sizes) (cs : List ℕ) (i v : ℕ) → Enough z cs → Enough z (set cs i v)
enough_set z cs i v l = simp length-set (omega arith)

-- a named cell that is set
pub put_same : (z : Sizes) (cs : List ℕ) (c : Cell) (v : ℕ) → Named z c → Enough z cs → cell_at z (put z cs c v) c ≡ v
put_same z cs c v n l = get_or-set_same cs (index_of z c) v 0 (omega (arith, index_lt z c n))

-- a cell set by its index
pub set_at_index : (z : Sizes) (P : ℕ → Type 0) (cs : List ℕ) (i v : ℕ) (c : Cell) → Named z c → Enough z cs → (index_of z c ≡ i → P v) → P (cell_at z cs c) → P (cell_at z (set cs i v) c)
set_at_index z P cs i v c n l here there =
    ⊎_elim
    (λ (e : index_of z c ≡ i).
    let in_list : i < length cs = omega (arith, index_lt z c n) in
    let value : cell_at z (set cs i v) c ≡ v = ap (λ j. get_or (set cs i v) j 0) e ∙ get_or-set_same cs i v 0 in_list in
    subst P (sym value) (here e))
    (λ (ne : index_of z c ≡ i → ⊥). subst P (sym (get_or-set_other cs i (index_of z c) v 0 ne)) there)
    (cases_eq (index_of z c) i)

pub put_at : (z : Sizes) (P : ℕ → Type 0) (cs : List ℕ) (d c : Cell) (v : ℕ) → Named z c → Named z d → Enough z cs → (c ≡ d → P v) → P (cell_at z cs c) → P (cell_at z (put z cs d v) c)
put_at z P cs d c v n m l here there = set_at_index z P cs (index_of z d) v c n l (λ e. here (same_name z c d n m e)) there

-- a swap says yes where the cell holds the expected number
pub swap_at : (z : Sizes) (P : ℕ → Type 0) (cs : List ℕ) (d c : Cell) (old new : ℕ) → Named z c → Named z d → Enough z cs → (c ≡ d → cell_at z cs d ≡ old → P new) → P (cell_at z cs c) → P (cell_at z (swapped cs (index_of z d) old new) c)
swap_at z P cs d c old new n m l here there =
    cond_both (eqb (cell_at z cs d) old) (set cs (index_of z d) new) cs (λ u. P (cell_at z u c))
    (λ e. put_at z P cs d c new n m l (λ f. here f (eqb-true (cell_at z cs d) old e)) there) (λ _. there)

pub raise_at : (z : Sizes) (P : ℕ → Type 0) (cs : List ℕ) (d c : Cell) (limit : ℕ) → Named z c → Named z d → Enough z cs → (c ≡ d → cell_at z cs d < limit → P (cell_at z cs d + 1)) → P (cell_at z cs c) → P (cell_at z (raised cs (index_of z d) limit) c)
raise_at z P cs d c limit n m l here there =
    cond_both (ltb (cell_at z cs d) limit) (set cs (index_of z d) (cell_at z cs d + 1)) cs (λ u. P (cell_at z u c))
    (λ e. put_at z P cs d c (cell_at z cs d + 1) n m l (λ f. here f (ltb-true (cell_at z cs d) limit e)) there) (λ _. there)

-- what is there only if a test holds
pub done_is : (b : Bool) (x : ℕ) → is_some (then_some b x) ≡ b
done_is true x = refl
done_is false x = refl

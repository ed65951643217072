-- A page read as a list of cells shows what it shows cell by cell.
use Rattle.std.proofs.Common.{◌≡◌, ℕ, ◌+◌, ◌*◌, ◌<◌, cond, not, ◌&&◌, List, drop, None, ◌==◌, nat_lt, slice_index, refl, ◌∙◌, ap, inl, inr, arith, mul_comm}
use Rattle.std.proofs.lemmas.Nat.{mul-add-lt}
use Rattle.std.proofs.lemmas.List.{get_or-take, get_or-drop}
use Rattle.std.proofs.lemmas.Bool.{cases_Bool, and_parts}
use Rattle.std.proofs.lemmas.Bool.Decides.{nat_tests}
use Rattle.layout.specs.declared.sizes.Sizes.{Sizes}
use Rattle.layout.specs.declared.names.Cell.TheVariants as cell
use Rattle.layout.specs.Layout.{page_size, page_start}
use Rattle.machine.specs.Turns.{cell_at}
use Rattle.questions.specs.Pages.{weight_of}
use Rattle.promise.specs.Sights.{page_in, page_graph}
use Rattle.promise.specs.Named.{PagesNamed}

module _ (z : Sizes) (cells : List ℕ) (w : ℕ) where
  read_at : (o : ℕ) → o < page_size z → slice_index (page_in z cells w) o ≡ slice_index cells (page_start z w + o)
  read_at o l = get_or-take (page_size z) (drop (page_start z w) cells) o 0 l ∙ get_or-drop (page_start z w) cells o 0

  key_read : (k : ℕ) → k < z.keys → slice_index (page_in z cells w) k ≡ cell_at z cells (cell.PageKey w k)
  key_read k l = read_at k (omega arith)

  pair_read : (i j : ℕ) → i < z.keys → j < z.keys → slice_index (page_in z cells w) (z.keys + z.keys * i + j) ≡ cell_at z cells (cell.PagePair w i j)
  pair_read i j l m = read_at (z.keys + z.keys * i + j) (omega (arith, mul-add-lt i z.keys j z.keys l m, mul_comm z.keys i)) ∙ ap (slice_index cells) (omega arith)

  same_has : (k : ℕ) → (page_graph z.keys (page_in z cells w)).has k ≡ (nat_lt k z.keys && not (cell_at z cells (cell.PageKey w k) == 0))
  same_has k = elim (cases_Bool (nat_lt k z.keys)) [
    | inl y ↦ ap (λ x. nat_lt k z.keys && not (x == 0)) (key_read k (grind (arith, nat_tests)))
    | inr n ↦ rw n refl
  ]

  same_edge : (i j : ℕ) → (page_graph z.keys (page_in z cells w)).edge i j ≡ cond (nat_lt i z.keys && nat_lt j z.keys) (weight_of (cell_at z cells (cell.PagePair w i j))) None
  same_edge i j = elim (cases_Bool (nat_lt i z.keys && nat_lt j z.keys)) [
    | inl y ↦ (let (l, m) = and_parts (nat_lt i z.keys) (nat_lt j z.keys) y in ap (λ x. cond (nat_lt i z.keys && nat_lt j z.keys) (weight_of x) None) (pair_read i j (grind (arith, nat_tests)) (grind (arith, nat_tests))))
    | inr n ↦ rw n refl
  ]

pub page_named : PagesNamed
page_named s w = λ i. record { has = λ k. same_has s.sizes s.cells w k i; edge = λ k j. same_edge s.sizes s.cells w k j i }

-- Calls that raise the clock stand among the changes by their numbers.
use Rattle.std.proofs.Common.{◌≡◌, ℕ, ◌<◌, ◌≤◌, List, length, get_or, ◌⊎◌, sym, ◌∙◌, ap, subst₂, inl, inr, arith}
use Rattle.std.proofs.lemmas.Bool.{cases_order}
use Rattle.std.proofs.lemmas.List.{get_or_default}
use Rattle.questions.specs.Graph.{Graph}
use Rattle.order.specs.Past.{Past}
use Rattle.order.specs.Order.{Stamping, changes, raises, stamping, StampOrder, OneOrder}
use Rattle.order.specs.Stands.{StandsBefore, RaisesStand}

abbrev is_raise : Stamping → ℕ
is_raise (raises t) = 1
is_raise s = 0

module _ (h : Past) (g : Graph) (order : List ℕ) (o : OneOrder h g order) where
  -- of two calls with places in the order, the one with the lower place
  in_order : (b c i j : ℕ) → i < j → j < length order → get_or order i b ≡ b → get_or order j c ≡ c → StampOrder (stamping h b) (stamping h c)
  in_order b c i j l u e f =
      subst₂ (λ x y. StampOrder (stamping h x) (stamping h y)) (get_or_default order i c b (omega (arith, l, u)) ∙ e) f (o.stamps i j c l u)

  raise_stands : (b c t n i j : ℕ) → i < length order → j < length order → get_or order i b ≡ b → get_or order j c ≡ c → stamping h b ≡ raises t →
      stamping h c ≡ changes n → (i ≡ j) ⊎ ((i < j) ⊎ (j < i)) → (n ≤ t → StandsBefore order c b) × (t < n → StandsBefore order b c)
  raise_stands b c t n i j u v e f raised changed (inl q) =
      let same : b ≡ c = sym e ∙ get_or_default order i b c u ∙ ap (λ i. get_or order i c) q ∙ f in
      let no : raises t ≡ changes n = sym raised ∙ ap (stamping h) same ∙ changed in
      absurd (let z : 1 ≡ 0 = ap is_raise no in omega (arith, z))
  raise_stands b c t n i j u v e f raised changed (inr (inl l)) =
      let s = subst₂ StampOrder raised changed (in_order b c i j l v e f) in
      (λ m. absurd (omega (arith, s, m)), λ m. (i, j, l, v, e, f))
  raise_stands b c t n i j u v e f raised changed (inr (inr l)) =
      let s = subst₂ StampOrder changed raised (in_order c b j i l u f e) in
      (λ m. (j, i, l, u, f, e), λ m. absurd (omega (arith, s, m)))

pub raises_stand : RaisesStand
raises_stand h g order o b c t n (i, u, e) (j, v, f) raised changed = raise_stands h g order o b c t n i j u v e f raised changed (cases_order i j)

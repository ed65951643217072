-- Where changes stand: an edge change goes back to just before the end of a vertex with the same stamp that became pending earlier.
use Rattle.std.proofs.Common.{◌≡◌, ℕ, ◌<◌, ◌≤◌, ◌≢◌, ◌⊎◌, inl, inr, arith}
use Rattle.std.proofs.lemmas.Bool.{cases_eq, cases_lt}
use Rattle.std.proofs.lemmas.Bool.Decides.{nat_tests}
use Rattle.order.specs.Keys.{Bounded, number}
use Rattle.order.specs.Marks.{Mark, Earlier, Distinct, change_key, moved_for, moved_time, moved_part, moved_key}
use Rattle.order.proofs.Keys.{compared, number_by_stamp, number_by_time}

pub moved_for_le : (d x : Mark) → moved_for d x ≤ x.time
unfolding moved_for
moved_for_le d x = grind (arith, nat_tests)

-- not after an end with the same stamp, and before one of the two
moved_for_end : (d x : Mark) → d.stamp ≡ x.stamp → d.time ≢ x.time → (moved_for d x ≤ d.time) × ((moved_for d x < x.time) ⊎ (moved_for d x < d.time))
unfolding moved_for
moved_for_end d x e n = elim (cases_lt d.time x.time) [
  | inl h ↦ (grind (arith, nat_tests), inl (grind (arith, nat_tests)))
  | inr h ↦ (grind (arith, nat_tests), inr (grind (arith, nat_tests)))
]

-- after what came before the change and the end
pub moved_for_after : (b d x : Mark) → Earlier b d → Earlier b x → b.stamp ≡ x.stamp → b.time < moved_for d x
unfolding moved_for
moved_for_after b d x f g e = grind (arith, nat_tests)

-- of two changes with one stamp both go back to the end, or the later stands after the earlier
moved_for_later : (d x y : Mark) → x.stamp ≡ y.stamp → x.time < y.time → Distinct d x →
    ((moved_for d x ≡ moved_for d y) × (moved_for d x < x.time)) ⊎ ((moved_for d x ≡ x.time) × (x.time < moved_for d y))
unfolding moved_for
moved_for_later d x y e h a = elim (cases_eq d.stamp x.stamp) [
  | inl q ↦ (let n = a q in elim (cases_lt d.time x.time) [
    | inl l ↦ inl (grind (arith, nat_tests))
    | inr l ↦ inr (grind (arith, nat_tests))
  ])
  | inr q ↦ inr (grind (arith, nat_tests))
]

module _ (bound : ℕ) where
  pub bounded_change : (x : Mark) → x.time < bound → Bounded bound (change_key bound x)
  bounded_change x h = omega arith

  pub change_rises : (x y : Mark) → x.time < bound → Earlier x y → number bound (change_key bound x) < number bound (change_key bound y)
  change_rises x y p (inl h) = number_by_stamp bound (change_key bound x) (change_key bound y) (bounded_change x p) h
  change_rises x y p (inr (h, k)) = number_by_time bound (change_key bound x) (change_key bound y) (bounded_change x p) h k

  pub moved_part_is : (d f x : Mark) →
      ((moved_time d f x < x.time) × (moved_part bound d f x ≡ x.time)) ⊎ ((moved_time d f x ≡ x.time) × (moved_part bound d f x ≡ bound))
  unfolding moved_part
  moved_part_is d f x = elim (cases_lt (moved_time d f x) x.time) [
    | inl l ↦ inl (grind (arith, nat_tests))
    | inr l ↦ inr (let p = moved_for_le d x in let q = moved_for_le f x in grind (arith, nat_tests))
  ]

  pub bounded_moved : (d f x : Mark) → x.time < bound → Bounded bound (moved_key bound d f x)
  bounded_moved d f x h = omega (arith, moved_for_le d x, moved_part_is d f x)

  pub moved_rises : (d f x y : Mark) → x.time < bound → y.time < bound → Earlier x y → Distinct d x → Distinct f x →
      number bound (moved_key bound d f x) < number bound (moved_key bound d f y)
  moved_rises d f x y p q (inl h) a b = number_by_stamp bound (moved_key bound d f x) (moved_key bound d f y) (bounded_moved d f x p) h
  moved_rises d f x y p q (inr (h, k)) a b =
      let order = compared bound (moved_key bound d f x) (moved_key bound d f y) (bounded_moved d f x p) (bounded_moved d f y q) in
      omega (arith, order, moved_for_later d x y h k a, moved_for_later f x y h k b, moved_part_is d f x, moved_part_is d f y)

  -- what came before the change and before both ends stands before it
  pub change_before_moved : (b d f x : Mark) → b.time < bound → Earlier b x → Earlier b d → Earlier b f →
      number bound (change_key bound b) < number bound (moved_key bound d f x)
  change_before_moved b d f x p (inl h) g k = number_by_stamp bound (change_key bound b) (moved_key bound d f x) (bounded_change b p) h
  change_before_moved b d f x p (inr (h, i)) g k =
      number_by_time bound (change_key bound b) (moved_key bound d f x) (bounded_change b p) h
      (omega (arith, moved_for_after b d x g (inr (h, i)) h, moved_for_after b f x k (inr (h, i)) h))

  -- it stands before both ends, unless one of them has a lower stamp
  module _ (d f x : Mark) (p : x.time < bound) where
    pub moved_before_source : d.time < bound → x.stamp ≤ d.stamp → Distinct d x → number bound (moved_key bound d f x) < number bound (change_key bound d)
    moved_before_source q h a = elim (cases_eq d.stamp x.stamp) [
      | inl s ↦
          (let order = compared bound (moved_key bound d f x) (change_key bound d) (bounded_moved d f x p) (bounded_change d q) in
          omega (arith, order, moved_for_end d x s (a s), moved_part_is d f x))
      | inr s ↦ number_by_stamp bound (moved_key bound d f x) (change_key bound d) (bounded_moved d f x p) (omega arith)
    ]

    pub moved_before_target : f.time < bound → x.stamp ≤ f.stamp → Distinct f x → number bound (moved_key bound d f x) < number bound (change_key bound f)
    moved_before_target q h a = elim (cases_eq f.stamp x.stamp) [
      | inl s ↦
          (let order = compared bound (moved_key bound d f x) (change_key bound f) (bounded_moved d f x p) (bounded_change f q) in
          omega (arith, order, moved_for_end f x s (a s), moved_part_is d f x))
      | inr s ↦ number_by_stamp bound (moved_key bound d f x) (change_key bound f) (bounded_moved d f x p) (omega arith)
    ]

-- What a write to one label changes.
use Rattle.std.proofs.Common.{◌≡◌, ℕ, ◌<◌, true, false, List, None, length, take, set, get_or, replicate, ap, inl, inr, arith}
use Rattle.std.proofs.lemmas.List.{get_or-set_same, get_or-set_other}
use Rattle.std.proofs.lemmas.Bool.{cases_eq}
use Rattle.std.proofs.lemmas.Bool.Decides.{nat_tests}
use Rattle.questions.specs.declared.best_first.Label.{Label}
use Rattle.questions.specs.Search.{blank, value_at, listed_at}
use Rattle.questions.proofs.Copies.{part_of_copies}
use Rattle.questions.proofs.Counting.{Lists}

module _ {A : Type 0} (field : Label → A) (xs : List Label) (k : ℕ) (y : Label) where
  written_here : k < length xs → field (get_or (set xs k y) k blank) ≡ field y
  written_here l = ap field (get_or-set_same xs k y blank l)

  written_there : (j : ℕ) → (j ≡ k → ⊥) → field (get_or (set xs k y) j blank) ≡ field (get_or xs j blank)
  written_there j e = ap field (get_or-set_other xs k j y blank e)

  -- a write that keeps the field
  stays : k < length xs → field y ≡ field (get_or xs k blank) → (j : ℕ) → field (get_or (set xs k y) j blank) ≡ field (get_or xs j blank)
  stays l e j = elim (cases_eq j k) [
    | inl z ↦ (let s = written_here l in cc)
    | inr z ↦ written_there j z
  ]

module _ (xs : List Label) (k : ℕ) (y : Label) where
  pub value_same : k < length xs → value_at (set xs k y) k ≡ y.value
  value_same = written_here (λ (x : Label). x.value) xs k y

  pub value_other : (j : ℕ) → (j ≡ k → ⊥) → value_at (set xs k y) j ≡ value_at xs j
  value_other = written_there (λ (x : Label). x.value) xs k y

  pub values_stay : k < length xs → y.value ≡ value_at xs k → (j : ℕ) → value_at (set xs k y) j ≡ value_at xs j
  values_stay = stays (λ (x : Label). x.value) xs k y

  pub flags_stay : k < length xs → y.listed ≡ listed_at xs k → (j : ℕ) → listed_at (set xs k y) j ≡ listed_at xs j
  flags_stay = stays (λ (x : Label). x.listed) xs k y

  -- a write that lists the key
  pub lists : k < length xs → y.listed ≡ true → Lists (listed_at xs) k (listed_at (set xs k y))
  lists l e j = elim (cases_eq j k) [
    | inl z ↦ (let s = written_here (λ (x : Label). x.listed) xs k y l in grind (arith, nat_tests))
    | inr z ↦ (let s = written_there (λ (x : Label). x.listed) xs k y j z in grind (arith, nat_tests))
  ]

is_blank : (y : Label) → (y.value ≡ None) × (y.listed ≡ false) → y ≡ blank
is_blank y (a, b) = λ i. record { value = a i; listed = b i }

-- labels that are all blank
pub blank_part : (i n : ℕ) (y : Label) → (y.value ≡ None) × (y.listed ≡ false) → (k : ℕ) →
    (value_at (take i (replicate n y)) k ≡ None) × (listed_at (take i (replicate n y)) k ≡ false)
blank_part i n y b k =
    rw (is_blank y b) (let e = part_of_copies i n k blank in (ap (λ (x : Label). x.value) e, ap (λ (x : Label). x.listed) e))

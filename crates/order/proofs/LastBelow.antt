-- The greatest number below a bound that passes a test.
use Rattle.std.proofs.Common.{◌≡◌, ℕ, zero, suc, ◌<◌, Bool, true, false, Some, None, refl, inl, inr, arith}
use Rattle.std.proofs.lemmas.Bool.{cases_Bool}
use Rattle.order.specs.Rows.{last_below}

-- two tests that agree below the bound
pub last_below_same : (t u : ℕ → Bool) (n : ℕ) → ((r : ℕ) → r < n → t r ≡ u r) → last_below t n ≡ last_below u n
unfolding last_below
last_below_same t u zero h = refl
last_below_same t u (suc n) h = let e = last_below_same t u n (λ r l. h r (omega arith)) in let f = h n (omega arith) in cc

-- a test that nothing passes
pub last_below_none : (t : ℕ → Bool) (n : ℕ) → ((r : ℕ) → r < n → t r ≡ false) → last_below t n ≡ None
unfolding last_below
last_below_none t zero h = refl
last_below_none t (suc n) h = let e = last_below_none t n (λ r l. h r (omega arith)) in let f = h n (omega arith) in cc

-- a test that one number alone passes
pub last_below_only : (t : ℕ → Bool) (n r : ℕ) → r < n → t r ≡ true → ((s : ℕ) → s < n → t s ≡ true → s ≡ r) → last_below t n ≡ Some r
unfolding last_below
last_below_only t zero r l b only = absurd (omega arith)
last_below_only t (suc n) r l b only = elim (cases_Bool (t n)) [
  | inl c ↦ (let q = only n (omega arith) c in cc)
  | inr c ↦ (let e = last_below_only t n r (grind arith) b (λ s k. only s (omega arith)) in cc)
]

-- the number that is found passes the test
pub last_below_passes : (t : ℕ → Bool) (n r : ℕ) → last_below t n ≡ Some r → (r < n) × (t r ≡ true)
unfolding last_below
last_below_passes t zero r e = absurd (grind arith)
last_below_passes t (suc n) r e = elim (cases_Bool (t n)) [
  | inl b ↦ (let q : n ≡ r = cc in (omega arith, rw (← q) b))
  | inr b ↦ (let (l, p) = last_below_passes t n r (cc) in (omega arith, p))
]

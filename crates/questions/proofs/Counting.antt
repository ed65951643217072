-- How many keys are not listed.
use Rattle.std.proofs.Common.{◌≡◌, ℕ, zero, suc, ◌+◌, ◌<◌, Bool, true, false, cond, eqb, List, length, set, inl, inr, arith}
use Rattle.std.proofs.lemmas.List.{get_or-set_same, get_or-set_other}
use Rattle.questions.specs.Search.{flag}
use Rattle.std.proofs.lemmas.Bool.{cases_eq}
use Rattle.std.proofs.lemmas.Bool.Decides.{nat_tests}

unfoldable pub unlisted : (ℕ → Bool) → ℕ → ℕ
unlisted L zero = 0
unlisted L (suc n) = unlisted L n + cond (L n) 0 1

-- K is L with k listed
abbrev pub Lists : (ℕ → Bool) → ℕ → (ℕ → Bool) → Type 0
Lists L k K = (j : ℕ) → K j ≡ cond (eqb j k) true (L j)

unlisted_same : (L : ℕ → Bool) (k : ℕ) (K : ℕ → Bool) → Lists L k K → (n : ℕ) → (k < n → ⊥) → unlisted K n ≡ unlisted L n
unfolding unlisted
unlisted_same L k K h zero far = omega arith
unlisted_same L k K h (suc n) far =
    let e = unlisted_same L k K h n (λ l. far (omega arith)) in
    let f : k ≡ n → ⊥ = λ q. far (omega arith) in
    let d = h n in grind (arith, nat_tests)

-- one key fewer is left once k is listed
pub unlisted_less : (L : ℕ → Bool) (k : ℕ) (K : ℕ → Bool) → Lists L k K → L k ≡ false → (n : ℕ) → k < n → unlisted L n ≡ unlisted K n + 1
unfolding unlisted
unlisted_less L k K h open-k zero l = absurd (omega arith)
unlisted_less L k K h open-k (suc n) l = elim (cases_eq k n) [
  | inl q ↦ (let e = unlisted_same L k K h n (λ z. omega arith) in let d = h n in grind (arith, nat_tests))
  | inr q ↦ (let e = unlisted_less L k K h open-k n (omega arith) in let d = h n in grind (arith, nat_tests))
]

pub lists_set : (bs : List Bool) (k : ℕ) → k < length bs → Lists (flag bs) k (flag (set bs k true))
lists_set bs k l j = elim (cases_eq j k) [
  | inl e ↦ (let s = get_or-set_same bs k true false l in grind (arith, nat_tests))
  | inr e ↦ (let s = get_or-set_other bs k j true false e in grind (arith, nat_tests))
]

pub all_unlisted : (L : ℕ → Bool) → ((k : ℕ) → L k ≡ false) → (n : ℕ) → unlisted L n ≡ n
unfolding unlisted
all_unlisted L none zero = omega arith
all_unlisted L none (suc n) = let e = all_unlisted L none n in let f = none n in grind (arith, nat_tests)

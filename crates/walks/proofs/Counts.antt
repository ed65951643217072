-- How many keys are shown.
use Rattle.std.proofs.Common.{◌≡◌, ℕ, zero, suc, ◌+◌, ◌<◌, ◌≤◌, true, false, eqb, refl, arith, inl, inr}
use Rattle.std.proofs.lemmas.Bool.{cases_eq, cases_Bool}
use Rattle.std.proofs.lemmas.Bool.Decides.{nat_tests}
use Rattle.layout.specs.Rows.{no_row}
use Rattle.walks.proofs.Drafts.{put_at, put_here, put_there}
use Rattle.walks.proofs.Known.{shown_keys}

shown_same : (f g : ℕ → ℕ) (n : ℕ) → ((j : ℕ) → j < n → f j ≡ g j) → shown_keys f n ≡ shown_keys g n
unfolding shown_keys
shown_same f g zero h = refl
shown_same f g (suc n) h = let e = shown_same f g n (λ j l. h j (omega arith)) in let q = h n (omega arith) in rw (e, q) refl

shown_upto : (f : ℕ → ℕ) (n : ℕ) → shown_keys f n ≤ n
unfolding shown_keys
shown_upto f zero = omega arith
shown_upto f (suc n) = let l = shown_upto f n in elim (cases_Bool (eqb (f n) no_row)) [ inl e ↦ rw e (omega arith) | inr e ↦ rw e (omega arith) ]

-- one key more
pub shown_more : (f : ℕ → ℕ) (k r n : ℕ) → k < n → f k ≡ no_row → 0 < r → shown_keys (put_at f k r) n ≡ shown_keys f n + 1
unfolding shown_keys
shown_more f k r zero l e z = absurd (omega arith)
shown_more f k r (suc n) l e z = elim (cases_eq n k) [
  | inl q ↦ (
      let same = shown_same (put_at f k r) f n (λ j m. put_there f k r j (λ p. omega arith)) in
      let here : put_at f k r n ≡ r = rw q (put_here f k r) in
      let some : eqb r no_row ≡ false = grind (arith, nat_tests) in
      let none : eqb (f n) no_row ≡ true = rw (q, e) refl in
      rw (here, some, none, same) refl)
  | inr q ↦ (
      let more = shown_more f k r n (omega arith) e z in
      let there = put_there f k r n q in
      rw (there, more) (elim (cases_Bool (eqb (f n) no_row)) [ inl o ↦ rw o refl | inr o ↦ rw o refl ]))
]

-- where a key is not shown, not all are
pub shown_fewer : (f : ℕ → ℕ) (k n : ℕ) → k < n → f k ≡ no_row → shown_keys f n < n
shown_fewer f k n l e = omega (arith, shown_more f k 1 n l e (omega arith), shown_upto (put_at f k 1) n)

-- where no key is shown, none counts
pub shown_none : (f : ℕ → ℕ) (n : ℕ) → ((j : ℕ) → f j ≡ no_row) → shown_keys f n ≡ 0
unfolding shown_keys
shown_none f zero h = refl
shown_none f (suc n) h = let e = shown_none f n h in let q = h n in rw (q, e) refl

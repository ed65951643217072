-- Sums over the numbers below another.
use Rattle.std.proofs.Common.{◌≡◌, ℕ, zero, suc, ◌+◌, ◌-◌, ◌*◌, ◌/◌, ◌%◌, ◌<◌, ◌≤◌, ◌≢◌, ◌⊎◌, Bool, true, false, cond, eqb, refl, sym, ap, ◌∙◌, subst, subst₂, inl, inr, ⊎_elim, arith, mul_comm}
use Rattle.std.proofs.lemmas.Nat.{div-mul-add, mod-mul-add}
use Rattle.std.proofs.lemmas.Bool.{cases_eq}
use Rattle.std.proofs.lemmas.Bool.Decides.{nat_tests}
use Rattle.walks.specs.Budgets.{sum_below}
use Rattle.walks.proofs.Times.{ordered}
use Rattle.walks.proofs.Drafts.{put_at, put_here, put_there}

pub sum_le : (n : ℕ) (f g : ℕ → ℕ) → ((y : ℕ) → y < n → f y ≤ g y) → sum_below n f ≤ sum_below n g
unfolding sum_below
sum_le zero f g h = omega arith
sum_le (suc n) f g h = omega (arith, sum_le n f g (λ y l. h y (omega arith)), h n (omega arith))

pub sum_split : (m d : ℕ) (f : ℕ → ℕ) → sum_below (m + d) f ≡ sum_below m f + sum_below d (λ y. f (m + y))
unfolding sum_below
sum_split m zero f = let q : m + 0 ≡ m = omega arith in rw q (omega arith)
sum_split m (suc d) f = let q : m + suc d ≡ suc (m + d) = omega arith in rw q (omega (arith, sum_split m d f))

pub sum_up : (m n : ℕ) (f : ℕ → ℕ) → m ≤ n → sum_below m f ≤ sum_below n f
sum_up m n f l = let q : n ≡ m + (n - m) = omega arith in omega (arith, ap (λ v. sum_below v f) q, sum_split m (n - m) f)

pub sum_at : (n j : ℕ) (f : ℕ → ℕ) → j < n → f j ≤ sum_below n f
unfolding sum_below
sum_at n j f l = omega (arith, sum_up (suc j) n f l)

-- one more number passes a test
pub sum_flag : (n j : ℕ) (s : ℕ → Bool) (f : ℕ → ℕ) → j < n → s j ≡ false →
    sum_below n (λ y. cond (s y) (f y) 0) + f j ≤ sum_below n (λ y. cond (put_at s j true y) (f y) 0)
unfolding sum_below
sum_flag zero j s f l e = absurd (omega arith)
sum_flag (suc n) j s f l e = by_place (ordered j n) (sum_flag n j s f)
  where
    by_place : (j < n) ⊎ ((j ≡ n) ⊎ (n < j)) →
        (j < n → s j ≡ false → sum_below n (λ y. cond (s y) (f y) 0) + f j ≤ sum_below n (λ y. cond (put_at s j true y) (f y) 0)) →
        sum_below n (λ y. cond (s y) (f y) 0) + cond (s n) (f n) 0 + f j ≤ sum_below n (λ y. cond (put_at s j true y) (f y) 0) + cond (put_at s j true n) (f n) 0
    by_place (inl a) ih = rw (put_there s j true n (λ q. omega arith)) (omega (arith, ih a e))
    by_place (inr (inl a)) ih =
        let u : sum_below n (λ y. cond (s y) (f y) 0) ≤ sum_below n (λ y. cond (put_at s j true y) (f y) 0) = sum_le n _ _ (λ y b. rw (put_there s j true y (λ q. omega arith)) (omega arith)) in
        let v : s n ≡ false = rw a at e in
        let w : put_at s j true n ≡ true = ap (put_at s j true) (sym a) ∙ put_here s j true in
        let z : f j ≡ f n = ap f a in
        rw (w, v) (omega arith)
    by_place (inr (inr a)) ih = absurd (omega arith)

pub sum_eights : (n : ℕ) (g : ℕ → ℕ) → sum_below n (λ y. 8 + g y) ≤ 8 * n + sum_below n g
unfolding sum_below
sum_eights zero g = omega arith
sum_eights (suc n) g = omega (arith, sum_eights n g)

-- all but one
sum_some : (n a : ℕ) (g : ℕ → ℕ) → sum_below n (λ j. cond (eqb a j) 0 (8 + g j)) ≤ 8 * n + sum_below n g
unfolding sum_below
sum_some zero a g = omega arith
sum_some (suc n) a g = by_test (eqb a n) (sum_some n a g)
  where
    by_test : (d : Bool) → sum_below n (λ j. cond (eqb a j) 0 (8 + g j)) ≤ 8 * n + sum_below n g →
        sum_below n (λ j. cond (eqb a j) 0 (8 + g j)) + cond d 0 (8 + g n) ≤ 8 * suc n + (sum_below n g + g n)
    by_test true h = omega arith
    by_test false h = omega arith

pub sum_others : (n a : ℕ) (g : ℕ → ℕ) → a < n → sum_below n (λ j. cond (eqb a j) 0 (8 + g j)) + 8 ≤ 8 * n + sum_below n g
unfolding sum_below
sum_others zero a g l = absurd (omega arith)
sum_others (suc n) a g l = by_test (eqb a n) refl (sum_others n a g)
  where
    by_test : (d : Bool) → eqb a n ≡ d → (a < n → sum_below n (λ j. cond (eqb a j) 0 (8 + g j)) + 8 ≤ 8 * n + sum_below n g) →
        sum_below n (λ j. cond (eqb a j) 0 (8 + g j)) + cond d 0 (8 + g n) + 8 ≤ 8 * suc n + (sum_below n g + g n)
    by_test true e ih = omega (arith, sum_some n a g)
    by_test false e ih = let q : a < n = grind (arith, nat_tests) in omega (arith, ih q)

pub sum_scale : (n c : ℕ) (f g : ℕ → ℕ) → ((a : ℕ) → a < n → f a + 8 ≤ c + g a) → sum_below n f + 8 * n ≤ c * n + sum_below n g
unfolding sum_below
sum_scale zero c f g h = omega arith
sum_scale (suc n) c f g h = omega (arith, sum_scale n c f g (λ a l. h a (omega arith)), h n (omega arith))

-- pairs by their numbers
pub sum_pairs : (n l : ℕ) (f : ℕ → ℕ → ℕ) → sum_below (n * l) (λ y. f (y / n) (y % n)) ≤ sum_below l (λ m. sum_below n (f m))
unfolding sum_below
sum_pairs n zero f = let q : n * 0 ≡ 0 = omega arith in rw q (omega arith)
sum_pairs n (suc l) f =
    let q : n * suc l ≡ n * l + n = omega arith in
    let u : sum_below n (λ y. f ((n * l + y) / n) ((n * l + y) % n)) ≤ sum_below n (f l) = sum_le n _ _ (λ y a. same y a) in
    rw q (omega (arith, sum_split (n * l) n (λ y. f (y / n) (y % n)), sum_pairs n l f, u))
  where
    same : (y : ℕ) → y < n → f ((n * l + y) / n) ((n * l + y) % n) ≤ f l y
    same y a =
        let p : (n * l + y) / n ≡ l = rw (mul_comm n l) (div-mul-add l n y a) in
        let r : (n * l + y) % n ≡ y = rw (mul_comm n l) (mod-mul-add l n y a) in
        subst₂ (λ i j. f i j ≤ f l y) (sym p) (sym r) (omega arith)

-- one term grows by one
pub sum_bump : (n z : ℕ) (f g : ℕ → ℕ) → ((y : ℕ) → y ≢ z → g y ≤ f y) → g z ≤ suc (f z) → sum_below n g ≤ suc (sum_below n f)
unfolding sum_below
sum_bump zero z f g h u = omega arith
sum_bump (suc n) z f g h u = by_place (ordered n z) (sum_bump n z f g h u)
  where
    others : (z < n → ⊥) → sum_below n g ≤ sum_below n f
    others d = sum_le n g f (λ y l. h y (λ q. d (omega arith)))

    by_place : (n < z) ⊎ ((n ≡ z) ⊎ (z < n)) → sum_below n g ≤ suc (sum_below n f) → sum_below n g + g n ≤ suc (sum_below n f + f n)
    by_place (inl a) ih = omega (arith, others (λ q. omega arith), h n (λ q. omega arith))
    by_place (inr (inl a)) ih = let e : g n ≤ suc (f n) = rw a u in omega (arith, others (λ q. omega arith))
    by_place (inr (inr a)) ih = omega (arith, ih, h n (λ q. omega arith))

-- sums with the same terms
pub sum_same : (n : ℕ) (f g : ℕ → ℕ) → ((y : ℕ) → y < n → g y ≡ f y) → sum_below n g ≡ sum_below n f
unfolding sum_below
sum_same zero f g h = refl
sum_same (suc n) f g h = omega (arith, sum_same n f g (λ y l. h y (omega arith)), h n (omega arith))

-- with one term more by one
pub sum_next : (n z : ℕ) (f g : ℕ → ℕ) → z < n → ((y : ℕ) → y < n → y ≢ z → g y ≡ f y) → g z ≡ suc (f z) → sum_below n g ≡ suc (sum_below n f)
unfolding sum_below
sum_next zero z f g l h u = absurd (omega arith)
sum_next (suc n) z f g l h u =
    ⊎_elim
    (λ (e : n ≡ z). let s : sum_below n g ≡ sum_below n f = sum_same n f g (λ y m. h y (omega arith) (λ q. omega arith)) in let v : g n ≡ suc (f n) = subst (λ x. g x ≡ suc (f x)) (sym e) u in omega arith)
    (λ (d : ¬ (n ≡ z)). let m : z < n = (let q : n ≢ z = d in omega arith) in omega (arith, sum_next n z f g m (λ y a. h y (omega arith)) u, h n (omega arith) d))
    (cases_eq n z)

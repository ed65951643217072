-- One step of each loop over words and bytes, and what it leaves.
use Rattle.std.proofs.Common.{◌≡◌, ℕ, zero, suc, ◌+◌, ◌-◌, ◌*◌, ◌<◌, ◌≤◌, ◌==◌, ◌&&◌, Bool, true, false, List, [], ◌∷◌, ◌++◌, length, get_or, take, drop, is_some, nat_lt, Option, Some, None, refl, sym, ap, inl, inr, ◌∙◌, arith, length-append}
use Rattle.std.proofs.lemmas.Bool.{cases_Bool, and_parts, eqb-true}
use Rattle.std.proofs.Math.Bool.{and-false}
use Rattle.std.proofs.lemmas.Bool.Decides.{nat_tests}
use Rattle.std.proofs.lemmas.List.{length-drop, length-take, length-take-le, take_all, take-append-le, take-append-drop}
use Rattle.questions.specs.Pages.{fits}
use Rattle.ask.specs.Numbers.{number, below, key_in}
use Rattle.ask.specs.Replies.{bytes_for, keys_from, numbers}
use Rattle.ask.specs.Lines.{Words, are_keys, with_key, with_keys}

module _ (n : ℕ) where
  -- a word that names no key
  pub keys_none : (ws : Words) (w : List ℕ) (more : Words) → key_in n w ≡ None → are_keys n (ws ++ (w ∷ more)) ≡ false
  keys_none [] w more e = rw e refl
  keys_none (v ∷ ws) w more e = ap (λ b. is_some (key_in n v) && b) (keys_none ws w more e) ∙ and-false (is_some (key_in n v))

  -- a word that names a key
  pub keys_more : (ws : Words) (w : List ℕ) (k : ℕ) → are_keys n ws ≡ true → key_in n w ≡ Some k → are_keys n (ws ++ (w ∷ [])) ≡ true
  keys_more [] w k all e = rw e refl
  keys_more (v ∷ ws) w k all e =
      let (here, more) = and_parts (is_some (key_in n v)) (are_keys n ws) all in rw here (keys_more ws w k more e)

  pub shown_more : (cells : List ℕ) (ws : Words) (w : List ℕ) → with_keys n cells (ws ++ (w ∷ [])) ≡ with_key (with_keys n cells ws) (key_in n w)
  shown_more cells [] w = refl
  shown_more cells (v ∷ ws) w = shown_more (with_key cells (key_in n v)) ws w

pub size_more : (n size : ℕ) → n < 65 → (bytes_for n ≡ size → ⊥) → keys_from n (65 - n) size ≡ keys_from (n + 1) (65 - (n + 1)) size
unfolding keys_from
size_more n size l other =
    let e : 65 - n ≡ suc (65 - (n + 1)) = omega arith in
    ap (λ k. keys_from n k size) e ∙ elim (cases_Bool (bytes_for n == size)) [
      | inl t ↦ absurd (other (eqb-true (bytes_for n) size t))
      | inr f ↦ rw f refl
    ]

pub size_found : (n size : ℕ) → n < 65 → bytes_for n ≡ size → keys_from n (65 - n) size ≡ Some n
unfolding keys_from
size_found n size l same =
    let e : 65 - n ≡ suc (65 - (n + 1)) = omega arith in
    ap (λ k. keys_from n k size) e ∙ elim (cases_Bool (bytes_for n == size)) [
      | inl t ↦ rw t refl
      | inr f ↦ absurd (let t : ◌≡◌ {A = Bool} (bytes_for n == size) true = grind (arith, nat_tests) in let z : true ≡ false = sym t ∙ f in cc)
    ]

pub size_none : (n size : ℕ) → 65 ≤ n → keys_from n (65 - n) size ≡ None
unfolding keys_from
size_none n size l = let e : 65 - n ≡ 0 = omega arith in ap (λ k. keys_from n k size) e

pub numbers_more : (four rest : List ℕ) → length four ≡ 4 →
    numbers (four ++ rest) ≡ (get_or four 0 0 * 16777216 + get_or four 1 0 * 65536 + get_or four 2 0 * 256 + get_or four 3 0) ∷ numbers rest
numbers_more [] rest e = absurd (omega arith)
numbers_more (a ∷ []) rest e = absurd (omega arith)
numbers_more (a ∷ (b ∷ [])) rest e = absurd (omega arith)
numbers_more (a ∷ (b ∷ (c ∷ []))) rest e = absurd (omega arith)
numbers_more (a ∷ (b ∷ (c ∷ (d ∷ [])))) rest e = refl
numbers_more (a ∷ (b ∷ (c ∷ (d ∷ (x ∷ more))))) rest e = absurd (omega arith)

pub numbers_short : (bytes : List ℕ) → length bytes < 4 → numbers bytes ≡ []
numbers_short [] l = refl
numbers_short (a ∷ []) l = refl
numbers_short (a ∷ (b ∷ [])) l = refl
numbers_short (a ∷ (b ∷ (c ∷ []))) l = refl
numbers_short (a ∷ (b ∷ (c ∷ (d ∷ more)))) l = absurd (omega arith)

-- as many numbers as fours of bytes
pub length_numbers : (m : ℕ) (bytes : List ℕ) → length bytes ≡ 4 * m → length (numbers bytes) ≡ m
length_numbers zero [] e = refl
length_numbers zero (a ∷ more) e = absurd (omega arith)
length_numbers (suc m) [] e = absurd (omega arith)
length_numbers (suc m) (a ∷ []) e = absurd (omega arith)
length_numbers (suc m) (a ∷ (b ∷ [])) e = absurd (omega arith)
length_numbers (suc m) (a ∷ (b ∷ (c ∷ []))) e = absurd (omega arith)
length_numbers (suc m) (a ∷ (b ∷ (c ∷ (d ∷ rest)))) e = let k = length_numbers m rest (omega arith) in omega arith

-- the cells that the bytes of a page make fit its keys
pub whole_page : (n : ℕ) (bytes cells : List ℕ) → cells ≡ take n bytes ++ numbers (drop n bytes) → 1 ≤ n → n ≤ 64 → bytes_for n ≡ length bytes → fits cells n ≡ true
whole_page n bytes cells e low high size =
    let pairs : length (numbers (drop n bytes)) ≡ n * n = length_numbers (n * n) (drop n bytes) (omega (arith, length-drop n bytes)) in
    let long : length cells ≡ n + n * n = omega (arith, ap length e, length-append (take n bytes) (numbers (drop n bytes)), length-take n bytes) in
    grind (arith, nat_tests)

-- cells that were copied and put back
pub restored : (n : ℕ) (cells before more later : List ℕ) → n ≤ length cells → before ≡ take n cells ++ more → drop n later ≡ drop n cells
    → take n before ++ drop (length (take n before)) later ≡ cells
restored n cells before more later fits copied pairs =
    let long : length (take n cells) ≡ n = length-take-le n cells fits in
    let front : take n before ≡ take n cells = ap (take n) copied ∙ take-append-le n (take n cells) more (omega arith) ∙ take_all n (take n cells) (omega arith) in
    ap (λ v. v ++ drop (length v) later) front ∙ ap (λ k. take n cells ++ drop k later) long ∙ ap (λ v. take n cells ++ v) pairs ∙ take-append-drop n cells

-- a word names a key of the page
pub key_small : (n : ℕ) (w : List ℕ) (k : ℕ) → key_in n w ≡ Some k → k < n
key_small n w k = small (number 64 w)
  where
    small : (o : Option ℕ) → below n o ≡ Some k → k < n
    small None e = absurd (let z : ◌≡◌ {A = Option ℕ} None (Some k) = e in cc)
    small (Some j) e = elim (cases_Bool (nat_lt j n)) [
      | inl t ↦ let y : below n (Some j) ≡ Some j = rw t refl in let z : ◌≡◌ {A = Option ℕ} (Some j) (Some k) = sym y ∙ e in let same : j ≡ k = cc in grind (arith, nat_tests)
      | inr f ↦ absurd (let y : below n (Some j) ≡ None = rw f refl in let z : ◌≡◌ {A = Option ℕ} None (Some k) = sym y ∙ e in cc)
    ]

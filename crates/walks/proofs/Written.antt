-- What is entered into the cells of a page is written into the page.
use Rattle.std.proofs.Common.{◌≡◌, ℕ, zero, suc, ◌+◌, ◌*◌, ◌<◌, ◌≤◌, ◌≢◌, Bool, true, false, cond, ltb, ◌&&◌, ◌==◌, nat_lt, List, length, get_or, set, refl, ap, ◌∙◌, ⊎_elim, mul_comm, arith}
use Rattle.std.proofs.lemmas.List.{length-set, get_or-set_same, get_or-set_other}
use Rattle.std.proofs.lemmas.Nat.{mul-add-lt}
use Rattle.std.proofs.lemmas.Bool.{ltb-true, lt-ltb, eq-eqb, ne_eqb, and_parts, cases_eq}
use Rattle.layout.specs.declared.sizes.Sizes.{Sizes}
use Rattle.layout.specs.declared.names.Cell.{Cell}
use Rattle.layout.specs.declared.names.Cell.TheVariants as cell
use Rattle.layout.specs.Layout.{index_of, needed, Named, page_start, page_size}
use Rattle.layout.proofs.Regions.{index_lt}
use Rattle.layout.proofs.Inverse.{same_name}
use Rattle.books.specs.declared.walked.Entry.{Entry}
use Rattle.books.specs.declared.walked.Entry.TheVariants as entry
use Rattle.machine.specs.Effects.{put, zeroed, entered}
use Rattle.machine.specs.Turns.{cell_at}
use Rattle.laws.proofs.Pages.{FitEntry}
use Rattle.walks.specs.Pages.{Page, clear, with_key, with_pair, written}

-- pages are the same where each key and each pair is
pub same_page : {p q : Page} → ((k : ℕ) → p.key k ≡ q.key k) → ((i j : ℕ) → p.pair i j ≡ q.pair i j) → p ≡ q
same_page a b = λ i. record { key = λ k. a k i; pair = λ x y. b x y i }

same_if : (t : Bool) {x y : ℕ} → (t ≡ true → x ≡ y) → cond t x 0 ≡ cond t y 0
same_if true f = f refl
same_if false f = refl

zero_if : (t : Bool) {x : ℕ} → (t ≡ true → x ≡ 0) → cond t x 0 ≡ 0
zero_if true f = f refl
zero_if false f = refl

not_both : (a b i j : ℕ) → ¬ ((a ≡ i) × (b ≡ j)) → ((a == i) && (b == j)) ≡ false
not_both a b i j f = ⊎_elim (λ (e : a ≡ i). rw (eq-eqb a i e, ne_eqb b j (λ q. f (e, q))) refl) (λ (n : ¬ (a ≡ i)). rw (ne_eqb a i n) refl) (cases_eq a i)

one_key : {v w i j : ℕ} → cell.PageKey v i ≡ cell.PageKey w j → i ≡ j
one_key e = cc

one_pair : {v w a b i j : ℕ} → cell.PagePair v a b ≡ cell.PagePair w i j → (a ≡ i) × (b ≡ j)
one_pair e = (cc, cc)

zeroed_length : (cs : List ℕ) (i n : ℕ) → length (zeroed cs i n) ≡ length cs
zeroed_length cs i zero = refl
zeroed_length cs i (suc n) = simp length-set (zeroed_length cs i n)

zeroed_in : (cs : List ℕ) (i n o : ℕ) → o < n → i + o < length cs → get_or (zeroed cs i n) (i + o) 0 ≡ 0
zeroed_in cs i zero o l b = absurd (omega arith)
zeroed_in cs i (suc n) o l b =
    ⊎_elim
    (λ (e : o ≡ n). ap (λ x. get_or (set (zeroed cs i n) (i + n) 0) (i + x) 0) e ∙ get_or-set_same (zeroed cs i n) (i + n) 0 0 (omega (arith, zeroed_length cs i n)))
    (λ (m : ¬ (o ≡ n)). get_or-set_other (zeroed cs i n) (i + n) (i + o) 0 0 (λ q. m (omega arith)) ∙ zeroed_in cs i n o (let u : o ≢ n = m in omega arith) b)
    (cases_eq o n)

module _ (z : Sizes) (w : ℕ) (h : w < z.workers) where
  abbrev pub page : List ℕ → Page
  page cs = record {
    key = λ k. cond (nat_lt k z.keys) (cell_at z cs (cell.PageKey w k)) 0;
    pair = λ i j. cond (nat_lt i z.keys && nat_lt j z.keys) (cell_at z cs (cell.PagePair w i j)) 0;
  }

  -- where the cells of the page stay, it stays
  pub page_stays : (cs ds : List ℕ) → ((k : ℕ) → k < z.keys → cell_at z ds (cell.PageKey w k) ≡ cell_at z cs (cell.PageKey w k)) →
      ((i j : ℕ) → i < z.keys → j < z.keys → cell_at z ds (cell.PagePair w i j) ≡ cell_at z cs (cell.PagePair w i j)) → page ds ≡ page cs
  page_stays cs ds a b = same_page
      (λ k. same_if (ltb k z.keys) (λ t. a k (ltb-true k z.keys t)))
      (λ i j. same_if (ltb i z.keys && ltb j z.keys) (λ t. let p = and_parts (ltb i z.keys) (ltb j z.keys) t in b i j (ltb-true i z.keys p.0) (ltb-true j z.keys p.1)))

  module _ (cs : List ℕ) (l : needed z ≤ length cs) where
    put_here : (c : Cell) (v : ℕ) → Named z c → cell_at z (put z cs c v) c ≡ v
    put_here c v n = get_or-set_same cs (index_of z c) v 0 (omega (arith, index_lt z c n))

    put_there : (d c : Cell) (v : ℕ) → Named z c → Named z d → ¬ (c ≡ d) → cell_at z (put z cs d v) c ≡ cell_at z cs c
    put_there d c v n m a = get_or-set_other cs (index_of z d) (index_of z c) v 0 (λ e. a (same_name z c d n m e))

    key_written : (j r : ℕ) → j < z.keys → page (put z cs (cell.PageKey w j) r) ≡ with_key (page cs) j r
    key_written j r b = same_page keys
        (λ x y. same_if (ltb x z.keys && ltb y z.keys) (λ t. let p = and_parts (ltb x z.keys) (ltb y z.keys) t in
        put_there (cell.PageKey w j) (cell.PagePair w x y) r (h, ltb-true x z.keys p.0, ltb-true y z.keys p.1) (h, b) (λ e. absurd cc)))
      where
        keys : (k : ℕ) → (page (put z cs (cell.PageKey w j) r)).key k ≡ (with_key (page cs) j r).key k
        keys k = ⊎_elim
            (λ (e : k ≡ j). rw (eq-eqb k j e, lt-ltb k z.keys (omega arith)) (ap (λ i. cell_at z (put z cs (cell.PageKey w j) r) (cell.PageKey w i)) e ∙ put_here (cell.PageKey w j) r (h, b)))
            (λ (n : ¬ (k ≡ j)). rw (ne_eqb k j n) (same_if (ltb k z.keys) (λ t. put_there (cell.PageKey w j) (cell.PageKey w k) r (h, ltb-true k z.keys t) (h, b) (λ e. n (one_key e)))))
            (cases_eq k j)

    pair_written : (i j x : ℕ) → i < z.keys → j < z.keys → page (put z cs (cell.PagePair w i j) x) ≡ with_pair (page cs) i j x
    pair_written i j x a b = same_page
        (λ k. same_if (ltb k z.keys) (λ t. put_there (cell.PagePair w i j) (cell.PageKey w k) x (h, ltb-true k z.keys t) (h, a, b) (λ e. absurd cc)))
        (λ u v. ⊎_elim (λ (e : u ≡ i). ⊎_elim (λ (f : v ≡ j). here u v e f) (λ (f : ¬ (v ≡ j)). other u v (λ q. f q.1)) (cases_eq v j)) (λ (e : ¬ (u ≡ i)). other u v (λ q. e q.0)) (cases_eq u i))
      where
        here : (u v : ℕ) → u ≡ i → v ≡ j → (page (put z cs (cell.PagePair w i j) x)).pair u v ≡ (with_pair (page cs) i j x).pair u v
        here u v e f =
            rw (eq-eqb u i e, eq-eqb v j f, lt-ltb u z.keys (omega arith), lt-ltb v z.keys (omega arith))
            (ap (λ y. cell_at z (put z cs (cell.PagePair w i j) x) (cell.PagePair w y v)) e ∙ ap (λ y. cell_at z (put z cs (cell.PagePair w i j) x) (cell.PagePair w i y)) f ∙ put_here (cell.PagePair w i j) x (h, a, b))

        other : (u v : ℕ) → ¬ ((u ≡ i) × (v ≡ j)) → (page (put z cs (cell.PagePair w i j) x)).pair u v ≡ (with_pair (page cs) i j x).pair u v
        other u v n = rw (not_both u v i j n) (same_if (ltb u z.keys && ltb v z.keys) (λ t. let p = and_parts (ltb u z.keys) (ltb v z.keys) t in
            put_there (cell.PagePair w i j) (cell.PagePair w u v) x (h, ltb-true u z.keys p.0, ltb-true v z.keys p.1) (h, a, b) (λ e. n (one_pair e))))

    -- a cell that is not of the page
    pub page_put : (d : Cell) (v : ℕ) → Named z d → ((k : ℕ) → ¬ (cell.PageKey w k ≡ d)) → ((i j : ℕ) → ¬ (cell.PagePair w i j ≡ d)) → page (put z cs d v) ≡ page cs
    page_put d v m a b = page_stays cs (put z cs d v) (λ k t. put_there d (cell.PageKey w k) v (h, t) m (a k)) (λ i j t u. put_there d (cell.PagePair w i j) v (h, t, u) m (b i j))

    cleared : page (zeroed cs (page_start z w) (page_size z)) ≡ clear
    cleared = same_page (λ k. zero_if (ltb k z.keys) (λ t. key k (ltb-true k z.keys t)))
        (λ i j. zero_if (ltb i z.keys && ltb j z.keys) (λ t. let p = and_parts (ltb i z.keys) (ltb j z.keys) t in pair i j (ltb-true i z.keys p.0) (ltb-true j z.keys p.1)))
      where
        key : (k : ℕ) → k < z.keys → cell_at z (zeroed cs (page_start z w) (page_size z)) (cell.PageKey w k) ≡ 0
        key k t = zeroed_in cs (page_start z w) (page_size z) k (omega arith) (omega (arith, index_lt z (cell.PageKey w k) (h, t)))

        pair : (i j : ℕ) → i < z.keys → j < z.keys → cell_at z (zeroed cs (page_start z w) (page_size z)) (cell.PagePair w i j) ≡ 0
        pair i j t u =
            let o : ℕ = z.keys + z.keys * i + j in
            let at : page_start z w + z.keys + z.keys * i + j ≡ page_start z w + (z.keys + z.keys * i + j) = omega arith in
            let small : z.keys + z.keys * i + j < page_size z = omega (arith, mul-add-lt i z.keys j z.keys t u, mul_comm z.keys i) in
            ap (λ x. get_or (zeroed cs (page_start z w) (page_size z)) x 0) at
            ∙ zeroed_in cs (page_start z w) (page_size z) (z.keys + z.keys * i + j) small (omega (arith, index_lt z (cell.PagePair w i j) (h, t, u), at))

  pub entered_written : (cs : List ℕ) → needed z ≤ length cs → (e : Entry) → FitEntry z e → page (entered z w cs e) ≡ written (page cs) e
  entered_written cs l entry.Nothing f = refl
  entered_written cs l entry.Clear f = cleared cs l
  entered_written cs l (entry.Key k r) f = key_written cs l k r f
  entered_written cs l (entry.Pair i j x) f = pair_written cs l i j x f.0 f.1
  entered_written cs l (entry.Join i j x r) f = key_written (put z cs (cell.PagePair w i j) x) (simp length-set l) j r f.1 ∙ ap (λ p. with_key p j r) (pair_written cs l i j x f.0 f.1)

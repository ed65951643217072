-- The worked case.
use Rattle.std.proofs.Common.{◌≡◌, ℕ, zero, suc, ◌<◌, [], ◌∷◌, Some, None, Option, refl, subst, inr, arith, rules}
use Rattle.questions.specs.Graph.{Graph, Inside, Walk, here, on}
use Rattle.questions.specs.Measures.{Scale, NoBetter, Lawful, total_scale, weakest_scale}
use Rattle.questions.specs.Best.{along, Entered}
use Rattle.questions.specs.Order.{key, BreadthFirst}
use Rattle.questions.specs.Cases.{three, Only, Cases}
use Rattle.questions.proofs.Fixed.{entry_fixed}

total_lawful : Lawful total_scale
total_lawful = search rules

weakest_lawful : Lawful weakest_scale
weakest_lawful = search rules

inside : Inside three 3
inside i j w e = search rules

-- what holds at 0, 1 and 2 holds below 3
below_three : (P : ℕ → Type 0) → P 0 → P 1 → P 2 → (k : ℕ) → k < 3 → P k
below_three P a b c zero l = a
below_three P a b c (suc zero) l = b
below_three P a b c (suc (suc zero)) l = c
below_three P a b c (suc (suc (suc k))) l = absurd (omega arith)

-- a fact about the weight of an edge, where there is one
abbrev Over : (ℕ → Type 0) → Option ℕ → Type 0
Over P None = Unit {0}
Over P (Some w) = P w

over_edge : (P : ℕ → Type 0) (o : Option ℕ) → Over P o → (w : ℕ) → o ≡ Some w → P w
over_edge P None h w e = absurd (let z : ◌≡◌ {A = ℕ} 0 1 = cc in omega arith)
over_edge P (Some v) h w e = let z : v ≡ w = cc in subst P z h

-- values that no edge makes better bound the values of all walks
bounded : {m : Scale} → Lawful m → {g : Graph} {s : ℕ} (b : ℕ → ℕ) → NoBetter m m.first (b s) →
    ((i j w : ℕ) → g.edge i j ≡ Some w → NoBetter m (m.extend (b i) w) (b j)) → {k : ℕ} (p : Walk g s k) → NoBetter m (along m p) (b k)
bounded law b at-s over here = at-s
bounded law b at-s over (on {k} {j} w p e) =
    law.transitive _ _ _ (law.keeps _ _ w (bounded law b at-s over p)) (over k j w e)

-- the edge from i to j, where there is one, leads to no better value than b has at j
abbrev Offers : Scale → (ℕ → ℕ) → ℕ → ℕ → Type 0
Offers m b i j = Over (λ w. NoBetter m (m.extend (b i) w) (b j)) (three.edge i j)

bounded_by : {m : Scale} → Lawful m → (b : ℕ → ℕ) → NoBetter m m.first (b 0) → Offers m b 0 1 → Offers m b 1 2 → Offers m b 0 2 →
    {k : ℕ} (p : Walk three 0 k) → NoBetter m (along m p) (b k)
bounded_by {m} law b at-0 first second long = bounded law b at-0 (λ i j w e.
    (let l = inside i j w e in over_edge (λ w. NoBetter m (m.extend (b i) w) (b j)) (three.edge i j) (offers i l.0 j l.1) w e))
  where
    offers : (i : ℕ) → i < 3 → (j : ℕ) → j < 3 → Offers m b i j
    offers = below_three (λ i. (j : ℕ) → j < 3 → Offers m b i j)
        (below_three (Offers m b 0) tt first long)
        (below_three (Offers m b 1) tt tt second)
        (below_three (Offers m b 2) tt tt tt)

total_bound : {k : ℕ} (p : Walk three 0 k) → NoBetter total_scale (along total_scale p) (key (0 ∷ 5 ∷ 7 ∷ []) k)
total_bound = bounded_by total_lawful (key (0 ∷ 5 ∷ 7 ∷ [])) refl refl refl refl

weakest_bound : {k : ℕ} (p : Walk three 0 k) → NoBetter weakest_scale (along weakest_scale p) (key (4294967295 ∷ 5 ∷ 9 ∷ []) k)
weakest_bound = bounded_by weakest_lawful (key (4294967295 ∷ 5 ∷ 9 ∷ [])) refl refl refl refl

only : {m : Scale} → Lawful m → {s k : ℕ} {x : Option ℕ} → Entered m three s k x → Only m s k x
only law {s} {k} {x} e = (e, λ y f. entry_fixed law three s k y x f e)

-- no edge leaves key 2
stays : {k : ℕ} → Walk three 2 k → k ≡ 2
stays here = refl
stays (on {k} {j} w p e) =
    let z = stays p in
    let o : three.edge 2 j ≡ Some w = rw z at e in
    let n : three.edge 2 j ≡ None = below_three (λ j. three.edge 2 j ≡ None) refl refl refl j (inside 2 j w o).1 in
    absurd (let y : ◌≡◌ {A = ℕ} 0 1 = cc in omega arith)

breadth_first : BreadthFirst three 0 (key (0 ∷ 1 ∷ 2 ∷ [])) 3
breadth_first = record {
  start = (omega arith, refl);
  reached = below_three (λ p. Walk three 0 (key (0 ∷ 1 ∷ 2 ∷ []) p)) here (on 5 here refl) (on 9 here refl);
  all = λ k w. (k, ends w, at k (ends w));
  once = λ p q l m e. (let a = at p (omega arith) in let b = at q m in omega arith);
  from = λ p. 0;
  earliest = λ p l m. (
    l,
    (
      below_three (λ p. 0 < p → (w : ℕ) × (three.edge 0 (key (0 ∷ 1 ∷ 2 ∷ []) p) ≡ Some w)) (λ z. absurd (omega arith)) (λ z. (5, refl)) (λ z. (9, refl)) p m l,
      λ r z e. omega arith,
    ),
  );
  ordered = λ p q z l m. inr (refl, (let a = at p (omega arith) in let b = at q m in omega arith));
}
  where
    ends : {k : ℕ} → Walk three 0 k → k < 3
    ends here = omega arith
    ends (on {k} {j} w p e) = (inside k j w e).1

    at : (k : ℕ) → k < 3 → key (0 ∷ 1 ∷ 2 ∷ []) k ≡ k
    at = below_three (λ k. key (0 ∷ 1 ∷ 2 ∷ []) k ≡ k) refl refl refl

pub cases : Cases
cases = record {
  keys = refl;
  first_edge = refl;
  second_edge = refl;
  long_edge = refl;
  no_edge_back = refl;
  order = breadth_first;
  total = only total_lawful {x = Some 7} (record { walk = on {k = 1} 2 (on 5 here refl) refl; value = refl; none_better = total_bound });
  weakest = only weakest_lawful {x = Some 9} (record { walk = on 9 here refl; value = refl; none_better = weakest_bound });
  no_walk_back = only total_lawful {x = None} (λ w. (let z = stays w in omega arith));
}

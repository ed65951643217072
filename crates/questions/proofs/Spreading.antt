-- The list grows breadth first.
use Rattle.std.proofs.Common.{◌≡◌, ℕ, ◌+◌, ◌<◌, ◌≤◌, Bool, true, false, cond, eqb, ◌⊎◌, sym, refl, ◌∙◌, subst, inl, inr, arith}
use Rattle.std.proofs.lemmas.Bool.{cases_eq}
use Rattle.std.proofs.lemmas.Bool.Decides.{nat_tests}
use Rattle.questions.specs.Graph.{Graph, Inside, Walk, here, on}
use Rattle.questions.specs.Order.{Edge, Earliest, BreadthFirst}
use Rattle.questions.proofs.Counting.{Lists, unlisted, unlisted_less}

-- the key at p was found at the place f, among those served, or now
abbrev pub Placed : Graph → (ℕ → ℕ) → ℕ → ℕ → ℕ → ℕ → Type 0
Placed g xs h i p f = (f < p) × (f ≤ h) × Earliest g xs f (xs p) × (f ≡ h → xs p < i)

-- h keys were served, and of the next one the edges to keys below i
pub record Spread (g : Graph) (n s h i : ℕ) (L : ℕ → Bool) (xs : ℕ → ℕ) (c : ℕ) : Type 0 where
  pub start : (0 < c) × (xs 0 ≡ s)
  pub keys : (p : ℕ) → p < c → (xs p < n) × Walk g s (xs p) × (L (xs p) ≡ true)
  pub once : (p q : ℕ) → p < q → q < c → xs p ≡ xs q → ⊥
  pub places : (k : ℕ) → L k ≡ true → (p : ℕ) × (p < c) × (xs p ≡ k)
  pub counted : unlisted L n + c ≡ n
  pub served : (p j : ℕ) → p < h → Edge g (xs p) j → L j ≡ true
  pub serving : (j : ℕ) → j < i → Edge g (xs h) j → L j ≡ true
  pub from : ℕ → ℕ
  pub earliest : (p : ℕ) → 0 < p → p < c → Placed g xs h i p (from p)
  pub ordered : (p q : ℕ) → 0 < p → p < q → q < c → (from p < from q) ⊎ ((from p ≡ from q) × (xs p < xs q))

-- while a key is not listed, the list has not all keys
pub room : {g : Graph} {n s h i : ℕ} {L : ℕ → Bool} {xs : ℕ → ℕ} {c : ℕ} → Spread g n s h i L xs c → (j : ℕ) → j < n → L j ≡ false → c < n
room {n = n} {L = L} q j l o = omega (arith, q.counted, unlisted_less L j (λ k. cond (eqb k j) true (L k)) (λ k. refl) o n l)

module _ (g : Graph) {n : ℕ} (inside : Inside g n) {s : ℕ} where
  -- once all keys are served, the list is complete
  pub complete : {L : ℕ → Bool} {xs : ℕ → ℕ} {h c : ℕ} → Spread g n s h 0 L xs c → c ≤ h → BreadthFirst g s xs c
  complete {L} {xs} {h} {c} q l = record {
    start = q.start;
    reached = λ p k. (q.keys p k).1;
    all = λ k w. q.places k (finds w);
    once = q.once;
    from = q.from;
    earliest = λ p a b. ((q.earliest p a b).0, (q.earliest p a b).2);
    ordered = q.ordered;
  }
    where
      finds : {k : ℕ} → Walk g s k → L k ≡ true
      finds here = let e = (q.keys 0 q.start.0).2 in let f = q.start.1 in cc
      finds (on {k} {j} w p e) =
          let (r, b, f) = q.places k (finds p) in
          q.served r j (omega arith) (w, (let z = e in cc))

  -- a key is served once all its edges were looked at
  pub next : {L : ℕ → Bool} {xs : ℕ → ℕ} {h c : ℕ} → h < c → Spread g n s h n L xs c → Spread g n s (h + 1) 0 L xs c
  next {L} {xs} {h} {c} l q = record {
    start = q.start;
    keys = q.keys;
    once = q.once;
    places = q.places;
    counted = q.counted;
    served = λ p j a e. elim (cases_eq p h) [
      | inl z ↦ q.serving j (inside (xs p) j e.0 e.1).1 (e.0, (let t = e.1 in cc))
      | inr z ↦ q.served p j (omega arith) e
    ];
    serving = λ j a e. absurd (omega arith);
    from = q.from;
    earliest = λ p a b. (let t = q.earliest p a b in (t.0, omega arith, t.2, λ z. absurd (omega arith)));
    ordered = q.ordered;
  }

  -- a key that is no neighbour, or is listed, is passed over
  pub skip : {L : ℕ → Bool} {xs : ℕ → ℕ} {h i c : ℕ} → Spread g n s h i L xs c → (Edge g (xs h) i → L i ≡ true) → Spread g n s h (i + 1) L xs c
  skip {L} {xs} {h} {i} {c} q f = record {
    start = q.start;
    keys = q.keys;
    once = q.once;
    places = q.places;
    counted = q.counted;
    served = q.served;
    serving = λ j a e. elim (cases_eq j i) [
      | inl z ↦ (let t = f (e.0, (let t = e.1 in cc)) in cc)
      | inr z ↦ q.serving j (omega arith) e
    ];
    from = q.from;
    earliest = λ p a b. (let t = q.earliest p a b in (t.0, t.1, t.2, λ z. (let u = t.3 z in omega arith)));
    ordered = q.ordered;
  }

  -- a neighbour that is not listed is listed
  pub join : {L : ℕ → Bool} {xs : ℕ → ℕ} {h i c : ℕ} → h < c → Spread g n s h i L xs c → Edge g (xs h) i → L i ≡ false →
      (K : ℕ → Bool) → Lists L i K → (ys : ℕ → ℕ) → ((p : ℕ) → p < c → ys p ≡ xs p) → ys c ≡ i → Spread g n s h (i + 1) K ys (c + 1)
  join {L} {xs} {h} {i} {c} l q e new K lists ys same at_c = record {
    start = (omega arith, same 0 q.start.0 ∙ q.start.1);
    keys = λ p a. elim (cases_eq p c) [
      | inl z ↦ (let y : ys p ≡ i = cc in (omega (arith, i_small), walk_at (ys p) y, (let t = lists i in grind (arith, nat_tests))))
      | inr z ↦ (let y = same p (omega arith) in let t = q.keys p (omega arith) in
          (omega arith, walk_to (ys p) p y (omega arith), more (ys p) (let u = t.2 in cc)))
    ];
    once = λ p r a b z. elim (cases_eq r c) [
      | inl y ↦ (let t = (q.keys p (omega arith)).2 in let u = same p (omega arith) in let v : L i ≡ true = cc in grind arith)
      | inr y ↦ q.once p r a (omega arith) (let u = same p (omega arith) in let v = same r (omega arith) in cc)
    ];
    places = λ k a. elim (cases_eq k i) [
      | inl z ↦ (c, omega arith, cc)
      | inr z ↦ (let (p, b, t) = q.places k (let u = lists k in grind (arith, nat_tests)) in (p, omega arith, (let u = same p b in cc)))
    ];
    counted = (let t = unlisted_less L i K lists new n i_small in omega (arith, q.counted));
    served = λ p j a r. more j (q.served p j a (r.0, (let t = r.1 in let u = same p (omega arith) in cc)));
    serving = λ j a r. elim (cases_eq j i) [
      | inl z ↦ (let t = lists i in grind (arith, nat_tests))
      | inr z ↦ more j (q.serving j (omega arith) (r.0, (let t = r.1 in let u = same h l in cc)))
    ];
    from = λ p. cond (eqb p c) h (q.from p);
    earliest = λ p a b. elim (cases_eq p c) [
      | inl z ↦ fresh p z
      | inr z ↦ old p z a (omega arith)
    ];
    ordered = λ p r a b d. elim (cases_eq r c) [
      | inl z ↦ (let t = q.earliest p a (omega arith) in let f = at_new r z in let u = at_old p (λ w. omega arith) in let y = same p (omega arith) in let v : ys r ≡ i = cc in
          elim (cases_eq (q.from p) h) [
            | inl w ↦ inr (cc, (let m = t.3 w in omega arith))
            | inr w ↦ inl (omega (arith, t.1))
          ])
      | inr z ↦ (let u = at_old p (λ w. omega arith) in let v = at_old r z in let y = same p (omega arith) in let x = same r (omega arith) in
          elim (q.ordered p r a b (omega arith)) [
            | inl w ↦ inl (omega arith)
            | inr w ↦ inr (omega (arith, w.0), omega (arith, w.1))
          ])
    ];
  }
    where
      i_small : i < n
      i_small = (inside (xs h) i e.0 e.1).1

      more : (j : ℕ) → L j ≡ true → K j ≡ true
      more j a = let t = lists j in grind (arith, nat_tests)

      walk_at : (k : ℕ) → k ≡ i → Walk g s k
      walk_at k z = subst (Walk g s) (sym z) (on e.0 (q.keys h l).1 e.1)

      walk_to : (k p : ℕ) → k ≡ xs p → p < c → Walk g s k
      walk_to k p z b = subst (Walk g s) (sym z) (q.keys p b).1

      at_new : (p : ℕ) → p ≡ c → cond (eqb p c) h (q.from p) ≡ h
      at_new p z = grind (arith, nat_tests)

      at_old : (p : ℕ) → (p ≡ c → ⊥) → cond (eqb p c) h (q.from p) ≡ q.from p
      at_old p z = grind (arith, nat_tests)

      fresh : (p : ℕ) → p ≡ c → Placed g ys h (i + 1) p (cond (eqb p c) h (q.from p))
      fresh p z =
          let y : ys p ≡ i = cc in let x = same h l in
          subst (Placed g ys h (i + 1) p) (sym (at_new p z)) (
            omega arith,
            omega arith,
            ((e.0, (let t = e.1 in cc)), λ r a b. (let u = same r (omega arith) in let t = q.served r i a (b.0, (let v = b.1 in cc)) in grind arith)),
            λ w. omega arith,
          )

      old : (p : ℕ) → (p ≡ c → ⊥) → 0 < p → p < c → Placed g ys h (i + 1) p (cond (eqb p c) h (q.from p))
      old p z a b =
          let t = q.earliest p a b in let y = same p b in let f = q.from p in let x = same f (omega arith) in
          subst (Placed g ys h (i + 1) p) (sym (at_old p z)) (
            t.0,
            t.1,
            ((t.2.0.0, (let v = t.2.0.1 in cc)), λ r d v. (let u = same r (omega arith) in t.2.1 r d (v.0, (let w = v.1 in cc)))),
            λ w. (let m = t.3 w in omega arith),
          )

  -- at first the start is listed, and nothing else
  pub first : {L K : ℕ → Bool} {xs : ℕ → ℕ} → s < n → ((k : ℕ) → L k ≡ false) → Lists L s K → unlisted L n ≡ n → xs 0 ≡ s → Spread g n s 0 0 K xs 1
  first {L} {K} {xs} l none lists full at-0 = record {
    start = (omega arith, at-0);
    keys = λ p a. (let z : p ≡ 0 = omega arith in let y : xs p ≡ s = cc in (omega arith, walk_at (xs p) y, (let t = lists s in grind (arith, nat_tests))));
    once = λ p q a b z. omega arith;
    places = λ k a. (0, omega arith, (let t = lists k in let u = none k in grind (arith, nat_tests)));
    counted = (let t = unlisted_less L s K lists (none s) n l in omega arith);
    served = λ p j a e. absurd (omega arith);
    serving = λ j a e. absurd (omega arith);
    from = λ p. 0;
    earliest = λ p a b. absurd (omega arith);
    ordered = λ p q a b d. absurd (omega arith);
  }
    where
      walk_at : (k : ℕ) → k ≡ s → Walk g s k
      walk_at k z = subst (Walk g s) (sym z) here

-- The order of placed calls: keys are walked upward, and each call is listed at its key. Nothing is sorted.
use Rattle.std.proofs.Common.{◌≡◌, ℕ, zero, suc, ◌+◌, ◌<◌, ◌≤◌, ◌⊎◌, List, [], ◌∷◌, Some, None, Option, All, AllPairs, Contains, length, get_or, ◌≢◌, refl, sym, ◌∙◌, ap, subst, subst₂, inl, inr, arith}
use Rattle.std.proofs.lemmas.Bool.{cases_eq}
use Rattle.std.proofs.lemmas.List.Elements.{All-nil, All-cons, All-contains}
use Rattle.std.proofs.lemmas.List.Kept.{AllPairs-cons}
use Rattle.questions.specs.Graph.{Graph}
use Rattle.order.specs.Graph.{after}
use Rattle.order.specs.Past.{Past, Precedes, fed}
use Rattle.order.specs.Order.{Standing, standings, left_by, Explained, stamping, StampOrder, OneOrder, Ordered}
use Rattle.order.specs.Placed.{Placed}
use Rattle.order.proofs.Lists.{contains_first, contains_later}

module _ (h : Past) where
  -- the calls of the standings are those of the order
  pub call_at : (g : Graph) (order : List ℕ) (i d : ℕ) (e : Graph) → (get_or (standings h g order) i (record { call = d; before = e })).call ≡ get_or order i d
  call_at g [] i d e = refl
  call_at g (b ∷ bs) zero d e = refl
  call_at g (b ∷ bs) (suc i) d e = call_at (after g (fed h b)) bs i d e

  pub length-standings : (g : Graph) (order : List ℕ) → length (standings h g order) ≡ length order
  length-standings g [] = refl
  length-standings g (b ∷ bs) = ap suc (length-standings (after g (fed h b)) bs)

  -- what holds of the call of each standing holds of each call
  all_of_calls : (P : ℕ → Type 0) (g : Graph) (order : List ℕ) → All (λ s. P s.call) (standings h g order) → All P order
  all_of_calls P g order a i d l = subst P (call_at g order i d g) (a i (record { call = d; before = g }) (omega (arith, length-standings g order)))

  pairs_of_calls : (R : ℕ → ℕ → Type 0) (g : Graph) (order : List ℕ) → AllPairs (λ s t. R s.call t.call) (standings h g order) → AllPairs R order
  pairs_of_calls R g order a i j d l u =
      subst₂ R (call_at g order i d g) (call_at g order j d g) (a i j (record { call = d; before = g }) l (omega (arith, length-standings g order)))

module _ {h : Past} (p : Placed h) where
  -- a call has the key k
  abbrev At : ℕ → Type 0
  At k = (b : ℕ) × (p.key b ≡ Some k)

  -- no call has the key k
  abbrev Free : ℕ → Type 0
  Free k = (b : ℕ) → p.key b ≡ Some k → ⊥

  -- no call that began before n has the key k
  abbrev FreeBelow : ℕ → ℕ → Type 0
  FreeBelow k n = (b : ℕ) → b < n → p.key b ≡ Some k → ⊥

  one_more : (k n : ℕ) → (p.key n ≡ Some k → ⊥) → At k ⊎ FreeBelow k n → At k ⊎ FreeBelow k (suc n)
  one_more k n other (inl a) = inl a
  one_more k n other (inr free) = inr (λ b l e. elim (cases_eq b n) [ inl q ↦ other (subst (λ x. p.key x ≡ Some k) q e) | inr q ↦ free b (omega arith) e ])

  at_or_free_below : (k n : ℕ) → At k ⊎ FreeBelow k n
  at_or_free_below k zero = inr (λ b l e. omega arith)
  at_or_free_below k (suc n) = go (p.key n) refl (at_or_free_below k n)
    where
      go : (o : Option ℕ) → p.key n ≡ o → At k ⊎ FreeBelow k n → At k ⊎ FreeBelow k (suc n)
      go None e y = one_more k n (λ q. grind arith) y
      go (Some l) e y = elim (cases_eq l k) [ inl q ↦ inl (n, cc) | inr q ↦ one_more k n (λ r. q (cc)) y ]

  at_or_free : (k : ℕ) → At k ⊎ Free k
  at_or_free k = elim (at_or_free_below k p.now) [ inl a ↦ inl a | inr free ↦ inr (λ b e. free b (p.ranges b k e).0 e) ]

  -- a call that stands at a key above k, with the graph just before that key
  abbrev Above : ℕ → Standing → Type 0
  Above k s = (l : ℕ) × (p.key s.call ≡ Some (suc l)) × (k ≤ l) × (s.before ≡ p.graph l)

  -- of two calls with the graphs just before their keys, s has the smaller key
  abbrev Ahead : Standing → Standing → Type 0
  Ahead s t = (k : ℕ) × (p.key s.call ≡ Some (suc k)) × (s.before ≡ p.graph k) × Above (suc k) t

  -- an order of the calls with keys above k, up to k + n
  record Walked (k n : ℕ) (order : List ℕ) : Type 0 where
    holds : (b l : ℕ) → p.key b ≡ Some l → k < l → l ≤ k + n → Contains order b
    above : All (Above k) (standings h (p.graph k) order)
    sorted : AllPairs Ahead (standings h (p.graph k) order)
    leaves : left_by h (p.graph k) order ≡ p.graph (k + n)

  -- what is above the next key is above this one
  below : (k : ℕ) (those : List Standing) → All (Above (suc k)) those → All (Above k) those
  below k those a i d l = let (m, e, u, q) = a i d l in (m, e, omega arith, q)

  -- the call b at the next key comes first
  walked_call : (k n b : ℕ) (order : List ℕ) → p.key b ≡ Some (suc k) → Walked (suc k) n order → Walked k (suc n) (b ∷ order)
  walked_call k n b order e w =
      let s : Standing = record { call = b; before = p.graph k } in
      let same : standings h (p.graph (suc k)) order ≡ standings h (after (p.graph k) (fed h b)) order = ap (λ g. standings h g order) (p.change b k e) in
      let above = subst (All (Above (suc k))) same w.above in
      record {
        holds = λ c l f low high. elim (cases_eq l (suc k)) [
          | inl q ↦ subst (Contains (b ∷ order)) (p.apart b c (suc k) e (cc)) (contains_first b order)
          | inr q ↦ contains_later b c order (w.holds c l f (omega arith) (omega arith))
        ];
        above = All-cons (Above k) s _ (k, e, omega arith, refl) (below k _ above);
        sorted = AllPairs-cons Ahead s _ (λ i d l. (k, e, refl, above i d l)) (subst (AllPairs Ahead) same w.sorted);
        leaves = ap (λ g. left_by h g order) (sym (p.change b k e)) ∙ w.leaves ∙ ap p.graph (omega arith);
      }

  -- no call has the next key, and the graph stays
  walked_free : (k n : ℕ) (order : List ℕ) → p.graph (suc k) ≡ p.graph k → Free (suc k) → Walked (suc k) n order → Walked k (suc n) order
  walked_free k n order still free w =
      let same : standings h (p.graph (suc k)) order ≡ standings h (p.graph k) order = ap (λ g. standings h g order) still in
      record {
        holds = λ c l f low high. elim (cases_eq l (suc k)) [
          | inl q ↦ absurd (free c (cc))
          | inr q ↦ w.holds c l f (omega arith) (omega arith)
        ];
        above = below k _ (subst (All (Above (suc k))) same w.above);
        sorted = subst (AllPairs Ahead) same w.sorted;
        leaves = ap (λ g. left_by h g order) (sym still) ∙ w.leaves ∙ ap p.graph (omega arith);
      }

  walk : (n k : ℕ) → p.bottom ≤ k → k + n ≤ p.bottom + p.span → (order : List ℕ) × Walked k n order
  walk zero k low high = (
    [],
    record {
      holds = λ b l e x y. absurd (omega arith);
      above = All-nil (Above k);
      sorted = λ i j d l u. absurd (omega arith);
      leaves = ap p.graph (omega arith);
    },
  )
  walk (suc n) k low high = go (at_or_free (suc k)) (walk n (suc k) (omega arith) (omega arith))
    where
      go : At (suc k) ⊎ Free (suc k) → (order : List ℕ) × Walked (suc k) n order → (order : List ℕ) × Walked k (suc n) order
      go (inl (b, e)) (order, w) = (b ∷ order, walked_call k n b order e w)
      go (inr free) (order, w) = (order, walked_free k n order (p.still k low (omega arith) free) free w)

  ahead_in_stamp_order : (s t : Standing) → Ahead s t → StampOrder (stamping h s.call) (stamping h t.call)
  ahead_in_stamp_order s t (k, e, q, (l, f, less, r)) = p.stamps s.call t.call (suc k) (suc l) e f (omega arith)

  -- what the keys say of the graph at a key holds of the graph that stands before the call
  above_explained : (k : ℕ) (s : Standing) → Above k s → Explained h s
  above_explained k s (l, e, low, q) = subst (λ g. Explained h (record { call = s.call; before = g })) (sym q) (p.explained s.call l e)

  ahead_apart : (s t : Standing) → Ahead s t → s.call ≢ t.call
  ahead_apart s t (k, e, q, (l, f, less, r)) same = let z : suc k ≡ suc l = cc in omega arith

  ahead_precedence : (s t : Standing) → Ahead s t → ¬ (Precedes h t.call s.call)
  ahead_precedence s t (k, e, q, (l, f, less, r)) back = omega (arith, p.precedence t.call s.call (suc l) (suc k) f e back)

  -- a call has a key
  abbrev Keyed : ℕ → Type 0
  Keyed b = (k : ℕ) × (p.key b ≡ Some k)

  walked_order : (order : List ℕ) → Walked p.bottom p.span order → OneOrder h (p.graph p.bottom) order
  walked_order order w =
      let g = p.graph p.bottom in
      let keyed : All Keyed order = all_of_calls h Keyed g order (λ i d l. (let (k, e, low, q) = w.above i d l in (suc k, e))) in
      record {
        members = λ b. (
          λ c. (let (k, e) = All-contains Keyed order b keyed c in p.belongs b k e),
          λ c. (let (k, e) = p.keyed b c in let r = p.ranges b k e in w.holds b k e r.1 r.2),
        );
        once = pairs_of_calls h (λ b c. b ≢ c) g order (λ i j d l u. ahead_apart _ _ (w.sorted i j d l u));
        precedence = pairs_of_calls h (λ b c. ¬ (Precedes h c b)) g order (λ i j d l u. ahead_precedence _ _ (w.sorted i j d l u));
        stamps = pairs_of_calls h (λ b c. StampOrder (stamping h b) (stamping h c)) g order (λ i j d l u. ahead_in_stamp_order _ _ (w.sorted i j d l u));
        explains = λ i d l. above_explained p.bottom _ (w.above i d l);
      }

  pub one_order : Ordered h (p.graph p.bottom) (p.graph (p.bottom + p.span))
  one_order = let (order, w) = walk p.span p.bottom (omega arith) (omega arith) in (order, walked_order order w, w.leaves)

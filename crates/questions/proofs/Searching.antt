-- The search keeps: values are the best over walks that leave only listed keys.
use Rattle.std.proofs.Common.{◌≡◌, ℕ, ◌<◌, Bool, true, false, cond, ◌⊎◌, Some, None, Option, sym, refl, ap, ◌∙◌, subst, inl, inr, arith}
use Rattle.std.proofs.lemmas.Bool.{cases_Bool, cases_eq}
use Rattle.std.proofs.lemmas.Bool.Decides.{nat_tests}
use Rattle.std.proofs.lemmas.Option.{none-some, same_Some}
use Rattle.questions.specs.Graph.{Graph, Inside, Walk, here, on}
use Rattle.questions.specs.Measures.{Scale, NoBetter, Lawful}
use Rattle.questions.specs.Search.{Open, Picked, offered, Relaxed}
use Rattle.questions.specs.Best.{along, Entered}
use Rattle.questions.proofs.Counting.{Lists}

-- a walk that leaves only listed keys
abbrev pub Within : (L : ℕ → Bool) {g : Graph} {s k : ℕ} → Walk g s k → Type 0
Within L here = Unit {0}
Within L (on {k} w p e) = (L k ≡ true) × Within L p

pub record Searched (m : Scale) (g : Graph) (n s : ℕ) (L : ℕ → Bool) (d : ℕ → Option ℕ) : Type 0 where
  -- a value is that of a walk that leaves only listed keys
  pub sound : (k v : ℕ) → k < n → d k ≡ Some v → (p : Walk g s k) × Within L p × (along m p ≡ v)
  pub start : (s < n) × (v : ℕ) × (d s ≡ Some v) × NoBetter m m.first v
  pub listed : (k : ℕ) → L k ≡ true → (k < n) × (v : ℕ) × (d k ≡ Some v)
  -- the edges of a listed key were offered
  pub closed : (i j w v : ℕ) → L i ≡ true → d i ≡ Some v → g.edge i j ≡ Some w → (u : ℕ) × (d j ≡ Some u) × NoBetter m (m.extend v w) u
  -- no open key is better than a listed one
  pub ordered : (i j u v : ℕ) → L i ≡ true → d i ≡ Some u → j < n → Open L d j v → NoBetter m v u

-- the value of a key once it is listed, before that none
abbrev pub listed_value : (ℕ → Bool) → (ℕ → Option ℕ) → ℕ → Option ℕ
listed_value L d k = cond (L k) (d k) None

-- a key that is not listed has none
pub unlisted_none : (L : ℕ → Bool) (d : ℕ → Option ℕ) (k : ℕ) → L k ≡ false → listed_value L d k ≡ None
unlisted_none L d k h = grind arith

-- once no key is open, each key with a value is listed
pub all_listed : {n : ℕ} {L : ℕ → Bool} {d : ℕ → Option ℕ} → ((k v : ℕ) → k < n → Open L d k v → ⊥) → (k : ℕ) → k < n → d k ≡ listed_value L d k
all_listed {n} {L} {d} done k l = at (d k) refl
  where
    at : (x : Option ℕ) → d k ≡ x → d k ≡ listed_value L d k
    at None e = elim (cases_Bool (L k)) [ inl h ↦ grind arith | inr h ↦ grind arith ]
    at (Some v) e = elim (cases_Bool (L k)) [ inl h ↦ grind arith | inr h ↦ absurd (done k v l (e, h)) ]

-- what an offer over an edge does
data Offer (m : Scale) (v : ℕ) (x o y : Option ℕ) : Type 0 where
  no_edge : o ≡ None → y ≡ x → Offer m v x o y
  kept : (w u : ℕ) → o ≡ Some w → x ≡ Some u → y ≡ x → NoBetter m (m.extend v w) u → Offer m v x o y
  taken : (w : ℕ) → o ≡ Some w → y ≡ Some (m.extend v w) → ((u : ℕ) → x ≡ Some u → m.better (m.extend v w) u ≡ true) → Offer m v x o y

offer : (m : Scale) (v : ℕ) (x o y : Option ℕ) → y ≡ offered m v x o → Offer m v x o y
offer m v x None y e = no_edge refl e
offer m v None (Some w) y e = taken w refl e (λ u z. absurd (none-some u z))
offer m v (Some u) (Some w) y e = elim (cases_Bool (m.better (m.extend v w) u)) [
  | inl b ↦ taken w refl (grind arith) (λ x z. (let s = same_Some u x z in cc))
  | inr b ↦ kept w u refl refl (grind arith) b
]

within_more : (L K : ℕ → Bool) → ((j : ℕ) → L j ≡ true → K j ≡ true) → {g : Graph} {s k : ℕ} (p : Walk g s k) → Within L p → Within K p
within_more L K h here i = tt
within_more L K h (on {k} w p e) i = (h k i.0, within_more L K h p i.1)

-- values that are the same are offered the same
pub relaxed_from : (m : Scale) (g : Graph) (v k : ℕ) {n r : ℕ} {d c f : ℕ → Option ℕ} → r ≡ n → ((j : ℕ) → c j ≡ d j) → Relaxed m g v k r c f → Relaxed m g v k n d f
relaxed_from m g v k same stay relaxed j = let e = relaxed j in let s = stay j in cc

module _ {m : Scale} (law : Lawful m) where
  itself : (v : ℕ) → NoBetter m v v
  itself v = elim (law.total v v) [ inl h ↦ h | inr h ↦ h ]

  other_way : (u v : ℕ) → m.better u v ≡ true → NoBetter m v u
  other_way u v b = elim (law.total u v) [ inl h ↦ absurd (grind arith) | inr h ↦ h ]

module _ {m : Scale} (law : Lawful m) (g : Graph) {n : ℕ} (inside : Inside g n) {s : ℕ} where
  -- every walk that leaves only listed keys ends at a key with a value, and is no better than that
  pub covered : {L : ℕ → Bool} {d : ℕ → Option ℕ} → Searched m g n s L d → {k : ℕ} (p : Walk g s k) → Within L p → (v : ℕ) × (d k ≡ Some v) × NoBetter m (along m p) v
  covered q here i = (q.start.1, q.start.2, q.start.3)
  covered {L} {d} q (on {k} {j} w p e) i =
      let (v, at, b) = covered q p i.1 in
      let (u, there, c) = q.closed k j w v i.0 at e in
      (u, there, law.transitive _ _ _ (law.keeps _ _ w b) c)

  -- once no key is open, every walk leaves only listed keys
  pub all_within : {L : ℕ → Bool} {d : ℕ → Option ℕ} → Searched m g n s L d → ((k v : ℕ) → k < n → Open L d k v → ⊥) → {k : ℕ} (p : Walk g s k) → Within L p
  all_within q done here = tt
  all_within {L} {d} q done (on {k} {j} w p e) =
      let i = all_within q done p in
      let (v, at, b) = covered q p i in
      (elim (cases_Bool (L k)) [ inl h ↦ h | inr h ↦ absurd (done k v (inside k j w e).0 (at, h)) ], i)

  -- and so the values are the answer
  pub finished : {L : ℕ → Bool} {d : ℕ → Option ℕ} → Searched m g n s L d → ((k v : ℕ) → k < n → Open L d k v → ⊥) → (k : ℕ) → k < n → Entered m g s k (d k)
  finished {L} {d} q done k l = at (d k) refl
    where
      at : (x : Option ℕ) → d k ≡ x → Entered m g s k x
      at None e = λ p. (let (v, f, b) = covered q p (all_within q done p) in none-some v (sym e ∙ f))
      at (Some v) e =
          let (p, i, a) = q.sound k v l e in
          record {
            walk = p;
            value = a;
            none_better = λ r. (let (u, f, b) = covered q r (all_within q done r) in let z = same_Some u v (sym f ∙ e) in cc);
          }

  module _ {L : ℕ → Bool} {d : ℕ → Option ℕ} (q : Searched m g n s L d) (k v : ℕ) (picked : Picked m L d n (Some (k, v)))
      (K : ℕ → Bool) (lists : Lists L k K) (f : ℕ → Option ℕ) (relaxed : Relaxed m g v k n d f) where
    offers : (j : ℕ) → j < n → Offer m v (d j) (g.edge k j) (f j)
    offers j l = offer m v (d j) (g.edge k j) (f j) (let e = relaxed j in grind (arith, nat_tests))

    more : (j : ℕ) → L j ≡ true → K j ≡ true
    more j h = let e = lists j in grind (arith, nat_tests)

    now_listed : K k ≡ true
    now_listed = let e = lists k in grind (arith, nat_tests)

    which : (j : ℕ) → K j ≡ true → (L j ≡ true) ⊎ (j ≡ k)
    which j h = let e = lists j in elim (cases_eq j k) [ inl z ↦ inr z | inr z ↦ inl (grind (arith, nat_tests)) ]

    still_open : (j : ℕ) → K j ≡ false → L j ≡ false
    still_open j h = let e = lists j in elim (cases_eq j k) [ inl z ↦ absurd (grind (arith, nat_tests)) | inr z ↦ grind (arith, nat_tests) ]

    -- k is no better than a listed key
    above : (i : ℕ) → K i ≡ true → (i < n) × (u : ℕ) × (d i ≡ Some u) × NoBetter m v u
    above i h = elim (which i h) [
      | inl y ↦ (let (l, u, e) = q.listed i y in (l, u, e, q.ordered i k u v y e picked.0 picked.1))
      | inr y ↦ (omega (arith, picked.0), v, ap d y ∙ picked.1.0, itself law v)
    ]

    -- so a listed key keeps its value
    fixed : (i : ℕ) → K i ≡ true → f i ≡ d i
    fixed i h =
        let (l, u, e, a) = above i h in
        elim (offers i l) [
          | no_edge o y ↦ y
          | kept w x o z y b ↦ y
          | taken w o y c ↦ absurd (let t = law.transitive _ _ _ (law.never_better v w) a in let b = c u e in grind arith)
        ]

    -- the key that is listed now has the value that was picked
    pub picked_value : listed_value K f k ≡ Some v
    picked_value = let a = now_listed in let b = fixed k now_listed in let c = picked.1.0 in cc

    -- and the other keys have what they had
    pub others_stay : (j : ℕ) → (j ≡ k → ⊥) → listed_value K f j ≡ listed_value L d j
    others_stay j h =
        let e = lists j in
        elim (cases_Bool (K j)) [
          | inl y ↦ (let a = fixed j y in grind (arith, nat_tests))
          | inr y ↦ grind (arith, nat_tests)
        ]

    improves : (j u : ℕ) → j < n → d j ≡ Some u → (x : ℕ) × (f j ≡ Some x) × NoBetter m u x
    improves j u l e = elim (offers j l) [
      | no_edge o y ↦ (u, y ∙ e, itself law u)
      | kept w x o z y b ↦ (u, y ∙ e, itself law u)
      | taken w o y c ↦ (m.extend v w, y, other_way law _ _ (c u e))
    ]

    pub step : Searched m g n s K f
    step = record {
      sound = λ j u l e. elim (offers j l) [
        | no_edge o y ↦ keep j u l (sym y ∙ e)
        | kept w x o z y b ↦ keep j u l (sym y ∙ e)
        | taken w o y c ↦ (let (p, i, a) = q.sound k v picked.0 picked.1.0 in
            (on w p o, (now_listed, within_more L K more p i), ap (λ x. m.extend x w) a ∙ same_Some _ _ (sym y ∙ e)))
      ];
      start = (let (l, u, e, b) = q.start in let (x, y, c) = improves s u l e in (l, x, y, law.transitive _ _ _ b c));
      listed = λ i h. (let (l, u, e, b) = above i h in (l, u, fixed i h ∙ e));
      closed = λ i j w u h e o. elim (which i h) [
        | inl y ↦ (let (x, a, b) = q.closed i j w u y (sym (fixed i h) ∙ e) o in let (t, c, r) = improves j x (inside i j w o).1 a in
            (t, c, law.transitive _ _ _ b r))
        | inr y ↦ over i j w u y o (sym (fixed i h) ∙ e)
      ];
      ordered = λ i j u x h e l o. (
          let (a, t, b, c) = above i h in
          let z : t ≡ u = same_Some t u (sym b ∙ sym (fixed i h) ∙ e) in
          elim (offers j l) [
            | no_edge r y ↦ rest i j u x h l (b ∙ ap Some z) (sym y ∙ o.0, still_open j o.1)
            | kept w r z' y y' b' ↦ rest i j u x h l (b ∙ ap Some z) (sym y' ∙ o.0, still_open j o.1)
            | taken w r y b' ↦ (let y' = same_Some _ _ (sym y ∙ o.0) in let g = law.transitive _ _ _ (law.never_better v w) c in cc)
          ]);
    }
      where
        keep : (j u : ℕ) → j < n → d j ≡ Some u → (p : Walk g s j) × Within K p × (along m p ≡ u)
        keep j u l e = let (p, i, a) = q.sound j u l e in (p, within_more L K more p i, a)

        over : (i j w u : ℕ) → i ≡ k → g.edge i j ≡ Some w → d i ≡ Some u → (x : ℕ) × (f j ≡ Some x) × NoBetter m (m.extend u w) x
        over i j w u y o e =
            let z : u ≡ v = same_Some u v (sym e ∙ ap d y ∙ picked.1.0) in
            let o' : g.edge k j ≡ Some w = ap (λ x. g.edge x j) (sym y) ∙ o in
            elim (offers j (inside i j w o).1) [
              | no_edge r t ↦ absurd (none-some w (sym r ∙ o'))
              | kept w' x r t t' b ↦ (let a = same_Some w' w (sym r ∙ o') in (x, t' ∙ t, cc))
              | taken w' r t c ↦ (let a = same_Some w' w (sym r ∙ o') in (m.extend v w', t, (let b = itself law (m.extend v w') in cc)))
            ]

        rest : (i j u x : ℕ) → K i ≡ true → j < n → d i ≡ Some u → Open L d j x → NoBetter m x u
        rest i j u x h l e o = elim (which i h) [
          | inl y ↦ q.ordered i j u x y e l o
          | inr y ↦ (let z : u ≡ v = same_Some u v (sym e ∙ ap d y ∙ picked.1.0) in let t = picked.2 j x l o in cc)
        ]

  -- at first only the start has a value, and nothing is listed
  pub begun : {L : ℕ → Bool} {d : ℕ → Option ℕ} → s < n → ((k : ℕ) → L k ≡ false) → ((k : ℕ) → (k ≡ s → ⊥) → d k ≡ None) → d s ≡ Some m.first → Searched m g n s L d
  begun {L} {d} l none blanks at-s = record {
    sound = λ k v h e. elim (cases_eq k s) [
      | inl z ↦ here_at k v z (same_Some m.first v (sym at-s ∙ ap d (sym z) ∙ e))
      | inr z ↦ absurd (none-some v (sym (blanks k z) ∙ e))
    ];
    start = (l, m.first, at-s, itself law m.first);
    listed = λ k h. absurd (let e = none k in grind arith);
    closed = λ i j w v h f e. absurd (let e = none i in grind arith);
    ordered = λ i j u v h f r o. absurd (let e = none i in grind arith);
  }
    where
      here_at : (k v : ℕ) → k ≡ s → m.first ≡ v → (p : Walk g s k) × Within L p × (along m p ≡ v)
      here_at k v e a =
          let P : ℕ → Type 0 = λ (j : ℕ). (p : Walk g s j) × Within L p × (along m p ≡ v) in
          subst P (sym e) (here, tt, a)

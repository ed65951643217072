-- Tests that compute, and what they tell: of numbers below a bound, of lists, and of the parts of one order.
use Rattle.std.proofs.Common.{◌≡◌, ℕ, zero, suc, ◌<◌, Bool, true, false, cond, not, ◌&&◌, ◌||◌, List, [], ◌∷◌, length, get_or, Some, None, Option, is_some, ◌==◌, nat_le, nat_lt, AllPairs, Contains, IsSome, ◌≢◌, ◌↔◌, refl, sym, subst, inl, inr, arith}
use Rattle.std.specs.List.{list_all, AllByRecursion}
use Rattle.std.proofs.lemmas.Bool.{cases_eq, cases_Bool, and_parts, and_from, or_left, or_right, false≢true}
use Rattle.std.proofs.lemmas.Bool.Decides.{nat_tests}
use Rattle.std.proofs.lemmas.List.Elements.{All-from_recursion, All-contains}
use Rattle.std.proofs.lemmas.List.Sums.{AllPass-from_list_all}
use Rattle.std.proofs.lemmas.List.Kept.{AllPairs-cons}
use Rattle.questions.specs.Graph.{Graph}
use Rattle.order.specs.Past.{Finish, Past, Precedes, Belongs}
use Rattle.order.specs.Order.{Stamping, changes, raises, neither, AtLeast, StampOrder, standings, stamping, Explained, OneOrder}

abbrev pub all_below : (ℕ → Bool) → ℕ → Bool
all_below p zero = true
all_below p (suc n) = p n && all_below p n

pub passes_below : (p : ℕ → Bool) (n k : ℕ) → all_below p n ≡ true → k < n → p k ≡ true
passes_below p zero k h l = absurd (omega arith)
passes_below p (suc n) k h l = elim (cases_eq k n) [
  | inl e ↦ subst (λ m. p m ≡ true) (sym e) (and_parts (p n) (all_below p n) h).0
  | inr e ↦ passes_below p n k (and_parts (p n) (all_below p n) h).1 (omega arith)
]

abbrev pub pairs_pass : {X : Type 0} → (X → X → Bool) → List X → Bool
pairs_pass p [] = true
pairs_pass p (x ∷ xs) = list_all (p x) xs && pairs_pass p xs

pub pairs_hold : {X : Type 0} (p : X → X → Bool) (R : X → X → Type 0) → ((x y : X) → p x y ≡ true → R x y) → (xs : List X) → pairs_pass p xs ≡ true → AllPairs R xs
pairs_hold p R tells [] h = λ i j d l u. absurd (omega arith)
pairs_hold p R tells (x ∷ xs) h =
    let (head, tail) = and_parts (list_all (p x) xs) (pairs_pass p xs) h in
    AllPairs-cons R x xs (λ k d l. tells x (get_or xs k d) (AllPass-from_list_all (p x) xs head k d l)) (pairs_hold p R tells xs tail)

-- whether a call stands in an order
abbrev pub holds : List ℕ → ℕ → Bool
holds [] b = false
holds (c ∷ cs) b = (c == b) || holds cs b

pub holds_tells : (order : List ℕ) (b : ℕ) → holds order b ≡ true → Contains order b
holds_tells [] b h = absurd (false≢true h)
holds_tells (c ∷ cs) b h = elim (cases_eq c b) [
  | inl e ↦ (0, omega arith, e)
  | inr e ↦ (let (k, l, f) = holds_tells cs b (grind (arith, nat_tests)) in (suc k, omega arith, f))
]

pub told_holds : (order : List ℕ) (b k : ℕ) → k < length order → get_or order k b ≡ b → holds order b ≡ true
told_holds [] b k l e = absurd (omega arith)
told_holds (c ∷ cs) b zero l e = grind (arith, nat_tests)
told_holds (c ∷ cs) b (suc k) l e = elim (cases_eq c b) [
  | inl f ↦ grind (arith, nat_tests)
  | inr f ↦ (let g = told_holds cs b k (omega arith) e in grind (arith, nat_tests))
]

module _ (h : Past) where
  abbrev pub belongs : ℕ → Bool
  belongs b = is_some (h.begun b) && (is_some (h.finish b) || is_some (h.stamp b))

  -- tests for the members of an order, of which each is below a bound
  abbrev pub members_pass : List ℕ → ℕ → Bool
  members_pass order n = list_all (λ b. nat_lt b n) order && all_below (λ b. cond (belongs b) (holds order b) (not (holds order b))) n

  -- the call b was not finished before time c
  abbrev pub not_before : Option Finish → ℕ → Bool
  not_before None c = true
  not_before (Some f) c = not (nat_lt f.time c)

  abbrev pub fair : ℕ → ℕ → Bool
  fair b c = not_before (h.finish c) b

abbrev pub at_least : ℕ → Stamping → Bool
at_least n (changes m) = nat_le n m
at_least n (raises t) = nat_le n t
at_least n neither = true

abbrev pub in_turn : Stamping → Stamping → Bool
in_turn (changes n) s = at_least n s
in_turn (raises t) s = at_least (suc t) s
in_turn neither s = true

some_from : {X : Type 0} (o : Option X) → is_some o ≡ true → IsSome o
some_from None h = absurd (false≢true h)
some_from (Some x) h = refl

is_some_from : {X : Type 0} (o : Option X) → IsSome o → is_some o ≡ true
is_some_from o h = h

at_least_tells : (n : ℕ) (s : Stamping) → at_least n s ≡ true → AtLeast n s
at_least_tells n (changes m) h = grind (arith, nat_tests)
at_least_tells n (raises t) h = grind (arith, nat_tests)
at_least_tells n neither h = tt

in_turn_tells : (s t : Stamping) → in_turn s t ≡ true → StampOrder s t
in_turn_tells (changes n) s h = at_least_tells n s h
in_turn_tells (raises t) s h = at_least_tells (suc t) s h
in_turn_tells neither s h = tt

fair_tells : (h : Past) (b c : ℕ) → fair h b c ≡ true → ¬ (Precedes h c b)
fair_tells h b c e (f, p, l) = (let q : not_before h (Some f) b ≡ true = subst (λ o. not_before h o b ≡ true) p e in grind (arith, nat_tests))

apart_tells : (b c : ℕ) → not (b == c) ≡ true → b ≢ c
apart_tells b c h = grind (arith, nat_tests)

module _ (h : Past) (order : List ℕ) (n : ℕ) (begun_below : (b : ℕ) → IsSome (h.begun b) → b < n) (passed : members_pass h order n ≡ true) where
  abbrev agree : ℕ → Bool
  agree b = cond (belongs h b) (holds order b) (not (holds order b))

  agrees : (b : ℕ) → b < n → agree b ≡ true
  agrees b l = passes_below agree n b (and_parts (list_all (λ b. nat_lt b n) order) (all_below agree n) passed).1 l

  member_below : (b : ℕ) → Contains order b → b < n
  member_below b c =
      let e : nat_lt b n ≡ true = All-contains (λ b. nat_lt b n ≡ true) order b (AllPass-from_list_all (λ b. nat_lt b n) order (and_parts (list_all (λ b. nat_lt b n) order) (all_below agree n) passed).0) c in
      grind (arith, nat_tests)

  parts : (b : ℕ) → belongs h b ≡ true → Belongs h b
  parts b e =
      let (x, y) = and_parts (is_some (h.begun b)) (is_some (h.finish b) || is_some (h.stamp b)) e in
      record { began = x; done = elim (cases_Bool (is_some (h.finish b))) [ inl t ↦ inl t | inr f ↦ inr (subst (λ x. (x || is_some (h.stamp b)) ≡ true) f y) ] }

  belongs_from : (b : ℕ) → Belongs h b → belongs h b ≡ true
  belongs_from b x = and_from (is_some (h.begun b)) (is_some (h.finish b) || is_some (h.stamp b)) x.began (elim x.done [
    | inl f ↦ or_left (is_some (h.finish b)) (is_some (h.stamp b)) f
    | inr s ↦ or_right (is_some (h.finish b)) (is_some (h.stamp b)) s
  ])

  pub members_tell : (b : ℕ) → Contains order b ↔ Belongs h b
  members_tell b = (
    λ c. (let (k, l, e) = c in let t = told_holds order b k l e in let a = agrees b (member_below b c) in parts b (elim (cases_Bool (belongs h b)) [
      | inl y ↦ y
      | inr f ↦ absurd (false≢true (subst (λ x. cond x true (not true) ≡ true) f (subst (λ x. cond (belongs h b) x (not x) ≡ true) t a)))
    ])),
    λ x. holds_tells order b (subst (λ y. cond y (holds order b) (not (holds order b)) ≡ true) (belongs_from b x) (agrees b (begun_below b x.began))),
  )

-- what computes of one order; that it explains the answers and pages is shown for itself
pub record OrderPasses (h : Past) (g : Graph) (order : List ℕ) (n : ℕ) : Type 0 where
  pub members : members_pass h order n ≡ true
  pub once : pairs_pass (λ b c. not (b == c)) order ≡ true
  pub precedence : pairs_pass (fair h) order ≡ true
  pub stamps : pairs_pass (λ s t. in_turn (stamping h s) (stamping h t)) order ≡ true
  pub explains : AllByRecursion (Explained h) (standings h g order)

pub one_order : (h : Past) (g : Graph) (order : List ℕ) (n : ℕ) → ((b : ℕ) → IsSome (h.begun b) → b < n) → OrderPasses h g order n → OneOrder h g order
one_order h g order n below p = record {
  members = members_tell h order n below p.members;
  once = pairs_hold (λ b c. not (b == c)) (λ b c. b ≢ c) apart_tells order p.once;
  precedence = pairs_hold (fair h) (λ b c. ¬ (Precedes h c b)) (fair_tells h) order p.precedence;
  stamps = pairs_hold (λ s t. in_turn (stamping h s) (stamping h t)) (λ s t. StampOrder (stamping h s) (stamping h t)) (λ s t. in_turn_tells (stamping h s) (stamping h t)) order p.stamps;
  explains = All-from_recursion (Explained h) (standings h g order) p.explains;
}

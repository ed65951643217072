-- Orders of a few calls, shown call by call and pair by pair.
use Rattle.std.proofs.Common.{◌≡◌, ℕ, ◌≤◌, false, List, [], ◌∷◌, Some, None, Option, AllPairs, Contains, ◌≢◌, ◌==◌, refl, sym, ◌∙◌, subst, arith}
use Rattle.std.specs.List.{AllByRecursion}
use Rattle.std.proofs.lemmas.Bool.Decides.{nat_tests}
use Rattle.std.proofs.lemmas.List.Elements.{All-contains, All-from_recursion}
use Rattle.std.proofs.lemmas.List.Kept.{AllPairs-cons}
use Rattle.questions.specs.Graph.{Graph}
use Rattle.order.specs.Past.{Finish, Past, Precedes, Belongs}
use Rattle.order.specs.Order.{standings, Explained, stamping, StampOrder, OneOrder}

abbrev pub PairsOf : {X : Type 0} → (X → X → Type 0) → List X → Type 0
PairsOf R [] = Unit {0}
PairsOf R (x ∷ xs) = AllByRecursion (R x) xs × PairsOf R xs

pairs_of : {X : Type 0} (R S : X → X → Type 0) → ((x y : X) → R x y → S x y) → (xs : List X) → PairsOf R xs → AllPairs S xs
pairs_of R S f [] p = λ i j d l u. absurd (omega (arith, u))
pairs_of R S f (x ∷ xs) (a, p) = AllPairs-cons S x xs (λ i d l. f x _ (All-from_recursion (R x) xs a i d l)) (pairs_of R S f xs p)

-- the call that began at b did not begin after this finish
abbrev pub NotAfter : ℕ → Option Finish → Type 0
NotAfter b None = Unit {0}
NotAfter b (Some f) = b ≤ f.time

not_precedes : (h : Past) (b c : ℕ) (o : Option Finish) → h.finish c ≡ o → NotAfter b o → ¬ (Precedes h c b)
not_precedes h b c None q n (f, e, l) = let z : None ≡ Some f = sym q ∙ e in absurd (grind arith)
not_precedes h b c (Some d) q n (f, e, l) = let z : Some d ≡ Some f = sym q ∙ e in let w : d ≡ f = cc in omega (arith, l, subst (λ f. b ≤ f.time) w n)

-- b stands before c
abbrev pub Ahead : Past → ℕ → ℕ → Type 0
Ahead h b c = ((b == c) ≡ false) × NotAfter b (h.finish c) × StampOrder (stamping h b) (stamping h c)

pub short_order : (h : Past) (g : Graph) (order : List ℕ) → ((b : ℕ) → Belongs h b → Contains order b) → AllByRecursion (Belongs h) order →
    PairsOf (Ahead h) order → AllByRecursion (Explained h) (standings h g order) → OneOrder h g order
short_order h g order holds belongs pairs explains = record {
  members = λ b. (All-contains (Belongs h) order b (All-from_recursion (Belongs h) order belongs), holds b);
  once = pairs_of (Ahead h) (λ b c. b ≢ c) (λ b c p e. (let n = p.0 in grind (arith, nat_tests))) order pairs;
  precedence = pairs_of (Ahead h) (λ b c. ¬ (Precedes h c b)) (λ b c p. not_precedes h b c (h.finish c) refl p.1) order pairs;
  stamps = pairs_of (Ahead h) (λ b c. StampOrder (stamping h b) (stamping h c)) (λ b c p. p.2) order pairs;
  explains = All-from_recursion (Explained h) (standings h g order) explains;
}

-- What holds of the elements and the pairs of a list.
use Rattle.std.proofs.Common.{ℕ, zero, suc, List, [], ◌∷◌, ◌++◌, map, get_or, All, AllPairs, Contains, ◌≢◌, refl, ap, arith}
use Rattle.std.proofs.lemmas.List.{get_or_default}
use Rattle.std.proofs.lemmas.List.Elements.{All-head, All-tail, All-append, All-map, All-weaker}
use Rattle.std.proofs.lemmas.List.Kept.{AllPairs-cons}

pub all_from_first : {X : Type 0} (R : X → X → Type 0) (x : X) (xs : List X) → AllPairs R (x ∷ xs) → All (R x) xs
all_from_first R x xs a i d l = a 0 (suc i) d (omega arith) (omega arith)

pub pairs_rest : {X : Type 0} (R : X → X → Type 0) (x : X) (xs : List X) → AllPairs R (x ∷ xs) → AllPairs R xs
pairs_rest R x xs a i j d l u = a (suc i) (suc j) d (omega arith) (omega arith)

pub pairs_nil : {X : Type 0} (R : X → X → Type 0) → AllPairs R []
pairs_nil R i j d l u = absurd (omega arith)

pub pairs_append : {X : Type 0} (R : X → X → Type 0) (xs ys : List X) → AllPairs R xs → AllPairs R ys → All (λ x. All (R x) ys) xs → AllPairs R (xs ++ ys)
pairs_append R [] ys a b c = b
pairs_append R (x ∷ xs) ys a b c = AllPairs-cons R x (xs ++ ys) (All-append (R x) xs ys (all_from_first R x xs a) (All-head (λ x. All (R x) ys) x xs c))
    (pairs_append R xs ys (pairs_rest R x xs a) b (All-tail (λ x. All (R x) ys) x xs c))

-- what holds of the pairs of a list holds, said otherwise, of the pairs of its copy
pub pairs_map : (m : ℕ → ℕ) (P : ℕ → Type 0) (R S : ℕ → ℕ → Type 0) → ((b c : ℕ) → P b → P c → R b c → S (m b) (m c)) →
    (xs : List ℕ) → All P xs → AllPairs R xs → AllPairs S (map m xs)
pairs_map m P R S f [] a r = pairs_nil S
pairs_map m P R S f (x ∷ xs) a r =
    let first : All (λ c. P c × R x c) xs = λ i d l. (All-tail P x xs a i d l, all_from_first R x xs r i d l) in
    AllPairs-cons S (m x) (map m xs)
    (All-map (S (m x)) m xs (All-weaker (λ c. P c × R x c) (λ c. S (m x) (m c)) (λ c t. f x c (All-head P x xs a) t.0 t.1) xs first))
    (pairs_map m P R S f xs (All-tail P x xs a) (pairs_rest R x xs r))

pub contains_map : (m : ℕ → ℕ) (xs : List ℕ) (x : ℕ) → Contains xs x → Contains (map m xs) (m x)
contains_map m [] x (k, l, e) = absurd (omega arith)
contains_map m (y ∷ ys) x (zero, l, e) = (0, omega arith, ap m e)
contains_map m (y ∷ ys) x (suc k, l, e) = let (j, u, f) = contains_map m ys x (k, omega arith, e) in (suc j, omega arith, f)

pub all_contained : (P : ℕ → Type 0) (xs : List ℕ) → ((x : ℕ) → Contains xs x → P x) → All P xs
all_contained P xs f i d l = f (get_or xs i d) (i, l, get_or_default xs i (get_or xs i d) d l)

pub contains_none : (c : ℕ) → ¬ (Contains [] c)
contains_none c (k, l, e) = omega (arith, l)

pub contains_first : (b : ℕ) (bs : List ℕ) → Contains (b ∷ bs) b
contains_first b bs = (0, omega arith, refl)

pub contains_later : (b c : ℕ) (bs : List ℕ) → Contains bs c → Contains (b ∷ bs) c
contains_later b c bs (k, l, e) = (suc k, omega arith, e)

pub contains_rest : (b c : ℕ) (bs : List ℕ) → b ≢ c → Contains (b ∷ bs) c → Contains bs c
contains_rest b c bs n (zero, l, e) = absurd (n e)
contains_rest b c bs n (suc k, l, e) = (k, omega arith, e)

-- What the four bytes of a cell mean, and what writing them leaves.
use Rattle.std.proofs.Common.{◌≡◌, ℕ, ◌+◌, ◌*◌, ◌/◌, ◌%◌, ◌^◌, ◌<◌, ◌≤◌, ◌≢◌, List, length, get_or, set, sym, ◌∙◌, ⊎_elim, arith, rules}
use Rattle.std.proofs.lemmas.List.{get_or_past, length-set, get_or-set_same, get_or-set_other, ext_get_or}
use Rattle.std.proofs.lemmas.List.FromFn.{length-map-range_with_len, get_or-map-range_with_len}
use Rattle.std.proofs.lemmas.Nat.{from_be_bytes-to_be_bytes_4}
use Rattle.std.proofs.lemmas.Bool.{cases_eq, cases_lt}
use Rattle.cells.specs.FourBytes.{word_at, words_of}

pub length-words_of : (bs : List ℕ) → length (words_of bs) ≡ length bs / 4
unfolding words_of
length-words_of bs = length-map-range_with_len (word_at bs) 0 (length bs / 4)

pub get_or-words_of : (bs : List ℕ) (i : ℕ) → i < length bs / 4 → get_or (words_of bs) i 0 ≡ word_at bs i
unfolding words_of
get_or-words_of bs i h = get_or-map-range_with_len (word_at bs) 0 (length bs / 4) i i 0 h (omega arith)

-- the image with the four bytes of cell i written
abbrev pub four : List ℕ → ℕ → ℕ → ℕ → ℕ → ℕ → List ℕ
four bs i a b c d = set (set (set (set bs (4 * i) a) (4 * i + 1) b) (4 * i + 2) c) (4 * i + 3) d

length-four : (bs : List ℕ) (i a b c d : ℕ) → length (four bs i a b c d) ≡ length bs
length-four bs i a b c d = simp length-set

-- a byte that is none of the four stays
get_or-four_other : (bs : List ℕ) (i a b c d k : ℕ) → k ≢ 4 * i → k ≢ 4 * i + 1 → k ≢ 4 * i + 2 → k ≢ 4 * i + 3 → get_or (four bs i a b c d) k 0 ≡ get_or bs k 0
get_or-four_other bs i a b c d k h₀ h₁ h₂ h₃ = simp get_or-set_other

word_at-four_same : (bs : List ℕ) (i a b c d : ℕ) → i < length bs / 4 → word_at (four bs i a b c d) i ≡ a * 16777216 + b * 65536 + c * 256 + d
word_at-four_same bs i a b c d h = search (rules, get_or-set_same, get_or-set_other, length-set)

word_at-four_other : (bs : List ℕ) (i a b c d k : ℕ) → k ≢ i → word_at (four bs i a b c d) k ≡ word_at bs k
word_at-four_other bs i a b c d k ne =
    let e₀ = get_or-four_other bs i a b c d (4 * k) (omega arith) (omega arith) (omega arith) (omega arith) in
    let e₁ = get_or-four_other bs i a b c d (4 * k + 1) (omega arith) (omega arith) (omega arith) (omega arith) in
    let e₂ = get_or-four_other bs i a b c d (4 * k + 2) (omega arith) (omega arith) (omega arith) (omega arith) in
    let e₃ = get_or-four_other bs i a b c d (4 * k + 3) (omega arith) (omega arith) (omega arith) (omega arith) in
    omega arith

-- a number of 32 bits is its four bytes
from_bytes : (v : ℕ) → v < 2 ^ 32 → v / 16777216 % 256 * 16777216 + v / 65536 % 256 * 65536 + v / 256 % 256 * 256 + v % 256 ≡ v
from_bytes v f = omega (arith, from_be_bytes-to_be_bytes_4 v f)

pub put-words_of : (bs : List ℕ) (i v : ℕ) → i < length bs / 4 → v < 2 ^ 32 → words_of (four bs i (v / 16777216 % 256) (v / 65536 % 256) (v / 256 % 256) (v % 256)) ≡ set (words_of bs) i v
put-words_of bs i v h f =
    let new : List ℕ = four bs i (v / 16777216 % 256) (v / 65536 % 256) (v / 256 % 256) (v % 256) in
    let n : length new ≡ length bs = length-four bs i _ _ _ _ in
    let w : length (words_of bs) ≡ length bs / 4 = length-words_of bs in
    let w' : length (words_of new) ≡ length new / 4 = length-words_of new in
    ext_get_or 0 _ _
    (simp length-set (omega arith))
    (λ k l.
    ⊎_elim
    (λ (e : k ≡ i).
    let at_new : get_or (words_of new) i 0 ≡ word_at new i = get_or-words_of new i (omega arith) in
    let same : get_or (set (words_of bs) i v) i 0 ≡ v = get_or-set_same (words_of bs) i v 0 (omega arith) in
    let val : word_at new i ≡ v = word_at-four_same bs i _ _ _ _ h ∙ from_bytes v f in
    rw e (at_new ∙ val ∙ sym same))
    (λ (ne : k ≡ i → ⊥).
    get_or-words_of new k (omega arith) ∙ word_at-four_other bs i _ _ _ _ k ne ∙ sym (get_or-words_of bs k (omega arith)) ∙ sym (get_or-set_other (words_of bs) i k v 0 ne))
    (cases_eq k i))

-- cells of bytes are numbers of 32 bits
pub words_of_lt : (bs : List ℕ) → ((i : ℕ) → get_or bs i 0 < 256) → (i : ℕ) → get_or (words_of bs) i 0 < 2 ^ 32
words_of_lt bs f i =
    ⊎_elim
    (λ (h : i < length bs / 4).
    let e : get_or (words_of bs) i 0 ≡ word_at bs i = get_or-words_of bs i h in
    omega (arith, f (4 * i), f (4 * i + 1), f (4 * i + 2), f (4 * i + 3)))
    (λ (h : length bs / 4 ≤ i).
    let e : get_or (words_of bs) i 0 ≡ 0 = get_or_past (words_of bs) i 0 (omega (arith, length-words_of bs)) in
    omega arith)
    (cases_lt i (length bs / 4))

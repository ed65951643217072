-- A page that is read from a reply is the one that the reply shows.
use Rattle.std.proofs.Common.{◌≡◌, ℕ, zero, suc, ◌+◌, ◌*◌, ◌/◌, ◌%◌, ◌^◌, ◌<◌, ◌≤◌, ◌==◌, ◌&&◌, Bool, true, List, [], ◌∷◌, ◌++◌, length, map, take, drop, get_or, Some, None, Option, Ok, unwrap_or, refl, inl, inr, ap, ◌∙◌, arith, length-append, nat_le}
use Rattle.std.proofs.lemmas.Bool.{and_parts, eqb-true, leb-true, cases_lt, cases_Bool}
use Rattle.std.proofs.lemmas.List.{length-map, length-take, length-drop, get_or-drop, take_all, drop_all, take-append-le, drop-append-le}
use Rattle.hex.specs.Hex.{IsBytes}
use Rattle.hex.proofs.HexLemmas.{decode_of-encode_upper}
use Rattle.ask.specs.Replies.{bytes_for, keys_from, keys_for, numbers, page_of, page_in_decoded, four_bytes, mark, RepliesRead}

-- the number of keys is found for each size of a page, by trial of all
abbrev finds : ℕ → Bool
finds n = unwrap_or (keys_for (bytes_for n)) 0 == n

abbrev all_found : ℕ → Bool
all_found zero = true
all_found (suc n) = finds n && all_found n

found_at : (m n : ℕ) → all_found m ≡ true → n < m → finds n ≡ true
found_at zero n h l = absurd (omega arith)
found_at (suc m) n h l =
    let (here, below) = and_parts (finds m) (all_found m) h in
    elim (cases_lt n m) [
      | inl a ↦ found_at m n below a
      | inr a ↦ (let e : n ≡ m = omega arith in rw e here)
    ]

some_of : (o : Option ℕ) (n : ℕ) → 0 < n → unwrap_or o 0 ≡ n → o ≡ Some n
some_of (Some x) n l e = ap Some e
some_of None n l e = absurd (omega arith)

all : all_found 65 ≡ true
unfolding keys_from
all = refl

keys_found : (n : ℕ) → 0 < n → n < 65 → keys_for (bytes_for n) ≡ Some n
keys_found n some l = some_of (keys_for (bytes_for n)) n some (eqb-true (unwrap_or (keys_for (bytes_for n)) 0) n (found_at 65 n all l))

-- a number is that of its four bytes
joined : (w : ℕ) → w < 2 ^ 32 → w / 16777216 % 256 * 16777216 + w / 65536 % 256 * 65536 + w / 256 % 256 * 256 + w % 256 ≡ w
joined w l = omega arith

numbers_four : (ws : List ℕ) → ((k : ℕ) → get_or ws k 0 < 2 ^ 32) → numbers (four_bytes ws) ≡ ws
numbers_four [] h = refl
numbers_four (w ∷ ws) h =
    ap (λ v. v ∷ numbers (four_bytes ws)) (joined w (h 0)) ∙ ap (λ vs. w ∷ vs) (numbers_four ws (λ k. h (suc k)))

length_four : (ws : List ℕ) → length (four_bytes ws) ≡ 4 * length ws
length_four [] = refl
length_four (w ∷ ws) = let e = length_four ws in omega arith

-- all that a reply holds is bytes
none : IsBytes []
none i = omega arith

one_more : (b : ℕ) (bs : List ℕ) → b < 256 → IsBytes bs → IsBytes (b ∷ bs)
one_more b bs l h zero = l
one_more b bs l h (suc i) = h i

both : (xs ys : List ℕ) → IsBytes xs → IsBytes ys → IsBytes (xs ++ ys)
both [] ys h k = k
both (x ∷ xs) ys h k = one_more x (xs ++ ys) (h 0) (both xs ys (λ i. h (suc i)) k)

mark_small : (x : ℕ) → mark x < 256
mark_small x = elim (cases_Bool (x == 0)) [ inl t ↦ rw t (omega arith) | inr f ↦ rw f (omega arith) ]

marks : (xs : List ℕ) → IsBytes (map mark xs)
marks [] = none
marks (x ∷ xs) = one_more (mark x) (map mark xs) (mark_small x) (marks xs)

fours : (ws : List ℕ) → IsBytes (four_bytes ws)
fours [] = none
fours (w ∷ ws) =
    one_more (w / 16777216 % 256) (w / 65536 % 256 ∷ (w / 256 % 256 ∷ (w % 256 ∷ four_bytes ws))) (omega arith)
    (one_more (w / 65536 % 256) (w / 256 % 256 ∷ (w % 256 ∷ four_bytes ws)) (omega arith)
    (one_more (w / 256 % 256) (w % 256 ∷ four_bytes ws) (omega arith)
    (one_more (w % 256) (four_bytes ws) (omega arith) (fours ws))))

pub replies_read : RepliesRead
replies_read n cells f small =
    let (some, more) = and_parts (nat_le 1 n) (nat_le n 64 && length cells == n + n * n) f in
    let (few, sized) = and_parts (nat_le n 64) (length cells == n + n * n) more in
    let low : 1 ≤ n = leb-true 1 n some in let high : n ≤ 64 = leb-true n 64 few in
    let long : length cells ≡ n + n * n = eqb-true (length cells) (n + n * n) sized in
    let keys : List ℕ = map mark (take n cells) in let pairs : List ℕ = drop n cells in
    let rest : List ℕ = keys ++ four_bytes pairs in
    let front : length keys ≡ n = omega (arith, length-map (take n cells) mark, length-take n cells) in
    let size : length rest ≡ bytes_for n = omega (arith, length-append keys (four_bytes pairs), length_four pairs, length-drop n cells) in
    let shown : take n rest ≡ keys = take-append-le n keys (four_bytes pairs) (omega arith) ∙ take_all n keys (omega arith) in
    let after : drop n rest ≡ four_bytes pairs = drop-append-le n keys (four_bytes pairs) (omega arith) ∙ ap (λ v. v ++ four_bytes pairs) (drop_all n keys (omega arith)) in
    let weights : numbers (drop n rest) ≡ pairs = ap numbers after ∙ numbers_four pairs (λ k. rw get_or-drop (small (n + k))) in
    ap page_in_decoded (decode_of-encode_upper (0x84 ∷ (0 ∷ rest)) (one_more 0x84 (0 ∷ rest) (omega arith) (one_more 0 rest (omega arith) (both keys (four_bytes pairs) (marks (take n cells)) (fours pairs)))))
    ∙ ap (λ o. page_of o rest) (ap keys_for size ∙ keys_found n (omega arith) (omega arith))
    ∙ (λ i. Ok (record { keys = n; cells = shown i ++ weights i }))

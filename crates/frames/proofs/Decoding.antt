-- Reading the bytes of a line, two digits for each.
use Rattle.std.proofs.Common.{◌≡◌, ◌≢◌, ℕ, ◌+◌, ◌*◌, ◌<◌, ◌≤◌, List, [], ◌∷◌, ◌++◌, length, get_or, take, drop, set, Some, None, Option, Ok, Err, Result, ok_or, zero, suc, zero-lt-suc, refl, sym, ap, ◌∙◌, arith}
use Rattle.std.proofs.lemmas.List.{take_all, take_more_set, append-nil, append_assoc, at_drop_more, at_drop_all}
use Rattle.std.proofs.lemmas.Bool.Decides.{nat_tests}
use Rattle.std.proofs.Math.Bridge.{le_prop}
use Rattle.frames.specs.declared.frame.Frame.TheVariants.{Turns}
use Rattle.frames.specs.Hex.{digit_of, byte_of, joined, bytes_of}
use Rattle.codes.specs.declared.refusal.Refusal.{Refusal}
use Rattle.codes.specs.declared.refusal.Refusal.TheVariants.{NoFrame}
use Rattle.frames.specs.Frames.{turns_of, frame_of, frame_in}

-- the n-th byte of a line, by its digits
abbrev byte_at : List ℕ → ℕ → Option ℕ
byte_at line n = byte_of (digit_of (get_or line (2 * n) 0)) (digit_of (get_or line (2 * n + 1) 0))

-- bytes in front of those of the rest
abbrev prefixed : List ℕ → Option (List ℕ) → Option (List ℕ)
prefixed bs None = None
prefixed bs (Some more) = Some (bs ++ more)

-- the first n of `out` are the first n bytes of a line
abbrev pub Read : List ℕ → List ℕ → ℕ → Type 0
Read line out n = bytes_of line ≡ prefixed (take n out) (bytes_of (drop (2 * n) line))

pub nothing_read : (line out : List ℕ) → Read line out 0
nothing_read line out = unprefixed (bytes_of line)
  where
    unprefixed : (x : Option (List ℕ)) → x ≡ prefixed [] x
    unprefixed None = refl
    unprefixed (Some bs) = refl

byte_more : (line : List ℕ) (n : ℕ) → 2 * n + 1 < length line → bytes_of (drop (2 * n) line) ≡ joined (byte_at line n) (bytes_of (drop (2 * (n + 1)) line))
byte_more line n h =
    let e : 2 * n + 1 + 1 ≡ 2 * (n + 1) = omega arith in
    at_drop_more bytes_of line (2 * n) 0 (omega arith)
    ∙ at_drop_more (λ rest. bytes_of (get_or line (2 * n) 0 ∷ rest)) line (2 * n + 1) 0 h
    ∙ ap (λ i. joined (byte_at line n) (bytes_of (drop i line))) e

-- what a line is, by its n-th byte
by_byte : (line out : List ℕ) (n : ℕ) (b : Option ℕ) → Read line out n → 2 * n + 1 < length line → b ≡ byte_at line n → bytes_of line ≡ prefixed (take n out) (joined b (bytes_of (drop (2 * (n + 1)) line)))
by_byte line out n b i h e =
    i ∙ ap (prefixed (take n out)) (byte_more line n h ∙ ap (λ z. joined z (bytes_of (drop (2 * (n + 1)) line))) (sym e))

no_byte : (bs : List ℕ) (x : Option (List ℕ)) → prefixed bs (joined None x) ≡ None
no_byte bs None = refl
no_byte bs (Some cs) = refl

one_byte : (bs : List ℕ) (b : ℕ) (x : Option (List ℕ)) → prefixed bs (joined (Some b) x) ≡ prefixed (bs ++ (b ∷ [])) x
one_byte bs b None = refl
one_byte bs b (Some cs) = ap Some (sym (append_assoc bs (b ∷ []) cs))

pub no_digit_none : (line out : List ℕ) (n : ℕ) → Read line out n → 2 * n + 1 < length line → None ≡ byte_at line n → bytes_of line ≡ None
no_digit_none line out n i h e = by_byte line out n None i h e ∙ no_byte (take n out) (bytes_of (drop (2 * (n + 1)) line))

pub one_more_read : (line out : List ℕ) (n b : ℕ) → Read line out n → 2 * n + 1 < length line → n < length out → Some b ≡ byte_at line n → Read line (set out n b) (n + 1)
one_more_read line out n b i h l e =
    let rest : Option (List ℕ) = bytes_of (drop (2 * (n + 1)) line) in
    by_byte line out n (Some b) i h e ∙ one_byte (take n out) b rest ∙ ap (λ bs. prefixed bs rest) (sym (take_more_set out n b l))

pub all_read : (line out : List ℕ) (n : ℕ) → Read line out n → length line ≤ 2 * n → length out ≤ n → bytes_of line ≡ Some out
all_read line out n i h l =
    i ∙ ap (prefixed (take n out)) (at_drop_all bytes_of line (2 * n) h) ∙ ap Some (append-nil (take n out) ∙ take_all n out l)

-- half as many bytes as characters, where there are bytes
abbrev Halved : Option (List ℕ) → ℕ → Type 0
Halved None n = Unit {0}
Halved (Some bs) n = 2 * length bs ≡ n

halved_joined : (b : Option ℕ) (x : Option (List ℕ)) (n : ℕ) → Halved x n → Halved (joined b x) (suc (suc n))
halved_joined None None n h = tt
halved_joined None (Some bs) n h = tt
halved_joined (Some b) None n h = tt
halved_joined (Some b) (Some bs) n h = omega arith

halved : (line : List ℕ) → Halved (bytes_of line) (length line)
halved [] = refl
halved (x ∷ []) = tt
halved (x ∷ (y ∷ rest)) = halved_joined (byte_of (digit_of x) (digit_of y)) (bytes_of rest) (length rest) (halved rest)

-- the lengths of frames
frame_lengths : (bs : List ℕ) → length bs ≢ 2 → length bs ≢ 3 → length bs ≢ 9 → length bs ≢ 11 → frame_of bs ≡ Err NoFrame
frame_lengths bs h2 h3 h9 h11 = grind (arith, nat_tests)

none_halved : (x : Option (List ℕ)) (n : ℕ) → Halved x n → n ≢ 4 → n ≢ 6 → n ≢ 18 → n ≢ 22 → frame_in x ≡ Err NoFrame
none_halved None n h h4 h6 h18 h22 = refl
none_halved (Some bs) n h h4 h6 h18 h22 = frame_lengths bs (omega arith) (omega arith) (omega arith) (omega arith)

pub other_lengths_none : (line : List ℕ) → length line ≢ 4 → length line ≢ 6 → length line ≢ 18 → length line ≢ 22 → frame_in (bytes_of line) ≡ Err NoFrame
other_lengths_none line h4 h6 h18 h22 = none_halved (bytes_of line) (length line) (halved line) h4 h6 h18 h22

-- a line that has no bytes is no frame, and one that has some is the frame of these
pub framed_err : (x : Option (List ℕ)) (r : Result (List ℕ) Refusal) (e : Refusal) → r ≡ ok_or x NoFrame → r ≡ Err e → frame_in x ≡ Err e
framed_err None r e p q = cc
framed_err (Some bs) r e p q = cc

pub framed_ok : (x : Option (List ℕ)) (r : Result (List ℕ) Refusal) (bs : List ℕ) → r ≡ ok_or x NoFrame → r ≡ Ok bs → frame_in x ≡ frame_of bs
framed_ok None r bs p q = cc
framed_ok (Some cs) r bs p q = let e : cs ≡ bs = cc in ap frame_of e

-- a count that is not 0
pub counted : (w n : ℕ) (p : 0 < n) → turns_of w n ≡ Ok (Turns w (record { value = n; ok = p }))
counted w zero p = absurd (omega arith)
counted w (suc n) p = ap (λ (q : 0 < suc n). Ok (Turns w (record { value = suc n; ok = q }))) (le_prop (zero-lt-suc n) p)

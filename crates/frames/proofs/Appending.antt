-- Writing a text piece by piece into an area.
use Rattle.std.proofs.Common.{◌≡◌, ℕ, zero, suc, ◌+◌, ◌-◌, ◌*◌, ◌/◌, ◌%◌, ◌<◌, ◌≤◌, not, eqb, List, [], ◌∷◌, ◌++◌, length, get_or, take, drop, set, map, sym, refl, ap, ◌∙◌, arith}
use Rattle.std.proofs.lemmas.List.{append-nil, append_assoc, length-append, length-map, length-set, length-drop, length-take-le, take_more, take_more_set, drop-set-lt, drop-drop}
use Rattle.std.proofs.lemmas.Slice.{take-put_mid, drop-put_mid}
use borrow.Rule.Slice.PartMut.{put_mid}
use Rattle.std.proofs.Math.Dec.{eqb-suc-zero}
use mir.Val.{bool_byte}
use Rattle.frames.specs.Hex.{capital, hex_of}
use Rattle.frames.specs.Replies.{key_byte, weight_bytes, page_bytes, page_line, fed}
use Rattle.frames.specs.Areas.{Put}

pub hex_of-++ : (xs ys : List ℕ) → hex_of (xs ++ ys) ≡ hex_of xs ++ hex_of ys
hex_of-++ [] ys = refl
hex_of-++ (x ∷ xs) ys = ap (λ zs. capital (x / 16) ∷ (capital (x % 16) ∷ zs)) (hex_of-++ xs ys)

key_bool : (x : ℕ) → bool_byte (not (eqb x 0)) ≡ key_byte x
key_bool zero = refl
key_bool (suc x) = rw (eqb-suc-zero x)

pub length-hex_of : (xs : List ℕ) → length (hex_of xs) ≡ 2 * length xs
length-hex_of [] = refl
length-hex_of (x ∷ xs) = omega (arith, length-hex_of xs)

weight_bytes-++ : (xs ys : List ℕ) → weight_bytes (xs ++ ys) ≡ weight_bytes xs ++ weight_bytes ys
weight_bytes-++ [] ys = refl
weight_bytes-++ (w ∷ xs) ys =
    ap (λ zs. w / 16777216 % 256 ∷ (w / 65536 % 256 ∷ (w / 256 % 256 ∷ (w % 256 ∷ zs)))) (weight_bytes-++ xs ys)

pub length-weight_bytes : (xs : List ℕ) → length (weight_bytes xs) ≡ 4 * length xs
length-weight_bytes [] = refl
length-weight_bytes (x ∷ xs) = omega (arith, length-weight_bytes xs)

map-++ : (f : ℕ → ℕ) (xs ys : List ℕ) → map f (xs ++ ys) ≡ map f xs ++ map f ys
map-++ f [] ys = refl
map-++ f (x ∷ xs) ys = ap (λ zs. f x ∷ zs) (map-++ f xs ys)

drop_further : (xs ys : List ℕ) (k m : ℕ) → k ≤ m → drop k xs ≡ drop k ys → drop m xs ≡ drop m ys
drop_further xs ys k m h e =
    let f : k + (m - k) ≡ m = omega arith in
    ap (λ i. drop i xs) (sym f) ∙ sym (drop-drop (m - k) k xs) ∙ ap (drop (m - k)) e ∙ drop-drop (m - k) k ys ∙ ap (λ i. drop i ys) f

pub put_nothing : (at : ℕ) (old : List ℕ) → at ≤ length old → Put at [] old old at
put_nothing at old h = record { grows = omega arith; within = h; front = sym (append-nil (take at old)); behind = refl }

-- a piece behind a piece
pub put_then : (at k n : ℕ) (xs ys old mid new : List ℕ) → Put at xs old mid k → Put k ys mid new n → Put at (xs ++ ys) old new n
put_then at k n xs ys old mid new p q = record {
  grows = omega (arith, p.grows, q.grows);
  within = q.within;
  front = q.front ∙ ap (λ zs. zs ++ ys) p.front ∙ append_assoc (take at old) xs ys;
  behind = q.behind ∙ drop_further mid old k n q.grows p.behind;
}

put_one : (n b : ℕ) (old : List ℕ) → n < length old → Put n (b ∷ []) old (set old n b) (n + 1)
put_one n b old h = record {
  grows = omega arith;
  within = omega (arith, length-set old n b);
  front = take_more_set old n b h;
  behind = drop-set-lt (n + 1) old n b (omega arith);
}

-- the text is the same by an equation
pub put_as : (at n : ℕ) (xs ys old new : List ℕ) → xs ≡ ys → Put at xs old new n → Put at ys old new n
put_as at n xs ys old new e p = rw e at p

-- the digits of a byte behind those of the bytes in front of it
pub put_byte : (at i k : ℕ) (ds bytes old mid : List ℕ) → i < length bytes → ds ≡ hex_of (get_or bytes i 0 ∷ []) → Put at (hex_of (take i bytes)) old mid k → k + 1 < length mid → Put at (hex_of (take (i + 1) bytes)) old (set (set mid k (get_or ds 0 0)) (k + 1) (get_or ds 1 0)) (k + 2)
put_byte at i k ds bytes old mid m e p r =
    let b : ℕ = get_or bytes i 0 in
    let h : ℕ = capital (b / 16) in
    let l : ℕ = capital (b % 16) in
    let e1 : k + 1 + 1 ≡ k + 2 = omega arith in
    let two : Put k (h ∷ (l ∷ [])) mid (set (set mid k h) (k + 1) l) (k + 2) =
    rw e1 at (put_then k (k + 1) (k + 1 + 1) (h ∷ []) (l ∷ []) mid (set mid k h) (set (set mid k h) (k + 1) l) (put_one k h mid (omega arith)) (put_one (k + 1) l (set mid k h) (omega (arith, length-set mid k h)))) in
    let t : take (i + 1) bytes ≡ take i bytes ++ (b ∷ []) = take_more bytes i 0 m in
    rw e
    (put_as at (k + 2) _ _ old _ (sym (hex_of-++ (take i bytes) (b ∷ [])) ∙ ap hex_of (sym t))
    (put_then at k (k + 2) (hex_of (take i bytes)) (h ∷ (l ∷ [])) old mid _ p two))

-- where a text ends that was written
pub put_end : (at n : ℕ) (text old new : List ℕ) → at ≤ length old → Put at text old new n → n ≡ at + length text
put_end at n text old new h p =
    omega (arith, sym (length-take-le n new p.within) ∙ ap length p.front ∙ length-append (take at old) text ∙ ap (λ m. m + length text) (length-take-le at old h))

-- a key behind those in front of it, two digits each
pub put_key : (at i k n b : ℕ) (keys old mid new : List ℕ) → i < length keys → b ≡ bool_byte (not (eqb (get_or keys i 0) 0)) → k ≤ length mid → (k ≡ at + 2 * i) × Put at (hex_of (map key_byte (take i keys))) old mid k → Put k (hex_of (b ∷ [])) mid new n → (n ≡ at + 2 * (i + 1)) × Put at (hex_of (map key_byte (take (i + 1) keys))) old new n
put_key at i k n b keys old mid new m e h p r =
    let x : ℕ = get_or keys i 0 in
    let t : take (i + 1) keys ≡ take i keys ++ (x ∷ []) = take_more keys i 0 m in (
      omega (arith, p.0, put_end k n (hex_of (b ∷ [])) mid new h r),
      put_as at n _ _ old new
          (ap (λ y. hex_of (map key_byte (take i keys)) ++ hex_of (y ∷ [])) (e ∙ key_bool x)
          ∙ sym (hex_of-++ (map key_byte (take i keys)) (key_byte x ∷ []))
          ∙ ap hex_of (sym (map-++ key_byte (take i keys) (x ∷ [])))
          ∙ ap (λ zs. hex_of (map key_byte zs)) (sym t))
          (put_then at k n (hex_of (map key_byte (take i keys))) (hex_of (b ∷ [])) old mid new p.1 r),
    )

-- a weight behind those in front of it, eight digits each
pub put_weight : (at i k n : ℕ) (bytes weights old mid new : List ℕ) → i < length weights → bytes ≡ weight_bytes (get_or weights i 0 ∷ []) → k ≤ length mid → (k ≡ at + 8 * i) × Put at (hex_of (weight_bytes (take i weights))) old mid k → Put k (hex_of bytes) mid new n → (n ≡ at + 8 * (i + 1)) × Put at (hex_of (weight_bytes (take (i + 1) weights))) old new n
put_weight at i k n bytes weights old mid new m e h p r =
    let x : ℕ = get_or weights i 0 in
    let t : take (i + 1) weights ≡ take i weights ++ (x ∷ []) = take_more weights i 0 m in (
      omega (arith, p.0, put_end k n (hex_of bytes) mid new h r, ap (λ zs. length (hex_of zs)) e),
      put_as at n _ _ old new
          (ap (λ zs. hex_of (weight_bytes (take i weights)) ++ hex_of zs) e
          ∙ sym (hex_of-++ (weight_bytes (take i weights)) (weight_bytes (x ∷ [])))
          ∙ ap hex_of (sym (weight_bytes-++ (take i weights) (x ∷ [])))
          ∙ ap (λ zs. hex_of (weight_bytes zs)) (sym t))
          (put_then at k n (hex_of (weight_bytes (take i weights))) (hex_of bytes) old mid new p.1 r),
    )

-- `line` put in at `at`, and a line feed behind it
pub put_line : (old line new : List ℕ) (at k n : ℕ) → new ≡ line → k ≡ length line → n ≡ at + length line → n < length old → length (put_mid at k old new) ≡ length old → Put at (fed line) old (set (put_mid at k old new) n 10) (n + 1)
put_line old line new at k n f q m h l = record {
  grows = omega arith;
  within = omega (arith, length-set (put_mid at k old new) n 10);
  front =
      take_more_set (put_mid at k old new) n 10 (omega arith)
      ∙ ap (λ zs. zs ++ (10 ∷ [])) (take-put_mid at k old new n (omega (arith, ap length f)) (omega arith))
      ∙ append_assoc (take at old) new (10 ∷ []) ∙ ap (λ zs. take at old ++ (zs ++ (10 ∷ []))) f;
  behind =
      drop-set-lt (n + 1) (put_mid at k old new) n 10 (omega arith)
      ∙ drop-put_mid at k old new (n + 1) (omega arith) (omega arith) (omega (arith, ap length f));
}

pub length-key_line : (n : ℕ) (cells : List ℕ) → n ≤ length cells → length (hex_of (map key_byte (take n cells))) ≡ 2 * n
length-key_line n cells h =
    length-hex_of (map key_byte (take n cells)) ∙ ap (λ m. 2 * m) (length-map (take n cells) key_byte ∙ length-take-le n cells h)

pub length-weight_line : (ws : List ℕ) → length (hex_of (weight_bytes ws)) ≡ 8 * length ws
length-weight_line ws = omega (arith, length-hex_of (weight_bytes ws), length-weight_bytes ws)

-- the line of a page has as many digits as its cells make
pub length-page_line : (n : ℕ) (cells : List ℕ) → n ≤ length cells → length (fed (page_line n cells)) ≡ 2 * (2 + n + 4 * (length cells - n)) + 1
length-page_line n cells h =
    length-append (page_line n cells) (10 ∷ [])
    ∙ omega (
      arith,
      length-hex_of (page_bytes n cells),
      length-append (map key_byte (take n cells)) (weight_bytes (drop n cells)),
      length-map (take n cells) key_byte,
      length-take-le n cells h,
      length-weight_bytes (drop n cells),
      length-drop n cells,
    )

-- the three pieces of a page, and a line feed
pub put_pages : (at a b c n : ℕ) (cells old one two three : List ℕ) → Put at (hex_of (0x84 ∷ (0x00 ∷ []))) old one a → Put a (hex_of (map key_byte (take n cells))) one two b → Put b (hex_of (weight_bytes (drop n cells))) two three c → c < length three → Put at (fed (page_line n cells)) old (set three c 10) (c + 1)
put_pages at a b c n cells old one two three p q r h =
    let ks : List ℕ = map key_byte (take n cells) in
    let ws : List ℕ = weight_bytes (drop n cells) in
    let front : Put at (hex_of (page_bytes n cells)) old three c =
    put_as at c _ _ old three
    (append_assoc (hex_of (0x84 ∷ (0x00 ∷ []))) (hex_of ks) (hex_of ws) ∙ ap (λ zs. hex_of (0x84 ∷ (0x00 ∷ [])) ++ zs) (sym (hex_of-++ ks ws)) ∙ sym (hex_of-++ (0x84 ∷ (0x00 ∷ [])) (ks ++ ws)))
    (put_then at b c _ _ old two three (put_then at a b _ _ old one two p q) r) in
    put_then at c (c + 1) _ _ old three (set three c 10) front (put_one c 10 three h)

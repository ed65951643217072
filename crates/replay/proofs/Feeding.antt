-- Where the first line feed stands.
use Rattle.std.proofs.Common.{◌≡◌, ℕ, ◌+◌, ◌<◌, ◌≤◌, ◌==◌, true, false, List, [], ◌∷◌, ◌++◌, length, get_or, take, drop, Some, None, Option, is_some, is_ok, refl, sym, ap, ◌∙◌, arith}
use Rattle.std.specs.List.{position, position_or_len}
use Rattle.std.proofs.lemmas.Bool.Decides.{nat_tests}
use Rattle.std.proofs.lemmas.List.{length-take-le, take-append-drop, drop_more}
use Rattle.std.proofs.lemmas.List.Recursion.{is_position_or_len}
use Rattle.frames.specs.Frames.{frame_in}
use Rattle.frames.specs.Hex.{digit_of, byte_of, joined, bytes_of}
use Rattle.session.specs.Texts.{feed_at}

feed_is : (text : List ℕ) → feed_at text ≡ position_or_len (λ b. b == 10) text
feed_is text = is_position_or_len feed_at (λ b. b == 10) refl (λ x xs. grind (arith, nat_tests)) text

pub feed_found : (text : List ℕ) (n : ℕ) → position (λ b. b == 10) text ≡ Some n → n ≡ feed_at text
feed_found text n e = grind (arith, nat_tests, feed_is text)

pub feed_none : (text : List ℕ) → position (λ b. b == 10) text ≡ None → length text ≤ feed_at text
feed_none text e = grind (arith, nat_tests, feed_is text)

-- two digits and the bytes behind them, where they make bytes
record AllThere (h l : Option ℕ) (rest : Option (List ℕ)) : Type 0 where
  high : is_some h ≡ true
  low : is_some l ≡ true
  behind : is_some rest ≡ true

all_there : (h l : Option ℕ) (rest : Option (List ℕ)) → is_some (joined (byte_of h l) rest) ≡ true → AllThere h l rest
all_there (Some h) (Some l) (Some rest) e = record { high = refl; low = refl; behind = refl }
all_there (Some h) (Some l) None e = cc
all_there (Some h) None (Some rest) e = cc
all_there (Some h) None None e = cc
all_there None (Some l) (Some rest) e = cc
all_there None (Some l) None e = cc
all_there None None (Some rest) e = cc
all_there None None None e = cc

digit_no_feed : (c : ℕ) → is_some (digit_of c) ≡ true → (c == 10) ≡ false
digit_no_feed c e = grind (arith, nat_tests)

-- a line feed behind digits is the first
feed_behind : (line rest : List ℕ) → is_some (bytes_of line) ≡ true → feed_at (line ++ (10 ∷ rest)) ≡ length line
feed_behind [] rest e = refl
feed_behind (x ∷ []) rest e = cc
feed_behind (x ∷ (y ∷ line)) rest e =
    let a = all_there (digit_of x) (digit_of y) (bytes_of line) e in
    rw (digit_no_feed x a.high, digit_no_feed y a.low, feed_behind line rest a.behind) (omega arith)

frame_bytes : (bs : Option (List ℕ)) → is_ok (frame_in bs) ≡ true → is_some bs ≡ true
frame_bytes None e = cc
frame_bytes (Some bs) e = refl

-- a line feed behind the digits of a frame is the first
pub feed_framed : (text : List ℕ) (n : ℕ) → n < length text → get_or text n 0 ≡ 10 → is_ok (frame_in (bytes_of (take n text))) ≡ true → n ≡ feed_at text
feed_framed text n h e f =
    let parts : take n text ++ (10 ∷ drop (n + 1) text) ≡ text =
    ap (λ c. take n text ++ (c ∷ drop (n + 1) text)) (sym e) ∙ ap (λ zs. take n text ++ zs) (sym (drop_more text n 0 h)) ∙ take-append-drop n text in
    sym (length-take-le n text (omega arith)) ∙ sym (feed_behind (take n text) (drop (n + 1) text) (frame_bytes _ f)) ∙ ap feed_at parts

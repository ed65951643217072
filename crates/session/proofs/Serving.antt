-- Lines that are read byte by byte.
use Rattle.std.proofs.Common.{◌≡◌, ◌≢◌, ℕ, suc, ◌+◌, ◌<◌, ◌≤◌, ◌==◌, Bool, true, false, if◌then◌else◌, List, [], ◌∷◌, ◌++◌, length, get_or, take, drop, Some, None, Option, Result, unwrap_or, ⊎_elim, ne_eqb, sym, refl, ap, ◌∙◌, subst, subst₂, arith}
use Rattle.std.proofs.Math.Seq.{take-append_seam}
use Rattle.std.proofs.lemmas.Bool.{cases_lt}
use Rattle.std.proofs.lemmas.List.{append-nil, append_assoc, length-append, length-take, length-take-le, nil_from_length, take_all, take_more, take-take, take-append-drop, drop-take, drop_all, take-append-le}
use Rattle.codes.specs.declared.refusal.Refusal.{Refusal}
use Rattle.frames.specs.declared.frame.Frame.{Frame}
use Rattle.frames.specs.Frames.{frame_in}
use Rattle.frames.specs.Hex.{bytes_of}
use Rattle.frames.specs.Replies.{fed}
use Rattle.frames.proofs.Decoding.{other_lengths_none}
use Rattle.session.specs.Answers.{Replies}
use Rattle.session.specs.Feeding.{Feeding, Carries}
use Rattle.session.specs.Served.{RepliesInto, Written, Served, Served.nothing_yet, Served.one_more}
use Rattle.session.specs.Sessions.{SessionState}
use Rattle.session.proofs.Total.{Replied, replied}
use Rattle.session.specs.Texts.{feed_at, line_of, behind_line}

pub take_full : (xs ys : List ℕ) (n : ℕ) → length xs ≡ n → take n (xs ++ ys) ≡ xs
take_full xs ys n e = rw (← e) (take-append_seam xs ys)

-- the first bytes of a line and those behind them
take_again : (n : ℕ) (xs ys : List ℕ) → take n (take n xs ++ ys) ≡ take n (xs ++ ys)
take_again n xs ys =
    ⊎_elim
    (λ (a : length xs < n). ap (λ zs. take n (zs ++ ys)) (take_all n xs (omega arith)))
    (λ (a : n ≤ length xs). take_full (take n xs) ys n (length-take-le n xs a) ∙ sym (take-append-le n xs ys a))
    (cases_lt (length xs) n)

-- a line that is longer than each frame is none, and neither are its first bytes
first_framed : (line : List ℕ) → frame_in (bytes_of (take 23 line)) ≡ frame_in (bytes_of line)
first_framed line =
    ⊎_elim
    (λ (a : length line < 23). ap (λ zs. frame_in (bytes_of zs)) (take_all 23 line (omega arith)))
    (λ (a : 23 ≤ length line).
    let n : length (take 23 line) ≡ 23 = length-take-le 23 line a in
    other_lengths_none (take 23 line) (omega arith) (omega arith) (omega arith) (omega arith)
    ∙ sym (other_lengths_none line (omega arith) (omega arith) (omega arith) (omega arith)))
    (cases_lt (length line) 23)

-- where a first byte is no line feed, the next is sought behind it
no_feed : (q : Bool) (x n : ℕ) → (if q then 0 else x + 1) ≡ suc n → (q ≡ false) × (x ≡ n)
no_feed true x n e = absurd (omega arith)
no_feed false x n e = (refl, omega arith)

-- behind a line without one, the next line feed is the first
feed_behind : (line more : List ℕ) → feed_at line ≡ length line → feed_at (line ++ (10 ∷ more)) ≡ length line
feed_behind [] more e = refl
feed_behind (b ∷ bs) more e =
    let p : ((b == 10) ≡ false) × (feed_at bs ≡ length bs) = no_feed (b == 10) (feed_at bs) (length bs) e in
    ap (λ q. if q then 0 else feed_at (bs ++ (10 ∷ more)) + 1) p.0 ∙ omega (arith, feed_behind bs more p.1)

-- more bytes without one
free_more : (line more : List ℕ) → feed_at line ≡ length line → feed_at more ≡ length more → feed_at (line ++ more) ≡ length (line ++ more)
free_more [] more e f = f
free_more (b ∷ bs) more e f =
    let p : ((b == 10) ≡ false) × (feed_at bs ≡ length bs) = no_feed (b == 10) (feed_at bs) (length bs) e in
    ap (λ q. if q then 0 else feed_at (bs ++ more) + 1) p.0 ∙ omega (arith, free_more bs more p.1 f)

-- a first byte that is no line feed, and more that have none
free_behind : (x : ℕ) (more : List ℕ) → x ≢ 10 → feed_at more ≡ length more → feed_at (x ∷ more) ≡ length (x ∷ more)
free_behind x more n e = ap (λ b. if b then 0 else feed_at more + 1) (ne_eqb x 10 n) ∙ omega (arith, e)

-- the first bytes have none, and neither has the next
pub free_byte : (bytes : List ℕ) (n x : ℕ) → feed_at (take n bytes) ≡ n → n < length bytes → x ≡ get_or bytes n 0 → x ≢ 10 → feed_at (take (n + 1) bytes) ≡ n + 1
free_byte bytes n x e h k f =
    ap feed_at (take_more bytes n 0 h)
    ∙ free_more (take n bytes) (get_or bytes n 0 ∷ []) (e ∙ sym (length-take-le n bytes (omega arith))) (free_behind (get_or bytes n 0) [] (subst (λ z. z ≢ 10) k f) refl)
    ∙ omega (arith, length-append (take n bytes) (get_or bytes n 0 ∷ []), length-take-le n bytes (omega arith))

line_is : (line more : List ℕ) → feed_at line ≡ length line → line_of (line ++ (10 ∷ more)) ≡ line
line_is line more e = ap (λ n. take n (line ++ (10 ∷ more))) (feed_behind line more e) ∙ take-append_seam line (10 ∷ more)

drop_seam : (line more : List ℕ) → drop (length line + 1) (line ++ (10 ∷ more)) ≡ more
drop_seam [] more = refl
drop_seam (b ∷ bs) more =
    let e : suc (length bs) + 1 ≡ suc (length bs + 1) = omega arith in
    ap (λ n. drop n (b ∷ (bs ++ (10 ∷ more)))) e ∙ drop_seam bs more

behind_is : (line more : List ℕ) → feed_at line ≡ length line → behind_line (line ++ (10 ∷ more)) ≡ more
behind_is line more e = ap (λ n. drop (n + 1) (line ++ (10 ∷ more))) (feed_behind line more e) ∙ drop_seam line more

-- nothing is read yet
pub begun : (d : SessionState) → Feeding d [] [] [] d
begun d = record { line = []; free = refl; first = refl; served = λ more. nothing_yet }

-- bytes that have no line feed
pub no_feed_yet : (start now : SessionState) (read held held' out more : List ℕ) → Feeding start read held out now → feed_at more ≡ length more → held' ≡ take 23 (held ++ more) → Feeding start (read ++ more) held' out now
no_feed_yet start now read held held' out more f n e = record {
  line = f.line ++ more;
  free = free_more f.line more f.free n;
  first = e ∙ ap (λ zs. take 23 (zs ++ more)) f.first ∙ take_again 23 f.line more;
  served = λ rest.
      subst₂ (λ x y. Served start x y out now) (sym (append_assoc read more rest)) (sym (append_assoc f.line more rest)) (f.served (more ++ rest));
}

some_behind : (line more : List ℕ) → 1 ≤ length (line ++ (10 ∷ more))
some_behind line more = omega (arith, length-append line (10 ∷ more))

-- a line feed, and the reply to the line
pub one_line : (start now next : SessionState) (read held out line : List ℕ) → Feeding start read held out now → Replies now (frame_in (bytes_of held)) line next → Feeding start (read ++ (10 ∷ [])) [] (out ++ fed line) next
one_line start now next read held out line f r = record {
  line = [];
  free = refl;
  first = refl;
  served = λ more.
      let e : frame_in (bytes_of held) ≡ frame_in (bytes_of (line_of (f.line ++ (10 ∷ more)))) =
      ap (λ zs. frame_in (bytes_of zs)) f.first ∙ first_framed f.line ∙ ap (λ zs. frame_in (bytes_of zs)) (sym (line_is f.line more f.free)) in
      subst₂ (λ x y. Served start x y (out ++ fed line) next) (sym (append_assoc read (10 ∷ []) more)) (behind_is f.line more f.free)
      (one_more (f.line ++ (10 ∷ more)) out line now next (f.served (10 ∷ more)) (some_behind f.line more) (subst (λ x. Replies now x line next) e r));
}

-- the last line has no line feed
pub last_line : (start now next : SessionState) (read held out line : List ℕ) → Feeding start read held out now → 1 ≤ length held → Replies now (frame_in (bytes_of held)) line next → Served start read [] (out ++ fed line) next
last_line start now next read held out line f h r =
    let n : 1 ≤ length f.line = omega (arith, ap length f.first, length-take 23 f.line) in
    let e : frame_in (bytes_of held) ≡ frame_in (bytes_of (line_of f.line)) =
    ap (λ zs. frame_in (bytes_of zs)) f.first ∙ first_framed f.line ∙ ap (λ zs. frame_in (bytes_of zs)) (sym (ap (λ k. take k f.line) f.free ∙ take_all (length f.line) f.line (omega arith))) in
    let s : Served start read f.line out now = subst₂ (λ x y. Served start x y out now) (append-nil read) (append-nil f.line) (f.served []) in
    subst (λ y. Served start read y (out ++ fed line) next) (drop_all (feed_at f.line + 1) f.line (omega (arith, f.free)))
    (one_more f.line out line now next s n (subst (λ x. Replies now x line next) e r))

-- no last line is left
pub no_line : (start now : SessionState) (read held out : List ℕ) → Feeding start read held out now → length held ≡ 0 → Served start read [] out now
no_line start now read held out f h =
    let e : f.line ≡ [] = nil_from_length f.line (omega (arith, ap length f.first, length-take 23 f.line)) in
    subst₂ (λ x y. Served start x y out now) (append-nil read) (append-nil f.line ∙ e) (f.served [])

-- no bytes
pub carries_none : (d : SessionState) (held : List ℕ) → Carries d held [] held [] d
carries_none d held start read pre f = subst₂ (λ x y. Feeding start x held y d) (sym (append-nil read)) (sym (append-nil pre)) f

one_more_byte : (read bytes : List ℕ) (i x : ℕ) → i < length bytes → x ≡ get_or bytes i 0 → (read ++ take i bytes) ++ (x ∷ []) ≡ read ++ take (i + 1) bytes
one_more_byte read bytes i x h e =
    append_assoc read (take i bytes) (x ∷ []) ∙ ap (λ z. read ++ (take i bytes ++ (z ∷ []))) e ∙ ap (λ z. read ++ z) (sym (take_more bytes i 0 h))

-- a byte and some bytes behind it
bytes_behind : (bytes behind : List ℕ) (i x n : ℕ) → i < length bytes → x ≡ get_or bytes i 0 → behind ≡ drop (i + 1) bytes → take i bytes ++ (x ∷ take n behind) ≡ take (i + 1 + n) bytes
bytes_behind bytes behind i x n h e b =
    let whole : List ℕ = take (i + 1 + n) bytes in
    ap (λ z. take i bytes ++ (z ∷ take n behind)) e
    ∙ sym (append_assoc (take i bytes) (get_or bytes i 0 ∷ []) (take n behind))
    ∙ ap (λ zs. zs ++ take n behind) (sym (take_more bytes i 0 h) ∙ sym (take-take (i + 1) (i + 1 + n) bytes (omega arith)))
    ∙ ap (λ zs. take (i + 1) whole ++ zs) (ap (take n) b ∙ sym (drop-take (i + 1) n bytes))
    ∙ take-append-drop (i + 1) whole

-- a byte that is no line feed, and bytes behind it that have none
pub carries_bytes : (d now : SessionState) (held held' last bytes behind out : List ℕ) (i x n : ℕ) → Carries d held (take i bytes) held' out now → i < length bytes → x ≡ get_or bytes i 0 → x ≢ 10 → behind ≡ drop (i + 1) bytes → feed_at (take n behind) ≡ n → n ≤ length behind → last ≡ take 23 (held' ++ (x ∷ take n behind)) → Carries d held (take (i + 1 + n) bytes) last out now
carries_bytes d now held held' last bytes behind out i x n k h e ne b f l q start read pre g =
    let free : feed_at (x ∷ take n behind) ≡ length (x ∷ take n behind) = free_behind x (take n behind) ne (f ∙ sym (length-take-le n behind l)) in
    subst (λ z. Feeding start z last (pre ++ out) now) (append_assoc read (take i bytes) (x ∷ take n behind) ∙ ap (λ z. read ++ z) (bytes_behind bytes behind i x n h e b))
    (no_feed_yet start now (read ++ take i bytes) held' last (pre ++ out) (x ∷ take n behind) (k start read pre g) free q)

-- one line feed more, and the reply to the line
pub carries_line : (d now next : SessionState) (held held' last bytes mid new : List ℕ) (i x end n : ℕ) (fr : Result Frame Refusal) → Carries d held (take i bytes) held' (take end mid) now → i < length bytes → x ≡ get_or bytes i 0 → x ≡ 10 → fr ≡ frame_in (bytes_of held') → Written now fr end mid new n next → last ≡ [] → Carries d held (take (i + 1) bytes) last (take n new) next
carries_line d now next held held' last bytes mid new i x end n fr k h e t q w z start read pre f =
    let one : Feeding start ((read ++ take i bytes) ++ (10 ∷ [])) [] ((pre ++ take end mid) ++ fed w.line) next =
    one_line start now next (read ++ take i bytes) held' (pre ++ take end mid) w.line (k start read pre f) (subst (λ g. Replies now g w.line next) q w.replies) in
    rw z
    (subst₂ (λ a b. Feeding start a [] b next)
    (one_more_byte read bytes i 10 h (sym t ∙ e))
    (append_assoc pre (take end mid) (fed w.line) ∙ ap (λ y. pre ++ y) (sym w.put.front))
    one)

-- where there is room for the longest reply, there is an end
pub ended : (d : SessionState) (f : Result Frame Refusal) (at : ℕ) (old new : List ℕ) (r : Option ℕ) (d' : SessionState) (n : ℕ) → RepliesInto d f at old new r d' → at + 32901 ≤ length old → n ≡ unwrap_or r at → Written d f at old new n d'
ended d f at old new None d' n p h e = let t : Replied d f = replied d f in absurd (omega (arith, p.2 t.line t.session t.replies, t.least))
ended d f at old new (Some m) d' n p h e = rw e p

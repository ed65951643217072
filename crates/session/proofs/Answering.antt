-- Replies that are written into an area.
use Rattle.std.proofs.Common.{◌≡◌, ℕ, ◌-◌, ◌<◌, ◌≤◌, List, [], ◌∷◌, ◌++◌, length, Some, None, Ok, Err, Option, Result, sym, refl, ap, ◌∙◌, arith}
use Rattle.std.proofs.lemmas.List.{length-append}
use Rattle.codes.specs.declared.refusal.Refusal.{Refusal}
use Rattle.std.specs.NonZero.{non_zero_u8_get}
use Rattle.std.specs.declared.num.NonZeroU8.{NonZeroU8}
use Rattle.frames.specs.declared.frame.Frame.{Frame}
use Rattle.frames.specs.declared.frame.Frame.TheVariants as frame
use Rattle.frames.specs.declared.reply.Reply.{Reply}
use Rattle.frames.specs.declared.reply.Reply.TheVariants.{ToOpen, ToBegin, ToTurns, ToTake, NoFrame}
use Rattle.frames.specs.Replies.{reply_line, fed}
use Rattle.frames.specs.Areas.{PutWhole}
use Rattle.layout.specs.declared.opening.Opening.{Opening}
use Rattle.layout.specs.declared.sizes.Sizes.{Sizes}
use Rattle.machine.specs.States.{State}
use Rattle.machine.specs.declared.several.Several.{Several}
use Rattle.machine.specs.Requests.{call_to_begin, take_refused}
use Rattle.session.specs.Sessions.{SessionState, SessionState.Shut, SessionState.Running}
use Rattle.session.specs.Answers.{code_of, turns_reply, open_reply, page_or, Turns, Asks, Replies}
use Rattle.session.specs.Served.{line_len, NoRoom, RepliesInto}
use Rattle.session.proofs.Keeping.{page_keeps}

-- how long the line of a reply is
abbrev pub short : Reply → ℕ
short (ToOpen c) = 5
short (ToBegin c) = 5
short (ToTurns c u) = 7
short (ToTake e) = 5
short NoFrame = 5

pub length-fed : (r : Reply) → length (fed (reply_line r)) ≡ short r
length-fed (ToOpen c) = refl
length-fed (ToBegin c) = refl
length-fed (ToTurns c u) = refl
length-fed (ToTake e) = refl
length-fed NoFrame = refl

short_turns : (r : Result Several Refusal) → short (turns_reply r) ≡ 7
short_turns (Ok x) = refl
short_turns (Err e) = refl

short_open : (d : SessionState) (z : Result Sizes Refusal) → short (open_reply d z) ≡ 5
short_open d (Ok z) = refl
short_open d (Err e) = refl

-- the line is that of a reply, but for a page
by_reply : (line : List ℕ) (r : Reply) (n : ℕ) → line ≡ reply_line r → short r ≡ n → length (fed line) ≡ n
by_reply line r n e q = ap (λ z. length (fed z)) e ∙ length-fed r ∙ q

five_more : (a b c d : ℕ) (xs : List ℕ) → 5 ≤ length ((a ∷ (b ∷ (c ∷ (d ∷ xs)))) ++ (10 ∷ []))
five_more a b c d xs = omega (arith, length-append xs (10 ∷ []))

page_least : (o : Option Refusal) (s : State) (w : ℕ) → 5 ≤ length (fed (page_or o s w))
page_least None s w = five_more 0x38 0x34 0x30 0x30 _
page_least (Some e) s w = omega (arith, length-fed (ToTake e))

-- no line that replies to a frame is shorter
running_least : (s : State) (f : Frame) (line : List ℕ) (d' : SessionState) → Asks f (Running s) line d' → line_len f ≤ length (fed line)
running_least s (frame.Open o) line d' r = omega (arith, by_reply line (open_reply (Running s) r.sizes) 5 r.reply (short_open (Running s) r.sizes))
running_least s (frame.Begin b) line d' r = omega (arith, by_reply line (ToBegin (code_of (call_to_begin s b))) 5 r.reply refl)
running_least s (frame.Turns w n) line d' r = omega (arith, by_reply line (turns_reply r.several) 7 r.reply (short_turns r.several))
running_least s (frame.Take w) line d' r = rw r.reply (page_least (take_refused s w) s w)

-- where there is less room than a reply takes, none fits
pub running_full : (s : State) (f : Frame) (at size : ℕ) → at ≤ size → size - at < line_len f → NoRoom (Running s) (Ok f) at size
running_full s f at size h l line d' r = omega (arith, running_least s f line d' r)

pub opening_full : (cs : List ℕ) (o : Opening) (at size : ℕ) → at ≤ size → size - at < 5 → NoRoom (Shut cs) (Ok (frame.Open o)) at size
opening_full cs o at size h l line d' r = omega (arith, by_reply line (open_reply (Shut cs) r.sizes) 5 r.reply (short_open (Shut cs) r.sizes))

-- where there is room for a reply, it is written
pub into : (d : SessionState) (f : Result Frame Refusal) (at : ℕ) (reply : Reply) (old new : List ℕ) (r : Option ℕ) (d' : SessionState) → Replies d f (reply_line reply) d' → at ≤ length old → short reply ≤ length old - at → PutWhole at (fed (reply_line reply)) old new r → RepliesInto d f at old new r d'
into d f at reply old new None d' q l h p = absurd (omega (arith, length-fed reply, p.1))
into d f at reply old new (Some n) d' q l h p = record { line = reply_line reply; replies = q; put = p }

pub turns_into : (s : State) (w : ℕ) (n : NonZeroU8) (at : ℕ) (reply : Reply) (old new : List ℕ) (r : Option ℕ) (d' : SessionState) → Turns w (non_zero_u8_get n) s (reply_line reply) d' → at ≤ length old → 7 ≤ length old - at → PutWhole at (fed (reply_line reply)) old new r → RepliesInto (Running s) (Ok (frame.Turns w n)) at old new r d'
turns_into s w n at reply old new r d' q l h p =
    let e : short reply ≡ 7 = sym (length-fed reply) ∙ by_reply (reply_line reply) (turns_reply q.several) 7 q.reply (short_turns q.several) in
    into (Running s) (Ok (frame.Turns w n)) at reply old new r d' q l (omega (arith, e)) p

-- a line that is ignored changes nothing, whether or not its reply fits
ignored_into : (d : SessionState) (f : Result Frame Refusal) (at : ℕ) (old new : List ℕ) (r : Option ℕ) → Replies d f (reply_line NoFrame) d → ((line : List ℕ) (d' : SessionState) → Replies d f line d' → line ≡ reply_line NoFrame) → PutWhole at (fed (reply_line NoFrame)) old new r → RepliesInto d f at old new r d
ignored_into d f at old new None q u p = (p.0, refl, λ line d' a. rw (u line d' a) p.1)
ignored_into d f at old new (Some n) q u p = record { line = reply_line NoFrame; replies = q; put = p }

pub no_frame_into : (d : SessionState) (e : Refusal) (at : ℕ) (old new : List ℕ) (r : Option ℕ) → PutWhole at (fed (reply_line NoFrame)) old new r → RepliesInto d (Err e) at old new r d
no_frame_into d e at old new r p = ignored_into d (Err e) at old new r (record { reply = refl; session = refl }) (λ line d' a. a.reply) p

pub shut_into : (cs : List ℕ) (f : Frame) (at : ℕ) (old new : List ℕ) (r : Option ℕ) → ((o : Opening) → f ≡ frame.Open o → ⊥) → PutWhole at (fed (reply_line NoFrame)) old new r → RepliesInto (Shut cs) (Ok f) at old new r (Shut cs)
shut_into cs (frame.Open o) at old new r n p = absurd (n o refl)
shut_into cs (frame.Begin b) at old new r n p = ignored_into (Shut cs) (Ok (frame.Begin b)) at old new r (record { reply = refl; session = refl }) (λ line d' a. a.reply) p
shut_into cs (frame.Turns w k) at old new r n p = ignored_into (Shut cs) (Ok (frame.Turns w k)) at old new r (record { reply = refl; session = refl }) (λ line d' a. a.reply) p
shut_into cs (frame.Take w) at old new r n p = ignored_into (Shut cs) (Ok (frame.Take w)) at old new r (record { reply = refl; session = refl }) (λ line d' a. a.reply) p

-- a page is written where there is room for it, and the session is as before
pub shown_into : (s s' : State) (w at : ℕ) (old new : List ℕ) (r : Option ℕ) → s' ≡ s → PutWhole at (fed (page_or (take_refused s w) s w)) old new r → RepliesInto (Running s) (Ok (frame.Take w)) at old new r (Running s')
shown_into s s' w at old new None e p = (p.0, ap Running e, λ line d' q. rw q.reply p.1)
shown_into s s' w at old new (Some n) e p = record { line = page_or (take_refused s w) s w; replies = record { reply = refl; session = ap Running e; promise = page_keeps w s (take_refused s w) refl }; put = p }

-- The replies to lines can be computed, and there are no others.
use Rattle.std.proofs.Common.{◌≡◌, ℕ, Bool, true, false, ◌&&◌, List, [], ◌∷◌, Ok, Err, Result, true≢false, sym, refl, subst, arith}
use Rattle.std.specs.NonZero.{non_zero_u8_get}
use Rattle.codes.specs.declared.refusal.Refusal.{Refusal}
use Rattle.frames.specs.declared.frame.Frame.{Frame}
use Rattle.frames.specs.declared.frame.Frame.TheVariants as frame
use Rattle.frames.specs.declared.reply.Reply.TheVariants.{ToBegin, NoFrame}
use Rattle.frames.specs.Hex.{bytes_of}
use Rattle.frames.specs.Frames.{frame_in}
use Rattle.frames.specs.Replies.{reply_line}
use Rattle.machine.specs.declared.request.Request.TheVariants as request
use Rattle.machine.specs.States.{State}
use Rattle.machine.specs.Requests.{call_to_begin, stepped, take_refused}
use Rattle.session.specs.Answers.{code_of, turns_reply, page_or, Replies}
use Rattle.session.specs.Sessions.{SessionState.Running}
use Rattle.session.proofs.Total.{made_turns}
use Rattle.session.proofs.Keeping.{begin_keeps, turns_keep, page_keeps}
use Rattle.session.proofs.Once.{replies_once}
use Rattle.worked.specs.Plays.{Plays, PlaysOnce}

-- the reply line and the state after it
record Played : Type 0 where
  line : List ℕ
  state : State

-- what a frame makes of an open run; an opening is left out
abbrev play : State → Result Frame Refusal → Played
play s (Err e) = record { line = reply_line NoFrame; state = s }
play s (Ok (frame.Open o)) = record { line = []; state = s }
play s (Ok (frame.Begin b)) = record { line = reply_line (ToBegin (code_of (call_to_begin s b))); state = stepped s (request.Begin b) }
play s (Ok (frame.Turns w n)) = record {
  line = reply_line (turns_reply (made_turns s w (non_zero_u8_get n)).several);
  state = (made_turns s w (non_zero_u8_get n)).state;
}
play s (Ok (frame.Take w)) = record { line = page_or (take_refused s w) s w; state = s }

abbrev opens_nothing : Result Frame Refusal → Bool
opens_nothing (Ok (frame.Open o)) = false
opens_nothing (Ok (frame.Begin b)) = true
opens_nothing (Ok (frame.Turns w n)) = true
opens_nothing (Ok (frame.Take w)) = true
opens_nothing (Err e) = true

-- it is the reply
played : (s : State) (f : Result Frame Refusal) → opens_nothing f ≡ true → Replies (Running s) f (play s f).line (Running (play s f).state)
played s (Err e) q = record { reply = refl; session = refl }
played s (Ok (frame.Open o)) q = absurd (true≢false (sym q))
played s (Ok (frame.Begin b)) q = record { reply = refl; session = refl; promise = begin_keeps b s }
played s (Ok (frame.Turns w n)) q = record {
  several = (made_turns s w (non_zero_u8_get n)).several;
  state = (made_turns s w (non_zero_u8_get n)).state;
  made = (made_turns s w (non_zero_u8_get n)).made;
  reply = refl;
  session = refl;
  promise = turns_keep s w (non_zero_u8_get n) _ _ (made_turns s w (non_zero_u8_get n)).made;
}
played s (Ok (frame.Take w)) q = record { reply = refl; session = refl; promise = page_keeps w s (take_refused s w) refl }

-- the replies to lines, none of which opens
abbrev pub replies : State → List (List ℕ) → List (List ℕ)
replies s [] = []
replies s (line ∷ lines) = (play s (frame_in (bytes_of line))).line ∷ replies (play s (frame_in (bytes_of line))).state lines

abbrev pub none_opens : List (List ℕ) → Bool
none_opens [] = true
none_opens (line ∷ lines) = opens_nothing (frame_in (bytes_of line)) && none_opens lines

both : (a b : Bool) → (a && b) ≡ true → (a ≡ true) × (b ≡ true)
both a b e = grind arith

plays_on : (s : State) (lines : List (List ℕ)) → none_opens lines ≡ true → Plays (Running s) lines (replies s lines)
plays_on s [] q = tt
plays_on s (line ∷ lines) q =
    let p = both (opens_nothing (frame_in (bytes_of line))) (none_opens lines) q in
    (Running (play s (frame_in (bytes_of line))).state, played s (frame_in (bytes_of line)) p.0, plays_on (play s (frame_in (bytes_of line))).state lines p.1)

-- lines that open nothing, with the replies that they are computed to have
pub plays : (s : State) (lines out : List (List ℕ)) → none_opens lines ≡ true → replies s lines ≡ out → Plays (Running s) lines out
plays s lines out q e = rw e at (plays_on s lines q)

both_same : (l m : List ℕ) (ls ms : List (List ℕ)) → l ≡ m → ls ≡ ms → (l ∷ ls) ≡ (m ∷ ms)
both_same l m ls ms e f = cc

-- each line has one reply and leads to one session, from which the next goes on
pub plays_once : PlaysOnce
plays_once d [] [] [] p q = refl
plays_once d [] [] (m ∷ ms) p q = absurd q
plays_once d [] (l ∷ ls) out p q = absurd p
plays_once d (line ∷ lines) [] out p q = absurd p
plays_once d (line ∷ lines) (l ∷ ls) [] p q = absurd q
plays_once d (line ∷ lines) (l ∷ ls) (m ∷ ms) p q =
    let r = replies_once d (frame_in (bytes_of line)) l m p.0 q.0 p.1 q.1 in
    both_same l m ls ms r.0 (plays_once q.0 lines ls ms (subst (λ e. Plays e lines ls) r.1 p.2) q.2)

-- Replying line by line.
use Rattle.std.proofs.Common.{◌≡◌, ℕ, ◌+◌, ◌-◌, ◌<◌, ◌≤◌, Bool, true, false, cond, List, [], ◌++◌, length, take, drop, nat_lt, Some, None, Option, is_some, Ok, Err, Result, refl, sym, ap, ◌∙◌, inl, inr, arith}
use Rattle.std.proofs.lemmas.List.{drop-drop, nil_from_length, append_assoc, append-nil}
use Rattle.codes.specs.declared.refusal.Refusal.{Refusal}
use Rattle.codes.specs.declared.refusal.Refusal.TheVariants.{TooFewCells}
use Rattle.layout.specs.declared.sizes.Sizes.{Sizes}
use Rattle.layout.specs.Layout.{needed}
use Rattle.frames.specs.Frames.{frame_in}
use Rattle.frames.specs.Hex.{bytes_of}
use Rattle.frames.specs.Areas.{Put, PutWhole}
use Rattle.frames.specs.Replies.{reply_line, fed}
use Rattle.frames.specs.declared.frame.Frame.{Frame}
use Rattle.frames.specs.declared.frame.Frame.TheVariants as frame
use Rattle.frames.specs.declared.reply.Reply.TheVariants.{ToOpen}
use Rattle.session.specs.Answers.{open_reply, Ignores, Replies}
use Rattle.session.specs.Sessions.{SessionState, SessionState.Shut, SessionState.Running}
use Rattle.session.specs.Texts.{line_of, behind_line}
use Rattle.session.specs.Served.{Served, Served.nothing_yet, Served.one_more, LineReplies, NoRoom, Written, RepliesInto}
use Rattle.replay.specs.Replayed.{Through, Replayed, Replays, opened_or, Until}
use Rattle.stepper.specs.Lent.{fresh_state}
use Rattle.machine.specs.States.{State}

drop_further : (xs ys : List ℕ) (k m : ℕ) → k ≤ m → drop k xs ≡ drop k ys → drop m xs ≡ drop m ys
drop_further xs ys k m h e =
    let f : k + (m - k) ≡ m = omega arith in
    ap (λ i. drop i xs) (sym f) ∙ sym (drop-drop (m - k) k xs) ∙ ap (drop (m - k)) e ∙ drop-drop (m - k) k ys ∙ ap (λ i. drop i ys) f

-- two texts put in one behind the other
put_then : (a b old mid new : List ℕ) (at k m : ℕ) → Put at a old mid k → Put k b mid new m → Put at (a ++ b) old new m
put_then a b old mid new at k m p q = record {
  grows = omega (arith, p.grows, q.grows);
  within = q.within;
  front = q.front ∙ ap (λ zs. zs ++ b) p.front ∙ append_assoc (take at old) a b;
  behind = q.behind ∙ drop_further mid old k m q.grows p.behind;
}

-- the lines of a text in two goes
served_then : (d e : SessionState) (text mid a : List ℕ) (rest b : List ℕ) (f : SessionState) → Served d text mid a e → Served e mid rest b f → Served d text rest (a ++ b) f
served_then d e text mid a rest b f i nothing_yet = rw (append-nil a) i
served_then d e text mid a rest b f i (one_more rest' out line e' f' j h r) =
    rw (sym (append_assoc a out (fed line))) (one_more rest' (a ++ out) line e' f' (served_then d e text mid a rest' out e' i j) h r)

-- the reply to the frame of the first line of a text
replies_to : (e f : SessionState) (rest line : List ℕ) (x : Result Frame Refusal) → x ≡ frame_in (bytes_of (line_of rest)) → Replies e x line f → LineReplies e rest line f
replies_to e f rest line x q a = rw q at a

pub through_nothing : (d : SessionState) (text old : List ℕ) (at : ℕ) → at ≤ length old → Through d text old old at at text d
through_nothing d text old at h = record {
  written = [];
  served = nothing_yet;
  put = record { grows = omega arith; within = h; front = sym (append-nil (take at old)); behind = refl };
}

pub through_more : (d e f : SessionState) (text old rest mid new behind : List ℕ) (at k m : ℕ) (x : Result Frame Refusal) → Through d text old mid at k rest e → 0 < length rest → x ≡ frame_in (bytes_of (line_of rest)) → behind ≡ behind_line rest → Written e x k mid new m f → Through d text old new at m behind f
through_more d e f text old rest mid new behind at k m x i h q b w =
    rw b (record {
      written = i.written ++ fed w.line;
      served = one_more rest i.written w.line e f i.served h (replies_to e f rest w.line x q w.replies);
      put = put_then i.written (fed w.line) old mid new at k m i.put w.put;
    })

pub through_all : (d e : SessionState) (text old rest new : List ℕ) (at k : ℕ) → Through d text old new at k rest e → length rest ≡ 0 → Replayed d text old new at k e
through_all d e text old rest new at k i h = record { rest = rest; through = i; ended = inl (nil_from_length rest h) }

pub through_full : (d e f : SessionState) (text old rest mid new : List ℕ) (at k : ℕ) (x : Result Frame Refusal) → Through d text old mid at k rest e → 0 < length rest → x ≡ frame_in (bytes_of (line_of rest)) → (new ≡ mid) × (f ≡ e) × NoRoom e x k (length mid) → Replayed d text old new at k f
through_full d e f text old rest mid new at k x i h q p =
    rw (p.0, p.1) (record { rest = rest; through = i; ended = inr (record { some = h; full = rw q at p.2 }) })

-- the lines up to one, and then the others
pub through_then : (d e f : SessionState) (text old rest mid new : List ℕ) (at k m : ℕ) → Through d text old mid at k rest e → Replayed e rest mid new k m f → Replayed d text old new at m f
through_then d e f text old rest mid new at k m i r = record {
  rest = r.rest;
  through = record {
    written = i.written ++ r.through.written;
    served = served_then d e text rest i.written r.rest r.through.written f i.served r.through.served;
    put = put_then i.written r.through.written old mid new at k m i.put r.through.put;
  };
  ended = r.ended;
}

pub within_area : (d e : SessionState) (text old new rest : List ℕ) (at k : ℕ) → Through d text old new at k rest e → k ≤ length new
within_area d e text old new rest at k i = i.put.within

-- one line more, while nothing is open before it: a run that it opens, or none
module _ (cs cs' now text old rest mid new behind : List ℕ) (k m : ℕ) (x : Result Frame Refusal) where
  pub through_closed : (o : Option Sizes) → Through (Shut cs) text old mid 0 k rest (Shut cs') → 0 < length rest → x ≡ frame_in (bytes_of (line_of rest)) → behind ≡ behind_line rest → Written (Shut cs') x k mid new m (opened_or now o) → is_some o ≡ false → Through (Shut cs) text old new 0 m behind (Shut now)
  through_closed None i h q b w e = through_more (Shut cs) (Shut cs') (Shut now) text old rest mid new behind 0 k m x i h q b w
  through_closed (Some z) i h q b w e = cc

  pub until_opened : (o : Option Sizes) → Through (Shut cs) text old mid 0 k rest (Shut cs') → 0 < length rest → x ≡ frame_in (bytes_of (line_of rest)) → behind ≡ behind_line rest → Written (Shut cs') x k mid new m (opened_or now o) → is_some o ≡ true → Until cs text old new m behind now o
  until_opened None i h q b w e = cc
  until_opened (Some z) i h q b w e = through_more (Shut cs) (Shut cs') (Running (fresh_state now z)) text old rest mid new behind 0 k m x i h q b w

-- the whole replay
pub replays : (cs now text old rest mid new after : List ℕ) (k m : ℕ) (z : Sizes) (s₀ s : State) → Until cs text old mid k rest now (Some z) → s₀ ≡ fresh_state now z → Replayed (Running s₀) rest mid new k m (Running s) → after ≡ s.cells → Replays cs text old new m after
replays cs now text old rest mid new after k m z s₀ s i q r e = record {
  session = Running s;
  replayed = through_then (Shut cs) (Running (fresh_state now z)) (Running s) text old rest mid new 0 k m i (rw q at r);
  cells = e;
}

too_few_length : (b : Bool) → length (fed (reply_line (ToOpen (cond b (Err TooFewCells) (Ok None))))) ≡ 5
too_few_length true = refl
too_few_length false = refl

-- while nothing is open each reply line has two bytes
module _ (cs : List ℕ) where
  open_length : (x : Result Sizes Refusal) → length (fed (reply_line (open_reply (Shut cs) x))) ≡ 5
  open_length (Err e) = refl
  open_length (Ok z) = too_few_length (nat_lt (length cs) (needed z))

  ignored_length : (line : List ℕ) (d : SessionState) → Ignores (Shut cs) line d → length (fed line) ≡ 5
  ignored_length line d i = ap (λ l. length (fed l)) i.reply

  pub closed_length : (f : Result Frame Refusal) (line : List ℕ) (d : SessionState) → Replies (Shut cs) f line d → length (fed line) ≡ 5
  closed_length (Err e) line d r = ignored_length line d r
  closed_length (Ok (frame.Open o)) line d r = ap (λ l. length (fed l)) r.reply ∙ open_length r.sizes
  closed_length (Ok (frame.Begin b)) line d r = ignored_length line d r
  closed_length (Ok (frame.Turns w n)) line d r = ignored_length line d r
  closed_length (Ok (frame.Take w)) line d r = ignored_length line d r

  -- so where there are fewer bytes none fits
  pub closed_full : (f : Result Frame Refusal) (at size : ℕ) → at ≤ size → size - at < 5 → NoRoom (Shut cs) f at size
  closed_full f at size h n line d r = omega (arith, closed_length f line d r)

  -- and where there are as many it fits
  pub closed_put : (f : Result Frame Refusal) (line old new : List ℕ) (d : SessionState) (at : ℕ) (o : Option ℕ) → at ≤ length old → 5 ≤ length old - at → Replies (Shut cs) f line d → PutWhole at (fed line) old new o → RepliesInto (Shut cs) f at old new o d
  closed_put f line old new d at None h n r p = absurd (omega (arith, closed_length f line d r, p.1))
  closed_put f line old new d at (Some m) h n r p = record { line = line; replies = r; put = p }

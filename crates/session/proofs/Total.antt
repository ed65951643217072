-- Every frame has a reply, and none is longer than the page of 64 keys.
use Rattle.std.proofs.Common.{◌≡◌, ℕ, ◌+◌, ◌*◌, ◌≤◌, Bool, true, false, cond, List, [], ◌∷◌, length, map, take, drop, Some, None, Ok, Err, Option, Result, sym, refl, ap, mul-le-mul, arith}
use Rattle.std.proofs.lemmas.Bool.Decides.{nat_tests}
use Rattle.std.proofs.lemmas.List.{length-append, length-map, length-drop, length-take}
use Rattle.std.specs.NonZero.{non_zero_u8_get}
use Rattle.codes.specs.declared.refusal.Refusal.{Refusal}
use Rattle.codes.specs.declared.refusal.Refusal.TheVariants.{SizeOutside}
use Rattle.frames.specs.declared.frame.Frame.{Frame}
use Rattle.frames.specs.declared.frame.Frame.TheVariants as frame
use Rattle.frames.specs.declared.reply.Reply.{Reply}
use Rattle.frames.specs.declared.reply.Reply.TheVariants.{ToOpen, ToBegin, ToTurns, ToTake, NoFrame}
use Rattle.frames.specs.Replies.{key_byte, weight_bytes, page_bytes, reply_line, page_line, fed}
use Rattle.frames.proofs.Appending.{length-hex_of, length-weight_bytes}
use Rattle.layout.specs.declared.opening.Opening.{Opening}
use Rattle.layout.specs.declared.sizes.Sizes.{Sizes}
use Rattle.layout.specs.Layout.{page_start}
use Rattle.layout.specs.Limits.{Numbers, lawful, sized_as, numbers_of}
use Rattle.machine.specs.States.{State}
use Rattle.machine.specs.Pages.{page_in}
use Rattle.machine.specs.declared.request.Request.TheVariants as request
use Rattle.machine.specs.declared.several.Several.{Several}
use Rattle.machine.specs.Requests.{call_to_begin, stepped, turn_refused, take_refused}
use Rattle.machine.specs.Several.{TurnsMadeOr, turns_made}
use Rattle.machine.proofs.SeveralTurns.{turns_made_stand}
use Rattle.session.specs.Sessions.{SessionState, SessionState.Shut, SessionState.Running}
use Rattle.session.specs.Answers.{code_of, turns_reply, open_reply, open_session, page_or, Replies}
use Rattle.session.proofs.Answering.{short, length-fed}
use Rattle.session.proofs.Keeping.{opening_keeps, begin_keeps, turns_keep, page_keeps}

-- what up to n turns come to
pub record Made (s : State) (w n : ℕ) : Type 0 where
  pub several : Result Several Refusal
  pub state : State
  pub made : TurnsMadeOr s w n several state

abbrev turns_or : (s : State) (w n : ℕ) (e : Option Refusal) → e ≡ turn_refused s w → Made s w n
turns_or s w n None q = record {
  several = Ok (turns_made s w 0 n).several;
  state = (turns_made s w 0 n).state;
  made = (q, turns_made_stand s w n);
}
turns_or s w n (Some e) q = record { several = Err e; state = s; made = (q, refl) }

abbrev pub made_turns : (s : State) (w n : ℕ) → Made s w n
made_turns s w n = turns_or s w n (turn_refused s w) refl

-- the sizes of an opening, or their refusal
record Sized (o : Opening) : Type 0 where
  sizes : Result Sizes Refusal
  made : numbers_of sizes ≡ sized_as o

within : (n w a b t : ℕ) → lawful n w a b t ≡ true → ((1 ≤ n) × (n ≤ 64)) × ((1 ≤ w) × (w ≤ 8)) × ((1 ≤ a) × (a ≤ 256)) × ((1 ≤ b) × (b ≤ 2048)) × ((1 ≤ t) × (t ≤ 1000000000))
within n w a b t e = grind (arith, nat_tests)

abbrev numbers_or : Opening → Bool → Result Numbers Refusal
numbers_or o q = cond q (Ok (record { keys = o.keys; workers = o.workers; vrows = o.vrows; erows = o.erows; top = o.top })) (Err SizeOutside)

sized_or : (o : Opening) (q : Bool) → lawful o.keys o.workers o.vrows o.erows o.top ≡ q → Sized o
sized_or o false e = record { sizes = Err SizeOutside; made = sym (ap (λ q. numbers_or o q) e) }
sized_or o true e =
    let p = within o.keys o.workers o.vrows o.erows o.top e in
    record {
      sizes = Ok (record { keys = o.keys; workers = o.workers; vrows = o.vrows; erows = o.erows; top = o.top; keyed = p.0; staffed = p.1; vrowed = p.2; erowed = p.3; timed = p.4 });
      made = sym (ap (λ q. numbers_or o q) e);
    }

-- a reply that is no longer
pub record Replied (d : SessionState) (f : Result Frame Refusal) : Type 0 where
  pub line : List ℕ
  pub session : SessionState
  pub replies : Replies d f line session
  pub least : length (fed line) ≤ 32901

by_reply : (d : SessionState) (f : Result Frame Refusal) (reply : Reply) (d' : SessionState) → Replies d f (reply_line reply) d' → Replied d f
by_reply d f reply d' r = record { line = reply_line reply; session = d'; replies = r; least = omega (arith, length-fed reply, brief reply) }
  where
    brief : (reply : Reply) → short reply ≤ 7
    brief (ToOpen c) = omega arith
    brief (ToBegin c) = omega arith
    brief (ToTurns c u) = omega arith
    brief (ToTake e) = omega arith
    brief NoFrame = omega arith

square : (n : ℕ) → n ≤ 64 → n * n ≤ 4096
square n h = mul-le-mul h h

page_len_most : (n m : ℕ) (cells : List ℕ) → n ≤ 64 → m ≤ 4096 → length cells ≤ n + m → length (fed (page_line n cells)) ≤ 32901
page_len_most n m cells h k l =
    omega (
      arith,
      length-append (page_line n cells) (10 ∷ []),
      length-hex_of (page_bytes n cells),
      length-append (map key_byte (take n cells)) (weight_bytes (drop n cells)),
      length-map (take n cells) key_byte,
      length-take n cells,
      length-weight_bytes (drop n cells),
      length-drop n cells,
    )

page_most : (o : Option Refusal) (s : State) (w : ℕ) → length (fed (page_or o s w)) ≤ 32901
page_most None s w =
    page_len_most s.sizes.keys (s.sizes.keys * s.sizes.keys) (page_in s w) (s.sizes.keyed.1) (square s.sizes.keys (s.sizes.keyed.1))
    (omega (arith, length-take (s.sizes.keys + s.sizes.keys * s.sizes.keys) (drop (page_start s.sizes w) s.cells)))
page_most (Some e) s w = omega (arith, length-fed (ToTake e))

pub replied : (d : SessionState) (f : Result Frame Refusal) → Replied d f
replied d (Err e) = by_reply d (Err e) NoFrame d (record { reply = refl; session = refl })
replied d (Ok (frame.Open o)) =
    let z : Sized o = sized_or o (lawful o.keys o.workers o.vrows o.erows o.top) refl in
    by_reply d (Ok (frame.Open o)) (open_reply d z.sizes) (open_session d z.sizes) (record { sizes = z.sizes; made = z.made; reply = refl; session = refl; promise = opening_keeps d z.sizes })
replied (Shut cs) (Ok (frame.Begin b)) = by_reply (Shut cs) (Ok (frame.Begin b)) NoFrame (Shut cs) (record { reply = refl; session = refl })
replied (Shut cs) (Ok (frame.Turns w n)) = by_reply (Shut cs) (Ok (frame.Turns w n)) NoFrame (Shut cs) (record { reply = refl; session = refl })
replied (Shut cs) (Ok (frame.Take w)) = by_reply (Shut cs) (Ok (frame.Take w)) NoFrame (Shut cs) (record { reply = refl; session = refl })
replied (Running s) (Ok (frame.Begin b)) =
    by_reply (Running s) (Ok (frame.Begin b)) (ToBegin (code_of (call_to_begin s b))) (Running (stepped s (request.Begin b))) (record { reply = refl; session = refl; promise = begin_keeps b s })
replied (Running s) (Ok (frame.Turns w n)) =
    let m : Made s w (non_zero_u8_get n) = made_turns s w (non_zero_u8_get n) in
    by_reply (Running s) (Ok (frame.Turns w n)) (turns_reply m.several) (Running m.state) (record { several = m.several; state = m.state; made = m.made; reply = refl; session = refl; promise = turns_keep s w (non_zero_u8_get n) m.several m.state m.made })
replied (Running s) (Ok (frame.Take w)) = record {
  line = page_or (take_refused s w) s w;
  session = Running s;
  replies = record { reply = refl; session = refl; promise = page_keeps w s (take_refused s w) refl };
  least = page_most (take_refused s w) s w;
}

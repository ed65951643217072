-- A frame has one reply, and leads to one session.
use Rattle.std.proofs.Common.{◌≡◌, ℕ, ◌≤◌, List, Some, Ok, Err, Option, Result, sym, ap, ◌∙◌, subst}
use Rattle.std.proofs.lemmas.Option.{none-some}
use Rattle.std.proofs.Math.Bridge.{le_prop}
use Rattle.std.specs.NonZero.{non_zero_u8_get}
use Rattle.codes.specs.declared.answer.Answer.{Answer}
use Rattle.codes.specs.declared.refusal.Refusal.{Refusal}
use Rattle.frames.specs.declared.frame.Frame.TheVariants as frame
use Rattle.frames.specs.Replies.{reply_line}
use Rattle.layout.specs.declared.opening.Opening.{Opening}
use Rattle.layout.specs.declared.sizes.Sizes.{Sizes}
use Rattle.layout.specs.Limits.{Numbers, numbers_of}
use Rattle.machine.specs.declared.several.Several.{Several}
use Rattle.machine.specs.States.{State}
use Rattle.machine.specs.Several.{TurnsMadeOr}
use Rattle.machine.proofs.SeveralTurns.{turns_made_once}
use Rattle.session.specs.Sessions.{SessionState, SessionState.Shut, SessionState.Running}
use Rattle.session.specs.Answers.{turns_reply, open_reply, open_session, Opens, Turns}
use Rattle.session.specs.Laws.{RepliesOnce}

-- that a number is within limits is shown in one way
within_same : (l n h : ℕ) (p q : (l ≤ n) × (n ≤ h)) → p ≡ q
within_same l n h p q = ap (λ (x : l ≤ n). (x, p.1)) (le_prop p.0 q.0) ∙ ap (λ (x : n ≤ h). (q.0, x)) (le_prop p.1 q.1)

abbrev numbers : Sizes → Numbers
numbers z = record { keys = z.keys; workers = z.workers; vrows = z.vrows; erows = z.erows; top = z.top }

abbrev sizes_of : (m : Numbers) → (1 ≤ m.keys) × (m.keys ≤ 64) → (1 ≤ m.workers) × (m.workers ≤ 8) → (1 ≤ m.vrows) × (m.vrows ≤ 256) → (1 ≤ m.erows) × (m.erows ≤ 2048) → (1 ≤ m.top) × (m.top ≤ 1000000000) → Sizes
sizes_of m a b c d e = record { keys = m.keys; workers = m.workers; vrows = m.vrows; erows = m.erows; top = m.top; keyed = a; staffed = b; vrowed = c; erowed = d; timed = e }

-- sizes are their five numbers
of_numbers : (z : Sizes) (m : Numbers) → numbers z ≡ m → (a : (1 ≤ m.keys) × (m.keys ≤ 64)) (b : (1 ≤ m.workers) × (m.workers ≤ 8)) (c : (1 ≤ m.vrows) × (m.vrows ≤ 256)) (d : (1 ≤ m.erows) × (m.erows ≤ 2048)) (e : (1 ≤ m.top) × (m.top ≤ 1000000000)) → sizes_of m a b c d e ≡ z
of_numbers z m q =
    subst
    (λ (m : Numbers). (a : (1 ≤ m.keys) × (m.keys ≤ 64)) (b : (1 ≤ m.workers) × (m.workers ≤ 8)) (c : (1 ≤ m.vrows) × (m.vrows ≤ 256)) (d : (1 ≤ m.erows) × (m.erows ≤ 2048)) (e : (1 ≤ m.top) × (m.top ≤ 1000000000)) → sizes_of m a b c d e ≡ z)
    q
    (λ a b c d e.
    ap (λ x. sizes_of (numbers z) x b c d e) (within_same 1 z.keys 64 a z.keyed)
    ∙ ap (λ x. sizes_of (numbers z) z.keyed x c d e) (within_same 1 z.workers 8 b z.staffed)
    ∙ ap (λ x. sizes_of (numbers z) z.keyed z.staffed x d e) (within_same 1 z.vrows 256 c z.vrowed)
    ∙ ap (λ x. sizes_of (numbers z) z.keyed z.staffed z.vrowed x e) (within_same 1 z.erows 2048 d z.erowed)
    ∙ ap (λ x. sizes_of (numbers z) z.keyed z.staffed z.vrowed z.erowed x) (within_same 1 z.top 1000000000 e z.timed))

-- so what an opening asks for is made in one way, or refused with one code
sized_once : (y z : Result Sizes Refusal) → numbers_of y ≡ numbers_of z → y ≡ z
sized_once (Ok y) (Ok z) e =
    let q : numbers z ≡ numbers y = cc in
    ap Ok (of_numbers z (numbers y) q y.keyed y.staffed y.vrowed y.erowed y.timed)
sized_once (Ok y) (Err f) e = cc
sized_once (Err e) (Ok z) q = cc
sized_once (Err e) (Err f) q = cc

opens_once : (o : Opening) (d : SessionState) (l m : List ℕ) (d' e : SessionState) → Opens o d l d' → Opens o d m e → (l ≡ m) × (d' ≡ e)
opens_once o d l m d' e p q =
    let z : p.sizes ≡ q.sizes = sized_once p.sizes q.sizes (p.made ∙ sym q.made) in
    (p.reply ∙ ap (λ r. reply_line (open_reply d r)) z ∙ sym q.reply, p.session ∙ ap (open_session d) z ∙ sym q.session)

abbrev several : Option Answer → ℕ → Several
several a i = record { answer = a; used = i }

several_same : (a b : Option Answer) (i j : ℕ) → a ≡ b → i ≡ j → several a i ≡ several b j
several_same a b i j e f = ap (λ x. several x i) e ∙ ap (several b) f

abbrev refused : Refusal → Result Several Refusal
refused e = Err e

err_same : (e f : Refusal) → Some e ≡ Some f → refused e ≡ refused f
err_same e f q = cc

-- several turns have one result and one state, refused or not
several_once : (s : State) (w n : ℕ) (x y : Result Several Refusal) (t u : State) → TurnsMadeOr s w n x t → TurnsMadeOr s w n y u → (x ≡ y) × (t ≡ u)
several_once s w n (Ok x) (Ok y) t u p q =
    let r = turns_made_once s w n x.answer y.answer x.used y.used t u p.1 q.1 in
    (ap Ok (several_same x.answer y.answer x.used y.used r.0 r.1), r.2)
several_once s w n (Ok x) (Err f) t u p q = absurd (none-some f (p.0 ∙ sym q.0))
several_once s w n (Err e) (Ok y) t u p q = absurd (none-some e (q.0 ∙ sym p.0))
several_once s w n (Err e) (Err f) t u p q = (err_same e f (p.0 ∙ sym q.0), p.1 ∙ sym q.1)

turns_once : (w n : ℕ) (s : State) (l m : List ℕ) (d' e : SessionState) → Turns w n s l d' → Turns w n s m e → (l ≡ m) × (d' ≡ e)
turns_once w n s l m d' e p q =
    let r = several_once s w n p.several q.several p.state q.state p.made q.made in
    (p.reply ∙ ap (λ x. reply_line (turns_reply x)) r.0 ∙ sym q.reply, p.session ∙ ap Running r.1 ∙ sym q.session)

-- each frame by what it asks for
pub replies_once : RepliesOnce
replies_once d (Err f) l m d' e p q = (p.reply ∙ sym q.reply, p.session ∙ sym q.session)
replies_once d (Ok (frame.Open o)) l m d' e p q = opens_once o d l m d' e p q
replies_once (Shut cs) (Ok (frame.Begin b)) l m d' e p q = (p.reply ∙ sym q.reply, p.session ∙ sym q.session)
replies_once (Shut cs) (Ok (frame.Turns w n)) l m d' e p q = (p.reply ∙ sym q.reply, p.session ∙ sym q.session)
replies_once (Shut cs) (Ok (frame.Take w)) l m d' e p q = (p.reply ∙ sym q.reply, p.session ∙ sym q.session)
replies_once (Running s) (Ok (frame.Begin b)) l m d' e p q = (p.reply ∙ sym q.reply, p.session ∙ sym q.session)
replies_once (Running s) (Ok (frame.Turns w n)) l m d' e p q = turns_once w (non_zero_u8_get n) s l m d' e p q
replies_once (Running s) (Ok (frame.Take w)) l m d' e p q = (p.reply ∙ sym q.reply, p.session ∙ sym q.session)

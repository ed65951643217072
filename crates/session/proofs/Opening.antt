-- How an opening goes on over a memory that nothing is open on.
use Rattle.std.proofs.Common.{◌≡◌, if◌then◌else◌, Bool, true, false, Ok, Err, List, ℕ, nat_lt, length, None, Result, refl, ap, sym, ◌∙◌}
use Rattle.codes.specs.declared.refusal.Refusal.{Refusal}
use Rattle.codes.specs.declared.refusal.Refusal.TheVariants.{TooFewCells}
use Rattle.layout.specs.declared.opening.Opening.{Opening}
use Rattle.layout.specs.declared.sizes.Sizes.{Sizes}
use Rattle.layout.specs.Limits.{sized_as, numbers_of}
use Rattle.layout.specs.Layout.{needed}
use Rattle.frames.specs.declared.reply.Reply.TheVariants.{ToOpen}
use Rattle.frames.specs.Replies.{reply_line}
use Rattle.machine.specs.States.{State}
use Rattle.machine.specs.Opening.{opened, opened_state}
use Rattle.session.specs.Sessions.{SessionState.Shut, SessionState.Running}
use Rattle.session.specs.Answers.{Opens, open_reply, open_session}
use Rattle.session.proofs.Keeping.{opening_keeps}

-- a run was made, so there are enough cells
enough : (b : Bool) (r : List ℕ × Refusal) (s t : State) → Ok s ≡ if b then Err r else Ok t → (b ≡ false) × (s ≡ t)
enough true r s t e = cc
enough false r s t e = (refl, cc)

-- a run that an opening made is what the opening asked for
pub opens_run : (o : Opening) (cs : List ℕ) (z : Sizes) (s : State) → numbers_of (Ok z) ≡ sized_as o → Ok s ≡ opened cs z → Opens o (Shut cs) (reply_line (ToOpen (Ok None))) (Running s)
opens_run o cs z s m e =
    let made : (nat_lt (length cs) (needed z) ≡ false) × (s ≡ opened_state cs z) = enough (nat_lt (length cs) (needed z)) (cs, TooFewCells) s (opened_state cs z) e in
    record {
      sizes = Ok z;
      made = m;
      reply = sym (ap (λ b. reply_line (ToOpen (if b then Err TooFewCells else Ok None))) made.0);
      session = ap Running made.1 ∙ sym (ap (λ b. if b then Shut cs else Running (opened_state cs z)) made.0);
      promise = opening_keeps (Shut cs) (Ok z);
    }

pub not_both : {A B : Type 0} (r : Result A B) (a : A) (b : B) → r ≡ Ok a → r ≡ Err b → ⊥
not_both r a b p q = cc

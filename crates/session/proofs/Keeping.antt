-- Each frame keeps the promise of the run.
use Rattle.std.proofs.Common.{◌≡◌, ℕ, [], ◌∷◌, Some, None, Ok, Err, Option, Result, sym, refl, ap, ◌∙◌}
use Rattle.codes.specs.declared.refusal.Refusal.{Refusal}
use Rattle.layout.specs.declared.sizes.Sizes.{Sizes}
use Rattle.places.specs.declared.call.Begin.{Begin}
use Rattle.machine.specs.declared.request.Request.TheVariants.{Begin as AsBegin, Turn, Take, Give}
use Rattle.machine.specs.declared.request.Reply.TheVariants.{Done, Taken, Refused}
use Rattle.machine.specs.declared.several.Several.{Several}
use Rattle.machine.specs.States.{State}
use Rattle.machine.specs.Turns.{answer_at, turned}
use Rattle.machine.specs.Requests.{turn_refused, take_refused, ticket_of, ticket_refused, with_page, unless_refused, answered_or, taken_or, done_unless, state_or, done_or, call_to_begin, stepped}
use Rattle.machine.specs.Several.{TurnsMadeOr}
use Rattle.machine.specs.declared.worker.PageState.TheVariants as page
use Rattle.machine.proofs.Extending.{extends}
use Rattle.machine.proofs.SeveralTurns.{made_continues}
use Rattle.promise.specs.Several.{TurnsKept}
use Rattle.promise.proofs.Contracts.{opening_kept, request_kept, events_kept}
use Rattle.session.specs.Sessions.{SessionState, cells_of}
use Rattle.session.specs.Kept.{OpeningKept, BeginKept, PageKept}
use Rattle.session.proofs.GivingBack.{good_after, given_back}

pub opening_keeps : (d : SessionState) (z : Result Sizes Refusal) → OpeningKept d z
opening_keeps d (Ok z) = opening_kept (cells_of d) z
opening_keeps d (Err e) = tt

pub begin_keeps : (b : Begin) (s : State) → BeginKept b s
begin_keeps b s = request_kept s (stepped s (AsBegin b)) (AsBegin b) (done_or (call_to_begin s b)) (extends s (stepped s (AsBegin b)) (AsBegin b) _ refl refl)

pub turns_keep : (s : State) (w n : ℕ) (r : Result Several Refusal) (s' : State) → TurnsMadeOr s w n r s' → TurnsKept s w r s'
turns_keep s w n (Ok x) s' made = events_kept s s' _ (made_continues s s' w x.used (sym made.0) made.1.state made.1.quiet)
turns_keep s w n (Err e) s' made =
    request_kept s s' (Turn w) (Refused e) (extends s s' (Turn w) (Refused e)
    (ap (λ o. answered_or (unless_refused o (answer_at s w))) made.0)
    (made.1 ∙ ap (λ o. state_or o s (turned s w)) made.0))

pub page_keeps : (w : ℕ) (s : State) (o : Option Refusal) → take_refused s w ≡ o → PageKept w s o
page_keeps w s (Some e) q =
    request_kept s s (Take w) (Refused e) (extends s s (Take w) (Refused e)
    (sym (ap (λ o. taken_or (unless_refused o (ticket_of s w))) q))
    (sym (ap (λ o. state_or o s (with_page s w page.Out)) q)))
page_keeps w s None q =
    events_kept s s _ (λ start h t. (
      stepped s (Take w),
      (s, t, sym (ap (λ o. taken_or (unless_refused o (ticket_of s w))) q), refl),
      sym (ap done_unless (good_after s w q)),
      sym (given_back s w q),
    ))

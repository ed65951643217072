-- Which call a worker has open after a step.
use Rattle.std.proofs.Common.{◌≡◌, ℕ, suc, false, Some, None, Option, sym, refl, ap, ◌∙◌}
use Rattle.std.proofs.lemmas.Bool.{eq-eqb, ne_eqb}
use Rattle.codes.specs.declared.answer.Answer.{Answer}
use Rattle.places.specs.declared.call.Begin.{Begin}
use Rattle.machine.specs.declared.request.Request.{Request}
use Rattle.machine.specs.declared.request.Request.TheVariants as request
use Rattle.machine.specs.declared.request.Reply.{Reply}
use Rattle.machine.specs.declared.request.Reply.TheVariants as reply
use Rattle.machine.specs.Requests.{reply_of}
use Rattle.questions.specs.Graph.{Graph}
use Rattle.order.specs.Seen.{CallSight.neither, open_after, open_call}
use Rattle.runs.specs.Runs.{RunInTime}
use Rattle.runs.specs.Seen.{page_graph, sight_of, seen, open_at}
use Rattle.runs.proofs.Steps.{acts}

-- what neither begins a call nor gives a turn is not seen
pub rest_unseen : (pages : ℕ → Graph) (q : Request) (y : Reply) → acts q y ≡ false → sight_of pages q y ≡ neither
rest_unseen pages (request.Begin b) reply.Done e = absurd cc
rest_unseen pages (request.Turn w) (reply.Answered a) e = absurd cc
rest_unseen pages q y e = refl

pub open_next : (R : RunInTime) (k w : ℕ) → open_at R (suc k) w ≡ open_after (seen R k) k w (open_at R k w)
unfolding open_call
open_next R k w = refl

pub open_start : (R : RunInTime) (w : ℕ) → open_at R 0 w ≡ None
unfolding open_call
open_start R w = refl

module _ (R : RunInTime) (k : ℕ) where
  abbrev after_reply : Request → Reply → ℕ → Option ℕ
  after_reply q y w = open_after (sight_of (page_graph (R.state (suc k))) q y) k w (open_at R k w)

  open_is : (q : Request) (y : Reply) (w : ℕ) → R.request k ≡ q → reply_of (R.state k) q ≡ y → open_at R (suc k) w ≡ after_reply q y w
  open_is q y w e f = open_next R k w ∙ ap (λ x. after_reply x (reply_of (R.state k) x) w) e ∙ ap (λ x. after_reply q x w) f

  -- what neither begins a call nor gives a turn changes nothing
  pub rests_keep : (w : ℕ) → acts (R.request k) (reply_of (R.state k) (R.request k)) ≡ false → open_at R (suc k) w ≡ open_at R k w
  rests_keep w f = open_next R k w ∙ ap (λ s. open_after s k w (open_at R k w)) (rest_unseen (page_graph (R.state (suc k))) (R.request k) (reply_of (R.state k) (R.request k)) f)

  -- an accepted begin opens a call of its worker
  module _ (b : Begin) (e : R.request k ≡ request.Begin b) (f : reply_of (R.state k) (request.Begin b) ≡ reply.Done) where
    pub begin_opens : open_at R (suc k) b.worker ≡ Some k
    begin_opens = open_is (request.Begin b) reply.Done b.worker e f ∙ rw (eq-eqb b.worker b.worker refl) refl

    pub begin_keeps : (w : ℕ) → ¬ (w ≡ b.worker) → open_at R (suc k) w ≡ open_at R k w
    begin_keeps w n = open_is (request.Begin b) reply.Done w e f ∙ rw (ne_eqb b.worker w (λ x. n (sym x))) refl

  -- an answer closes it, a turn without one does not
  module _ (v : ℕ) (e : R.request k ≡ request.Turn v) where
    pub runs_keeps : (w : ℕ) → reply_of (R.state k) (request.Turn v) ≡ reply.Running → open_at R (suc k) w ≡ open_at R k w
    runs_keeps w f = open_is (request.Turn v) reply.Running w e f

    pub answer_closes : (a : Answer) → reply_of (R.state k) (request.Turn v) ≡ reply.Answered a → open_at R (suc k) v ≡ None
    answer_closes a f = open_is (request.Turn v) (reply.Answered a) v e f ∙ rw (eq-eqb v v refl) refl

    pub answer_keeps : (a : Answer) (w : ℕ) → ¬ (w ≡ v) → reply_of (R.state k) (request.Turn v) ≡ reply.Answered a → open_at R (suc k) w ≡ open_at R k w
    answer_keeps a w n f = open_is (request.Turn v) (reply.Answered a) w e f ∙ rw (ne_eqb v w (λ x. n (sym x))) refl

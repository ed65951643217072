-- A finish that a past tells, with the worker that had the call open.
use Rattle.std.proofs.Common.{◌≡◌, ℕ, zero, suc, ◌<◌, Bool, true, false, cond, Some, None, Option, refl, sym, ◌∙◌, subst, arith}
use Rattle.order.specs.Past.{Finish}
use Rattle.order.specs.Seen.{CallSight, CallSight.begins, CallSight.finishes, CallSight.neither, open_call, is_open, finish_after, finish_by}
use Rattle.order.proofs.Seen.{is_open_true}

pub record FinishOf (seen : ℕ → CallSight) (k b : ℕ) (f : Finish) : Type 0 where
  pub worker : ℕ
  pub before : f.time < k
  pub finished : seen f.time ≡ finishes worker f.answer f.page
  pub whose : open_call seen f.time worker ≡ Some b

module _ (seen : ℕ → CallSight) (b : ℕ) where
  finish_next : (k : ℕ) → finish_by seen (suc k) b ≡ finish_after (open_call seen k) (seen k) k b (finish_by seen k b)
  unfolding finish_by
  finish_next k = refl

  finish_start : finish_by seen zero b ≡ None
  unfolding finish_by
  finish_start = refl

  same_finish : (x y : Finish) → ◌≡◌ {A = Option Finish} (Some x) (Some y) → x ≡ y
  same_finish x y e = cc

  pub finish_of : (k : ℕ) (f : Finish) → finish_by seen k b ≡ Some f → FinishOf seen k b f
  finish_of zero f e = absurd (let x : None ≡ Some f = sym finish_start ∙ e in cc)
  finish_of (suc k) f e = by_sight (λ q. finish_of k f q) (seen k) refl (sym (finish_next k) ∙ e)
    where
      later : FinishOf seen k b f → FinishOf seen (suc k) b f
      later x = record { worker = x.worker; before = omega (arith, x.before); finished = x.finished; whose = x.whose }

      by_sight : (finish_by seen k b ≡ Some f → FinishOf seen k b f) → (x : CallSight) → seen k ≡ x → finish_after (open_call seen k) x k b (finish_by seen k b) ≡ Some f → FinishOf seen (suc k) b f
      by_sight before (begins w c) s q = later (before q)
      by_sight before neither s q = later (before q)
      by_sight before (finishes w a p) s q = by_test (is_open (open_call seen k w) b) refl q
        where
          by_test : (t : Bool) → is_open (open_call seen k w) b ≡ t → cond t (Some (record { time = k; answer = a; page = p })) (finish_by seen k b) ≡ Some f → FinishOf seen (suc k) b f
          by_test false u z = later (before z)
          by_test true u z = subst (FinishOf seen (suc k) b) (same_finish (record { time = k; answer = a; page = p }) f z)
              (record { worker = w; before = omega arith; finished = s; whose = is_open_true (open_call seen k w) b u })

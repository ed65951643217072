-- A call that a worker has open was open since it began.
use Rattle.std.proofs.Common.{◌≡◌, ℕ, zero, suc, ◌+◌, ◌-◌, ◌<◌, ◌≤◌, Bool, true, false, cond, eqb, Some, None, Option, sym, ◌∙◌, subst, arith}
use Rattle.order.specs.Seen.{CallSight, CallSight.begins, CallSight.finishes, CallSight.neither, open_after}
use Rattle.runs.specs.Runs.{RunInTime}
use Rattle.runs.specs.Seen.{seen, open_at}
use Rattle.runs.proofs.Opens.{open_next}

open_before : (x : CallSight) (k w b : ℕ) (o : Option ℕ) → open_after x k w o ≡ Some b → b < k → o ≡ Some b
open_before (begins v c) k w b o e l = by_test (eqb v w) e
  where
    by_test : (t : Bool) → cond t (Some k) o ≡ Some b → o ≡ Some b
    by_test true q = (let u : k ≡ b = cc in absurd (omega arith))
    by_test false q = q
open_before (finishes v a p) k w b o e l = by_test (eqb v w) e
  where
    by_test : (t : Bool) → cond t None o ≡ Some b → o ≡ Some b
    by_test true q = absurd cc
    by_test false q = q
open_before neither k w b o e l = e

module _ (R : RunInTime) (w b till : ℕ) (o : open_at R till w ≡ Some b) where
  open_from : (d k : ℕ) → k + d ≡ till → b < k → open_at R k w ≡ Some b
  open_from zero k e l = (let q : till ≡ k = omega arith in subst (λ t. open_at R t w ≡ Some b) q o)
  open_from (suc d) k e l = open_before (seen R k) k w b (open_at R k w) (sym (open_next R k w) ∙ open_from d (suc k) (omega arith) (omega arith)) l

  pub open_back : (k : ℕ) → b < k → k ≤ till → open_at R k w ≡ Some b
  open_back k l u = open_from (till - k) k (omega arith) l

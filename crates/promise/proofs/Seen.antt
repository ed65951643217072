-- What was seen of calls: calls began at times that there were.
use Rattle.std.proofs.Common.{◌≡◌, ℕ, ◌<◌, List, [], ◌∷◌, length, Some, None, Option, IsSome, refl, inl, inr, arith}
use Rattle.std.proofs.lemmas.Bool.{cases_eq, false≢true, ne_eqb}
use Rattle.promise.specs.Sights.{Sight}
use Rattle.promise.specs.Calls.{Begun, call_begun, call_as}

-- a call began at a time that there was
pub begun_below : (ss : List Sight) (b : ℕ) (x : Begun) → call_begun ss b ≡ Some x → b < length ss
begun_below [] b x e = absurd (let f : None ≡ Some x = e in cc)
begun_below (s ∷ ss) b x e = elim (cases_eq b (length ss)) [
  | inl q ↦ omega arith
  | inr q ↦ (let f : call_begun ss b ≡ Some x = rw (ne_eqb b (length ss) q) at e in let l = begun_below ss b x f in omega arith)
]

begun_named : (o : Option Begun) → IsSome (call_as o) → (x : Begun) × (o ≡ Some x)
begun_named None h = absurd (false≢true h)
begun_named (Some x) h = (x, refl)

pub call_below : (ss : List Sight) (b : ℕ) → IsSome (call_as (call_begun ss b)) → b < length ss
call_below ss b h = let (x, e) = begun_named (call_begun ss b) h in begun_below ss b x e

-- The pairs from number x on, one at a time.
use Rattle.std.proofs.Common.{◌≡◌, ℕ, suc, ◌+◌, ◌-◌, ◌*◌, ◌/◌, ◌%◌, ◌<◌, true, false, cond, Some, refl, arith, slice_index, suc-mul}
use Rattle.std.proofs.Math.Numerals.{add-one}
use Rattle.std.proofs.lemmas.Nat.{div-mul-add, mod-mul-add}
use Rattle.places.specs.declared.place.Survey.{Survey}
use Rattle.places.specs.declared.place.Job.TheVariants as job
use Rattle.books.specs.Serving.{open_pair, open_at, pair_numbered, open_from}
use Rattle.books.specs.declared.book.Book.{Book}

-- pair number x is the one to walk, or the next ones are tried
open_from_next : (b : Book) (v : Survey) (n x : ℕ) → x < n * b.len → open_from b v n x ≡ cond (open_at b v n x) (Some (job.Pair (pair_numbered b n x))) (open_from b v n (x + 1))
open_from_next b v n x l = let e : n * b.len - x ≡ suc (n * b.len - (x + 1)) = omega arith in rw e refl

-- pair number x is of the key i at position k of the queue, and key j
module _ (b : Book) (v : Survey) (n k i j x : ℕ) (queued : i ≡ slice_index b.queue k) (key : j < n) (number : x ≡ k * n + j) where
  place_is : x / n ≡ k
  place_is = rw number (div-mul-add k n j key)

  key_is : x % n ≡ j
  key_is = rw number (mod-mul-add k n j key)

  pub open_taken : x < n * b.len → true ≡ open_pair b v i j → Some (job.Pair (record { position = k; from = i; to = j })) ≡ open_from b v n x
  open_taken l o = rw (open_from_next b v n x l, place_is, key_is, ← queued, ← o) refl

  pub open_skipped : x < n * b.len → false ≡ open_pair b v i j → open_from b v n (x + 1) ≡ open_from b v n x
  open_skipped l o = rw (open_from_next b v n x l, place_is, key_is, ← queued, ← o) refl

-- after the last key of a position comes the first of the next one
pub next_place : (n k j x : ℕ) → x ≡ k * n + j → j + 1 ≡ n → x + 1 ≡ (k + 1) * n + 0
next_place n k j x e f = let m : (k + 1) * n ≡ k * n + n = rw (add-one k) (suc-mul k n) in omega arith

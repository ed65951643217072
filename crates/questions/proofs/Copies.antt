-- A part of a list of copies has no other element.
use Rattle.std.proofs.Common.{◌≡◌, ℕ, take, get_or, replicate, ◌∙◌, inl, inr, arith}
use Rattle.std.proofs.lemmas.List.{get_or-replicate, get_or_past, get_or-take, length-take, length-replicate}
use Rattle.std.proofs.lemmas.Bool.{cases_lt}

pub part_of_copies : {A : Type 0} (i n k : ℕ) (x : A) → get_or (take i (replicate n x)) k x ≡ x
part_of_copies i n k x = elim (cases_lt k i) [
  | inl l ↦ get_or-take i (replicate n x) k x l ∙ (elim (cases_lt k n) [
    | inl a ↦ get_or-replicate n k x x a
    | inr a ↦ get_or_past (replicate n x) k x (omega (arith, length-replicate n x))
  ])
  | inr l ↦ get_or_past (take i (replicate n x)) k x (omega (arith, length-take i (replicate n x)))
]

-- When a question is not answered, and the byte of each reason.
use Rattle.std.specs.Prelude.{◌≡◌, ℕ, if◌then◌else◌, List, codes, Some, None, Ok, Err, Option, Result, nat_le, nat_lt}
use Rattle.codes.specs.declared.answer.Answer.TheVariants.{VertexAbsent}
use Rattle.codes.specs.declared.refusal.Refusal.TheVariants.{SizeOutside, KeyOutside, AreaTooSmall}
use Rattle.codes.specs.Codes.{answer_code, refusal_code}
use Rattle.questions.specs.declared.unanswered.Unanswered.{Unanswered}
use Rattle.questions.specs.declared.unanswered.Unanswered.TheVariants.{Refused, Absent}
use Rattle.questions.specs.Graph.{Graph}

-- the byte of a reason
abbrev pub unanswered_code : Unanswered → ℕ
unanswered_code (Refused r) = refusal_code r
unanswered_code Absent = answer_code VertexAbsent

-- a question on n keys, from a start, with an area of so many entries
abbrev pub unanswered : ℕ → Graph → ℕ → ℕ → Option Unanswered
unanswered n g start area =
    if nat_le n start then Some (Refused KeyOutside)
    else if nat_lt area n then Some (Refused AreaTooSmall)
    else if g.has start then None
    else Some Absent

-- a result is an error for this reason, or is none
abbrev pub Refuses : {A : Type 0} → Option Unanswered → Result A Unanswered → Type 0
Refuses None (Ok x) = Unit {0}
Refuses None (Err e) = ⊥
Refuses (Some u) (Ok x) = ⊥
Refuses (Some u) (Err e) = e ≡ u

-- the words of a reason; a question has no other refusal than these three
abbrev pub words : Unanswered → List ℕ
words Absent = codes "the page does not show the start"
words (Refused SizeOutside) = codes "the cells make no page"
words (Refused KeyOutside) = codes "the start is not below the number of keys"
words (Refused AreaTooSmall) = codes "the area is too small"
words (Refused other) = codes "the question is refused"

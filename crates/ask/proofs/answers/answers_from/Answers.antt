use Rattle.std.proofs.Common.{◌≡◌, ℕ, ◌<◌, List, None, Option, get_or, sym, ◌∙◌, subst}
use Rattle.std.proofs.lemmas.Option.{get_or_from_slice_get}
use Rattle.questions.specs.Graph.{Graph}
use Rattle.questions.specs.Measures.{Scale}
use Rattle.questions.specs.Best.{Entered, Answered}
use Rattle.ask.proofs.answers.answers_from.Goals as goal

-- an entry that stands in the area as it is
entered : {m : Scale} {g : Graph} {n s : ℕ} {old new : List (Option ℕ)} → Answered (λ x y. y ≡ x) m g n s old new →
    (k : ℕ) → k < n → Entered m g s k (get_or new k None)
entered {m} {g} {n} {s} {old} {new} a k l =
    let (x, y, is, form, entry) = a.keys k l in subst (Entered m g s k) (sym (get_or_from_slice_get new k y None is ∙ form)) entry

pub returns-clause-after : goal.returns-clause-after
returns-clause-after g c = record {
  order = c.in_ok-count.ensures.after.list;
  total = entered c.in_ok-best.ensures.after;
  weakest = entered c.in_ok-best-2.ensures.after;
}

-- Only snapshots and reaches raise the clock, and a turn is of one call.
use Rattle.std.proofs.Common.{◌≡◌, ℕ, ◌<◌, Some, None, Option, option_map, sym, refl, ap, ◌∙◌, subst}
use Rattle.layout.specs.declared.names.Field.{Field}
use Rattle.layout.specs.declared.names.Field.TheVariants.{Ins, Del}
use Rattle.places.specs.declared.place.Survey.{Survey}
use Rattle.places.specs.declared.place.Op.TheVariants.{Add, Remove}
use Rattle.places.specs.declared.place.Change.{Change}
use Rattle.places.specs.declared.place.Place.{Place}
use Rattle.places.specs.declared.place.Call.{Call}
use Rattle.places.specs.declared.place.Call.TheVariants as call
use Rattle.places.specs.declared.place.Place.TheVariants as place
use Rattle.order.specs.Seen.{CallSight.begins}
use Rattle.runs.specs.Runs.{RunInTime}
use Rattle.runs.specs.Views.{clock_at, place_at}
use Rattle.runs.specs.Seen.{seen, open_at}
use Rattle.runs.specs.Known.{ChangeEvent}
use Rattle.runs.specs.Purposes.{InCall}
use Rattle.runs.specs.Reasons.{WorkerKnows, WorkerKnows.free, WorkerKnows.busy}
use Rattle.bounds.proofs.Open.{some_same, none_some}
use Rattle.surveys.specs.Raises.{raising_turn, OnlySurveysRaise, SurveysChangeNone, TurnsOfOne}
use Rattle.surveys.proofs.Raised.{same_worker, Raised, raised, raising_true}
use Rattle.runs.proofs.Knows.{runs_know as know}
use Rattle.runs.proofs.Sights.{runs_seen as sees}
use Rattle.walks.proofs.RunSurveys.{change_none}

same_call : {v w : ℕ} {c d : Call} → begins v c ≡ begins w d → c ≡ d
same_call e = cc

pub only_surveys_raise : OnlySurveysRaise
only_surveys_raise R k w b t c e q = by_turn (raising_turn R b k) refl q
  where
    by_raise : (r : ℕ) → Raised R b r → (v : Survey) × (c ≡ call.Survey v)
    by_raise r x = by_worker ((know R).workers r x.step.worker x.step.turn.within)
      where
        by_worker : WorkerKnows R r x.step.worker → (v : Survey) × (c ≡ call.Survey v)
        by_worker (free o i) = absurd (none_some (sym o ∙ x.whose))
        by_worker (busy a d o g i n) =
            let s = (sees R).begun r x.step.worker a d g in
            let same : a ≡ b = some_same (sym o ∙ x.whose) in
            let u : InCall (place.Raise x.step.survey) d = subst (λ p. InCall p d) x.step.turn.place i in
            (x.step.survey, same_call (sym e ∙ ap (seen R) (sym same) ∙ s) ∙ sym u)

    by_turn : (o : Option ℕ) → raising_turn R b k ≡ o → option_map (clock_at R) o ≡ Some t → (v : Survey) × (c ≡ call.Survey v)
    by_turn None z y = absurd (none_some y)
    by_turn (Some r) z y = by_raise r (raised R b r (raising_true R b k r z))

pub turns_of_one : TurnsOfOne
turns_of_one R t b c x y = some_same (sym x.whose ∙ ap (open_at R t) (same_worker (sym x.asked ∙ y.asked)) ∙ y.whose)

-- a place of a change is of another call
module _ (R : RunInTime) (w b : ℕ) (v : Survey) (e : seen R b ≡ begins w (call.Survey v)) where
  by_place : (p u : ℕ) (x : Place) → u < R.sizes.workers → place_at R p u ≡ x → open_at R p u ≡ Some b → InCall x (call.Survey v)
  by_place p u x l q o = by_worker ((know R).workers p u l)
    where
      by_worker : WorkerKnows R p u → InCall x (call.Survey v)
      by_worker (free y i) = absurd (none_some (sym y ∙ o))
      by_worker (busy a c y g i n) =
          let same : a ≡ b = some_same (sym y ∙ o) in
          let is : call.Survey v ≡ c = same_call (sym e ∙ ap (seen R) (sym same) ∙ (sees R).begun p u a c g) in
          subst (λ z. InCall z (call.Survey v)) q (subst (InCall (place_at R p u)) (sym is) i)

  no_change : (f : Field) (p : ℕ) (d : Change) (r : ℕ) → ¬ (ChangeEvent R f p b d r)
  no_change Ins p d r x = change_none d Add v (by_place p x.step.worker _ x.step.turn.within x.step.turn.place x.whose)
  no_change Del p d r x = change_none d Remove v (by_place p x.worker _ x.turn.within x.turn.place x.whose)

pub surveys_change_none : SurveysChangeNone
surveys_change_none R w b v e f p d r x = no_change R w b v e f p d r x

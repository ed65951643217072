-- A snapshot or reach stays within the limit of its turns.
use Rattle.std.proofs.Common.{◌≡◌, ℕ, suc, ◌<◌, ◌≤◌, ◌⊎◌, inl, inr, arith, Break}
use Rattle.std.proofs.Math.Decide.{le_ind}
use Rattle.codes.specs.declared.answer.Answer.{Answer}
use Rattle.places.specs.declared.place.Survey.{Survey}
use Rattle.walks.specs.Courses.{Course, Laws}
use Rattle.walks.specs.Surveys.{Surveyor, turn_of, TurnDone, goes_to}
use Rattle.walks.specs.Budgets.{Counted, TurnsFit}
use Rattle.walks.proofs.Costs.{total}
use Rattle.walks.proofs.Turns.{SpentSurvey, raise_spent, SpentGoing, spent_later, survey_fits, survey_turn_spent}

module _ (c : Course) (n : ℕ) (law : Laws c n) (top : ℕ) (v : Survey) (began now : ℕ) (at : ℕ → Surveyor) (turns : ℕ → ℕ)
    (count : Counted c n top v began now at turns) where
  turn_spent : (k : ℕ) → began ≤ k → TurnDone top (c.at k) (c.at (suc k)) (at k) → SpentSurvey c n v began k (turns k) (at k) →
      SpentGoing c n v began (suc k) (suc (turns k)) (turn_of n top (c.at k) (at k))
  turn_spent k = survey_turn_spent c n law count.run.some_key count.run.few_keys v count.run.fits began top k (turns k) (at k)

  step : (k : ℕ) → began ≤ k → k < now → SpentSurvey c n v began k (turns k) (at k) → SpentSurvey c n v began (suc k) (turns (suc k)) (at (suc k))
  step k l m a = by_turn (count.counts k l m)
    where
      by_turn : ((at (suc k) ≡ at k) × (turns (suc k) ≡ turns k)) ⊎
          ((turn_of n top (c.at k) (at k) ≡ goes_to (at (suc k))) × TurnDone top (c.at k) (c.at (suc k)) (at k) × (turns (suc k) ≡ suc (turns k))) →
          SpentSurvey c n v began (suc k) (turns (suc k)) (at (suc k))
      by_turn (inl (e, q)) = rw (e, q) (spent_later c n law count.run.some_key count.run.few_keys v count.run.fits began k (suc k) (turns k) (at k) (omega arith) a)
      by_turn (inr (e, d, q)) = rw q (rw e at (turn_spent k l d a))

  spent : (k : ℕ) → began ≤ k → k ≤ now → SpentSurvey c n v began k (turns k) (at k)
  spent k l = le_ind (λ m. m ≤ now → SpentSurvey c n v began m (turns m) (at m)) (λ z. raise_spent count.run.starts count.from) (λ m a g z. step m a (omega arith) (g (omega arith))) k l

  answer_spent : (a : Answer) → began ≤ now → TurnDone top (c.at now) (c.at (suc now)) (at now) → (turn_of n top (c.at now) (at now)).out ≡ Break a → suc (turns now) ≤ total c n (suc now)
  answer_spent a l d e = rw e at (turn_spent now l d (spent now l (omega arith)))

pub turns_fit : TurnsFit
unfolding total
turns_fit c n law top v began now at turns count l = record {
  sofar = omega (
    arith,
    survey_fits c n law count.run.some_key count.run.few_keys v count.run.fits began now (turns now) (at now) (spent c n law top v began now at turns count now l (omega arith)),
  );
  answered = λ a d e. omega (arith, answer_spent c n law top v began now at turns count a l d e);
}

-- What a snapshot or reach finds at the key of its raise, from what its answer says.
use Rattle.std.proofs.Common.{◌≡◌, ℕ, ◌≢◌, true, false, refl, sym, ◌∙◌, subst}
use Rattle.codes.specs.declared.answer.Answer.{Answer}
use Rattle.codes.specs.declared.answer.Answer.TheVariants.{VertexAbsent, SnapshotTaken, ReachTaken, ClockSpent}
use Rattle.places.specs.declared.place.Survey.{Survey}
use Rattle.places.specs.declared.place.Survey.TheVariants.{Snapshot, Reach}
use Rattle.places.specs.declared.place.Call.TheVariants as call
use Rattle.questions.specs.Graph.{Graph}
use Rattle.order.specs.Past.{Finish, fed_until}
use Rattle.order.specs.Keys.{Key}
use Rattle.order.specs.Marks.{Marks}
use Rattle.order.specs.Rows.{graph_before}
use Rattle.order.specs.Raises.{RaiseMeets}
use Rattle.order.specs.Finds.{VertexFound, no_change, Finds, Finds.takes_snapshot, Finds.reaches, Finds.reaches_none}
use Rattle.order.specs.Marked.{Told}
use Rattle.walks.specs.Surveys.{Says}

module _ (bound top : ℕ) (m : Marks) (k : Key) (t : ℕ) (meets : RaiseMeets bound top m k t) where
  abbrev g : Graph
  g = graph_before bound top m k

  found_true : (i : ℕ) → g.has i ≡ true → VertexFound bound m k i true
  found_true i e = (let x = (meets.shows.vertices i).0 e in subst (λ j. VertexFound bound m k j true) x.2 (meets.finds x.0 x.1))

  found_false : (i : ℕ) → g.has i ≡ false → VertexFound bound m k i false
  found_false i e = meets.finds_none i (λ x v q. true_false (sym ((meets.shows.vertices i).1 (x, v, q)) ∙ e))
    where
      true_false : true ≡ false → ⊥
      true_false q = absurd cc

  -- what is found there, and what is told of it
  abbrev pub Found : Survey → Answer → Finish → Type 0
  Found v a f = Finds bound top m k (fed_until (call.Survey v) a) no_change a × Told g (fed_until (call.Survey v) a) a f

  absent_not : (i : ℕ) → g.has i ≡ false → ¬ (g.has i ≡ true)
  absent_not i e q = (let x = sym e ∙ q in absurd cc)

  pub found : (v : Survey) (a : Answer) (f : Finish) → f.answer ≡ a → a ≢ ClockSpent → Says a v g f.page → Found v a f
  found Snapshot SnapshotTaken f e n s = (takes_snapshot, record { answer = e; page = s })
  found (Reach i) ReachTaken f e n s = (reaches i (found_true i s.0), record { answer = e; page = λ _. s.1 })
  found (Reach i) VertexAbsent f e n s = (reaches_none i (found_false i s), record { answer = e; page = λ q. absurd (absent_not i s q) })
  found v ClockSpent f e n s = absurd (n refl)
  found v a f e n s = absurd s

-- Calls 1 to 6 have keys beside those of the snapshots and reaches.
use Rattle.std.proofs.Common.{◌≡◌, ℕ, suc, nat_lt, ◌<◌, Bool, true, false, ◌||◌, None, refl, sym, ◌∙◌, ap, ◌⊎◌, inl, inr, ⊎_elim}
use Rattle.std.proofs.lemmas.Bool.{false≢true, ltb-true, lt-ltb}
use Rattle.layout.specs.declared.names.Kind.TheVariants.{Vertex, Edge}
use Rattle.layout.specs.declared.names.Field.{Field}
use Rattle.layout.specs.declared.names.Field.TheVariants.{Del}
use Rattle.layout.specs.declared.names.Cell.TheVariants as cell
use Rattle.places.specs.declared.mark.Mark.{Mark}
use Rattle.places.specs.declared.mark.Mark.TheVariants.{Stamp}
use Rattle.places.specs.declared.mark.Mark.TheVariants as mark
use Rattle.places.specs.declared.place.Bound.{Bound}
use Rattle.places.specs.declared.place.Change.TheVariants as change
use Rattle.places.specs.Marks.{is_below}
use Rattle.order.specs.Keys.{Key}
use Rattle.order.specs.Finds.{no_change}
use Rattle.runs.specs.Runs.{RunInTime}
use Rattle.runs.specs.Views.{number_at, mark_at}
use Rattle.runs.specs.Seen.{page_graph, seen}
use Rattle.runs.specs.Known.{TurnOf, ChangeEvent}
use Rattle.runs.specs.Marking.{time_bound, RunMarks}
use Rattle.keys.specs.Standing.{Owner, Owner.at_turn, Owner.at_change}
use Rattle.keys.specs.Told.{EndsBelow, LowerEnd, ChangesTold, PastTold}
use Rattle.keys.specs.Marking.{SurveyMarked}
use Rattle.promise.specs.Bridges.{stamp_at, raise_at, lower_at, past_at}
use Rattle.promise.specs.Points.{SurveyKeyed, PointsKeyed}
use Rattle.promise.proofs.Stamps.{bound_now}
use Rattle.promise.proofs.SurveyKeys.{seen_as}
use Rattle.promise.proofs.Stamps.{stamps_told as told}
use Rattle.promise.proofs.SurveyKeys.{raises_agree as agree}
use Rattle.surveys.proofs.Only.{only_surveys_raise as only}
use Rattle.keys.proofs.Pasts.{pasts_tell as tell}
use Rattle.keys.proofs.Orders.{give_keys as give}

below_stamp : (x : ℕ) (m : Mark) → is_below x m ≡ true → (n : ℕ) × (m ≡ Stamp n) × (n < x)
below_stamp x (Stamp n) e = (n, refl, ltb-true n x e)
below_stamp x mark.NotEnded e = absurd (false≢true e)
below_stamp x mark.Pending e = absurd (false≢true e)

module _ (R : RunInTime) (now : ℕ) where
  -- a row to which an edge row is bound
  ends_below : (v u x : ℕ) → u ≡ v → is_below x (mark_at R now Vertex Del v) ≡ true → EndsBelow R now u x
  ends_below v u x e y = let h = below_stamp x (mark_at R now Vertex Del v) y in record { number = h.0; ended = ap (mark_at R now Vertex Del) e ∙ h.1; below = h.2 }

  below_ends : (v u x : ℕ) → u ≡ v → EndsBelow R now u x → is_below x (mark_at R now Vertex Del v) ≡ true
  below_ends v u x e h = ap (is_below x) (ap (mark_at R now Vertex Del) (sym e) ∙ h.ended) ∙ lt-ltb h.number x h.below

  either : (s t : Bool) → (s || t) ≡ true → (s ≡ true) ⊎ (t ≡ true)
  either true t e = inl refl
  either false t e = inr e

  left_true : (s t : Bool) → s ≡ true → (s || t) ≡ true
  left_true true t e = refl
  left_true false t e = absurd (false≢true e)

  right_true : (s t : Bool) → t ≡ true → (s || t) ≡ true
  right_true true t e = refl
  right_true false t e = e

  ends_lower : (f : Field) (p b : ℕ) (d : Bound) (e x : ℕ) → p < now → ChangeEvent R f p b (change.Edge d) e → mark_at R now Edge f e ≡ Stamp x → lower_at R now b ≡ true → LowerEnd R now e x
  ends_lower f p b d e x l ev m y =
      let bound = bound_now R now b f p d e l ev in
      ⊎_elim (λ (s : is_below x (mark_at R now Vertex Del d.source) ≡ true). inl (ends_below d.source (number_at R now (cell.Source e)) x bound.0 s))
      (λ (t : is_below x (mark_at R now Vertex Del d.target) ≡ true). inr (ends_below d.target (number_at R now (cell.Target e)) x bound.1 t))
      (either _ _ (sym ((told R now b).lower f p d e x l ev m) ∙ y))

  ends_none : (f : Field) (p b : ℕ) (d : Bound) (e x : ℕ) → p < now → ChangeEvent R f p b (change.Edge d) e → mark_at R now Edge f e ≡ Stamp x → lower_at R now b ≡ false → ¬ (LowerEnd R now e x)
  ends_none f p b d e x l ev m y h =
      let bound = bound_now R now b f p d e l ev in
      let is : (is_below x (mark_at R now Vertex Del d.source) || is_below x (mark_at R now Vertex Del d.target)) ≡ true = ⊎_elim
      (λ (s : EndsBelow R now (number_at R now (cell.Source e)) x). left_true _ _ (below_ends d.source (number_at R now (cell.Source e)) x bound.0 s))
      (λ (t : EndsBelow R now (number_at R now (cell.Target e)) x). right_true _ _ (below_ends d.target (number_at R now (cell.Target e)) x bound.1 t))
      h in
      false≢true (sym y ∙ (told R now b).lower f p d e x l ev m ∙ is)

  pub changes_told : ChangesTold R now (stamp_at R now) (lower_at R now)
  changes_told = record {
    stamped = λ b n e. (told R now b).stamped n e;
    bears = λ f p b d r n l ev m. (told R now b).bears f p d r n l ev m;
    vertex_end = λ f p b i r l ev. (told R now b).no_lower f p i r l ev;
    ends_lower = ends_lower;
    ends_none = ends_none;
  }

  module _ where
    past_told : PastTold R now (past_at R now)
    past_told = record {
      calls = tell R now (λ k. page_graph (R.state (suc k))) (stamp_at R now) (raise_at R now) (lower_at R now);
      changes = changes_told;
      raises = λ b t c e q. (let s = seen_as R now (seen R b) (nat_lt b now) c e in only R now s.0 b t c s.1 (sym (agree R now b) ∙ q));
    }

    owner_of : (k : Key) (b : ℕ) → TurnOf R k.time b → (k.part ≡ 0) ⊎ (k.part ≡ time_bound now) → Owner R now k b
    owner_of k b t (inl e) = at_turn e t
    owner_of k b t (inr e) = at_change e t

    marked_as : (m : RunMarks R now) (b : ℕ) → SurveyKeyed R now m.marks b → SurveyMarked R now m.marks (past_at R now) b
    marked_as m b x = record { key = x.key; owner = owner_of x.key b x.turn x.part; marked = x.owed (λ c. None) (λ c. no_change) refl }

pub points_keyed : PointsKeyed
points_keyed R now m keyed =
    let x = give R now m.marks m.tells m.sound (past_at R now) (past_told R now)
    (λ b v e y. marked_as R now m b (keyed b v e y)) in (
      x.key,
      x.change,
      record {
        keyed = x.marked.keyed;
        calls = x.marked.calls;
        apart = x.marked.apart;
        vertex_births = x.marked.vertex_births;
        vertex_endings = x.marked.vertex_endings;
        edge_births = x.marked.edge_births;
        edge_endings = x.marked.edge_endings;
      },
    )

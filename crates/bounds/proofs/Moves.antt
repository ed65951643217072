-- In one step of a run at most one head moves.
use Rattle.std.proofs.Common.{◌≡◌, ℕ, suc, ◌<◌, ◌⊎◌, min, true, false, sym, ap, ◌∙◌, inl, inr, ⊎_elim, arith}
use Rattle.layout.specs.declared.names.Head.{Head}
use Rattle.layout.specs.declared.names.Head.TheVariants as head
use Rattle.layout.specs.declared.names.Cell.TheVariants as cell
use Rattle.layout.specs.Layout.{Named}
use Rattle.places.specs.Touches.{change_head}
use Rattle.places.specs.declared.place.Change.{Change}
use Rattle.places.specs.declared.place.Place.{Place}
use Rattle.places.specs.declared.place.Place.TheVariants as place
use Rattle.machine.specs.declared.request.Request.{Request}
use Rattle.machine.specs.declared.request.Request.TheVariants as request
use Rattle.runs.specs.Runs.{RunInTime}
use Rattle.runs.specs.Views.{head_at, place_at}
use Rattle.runs.specs.Steps.{LinkStep, HeadSteps, HeadSteps.stays as heads_stay, HeadSteps.moves as heads_move}
use Rattle.walks.specs.Memory.{head_inside}
use Rattle.walks.specs.Courses.{Course}
use Rattle.walks.specs.Histories.{run_course}
use Rattle.walks.proofs.Histories.{inside_or, head_outside, head_then}
use Rattle.runs.proofs.Steps.{runs_step as step}

same_turn : {v w : ℕ} → request.Turn v ≡ request.Turn w → v ≡ w
same_turn e = cc

same_change : {d e : Change} {x y : ℕ} → place.Link d x ≡ place.Link e y → d ≡ e
same_change q = cc

-- a place links over one head at most
link_head : (p : Place) → (g : Head) × ((d : Change) (y : ℕ) → p ≡ place.Link d y → g ≡ change_head d)
link_head (place.Link d x) = (change_head d, λ e y q. ap change_head (same_change q))
link_head p = (head.Vertex 0, λ d y q. absurd cc)

module _ (R : RunInTime) (k : ℕ) where
  -- a step links over one head at most
  pub step_head : (q : Request) → R.request k ≡ q → (g : Head) × ((d : Change) (r : ℕ) → LinkStep R k d r → g ≡ change_head d)
  step_head (request.Turn w) e =
      let h = link_head (place_at R k w) in
      (h.0, λ d r s. h.1 d (head_at R k (change_head d)) (ap (place_at R k) (same_turn (sym e ∙ s.turn.asked)) ∙ s.turn.place))
  step_head q e = (head.Vertex 0, λ d r s. absurd (let x : request.Turn s.worker ≡ q = sym s.turn.asked ∙ e in cc))

module _ (R : RunInTime) (now : ℕ) where
  abbrev c : Course
  c = run_course R now

  module _ (k : ℕ) (l : k < now) where
    -- a head stays, or a row is linked there
    abbrev pub LinkStepOver : Head → Type 0
    LinkStepOver h = (d : Change) × (change_head d ≡ h) × LinkStep R k d (head_at R (suc k) h)

    pub stays_or : (h : Head) → ((c.at (suc k)).head h ≡ (c.at k).head h) ⊎ LinkStepOver h
    stays_or h = ⊎_elim (λ (m : Named R.sizes (cell.Head h) × (head_inside R.sizes h ≡ true)). by_step m.0 ((step R k).heads h m.0))
        (λ (m : head_inside R.sizes h ≡ false). inl (head_outside R (min (suc k) now) h m ∙ sym (head_outside R (min k now) h m))) (inside_or R.sizes h)
      where
        by_step : Named R.sizes (cell.Head h) → HeadSteps R k h (head_at R (suc k) h) → ((c.at (suc k)).head h ≡ (c.at k).head h) ⊎ LinkStepOver h
        by_step m (heads_stay e) = inl (head_then R now (suc k) h l m ∙ e ∙ sym (head_then R now k h (omega arith) m))
        by_step m (heads_move d q s) = inr (d, q, s)

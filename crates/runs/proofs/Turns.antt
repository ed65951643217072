-- What a turn does about links: it links no row, or it is a link turn that won.
use Rattle.std.proofs.Common.{◌≡◌, ℕ, ◌<◌, Bool, true, false, eqb, length, Some, None, Option, refl, ap, ap₂, ◌∙◌, subst, arith}
use Rattle.std.proofs.lemmas.Bool.{eqb-true, eqb-false}
use Rattle.std.proofs.lemmas.List.{get_or-set_same, get_or-set_other}
use Rattle.std.specs.Option.{is_some}
use Rattle.std.specs.declared.ops.ControlFlow.TheVariants.{Break}
use Rattle.codes.specs.declared.answer.Answer.TheVariants.{RowsSpent}
use Rattle.layout.specs.declared.names.Field.TheVariants.{Ins}
use Rattle.layout.specs.declared.names.Cell.TheVariants as cell
use Rattle.places.specs.declared.place.Change.{Change}
use Rattle.places.specs.declared.place.Place.{Place}
use Rattle.places.specs.declared.place.Place.TheVariants as place
use Rattle.places.specs.declared.place.Purpose.TheVariants as purpose
use Rattle.places.specs.declared.place.Stage.TheVariants as stage
use Rattle.places.specs.declared.place.Touch.{Touch}
use Rattle.places.specs.declared.place.Touch.TheVariants as touch
use Rattle.places.specs.Moved.{Next, Next as next}
use Rattle.places.specs.Private.{link_kind}
use Rattle.places.specs.Rules.{lost_link}
use Rattle.places.specs.Touches.{change_head, change_kind, link_touch, touch_of}
use Rattle.places.specs.Nexts.{link_done as next_link, next_of}
use Rattle.machine.specs.States.{State}
use Rattle.machine.specs.Effects.{link_done, linked_cells, got_of, cells_after, entered}
use Rattle.machine.specs.Turns.{worker_at, spare_for, hand_of, hand_at, touch_at, next_at, followed_at, turned}
use Rattle.machine.specs.Workers.{nobody, at, counted, followed}
use Rattle.laws.specs.Fits.{FitChange, FitPlace}
use Rattle.laws.specs.Changes.{next_own, number_in}
use Rattle.laws.specs.Sound.{Sound}
use Rattle.runs.proofs.Links.{link_says}
use Rattle.laws.proofs.Owned.{next_own_lem}
use Rattle.laws.proofs.Heads.{change_named}
use Rattle.laws.proofs.Puts.{done_is}

-- what follows at a place, what is touched there, and the cells then
module _ (s : State) (w : ℕ) where
  abbrev pub touch_from : Place → Touch
  touch_from p = touch_of p (spare_for s.sizes w (worker_at s w) (link_kind p))

  abbrev pub next_from : Place → Next
  next_from p = next_of p (hand_of s.sizes s.cells w (worker_at s w) p) (got_of s.sizes s.cells (touch_of p (spare_for s.sizes w (worker_at s w) (link_kind p))))

  pub next_is : (p : Place) → (worker_at s w).place ≡ p → next_at s w ≡ next_from p
  next_is p e = ap next_from e

  pub touch_is : (p : Place) → (worker_at s w).place ≡ p → touch_at s w ≡ touch_from p
  touch_is p e = ap touch_from e

  -- a link turn finds no row left, or is lost, or is won
  pub data LinkTurn (d : Change) (h : ℕ) : Type 0 where
    spent : next_own s w (change_kind d) ≡ None → next_at s w ≡ next.Moved (Break RowsSpent) → LinkTurn d h
    lost : (r : ℕ) → next_own s w (change_kind d) ≡ Some r → ¬ (number_in s (cell.Head (change_head d)) ≡ h) → next_at s w ≡ next.Moved (lost_link d) → LinkTurn d h
    won : (r : ℕ) → next_own s w (change_kind d) ≡ Some r → number_in s (cell.Head (change_head d)) ≡ h → next_at s w ≡ next.Linked d r → (followed_at s w).worker ≡ at (counted (worker_at s w) (change_kind d)) (place.Settle stage.First (purpose.Own Ins d r)) → (turned s w).cells ≡ linked_cells s.sizes s.cells d h r → LinkTurn d h

module _ (s : State) (w : ℕ) (z : Sound s) (b : w < s.sizes.workers) where
  pub in_table : w < length s.workers
  in_table = omega (arith, z.table)

  pub worker_after : worker_at (turned s w) w ≡ (followed_at s w).worker
  worker_after = get_or-set_same s.workers w (followed_at s w).worker nobody in_table

  pub others_after : (v : ℕ) → ¬ (v ≡ w) → worker_at (turned s w) v ≡ worker_at s v
  others_after v n = get_or-set_other s.workers w v (followed_at s w).worker nobody n

  module _ (d : Change) (h : ℕ) (e : (worker_at s w).place ≡ place.Link d h) where
    fits : FitChange s d
    fits = let f : FitPlace s (place.Link d h) = subst (FitPlace s) e (z.places w b) in f.0

    abbrev link_from : Option ℕ → Next
    link_from o = next_link d o (is_some (got_of s.sizes s.cells (link_touch d h o)))

    says : (r : ℕ) → next_own s w (change_kind d) ≡ Some r → is_some (got_of s.sizes s.cells (touch.Link d h r)) ≡ eqb (number_in s (cell.Head (change_head d))) h
    says r q = done_is (link_done s.sizes s.cells d h r) h ∙ link_says s.sizes s.cells z.cells h r d (next_own_lem s w (change_kind d) r q).0 (change_named s d fits)

    cells_linked : (r : ℕ) → next_own s w (change_kind d) ≡ Some r → next_at s w ≡ next.Linked d r → (turned s w).cells ≡ linked_cells s.sizes s.cells d h r
    cells_linked r q x =
        ap₂ (λ t y. entered s.sizes w (cells_after s.sizes s.cells t) (followed s.sizes.keys (worker_at s w) (hand_at s w) y).entry)
        (touch_is s w (place.Link d h) e ∙ ap (link_touch d h) q) x

    pub link_turn : LinkTurn s w d h
    link_turn = go (next_own s w (change_kind d)) refl
      where
        decided : (r : ℕ) → next_own s w (change_kind d) ≡ Some r → (v : Bool) → eqb (number_in s (cell.Head (change_head d))) h ≡ v → LinkTurn s w d h
        decided r q true v =
            let x : next_at s w ≡ next.Linked d r = next_is s w (place.Link d h) e ∙ ap link_from q ∙ ap (next_link d (Some r)) (says r q ∙ v) in
            won r q (eqb-true _ h v) x (ap (λ y. (followed s.sizes.keys (worker_at s w) (hand_at s w) y).worker) x) (cells_linked r q x)
        decided r q false v = lost r q (eqb-false _ h v) (next_is s w (place.Link d h) e ∙ ap link_from q ∙ ap (next_link d (Some r)) (says r q ∙ v))

        go : (o : Option ℕ) → next_own s w (change_kind d) ≡ o → LinkTurn s w d h
        go None q = spent q (next_is s w (place.Link d h) e ∙ ap link_from q)
        go (Some r) q = decided r q (eqb (number_in s (cell.Head (change_head d))) h) refl

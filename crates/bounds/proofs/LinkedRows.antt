-- A step that counts as linking a row links one, and each step that links one counts.
use Rattle.std.proofs.Common.{◌≡◌, ℕ, zero, suc, ◌<◌, ◌≤◌, ◌≢◌, ◌⊎◌, Bool, true, false, not, ◌||◌, refl, sym, ap, ◌∙◌, subst, inl, inr, ⊎_elim, arith}
use Rattle.std.proofs.lemmas.Bool.{eq-eqb, ne_eqb, or_left, or_right, cases_lt}
use Rattle.layout.specs.declared.sizes.Sizes.{Sizes}
use Rattle.layout.specs.declared.names.Head.{Head}
use Rattle.layout.specs.declared.names.Head.TheVariants as head
use Rattle.layout.specs.declared.names.Cell.TheVariants as cell
use Rattle.layout.specs.Layout.{Named}
use Rattle.layout.specs.Rows.{no_row}
use Rattle.places.specs.Touches.{change_head, change_kind}
use Rattle.places.specs.declared.place.Change.{Change}
use Rattle.places.specs.declared.place.Place.TheVariants as place
use Rattle.laws.specs.Fits.{Linked, FitPlace}
use Rattle.laws.specs.Sound.{Sound}
use Rattle.laws.proofs.Heads.{change_named}
use Rattle.runs.specs.Runs.{RunInTime}
use Rattle.runs.specs.Views.{head_at}
use Rattle.runs.specs.Steps.{LinkStep, HeadSteps, HeadSteps.stays, HeadSteps.moves}
use Rattle.runs.proofs.Steps.{sound_at, sizes_at}
use Rattle.bounds.specs.Bounds.{any_below, head_moves, links_row}
use Rattle.runs.proofs.Steps.{runs_step as step}
use Rattle.laws.proofs.Owned.{linked_row}

or_true : (a b : Bool) → (a || b) ≡ true → (a ≡ true) ⊎ (b ≡ true)
or_true true b e = inl refl
or_true false b e = inr e

-- a number that passes, where one does
any_true : (n : ℕ) (test : ℕ → Bool) → any_below n test ≡ true → (i : ℕ) × (i < n) × (test i ≡ true)
unfolding any_below
any_true zero test e = absurd cc
any_true (suc n) test e = ⊎_elim (λ (a : any_below n test ≡ true). let x = any_true n test a in (x.0, omega (arith, x.1), x.2)) (λ (a : test n ≡ true). (n, omega arith, a)) (or_true (any_below n test) (test n) e)

any_from : (n : ℕ) (test : ℕ → Bool) (i : ℕ) → i < n → test i ≡ true → any_below n test ≡ true
unfolding any_below
any_from zero test i l e = absurd (omega arith)
any_from (suc n) test i l e = ⊎_elim (λ (a : i < n). or_left _ _ (any_from n test i a e)) (λ (a : n ≤ i). or_right _ _ (let q : i ≡ n = omega arith in subst (λ x. test x ≡ true) q e)) (cases_lt i n)

-- the head that moves
moving : (R : RunInTime) (t : ℕ) → links_row R t ≡ true → (h : Head) × Named R.sizes (cell.Head h) × (head_moves R t h ≡ true)
moving R t e =
    let x = any_true R.sizes.keys _ e in
    ⊎_elim (λ (a : head_moves R t (head.Vertex x.0) ≡ true). (head.Vertex x.0, x.1, a))
    (λ (a : any_below R.sizes.keys (λ j. head_moves R t (head.Edge x.0 j)) ≡ true). let y = any_true R.sizes.keys _ a in (head.Edge x.0 y.0, (x.1, y.1), y.2))
    (or_true _ _ x.2)

counted : (R : RunInTime) (t : ℕ) (h : Head) → Named R.sizes (cell.Head h) → head_moves R t h ≡ true → links_row R t ≡ true
counted R t (head.Vertex i) n e = any_from R.sizes.keys _ i n (or_left _ _ e)
counted R t (head.Edge i j) n e = any_from R.sizes.keys _ i n.0 (or_right _ _ (any_from R.sizes.keys (λ j. head_moves R t (head.Edge i j)) j n.1 e))

module _ (R : RunInTime) where
  pub row_linked : (t : ℕ) → links_row R t ≡ true → (d : Change) × (r : ℕ) × LinkStep R t d r
  row_linked t e = (let x = moving R t e in by_step x.0 x.2 ((step R t).heads x.0 x.1))
    where
      by_step : (h : Head) → head_moves R t h ≡ true → HeadSteps R t h (head_at R (suc t) h) → (d : Change) × (r : ℕ) × LinkStep R t d r
      by_step h m (stays y) = absurd (let z = eq-eqb _ _ y in let u = rw z at m in cc)
      by_step h m (moves d q s) = (d, head_at R (suc t) h, s)

  pub link_counted : (t : ℕ) (d : Change) (r : ℕ) → LinkStep R t d r → links_row R t ≡ true
  link_counted t d r s = counted R t (change_head d) (subst (λ z. Named z (cell.Head (change_head d))) (sizes_at R t) named) (ap not (ne_eqb _ _ moved))
    where
      good : Sound (R.state t)
      good = sound_at R t

      fits : FitPlace (R.state t) (place.Link d (head_at R t (change_head d)))
      fits = subst (FitPlace (R.state t)) s.turn.place (good.places s.worker (subst (λ (z : Sizes). s.worker < z.workers) (sym (sizes_at R t)) s.turn.within))

      named : Named (R.state t).sizes (cell.Head (change_head d))
      named = change_named (R.state t) d fits.0

      moved : head_at R (suc t) (change_head d) ≢ head_at R t (change_head d)
      moved e = ⊎_elim
          (λ (z : head_at R t (change_head d) ≡ no_row). let row = linked_row (R.state (suc t)) (change_kind d) r s.linked in omega (arith, row.0, e, z, s.head))
          (λ (z : Linked (R.state t) (change_kind d) (head_at R t (change_head d))). s.fresh (subst (Linked (R.state t) (change_kind d)) (sym e ∙ s.head) z))
          (good.heads (change_head d) named)

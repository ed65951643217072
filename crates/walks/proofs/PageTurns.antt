-- A turn of a worker at a place of a snapshot or reach writes its entry into its page.
use Rattle.std.proofs.Common.{◌≡◌, ℕ, ◌+◌, ◌≤◌, Bool, true, false, cond, eqb, ltb, length, get_or, set, Option, refl, ap, ◌∙◌}
use Rattle.std.proofs.lemmas.List.{length-set}
use Rattle.layout.specs.declared.names.Cell.{Cell}
use Rattle.layout.specs.declared.names.Cell.TheVariants as cell
use Rattle.layout.specs.Layout.{index_of, needed, Named}
use Rattle.places.specs.declared.place.Stage.TheVariants as stage
use Rattle.places.specs.declared.place.Place.{Place}
use Rattle.places.specs.Marks.{pending}
use Rattle.places.specs.Touches.{touch_of, job_kind}
use Rattle.cells.specs.Cells.{swapped, raised}
use Rattle.machine.specs.States.{State}
use Rattle.machine.specs.Turns.{worker_at, hand_at, touch_at, followed_at, turned}
use Rattle.machine.specs.Effects.{put, got_of, cells_after}
use Rattle.laws.specs.Fits.{FitPlace, Fit}
use Rattle.walks.specs.Pages.{page_of, written}
use Rattle.walks.specs.Turns.{InSurvey, at_raise, at_head, at_older, at_field}
use Rattle.walks.specs.Written.{TurnsWrite}
use Rattle.laws.proofs.Owned.{linked_row}
use Rattle.walks.proofs.Written.{page, page_put, entered_written}
use Rattle.laws.proofs.Entries.{entry_fits}

module _ (s : State) where
  module _ (w : ℕ) (fit : Fit s w) where
    swapped_page : (d : Cell) (old new : ℕ) → Named s.sizes d → ((k : ℕ) → ¬ (cell.PageKey w k ≡ d)) → ((i j : ℕ) → ¬ (cell.PagePair w i j ≡ d)) →
        page s.sizes w fit.worker (swapped s.cells (index_of s.sizes d) old new) ≡ page s.sizes w fit.worker s.cells
    swapped_page d old new m a b = by_test (eqb (get_or s.cells (index_of s.sizes d) 0) old)
      where
        by_test : (t : Bool) → page s.sizes w fit.worker (cond t (put s.sizes s.cells d new) s.cells) ≡ page s.sizes w fit.worker s.cells
        by_test true = page_put s.sizes w fit.worker s.cells fit.cells d new m a b
        by_test false = refl

    raised_page : page s.sizes w fit.worker (raised s.cells 0 s.sizes.top) ≡ page s.sizes w fit.worker s.cells
    raised_page = by_test (ltb (get_or s.cells 0 0) s.sizes.top)
      where
        by_test : (t : Bool) → page s.sizes w fit.worker (cond t (put s.sizes s.cells cell.Clock (get_or s.cells 0 0 + 1)) s.cells) ≡ page s.sizes w fit.worker s.cells
        by_test true = page_put s.sizes w fit.worker s.cells fit.cells cell.Clock (get_or s.cells 0 0 + 1) tt (λ k e. absurd cc) (λ i j e. absurd cc)
        by_test false = refl

    -- the operation of a turn leaves the page
    touched_page : (p : Place) → InSurvey p → FitPlace s p → (spare : Option ℕ) → page s.sizes w fit.worker (cells_after s.sizes s.cells (touch_of p spare)) ≡ page s.sizes w fit.worker s.cells
    touched_page p (at_raise v) f o = raised_page
    touched_page p (at_head k) f o = refl
    touched_page p (at_older k r) f o = refl
    touched_page p (at_field stage.First d k r) f o = refl
    touched_page p (at_field stage.Clock d k r) f o = refl
    touched_page p (at_field (stage.Swap x) d k r) f o = swapped_page (cell.Stamp (job_kind k.job) d r) pending x (linked_row s (job_kind k.job) r f.1) (λ i e. absurd cc) (λ i j e. absurd cc)
    touched_page p (at_field stage.Reread d k r) f o = refl

    swapped_enough : (i old new : ℕ) → needed s.sizes ≤ length (swapped s.cells i old new)
    swapped_enough i old new = by_test (eqb (get_or s.cells i 0) old)
      where
        by_test : (t : Bool) → needed s.sizes ≤ length (cond t (set s.cells i new) s.cells)
        by_test true = simp length-set fit.cells
        by_test false = fit.cells

    raised_enough : needed s.sizes ≤ length (raised s.cells 0 s.sizes.top)
    raised_enough = by_test (ltb (get_or s.cells 0 0) s.sizes.top)
      where
        by_test : (t : Bool) → needed s.sizes ≤ length (cond t (set s.cells 0 (get_or s.cells 0 0 + 1)) s.cells)
        by_test true = simp length-set fit.cells
        by_test false = fit.cells

    touched_enough : (p : Place) → InSurvey p → (spare : Option ℕ) → needed s.sizes ≤ length (cells_after s.sizes s.cells (touch_of p spare))
    touched_enough p (at_raise v) o = raised_enough
    touched_enough p (at_head k) o = fit.cells
    touched_enough p (at_older k r) o = fit.cells
    touched_enough p (at_field stage.First d k r) o = fit.cells
    touched_enough p (at_field stage.Clock d k r) o = fit.cells
    touched_enough p (at_field (stage.Swap x) d k r) o = swapped_enough (index_of s.sizes (cell.Stamp (job_kind k.job) d r)) pending x
    touched_enough p (at_field stage.Reread d k r) o = fit.cells

    turn_writes : InSurvey (worker_at s w).place → page_of (turned s w) w ≡ written (page_of s w) (followed_at s w).entry
    turn_writes i =
        entered_written s.sizes w fit.worker (cells_after s.sizes s.cells (touch_at s w)) (touched_enough (worker_at s w).place i (hand_at s w).spare) (followed_at s w).entry
        (entry_fits s s.sizes.keys (worker_at s w) (hand_at s w) (got_of s.sizes s.cells (touch_at s w)) fit.place)
        ∙ ap (λ p. written p (followed_at s w).entry) (touched_page (worker_at s w).place i fit.place (hand_at s w).spare)

pub turns_write : TurnsWrite
turns_write s w fit i = turn_writes s w fit i

-- What a turn of a snapshot or reach does to the cells that walks read.
use Rattle.std.proofs.Common.{◌≡◌, ℕ, zero, suc, ◌+◌, ◌<◌, true, eqb, List, length, None, get_or, set, refl, ◌∙◌, arith, get_or-set_same, get_or-set_other}
use Rattle.std.proofs.lemmas.Bool.{lt-ltb}
use Rattle.std.proofs.lemmas.Bool.Decides.{nat_tests}
use Rattle.layout.specs.declared.sizes.Sizes.{Sizes}
use Rattle.layout.specs.declared.names.Cell.TheVariants as cell
use Rattle.layout.specs.Layout.{index_of, page_start, page_size}
use Rattle.layout.proofs.Regions.{index_lt}
use Rattle.places.specs.declared.place.Stage.TheVariants as stage
use Rattle.places.specs.declared.place.Place.{Place}
use Rattle.places.specs.Marks.{pending}
use Rattle.places.specs.Touches.{touch_of, job_kind}
use Rattle.places.specs.Nexts.{next_of}
use Rattle.machine.specs.States.{State}
use Rattle.machine.specs.Turns.{worker_at, hand_of, turned}
use Rattle.machine.specs.Workers.{followed}
use Rattle.machine.specs.Effects.{got_of, cells_after, zeroed, entered}
use Rattle.cells.specs.Cells.{swapped}
use Rattle.laws.specs.Fits.{FitPlace, Fit}
use Rattle.laws.proofs.Owned.{linked_row}
use Rattle.walks.specs.Memory.{Memory, memory_of}
use Rattle.walks.specs.Walking.{Done}
use Rattle.walks.specs.Surveys.{TurnDone}
use Rattle.walks.specs.Turns.{surveyor_of, InSurvey, at_raise, at_head, at_older, at_field}

-- cells before those that are cleared stay
zeroed_before : (cs : List ℕ) (i n j : ℕ) → j < i → get_or (zeroed cs i n) j 0 ≡ get_or cs j 0
zeroed_before cs i zero j l = refl
zeroed_before cs i (suc n) j l = get_or-set_other (zeroed cs i n) (i + n) j 0 0 (λ e. omega arith) ∙ zeroed_before cs i n j l

-- the pages lie after the clock
page_after_clock : (z : Sizes) (w : ℕ) → 0 < page_start z w
page_after_clock z w = omega arith

swapped_here : (cs : List ℕ) (i old new : ℕ) → i < length cs → get_or cs i 0 ≡ old → get_or (swapped cs i old new) i 0 ≡ new
swapped_here cs i old new l e = (let q : eqb (get_or cs i 0) old ≡ true = grind (arith, nat_tests) in rw q (get_or-set_same cs i new 0 l))

-- the cells after a turn at place p
abbrev cells_then : State → ℕ → Place → List ℕ
cells_then s w p =
    let h = hand_of s.sizes s.cells w (worker_at s w) p in
    let t = touch_of p h.spare in
    entered s.sizes w (cells_after s.sizes s.cells t) (followed s.sizes.keys (worker_at s w) h (next_of p h (got_of s.sizes s.cells t))).entry

abbrev memory_then : State → ℕ → Place → Memory
memory_then s w p = memory_of (record { cells = cells_then s w p; sizes = s.sizes; workers = s.workers })

module _ (s : State) (w : ℕ) (fit : Fit s w) where
  effect_at : (p : Place) → InSurvey p → FitPlace s p → Done s.sizes.top (memory_of s) (memory_then s w p) (touch_of p None)
  effect_at p (at_raise v) f = λ u. (
      let l : 0 < length s.cells = omega (arith, fit.cells) in
      rw (lt-ltb 0 (length s.cells) l, lt-ltb (get_or s.cells 0 0) s.sizes.top u)
      (zeroed_before (set s.cells 0 (get_or s.cells 0 0 + 1)) (page_start s.sizes w) (page_size s.sizes) 0 (page_after_clock s.sizes w) ∙ get_or-set_same s.cells 0 (get_or s.cells 0 0 + 1) 0 l ∙ omega arith))
  effect_at p (at_head k) f = tt
  effect_at p (at_older k r) f = tt
  effect_at p (at_field stage.First d k r) f = tt
  effect_at p (at_field stage.Clock d k r) f = tt
  effect_at p (at_field (stage.Swap x) d k r) f = λ e. swapped_here s.cells (index_of s.sizes (cell.Stamp (job_kind k.job) d r)) pending x
      (omega (arith, fit.cells, index_lt s.sizes (cell.Stamp (job_kind k.job) d r) (linked_row s (job_kind k.job) r f.1))) e
  effect_at p (at_field stage.Reread d k r) f = tt

  pub effect : InSurvey (worker_at s w).place → TurnDone s.sizes.top (memory_of s) (memory_of (turned s w)) (surveyor_of s w)
  effect i = effect_at (worker_at s w).place i fit.place

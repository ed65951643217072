-- A turn that swaps a cell: whether it is done, and what the cell then holds. And the marks of numbers.
use Rattle.std.proofs.Common.{◌≡◌, ℕ, ◌<◌, Bool, true, false, cond, eqb, List, length, set, get_or, refl, ap, ◌∙◌, arith}
use Rattle.std.proofs.lemmas.Bool.{lt-ltb}
use Rattle.std.proofs.lemmas.List.{get_or-set_same}
use Rattle.std.specs.Option.{is_some}
use Rattle.layout.specs.declared.names.Cell.{Cell}
use Rattle.layout.specs.Layout.{index_of, Named}
use Rattle.layout.proofs.Regions.{index_lt}
use Rattle.places.specs.declared.mark.Mark.TheVariants.{NotEnded, Pending, Stamp}
use Rattle.places.specs.declared.place.Place.{Place}
use Rattle.places.specs.declared.place.Touch.TheVariants as touch
use Rattle.places.specs.Marks.{pending, mark_of}
use Rattle.places.specs.Moved.{Next, Next as next}
use Rattle.places.specs.Flows.{Flow}
use Rattle.machine.specs.States.{State}
use Rattle.machine.specs.Effects.{got_of, cells_after, entered}
use Rattle.machine.specs.Turns.{worker_at, cell_at, hand_at, touch_at, next_at, turned}
use Rattle.machine.specs.Workers.{followed}
use Rattle.laws.specs.Changes.{number_in}
use Rattle.laws.specs.Sound.{Sound}
use Rattle.runs.proofs.Turns.{touch_from, touch_is}
use Rattle.laws.proofs.Puts.{done_is}

pub mark_zero : (n : ℕ) → eqb n 0 ≡ false → ¬ (mark_of n ≡ NotEnded)
mark_zero n e m = go (eqb n pending) (rw e at m)
  where
    go : (v : Bool) → cond v Pending (Stamp n) ≡ NotEnded → ⊥
    go true x = absurd cc
    go false x = absurd cc

pub mark_pending : (n : ℕ) → eqb n pending ≡ false → ¬ (mark_of n ≡ Pending)
mark_pending n e m = go (eqb n 0) (rw e at m)
  where
    go : (v : Bool) → cond v NotEnded (Stamp n) ≡ Pending → ⊥
    go true x = absurd cc
    go false x = absurd cc

module _ (s : State) (w : ℕ) (z : Sound s) where
  in_cells : (c : Cell) → Named s.sizes c → index_of s.sizes c < length s.cells
  in_cells c n = omega (arith, index_lt s.sizes c n, z.cells)

  -- the swap is done where the cell holds the old number
  pub swap_done : (c : Cell) (old new : ℕ) → Named s.sizes c → is_some (got_of s.sizes s.cells (touch.Swap c old new)) ≡ eqb (number_in s c) old
  swap_done c old new n = rw (lt-ltb (index_of s.sizes c) (length s.cells) (in_cells c n)) (done_is (eqb (number_in s c) old) old)

  abbrev cells_from : Next → List ℕ
  cells_from x = entered s.sizes w (cells_after s.sizes s.cells (touch_at s w)) (followed s.sizes.keys (worker_at s w) (hand_at s w) x).entry

  -- the cell is the new number where it was the old one
  pub swap_number : (p : Place) → (worker_at s w).place ≡ p → (c : Cell) (old new : ℕ) → touch_from s w p ≡ touch.Swap c old new → (o : Flow) → next_at s w ≡ next.Moved o → Named s.sizes c → number_in (turned s w) c ≡ cond (eqb (number_in s c) old) new (number_in s c)
  swap_number p e c old new t o x n =
      ap (λ y. cell_at s.sizes (cells_from y) c) x ∙ ap (λ y. cell_at s.sizes (cells_after s.sizes s.cells y) c) (touch_is s w p e ∙ t) ∙ go (eqb (number_in s c) old)
    where
      go : (v : Bool) → get_or (cond v (set s.cells (index_of s.sizes c) new) s.cells) (index_of s.sizes c) 0 ≡ cond v new (number_in s c)
      go true = get_or-set_same s.cells (index_of s.sizes c) new 0 (in_cells c n)
      go false = refl

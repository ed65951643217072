-- A link turn: whether the swap says yes, and what the new row holds.
use Rattle.std.proofs.Common.{◌≡◌, ℕ, ◌<◌, Bool, true, false, eqb, List, length, Some, None, Option, sym, refl, ap, ◌∙◌, arith}
use Rattle.std.proofs.lemmas.Bool.{eq-eqb, eqb-true, lt-ltb, both_ways}
use Rattle.std.proofs.lemmas.List.{get_or-set_same}
use Rattle.std.specs.Option.{is_some}
use Rattle.layout.specs.declared.sizes.Sizes.{Sizes}
use Rattle.layout.specs.declared.names.Field.{Field}
use Rattle.layout.specs.declared.names.Cell.{Cell}
use Rattle.layout.specs.declared.names.Cell.TheVariants as cell
use Rattle.layout.specs.Layout.{index_of, Named, IsRow}
use Rattle.layout.proofs.Regions.{index_lt}
use Rattle.places.specs.declared.place.Change.{Change}
use Rattle.places.specs.declared.place.Place.{Place}
use Rattle.places.specs.declared.place.Place.TheVariants as place
use Rattle.places.specs.declared.place.Touch.TheVariants as touch
use Rattle.places.specs.Moved.{Next, Next as next}
use Rattle.places.specs.Private.{link_kind}
use Rattle.places.specs.Touches.{change_head, change_kind, link_touch, touch_of}
use Rattle.places.specs.Nexts.{link_done as next_link, next_of}
use Rattle.machine.specs.States.{State}
use Rattle.machine.specs.Effects.{put, filled, link_done, got_of, cells_after, entered}
use Rattle.machine.specs.Turns.{worker_at, cell_at, spare_for, hand_of, next_at, turned}
use Rattle.machine.specs.Workers.{followed}
use Rattle.laws.specs.Fits.{FitChange}
use Rattle.laws.specs.Changes.{next_own, number_in}
use Rattle.laws.specs.Stamps.{field_start}
use Rattle.laws.proofs.Heads.{change_named}
use Rattle.laws.proofs.Puts.{Enough, swap_at, done_is}
use Rattle.laws.proofs.Owned.{next_own_lem}
use Rattle.laws.proofs.Fills.{head_filled, enough_filled, older_filled, stamp_filled}

-- what follows at a place
abbrev next_from : State → ℕ → Place → Next
next_from s w p = next_of p (hand_of s.sizes s.cells w (worker_at s w) p) (got_of s.sizes s.cells (touch_of p (spare_for s.sizes w (worker_at s w) (link_kind p))))

module _ (s : State) (w : ℕ) (d : Change) (h : ℕ) (l : Enough s.sizes s.cells) (f : FitChange s d) (r : ℕ) (own : next_own s w (change_kind d) ≡ Some r) where
  abbrev z : Sizes
  z = s.sizes

  abbrev top : Cell
  top = cell.Head (change_head d)

  row : IsRow z (change_kind d) r
  row = (next_own_lem s w (change_kind d) r own).0

  -- the swap says yes where the head is still the one that was read
  link_says : link_done z s.cells d h r ≡ eqb (number_in s top) h
  link_says =
      let n = change_named s d f in
      let c' : List ℕ = filled z s.cells d h r in
      let e : Enough z c' = enough_filled z s.cells d h r l in
      let i : index_of z top < length c' = omega (arith, index_lt z top n) in
      let same : cell_at z c' top ≡ number_in s top = head_filled z s.cells d h r row l (change_head d) n in
      rw (lt-ltb (index_of z top) (length c') i, same) refl

  -- what a link turn touches is the worker's next row
  abbrev got_from : Option ℕ → Option ℕ
  got_from o = got_of z s.cells (link_touch d h o)

  got_link : is_some (got_from (next_own s w (change_kind d))) ≡ eqb (number_in s top) h
  got_link = ap (λ o. is_some (got_from o)) own ∙ done_is (link_done z s.cells d h r) h ∙ link_says

  -- a lost link: the head is not the one that was read
  pub lost_differs : is_some (got_from (next_own s w (change_kind d))) ≡ false → number_in s top ≡ h → ⊥
  lost_differs e same = both_ways (eqb (number_in s top) h) (sym got_link ∙ e) (eq-eqb (number_in s top) h same)

  link_won : (o : Option ℕ) (b : Bool) → o ≡ Some r → b ≡ true → next_link d o b ≡ next.Linked d r
  link_won o b e g = rw (e, g) refl

  -- a link that is won
  pub won_links : (worker_at s w).place ≡ place.Link d h → number_in s top ≡ h → next_at s w ≡ next.Linked d r
  won_links e same = ap (next_from s w) e ∙ link_won (next_own s w (change_kind d)) _ own (got_link ∙ eq-eqb (number_in s top) h same)

  -- a link that is won: the cells of the new row hold what they were filled with
  new_holds : (c : Cell) → Named z c → ¬ (c ≡ top) → (worker_at s w).place ≡ place.Link d h → next_at s w ≡ next.Linked d r → number_in (turned s w) c ≡ cell_at z (filled z s.cells d h r) c
  new_holds c n apart e nx =
      let cells_from : Place → List ℕ = λ p. cells_after z s.cells (touch_of p (spare_for z w (worker_at s w) (link_kind p))) in
      let link : List ℕ = cells_after z s.cells (touch.Link d h r) in
      let linked : cells_from (worker_at s w).place ≡ link = ap cells_from e ∙ ap (λ o. cells_after z s.cells (link_touch d h o)) own in
      let value : cell_at z link c ≡ cell_at z (filled z s.cells d h r) c =
      swap_at z (λ y. y ≡ cell_at z (filled z s.cells d h r) c) (filled z s.cells d h r) top c h r n (change_named s d f) (enough_filled z s.cells d h r l)
      (λ q v. absurd (apart q)) refl in
      ap (λ x. cell_at z (entered z w (cells_from (worker_at s w).place) (followed z.keys (worker_at s w) (hand_of z s.cells w (worker_at s w) (worker_at s w).place) x).entry) c) nx
      ∙ ap (λ (x : List ℕ). cell_at z x c) linked ∙ value

  won_yes : (o : Option ℕ) (b : Bool) → o ≡ Some r → next_link d o b ≡ next.Linked d r → b ≡ true
  won_yes (Some q) true e g = refl
  won_yes (Some q) false e g = absurd cc
  won_yes None b e g = absurd cc

  -- the head was the one that was read, and is the new row
  pub won_head : (worker_at s w).place ≡ place.Link d h → next_at s w ≡ next.Linked d r → number_in s top ≡ h
  won_head e nx = eqb-true (number_in s top) h (sym got_link ∙ won_yes (next_own s w (change_kind d)) _ own (sym (ap (next_from s w) e) ∙ nx))

  pub new_head : (worker_at s w).place ≡ place.Link d h → next_at s w ≡ next.Linked d r → number_in (turned s w) top ≡ r
  new_head e nx =
      let n = change_named s d f in
      let c' : List ℕ = filled z s.cells d h r in
      let cells_from : Place → List ℕ = λ p. cells_after z s.cells (touch_of p (spare_for z w (worker_at s w) (link_kind p))) in
      let link : List ℕ = cells_after z s.cells (touch.Link d h r) in
      let linked : cells_from (worker_at s w).place ≡ link = ap cells_from e ∙ ap (λ o. cells_after z s.cells (link_touch d h o)) own in
      let same : cell_at z c' top ≡ h = head_filled z s.cells d h r row l (change_head d) n ∙ won_head e nx in
      let set_is : link ≡ put z c' top r = rw (eq-eqb (cell_at z c' top) h same) refl in
      let value : cell_at z link top ≡ r = ap (λ (x : List ℕ). cell_at z x top) set_is ∙ get_or-set_same c' (index_of z top) r 0 (omega (arith, index_lt z top n, enough_filled z s.cells d h r l)) in
      ap (λ x. cell_at z (entered z w (cells_from (worker_at s w).place) (followed z.keys (worker_at s w) (hand_of z s.cells w (worker_at s w) (worker_at s w).place) x).entry) top) nx
      ∙ ap (λ (x : List ℕ). cell_at z x top) linked ∙ value

  -- the new row is over the head that was read
  pub new_older : (worker_at s w).place ≡ place.Link d h → next_at s w ≡ next.Linked d r → number_in (turned s w) (cell.Older (change_kind d) r) ≡ h
  new_older e nx = new_holds (cell.Older (change_kind d) r) row (λ q. cc) e nx ∙ older_filled z s.cells d h r row l

  -- its ins is pending, its del 0
  pub new_stamp : (g : Field) → (worker_at s w).place ≡ place.Link d h → next_at s w ≡ next.Linked d r → number_in (turned s w) (cell.Stamp (change_kind d) g r) ≡ field_start g
  new_stamp g e nx = new_holds (cell.Stamp (change_kind d) g r) row (λ q. cc) e nx ∙ stamp_filled z s.cells d h r row l g

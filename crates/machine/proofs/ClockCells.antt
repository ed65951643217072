-- A turn keeps the number of cells, and only a raise moves the clock, up by one and not above its greatest number.
use Rattle.std.proofs.Common.{◌≡◌, ℕ, zero, suc, ◌+◌, ◌<◌, ◌≤◌, Bool, true, false, cond, List, length, get_or, set, eqb, ltb, Some, None, Option, refl, ◌∙◌, ⊎_elim, arith}
use Rattle.std.proofs.lemmas.List.{length-set, get_or_past, get_or-set_same, get_or-set_other}
use Rattle.std.proofs.lemmas.Bool.{cond_both, ltb-true, lt-ltb, cases_lt}
use Rattle.cells.specs.Cells.{swapped, raised, raise_of}
use Rattle.layout.specs.declared.sizes.Sizes.{Sizes}
use Rattle.layout.specs.declared.names.Kind.TheVariants.{Vertex, Edge}
use Rattle.layout.specs.declared.names.Field.TheVariants.{Ins, Del}
use Rattle.layout.specs.declared.names.Head.TheVariants as head
use Rattle.layout.specs.declared.names.Cell.{Cell}
use Rattle.layout.specs.declared.names.Cell.TheVariants as cell
use Rattle.layout.specs.Layout.{index_of, page_start, page_size}
use Rattle.places.specs.Marks.{pending}
use Rattle.places.specs.declared.place.Change.{Change}
use Rattle.places.specs.declared.place.Change.TheVariants as change
use Rattle.places.specs.declared.place.Purpose.{Purpose}
use Rattle.places.specs.declared.place.Purpose.TheVariants as purpose
use Rattle.places.specs.declared.place.Stage.TheVariants as stage
use Rattle.places.specs.declared.place.Place.{Place}
use Rattle.places.specs.declared.place.Place.TheVariants as place
use Rattle.places.specs.declared.place.Touch.{Touch}
use Rattle.places.specs.declared.place.Touch.TheVariants as touch
use Rattle.places.specs.Touches.{change_head, change_kind, settled_field, touch_of}
use Rattle.books.specs.declared.walked.Entry.{Entry}
use Rattle.books.specs.declared.walked.Entry.TheVariants as entry
use Rattle.machine.specs.Effects.{got_of, put, bound, filled, linked_cells, cells_after, zeroed, entered}

abbrev pub clock_in : List ℕ → ℕ
clock_in cs = get_or cs 0 0

-- every name but that of the clock
abbrev Other : Cell → Type 0
Other cell.Clock = ⊥
Other c = Unit {0}

other_index : (z : Sizes) (c : Cell) → Other c → 0 < index_of z c
other_index z cell.Clock o = absurd o
other_index z (cell.Head (head.Vertex i)) o = omega arith
other_index z (cell.Head (head.Edge i j)) o = omega arith
other_index z (cell.Older Vertex r) o = omega arith
other_index z (cell.Older Edge r) o = omega arith
other_index z (cell.Stamp Vertex f r) o = omega arith
other_index z (cell.Stamp Edge f r) o = omega arith
other_index z (cell.Source r) o = omega arith
other_index z (cell.Target r) o = omega arith
other_index z (cell.Weight r) o = omega arith
other_index z (cell.PageKey w k) o = omega arith
other_index z (cell.PagePair w i j) o = omega arith

-- as many cells, and the clock as it was
pub record Rests (cs ds : List ℕ) : Type 0 where
  pub count : length ds ≡ length cs
  pub clock : clock_in ds ≡ clock_in cs

module _ (cs : List ℕ) where
  rests : Rests cs cs
  rests = record { count = refl; clock = refl }

  rests_set : (ds : List ℕ) (i v : ℕ) → 0 < i → Rests cs ds → Rests cs (set ds i v)
  rests_set ds i v l r = record {
    count = simp length-set r.count;
    clock = rw (get_or-set_other ds i 0 v 0 (λ e. omega arith)) r.clock;
  }

  rests_put : (z : Sizes) (ds : List ℕ) (c : Cell) (v : ℕ) → Other c → Rests cs ds → Rests cs (put z ds c v)
  rests_put z ds c v o r = rests_set ds (index_of z c) v (other_index z c o) r

  rests_swapped : (z : Sizes) (ds : List ℕ) (c : Cell) (old new : ℕ) → Other c → Rests cs ds → Rests cs (swapped ds (index_of z c) old new)
  rests_swapped z ds c old new o r =
      cond_both (eqb (get_or ds (index_of z c) 0) old) (set ds (index_of z c) new) ds (λ u. Rests cs u)
      (λ _. rests_put z ds c new o r) (λ _. r)

  rests_bound : (z : Sizes) (ds : List ℕ) (c : Change) (r : ℕ) → Rests cs ds → Rests cs (bound z ds c r)
  rests_bound z ds (change.Vertex i) r t = t
  rests_bound z ds (change.Edge b) r t =
      rests_put z _ (cell.Weight r) _ tt (rests_put z _ (cell.Target r) _ tt (rests_put z ds (cell.Source r) _ tt t))

  rests_linked : (z : Sizes) (c : Change) (h r : ℕ) → Rests cs (linked_cells z cs c h r)
  rests_linked z c h r =
      rests_swapped z (filled z cs c h r) (cell.Head (change_head c)) h r tt
      (rests_bound z _ c r
      (rests_put z _ (cell.Stamp (change_kind c) Del r) 0 tt
      (rests_put z _ (cell.Stamp (change_kind c) Ins r) pending tt
      (rests_put z cs (cell.Older (change_kind c) r) h tt rests))))

  rests_zeroed : (ds : List ℕ) (i n : ℕ) → 0 < i → Rests cs ds → Rests cs (zeroed ds i n)
  rests_zeroed ds i zero l r = r
  rests_zeroed ds i (suc n) l r = rests_set (zeroed ds i n) (i + n) 0 (omega arith) (rests_zeroed ds i n l r)

-- what goes into a page
pub rests_entered : (z : Sizes) (w : ℕ) (cs : List ℕ) (e : Entry) → Rests cs (entered z w cs e)
rests_entered z w cs entry.Nothing = rests cs
rests_entered z w cs entry.Clear = rests_zeroed cs cs (page_start z w) (page_size z) (omega arith) (rests cs)
rests_entered z w cs (entry.Key k r) = rests_put cs z cs (cell.PageKey w k) r tt (rests cs)
rests_entered z w cs (entry.Pair i j x) = rests_put cs z cs (cell.PagePair w i j) x tt (rests cs)
rests_entered z w cs (entry.Join i j x r) = rests_put cs z _ (cell.PageKey w j) r tt (rests_put cs z cs (cell.PagePair w i j) x tt (rests cs))

-- no turn swaps the clock
abbrev Swaps : Touch → Type 0
Swaps (touch.Swap c old new) = Other c
Swaps t = Unit {0}

field_other : (p : Purpose) → Other (settled_field p)
field_other (purpose.Look f l r) = tt
field_other (purpose.Own f c r) = tt
field_other (purpose.LostDel c r) = tt
field_other (purpose.WinnerIns i r) = tt
field_other (purpose.SourceAgain o b) = tt
field_other (purpose.CheckAgain s o b f) = tt
field_other (purpose.Compare s b f e x) = tt
field_other (purpose.Walk f k r) = tt

swaps_of : (p : Place) (spare : Option ℕ) → Swaps (touch_of p spare)
swaps_of place.Idle spare = tt
swaps_of (place.Head l) spare = tt
swaps_of (place.Settle stage.First q) spare = tt
swaps_of (place.Settle stage.Clock q) spare = tt
swaps_of (place.Settle (stage.Swap n) q) spare = field_other q
swaps_of (place.Settle stage.Reread q) spare = tt
swaps_of (place.Link c h) None = tt
swaps_of (place.Link c h) (Some r) = tt
swaps_of (place.End c r) spare = tt
swaps_of (place.LostHead i) spare = tt
swaps_of (place.Raise v) spare = tt
swaps_of (place.WalkHead k) spare = tt
swaps_of (place.WalkOlder k r) spare = tt

-- by how much a touch moves the clock
abbrev pub raises : Touch → Option ℕ → ℕ
raises touch.Raise (Some t) = 1
raises t g = 0

-- as many cells, and the clock moved by n
pub record Moves (n : ℕ) (limit : ℕ) (cs ds : List ℕ) : Type 0 where
  pub count : length ds ≡ length cs
  pub clock : clock_in ds ≡ clock_in cs + n
  pub top : clock_in cs ≤ limit → clock_in ds ≤ limit

rests_moves : (top : ℕ) (cs ds : List ℕ) → Rests cs ds → Moves 0 top cs ds
rests_moves top cs ds r = record { count = r.count; clock = omega (arith, r.clock); top = λ l. omega (arith, r.clock) }

module _ (top : ℕ) (cs : List ℕ) (l : 0 < length cs) where
  raised_by : (b c : Bool) → b ≡ true → ltb (clock_in cs) top ≡ c → Moves (raises touch.Raise (cond b (cond c (Some (clock_in cs)) None) None)) top cs (cond c (set cs 0 (clock_in cs + 1)) cs)
  raised_by true true e f =
      let same : clock_in (set cs 0 (clock_in cs + 1)) ≡ clock_in cs + 1 = get_or-set_same cs 0 (clock_in cs + 1) 0 l in
      record { count = length-set cs 0 (clock_in cs + 1); clock = same; top = λ _. omega (arith, same, ltb-true (clock_in cs) top f) }
  raised_by true false e f = rests_moves top cs cs (rests cs)
  raised_by false c e f = cc

  raise_moves : Moves (raises touch.Raise (raise_of cs 0 top)) top cs (raised cs 0 top)
  raise_moves = raised_by (ltb 0 (length cs)) (ltb (clock_in cs) top) (lt-ltb 0 (length cs) l) refl

-- what the touch of a turn does to the clock
pub touch_moves : (z : Sizes) (cs : List ℕ) (t : Touch) → Swaps t → 0 < length cs → Moves (raises t (got_of z cs t)) z.top cs (cells_after z cs t)
touch_moves z cs touch.Nothing o l = rests_moves z.top cs cs (rests cs)
touch_moves z cs (touch.Read c) o l = rests_moves z.top cs cs (rests cs)
touch_moves z cs (touch.Swap c old new) o l = rests_moves z.top cs _ (rests_swapped cs z cs c old new o (rests cs))
touch_moves z cs (touch.Link c h r) o l = rests_moves z.top cs _ (rests_linked cs z c h r)
touch_moves z cs touch.Raise o l = raise_moves z.top cs l

-- what a turn does to the clock
pub turn_moves : (z : Sizes) (cs : List ℕ) (w : ℕ) (p : Place) (spare : Option ℕ) (e : Entry) → 0 < length cs → Moves (raises (touch_of p spare) (got_of z cs (touch_of p spare))) z.top cs (entered z w (cells_after z cs (touch_of p spare)) e)
turn_moves z cs w p spare e l =
    let m = touch_moves z cs (touch_of p spare) (swaps_of p spare) l in
    let r = rests_entered z w (cells_after z cs (touch_of p spare)) e in
    record { count = r.count ∙ m.count; clock = r.clock ∙ m.clock; top = λ h. omega (arith, r.clock, m.top h) }

-- a memory in which the clock is not 0 has cells
pub has_cells : (cs : List ℕ) → 0 < clock_in cs → 0 < length cs
has_cells cs l =
    ⊎_elim (λ (h : 0 < length cs). h) (λ (h : length cs ≤ 0). absurd (omega (arith, get_or_past cs 0 0 h)))
    (cases_lt 0 (length cs))

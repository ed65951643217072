-- What a touch gives, and what it makes of the cells.
use Rattle.std.specs.Prelude.{ℕ, zero, suc, ◌+◌, Bool, false, List, Some, None, Option, slice_index, slice_set}
use Rattle.std.specs.Bool.{then_some}
use Rattle.std.specs.Option.{unwrap_or}
use Rattle.cells.specs.Cells.{swapped, swap_of, raised, raise_of}
use Rattle.layout.specs.declared.sizes.Sizes.{Sizes}
use Rattle.layout.specs.declared.names.Field.TheVariants.{Ins, Del}
use Rattle.layout.specs.declared.names.Cell.{Cell}
use Rattle.layout.specs.declared.names.Cell.TheVariants as cell
use Rattle.layout.specs.Layout.{index_of, page_start, page_size}
use Rattle.places.specs.Marks.{pending}
use Rattle.places.specs.Touches.{change_head, change_kind}
use Rattle.places.specs.declared.place.Change.{Change}
use Rattle.places.specs.declared.place.Change.TheVariants as change
use Rattle.places.specs.declared.place.Touch.{Touch}
use Rattle.places.specs.declared.place.Touch.TheVariants as touch
use Rattle.books.specs.declared.walked.Entry.{Entry}
use Rattle.books.specs.declared.walked.Entry.TheVariants as entry

-- a named cell set; a name past the end sets nothing
abbrev pub put : Sizes → List ℕ → Cell → ℕ → List ℕ
put z cs c v = slice_set cs (index_of z c) v

-- an edge row is bound to the rows of its two vertices, and has a weight
abbrev pub bound : Sizes → List ℕ → Change → ℕ → List ℕ
bound z cs (change.Vertex i) r = cs
bound z cs (change.Edge b) r = put z (put z (put z cs (cell.Source r) b.source) (cell.Target r) b.target) (cell.Weight r) (b.pair.weight)

-- a row filled for a link: older is the head that was read, ins pending, del 0
abbrev pub filled : Sizes → List ℕ → Change → ℕ → ℕ → List ℕ
filled z cs c h r =
    bound z (put z (put z (put z cs (cell.Older (change_kind c) r) h) (cell.Stamp (change_kind c) Ins r) pending) (cell.Stamp (change_kind c) Del r) 0) c r

abbrev pub link_done : Sizes → List ℕ → Change → ℕ → ℕ → Bool
link_done z cs c h r = unwrap_or (swap_of (filled z cs c h r) (index_of z (cell.Head (change_head c))) h) false

abbrev pub linked_cells : Sizes → List ℕ → Change → ℕ → ℕ → List ℕ
linked_cells z cs c h r = swapped (filled z cs c h r) (index_of z (cell.Head (change_head c))) h r

-- the number that the cell held, where the operation was done
abbrev pub got_of : Sizes → List ℕ → Touch → Option ℕ
got_of z cs touch.Nothing = None
got_of z cs (touch.Read c) = Some (slice_index cs (index_of z c))
got_of z cs (touch.Swap c old new) = then_some (unwrap_or (swap_of cs (index_of z c) old) false) old
got_of z cs touch.Raise = raise_of cs (index_of z cell.Clock) z.top
got_of z cs (touch.Link c h r) = then_some (link_done z cs c h r) h

abbrev pub cells_after : Sizes → List ℕ → Touch → List ℕ
cells_after z cs touch.Nothing = cs
cells_after z cs (touch.Read c) = cs
cells_after z cs (touch.Swap c old new) = swapped cs (index_of z c) old new
cells_after z cs touch.Raise = raised cs (index_of z cell.Clock) z.top
cells_after z cs (touch.Link c h r) = linked_cells z cs c h r

-- n cells from number i on at 0
abbrev pub zeroed : List ℕ → ℕ → ℕ → List ℕ
zeroed cs i zero = cs
zeroed cs i (suc n) = slice_set (zeroed cs i n) (i + n) 0

-- what is written into the page of worker w
abbrev pub entered : Sizes → ℕ → List ℕ → Entry → List ℕ
entered z w cs entry.Nothing = cs
entered z w cs entry.Clear = zeroed cs (page_start z w) (page_size z)
entered z w cs (entry.Key k r) = put z cs (cell.PageKey w k) r
entered z w cs (entry.Pair i j x) = put z cs (cell.PagePair w i j) x
entered z w cs (entry.Join i j x r) = put z (put z cs (cell.PagePair w i j) x) (cell.PageKey w j) r

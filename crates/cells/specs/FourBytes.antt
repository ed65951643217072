-- The cells of a byte image: four bytes a cell, highest first. Bytes left over at the end are no cell.
use Rattle.std.specs.Prelude.{ℕ, ◌+◌, ◌*◌, ◌/◌, List, map, length, drop, slice_index}
use Rattle.std.specs.List.{range_with_len}

-- the number that the four bytes of cell i make
abbrev pub word_at : List ℕ → ℕ → ℕ
word_at bs i = slice_index bs (4 * i) * 16777216 + slice_index bs (4 * i + 1) * 65536 + slice_index bs (4 * i + 2) * 256 + slice_index bs (4 * i + 3)

-- the cells, in order
unfoldable pub words_of : List ℕ → List ℕ
words_of bs = map (word_at bs) (range_with_len 0 (length bs / 4))

-- the bytes that are left over
abbrev pub spare_of : List ℕ → List ℕ
spare_of bs = drop (4 * (length bs / 4)) bs

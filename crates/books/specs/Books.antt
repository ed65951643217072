-- The book of a snapshot or reach.
use Rattle.std.specs.Prelude.{ℕ, ◌+◌, Bool, if◌then◌else◌, Some, None, Option, is_some, replicate, nat_lt, slice_index_or, slice_set}
use Rattle.std.specs.Option.{unwrap_or}
use Rattle.layout.specs.Rows.{no_row}
use Rattle.books.specs.declared.book.KeyState.{KeyState}
use Rattle.books.specs.declared.book.Book.{Book}

-- a key that is not shown and had no walk
abbrev pub unknown : KeyState
unknown = record { shown = no_row; found = None }

abbrev pub blank : ℕ → Book
blank t = record { t = t; keys = replicate 64 unknown; queue = replicate 64 0; len = 0 }

-- the row that the page shows of key k
abbrev pub shown_of : Book → ℕ → ℕ
shown_of b k = (slice_index_or b.keys k unknown).shown

-- what the walk of key k found, where it had one
abbrev pub found_of : Book → ℕ → Option ℕ
found_of b k = (slice_index_or b.keys k unknown).found

-- the visible row that the walk of key k found
abbrev pub row_of : Book → ℕ → ℕ
row_of b k = unwrap_or (found_of b k) no_row

-- key k has had its walk
abbrev pub is_seen : Book → ℕ → Bool
is_seen b k = is_some (found_of b k)

-- what the page shows of key k, and what its walk found
abbrev pub with_key : Book → ℕ → ℕ → Option ℕ → Book
with_key b k shown found = record { t = b.t; keys = slice_set b.keys k (record { shown = shown; found = found }); queue = b.queue; len = b.len }

-- key k has had its walk, which found row r visible
abbrev pub with_row : Book → ℕ → ℕ → Book
with_row b k r = with_key b k (shown_of b k) (Some r)

-- key k joins: the page shows its row, and it is to be served
abbrev pub joined : Book → ℕ → Book
joined b k =
    if nat_lt b.len 64 then (record { t = b.t; keys = (with_key b k (row_of b k) (found_of b k)).keys; queue = slice_set b.queue b.len k; len = b.len + 1 })
    else b

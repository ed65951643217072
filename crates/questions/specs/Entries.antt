-- The form of an entry in C.
use Rattle.std.specs.Prelude.{◌≡◌, ℕ, Some, None, Option}
use Rattle.questions.specs.declared.entry.Entry.{Entry}

-- 1 and the best value, or 0 and 0 where there is none
abbrev pub entry_of : Option ℕ → Entry
entry_of (Some v) = record { mark = 1; value = v }
entry_of None = record { mark = 0; value = 0 }

abbrev pub GivesEntry : Option ℕ → Entry → Type 0
GivesEntry x y = y ≡ entry_of x

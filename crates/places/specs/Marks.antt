-- The numbers of ins and del: 0 is not ended, one number is pending, the others are stamps.
use Rattle.std.specs.Prelude.{ℕ, Bool, true, false, if◌then◌else◌, Some, None, Option, ◌==◌, nat_lt}
use Rattle.places.specs.declared.mark.Mark.{Mark}
use Rattle.places.specs.declared.mark.Mark.TheVariants.{NotEnded, Pending, Stamp}

abbrev pub pending : ℕ
pending = 4294967295

abbrev pub mark_of : ℕ → Mark
mark_of n =
    if n == 0 then NotEnded
    else if n == pending then Pending
    else Stamp n

abbrev pub stamp_of : Mark → Option ℕ
stamp_of (Stamp n) = Some n
stamp_of m = None

-- a row whose del is pending or a stamp has ended
abbrev pub is_ended : Mark → Bool
is_ended NotEnded = false
is_ended m = true

-- a row has ended with a stamp below x
abbrev pub is_below : ℕ → Mark → Bool
is_below x (Stamp n) = nat_lt n x
is_below x m = false

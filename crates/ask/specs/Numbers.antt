-- The numbers that words name.
use Rattle.std.specs.Prelude.{ℕ, ◌^◌, Bool, if◌then◌else◌, ◌&&◌, List, length, Some, None, Option, nat_lt}
use Rattle.std.specs.Str.{all_ascii_digits}
use Rattle.std.specs.Str.Parse.{digits_value, without_leading_plus}
use Rattle.codes.specs.Page.{weight_of}

-- decimal digits, one at least
abbrev pub is_numeral : List ℕ → Bool
is_numeral digits = nat_lt 0 (length digits) && all_ascii_digits digits

-- the number that digits make, if it is less than 2 ^ bits
abbrev pub numeral : ℕ → List ℕ → Option ℕ
numeral bits digits = if is_numeral digits && nat_lt (digits_value 10 digits) (2 ^ bits) then Some (digits_value 10 digits) else None

-- the number that a word names; a plus may stand before its digits
abbrev pub number : ℕ → List ℕ → Option ℕ
number bits word = numeral bits (without_leading_plus word)

-- a number below n
abbrev pub below : ℕ → Option ℕ → Option ℕ
below n None = None
below n (Some k) = if nat_lt k n then Some k else None

-- the key that a word names, on a page of n keys
abbrev pub key_in : ℕ → List ℕ → Option ℕ
key_in n word = below n (number 64 word)

-- a weight: a number that does not stand for no edge
abbrev pub heavy : Option ℕ → Option ℕ
heavy None = None
heavy (Some w) = weight_of w

-- the weight that a word names
abbrev pub weight_in : List ℕ → Option ℕ
weight_in word = heavy (number 32 word)

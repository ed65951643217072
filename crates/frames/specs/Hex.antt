-- Bytes as pairs of hexadecimal digits: of either case where a line is read, capitals where one is written.
use Rattle.std.specs.Prelude.{ℕ, ◌+◌, ◌-◌, ◌*◌, ◌/◌, ◌%◌, Bool, if◌then◌else◌, ◌&&◌, List, [], ◌∷◌, Some, None, Option, nat_le, nat_lt}

-- low ≤ x ≤ high
abbrev pub between : ℕ → ℕ → ℕ → Bool
between low x high = nat_le low x && nat_le x high

-- the value of a digit: 0 to 9, A to F, a to f
abbrev pub digit_of : ℕ → Option ℕ
digit_of c =
    if between 48 c 57 then Some (c - 48)
    else if between 65 c 70 then Some (c - 65 + 10)
    else if between 97 c 102 then Some (c - 97 + 10)
    else None

-- the byte of a high and a low digit
abbrev pub byte_of : Option ℕ → Option ℕ → Option ℕ
byte_of (Some h) (Some l) = Some (16 * h + l)
byte_of (Some h) None = None
byte_of None (Some l) = None
byte_of None None = None

-- a byte in front of those of the rest
abbrev pub joined : Option ℕ → Option (List ℕ) → Option (List ℕ)
joined (Some b) (Some bs) = Some (b ∷ bs)
joined (Some b) None = None
joined None (Some bs) = None
joined None None = None

-- the bytes of a line of digit pairs; none where a character is no digit, or a digit stands alone
abbrev pub bytes_of : List ℕ → Option (List ℕ)
bytes_of [] = Some []
bytes_of (h ∷ []) = None
bytes_of (h ∷ (l ∷ rest)) = joined (byte_of (digit_of h) (digit_of l)) (bytes_of rest)

-- the digit of a value: 0 to 9, then A to F
abbrev pub capital : ℕ → ℕ
capital d = if nat_lt d 10 then 48 + d else 65 + (d - 10)

-- the digits of bytes, the high one of each first
abbrev pub hex_of : List ℕ → List ℕ
hex_of [] = []
hex_of (b ∷ bs) = capital (b / 16) ∷ (capital (b % 16) ∷ hex_of bs)

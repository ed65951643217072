-- The page that a reply 84 shows.
use Rattle.std.specs.Prelude.{◌≡◌, ℕ, zero, suc, ◌+◌, ◌*◌, ◌/◌, ◌%◌, ◌^◌, ◌<◌, Bool, true, if◌then◌else◌, ◌&&◌, ◌⊎◌, List, [], ◌∷◌, ◌++◌, length, map, take, drop, Some, None, Ok, Err, Option, Result, ◌==◌, slice_index}
use Rattle.hex.specs.Hex.{decode_of, encode_upper}
use Rattle.hex.specs.declared.error.FromHexError.{FromHexError}
use Rattle.questions.specs.Pages.{fits}
use Rattle.ask.specs.declared.drawn.Drawn.{Drawn}
use Rattle.ask.specs.declared.fault.Fault.{Fault}
use Rattle.ask.specs.declared.fault.Fault.TheVariants.{Memory, Reply}
use Rattle.ask.specs.Sheets.{Drawing, drawing}

-- how many bytes follow 84 00 on a page of n keys: one for each key, and four for each pair
abbrev pub bytes_for : ℕ → ℕ
bytes_for n = n + 4 * (n * n)

-- the first number of keys, of those that are left to try from n on, whose page has so many bytes
unfoldable pub keys_from : ℕ → ℕ → ℕ → Option ℕ
keys_from n zero size = None
keys_from n (suc left) size = if bytes_for n == size then Some n else keys_from (n + 1) left size

-- how many keys a page has, by its bytes
abbrev pub keys_for : ℕ → Option ℕ
keys_for size = keys_from 1 64 size

-- numbers of four bytes, the highest first
abbrev pub numbers : List ℕ → List ℕ
numbers [] = []
numbers (a ∷ []) = []
numbers (a ∷ (b ∷ [])) = []
numbers (a ∷ (b ∷ (c ∷ []))) = []
numbers (a ∷ (b ∷ (c ∷ (d ∷ rest)))) = (a * 16777216 + b * 65536 + c * 256 + d) ∷ numbers rest

-- a page of n keys, by its bytes
abbrev pub page_of : Option ℕ → List ℕ → Result Drawing Fault
page_of None bytes = Err Reply
page_of (Some n) bytes = Ok (record { keys = n; cells = take n bytes ++ numbers (drop n bytes) })

-- the page in the bytes of a reply
abbrev pub page_in : List ℕ → Result Drawing Fault
page_in [] = Err Reply
page_in (kind ∷ []) = Err Reply
page_in (kind ∷ (code ∷ bytes)) = if kind == 0x84 && code == 0 then page_of (keys_for (length bytes)) bytes else Err Reply

-- the page in the bytes that digits make, if they make bytes
abbrev pub page_in_decoded : Result (List ℕ) FromHexError → Result Drawing Fault
page_in_decoded (Err e) = Err Reply
page_in_decoded (Ok bytes) = page_in bytes

-- the page in the digits of a reply
abbrev pub replied : List ℕ → Result Drawing Fault
replied digits = page_in_decoded (decode_of digits)

-- a reply 84 begins with these two digits
abbrev pub is_reply : List ℕ → Bool
is_reply word = slice_index word 0 == 56 && slice_index word 1 == 52

-- this page is made, or the fault is answered; or no memory is left
abbrev pub Makes : Result Drawing Fault → Result Drawn Fault → Type 0
Makes page (Ok drawn) = page ≡ Ok (drawing drawn)
Makes page (Err why) = (why ≡ Memory) ⊎ (page ≡ Err why)

-- 1 for a key that a page shows
abbrev pub mark : ℕ → ℕ
mark cell = if cell == 0 then 0 else 1

-- four bytes for each number, the highest first
abbrev pub four_bytes : List ℕ → List ℕ
four_bytes [] = []
four_bytes (w ∷ more) = w / 16777216 % 256 ∷ (w / 65536 % 256 ∷ (w / 256 % 256 ∷ (w % 256 ∷ four_bytes more)))

-- the digits of a reply 84 that shows a page of n keys
abbrev pub reply_of : ℕ → List ℕ → List ℕ
reply_of n cells = encode_upper (0x84 ∷ (0 ∷ (map mark (take n cells) ++ four_bytes (drop n cells))))

-- a page that is read from a reply has the keys and the pairs that the reply shows
abbrev pub RepliesRead : Type 0
RepliesRead = (n : ℕ) (cells : List ℕ) → fits cells n ≡ true → ((k : ℕ) → slice_index cells k < 2 ^ 32) →
    replied (reply_of n cells) ≡ Ok (record { keys = n; cells = map mark (take n cells) ++ drop n cells })

-- The bytes of each reply, and its line: their digits in capitals.
use Rattle.std.specs.Prelude.{ℕ, zero, suc, ◌/◌, ◌%◌, List, [], ◌∷◌, ◌++◌, map, take, drop, Some, None, Ok, Err, Option, Result}
use Rattle.codes.specs.Codes.{answer_code, refusal_code}
use Rattle.codes.specs.declared.answer.Answer.{Answer}
use Rattle.codes.specs.declared.refusal.Refusal.{Refusal}
use Rattle.codes.specs.declared.refusal.Refusal.TheVariants as refusal
use Rattle.frames.specs.declared.line.Line.{Line}
use Rattle.frames.specs.declared.line.Line.TheVariants.{Two, Three}
use Rattle.frames.specs.declared.reply.Reply.{Reply}
use Rattle.frames.specs.declared.reply.Reply.TheVariants.{ToOpen, ToBegin, ToTurns, ToTake, NoFrame}
use Rattle.frames.specs.Hex.{hex_of}

-- 00 is done, or still running
abbrev pub code_byte : Result (Option Answer) Refusal → ℕ
code_byte (Ok None) = 0
code_byte (Ok (Some answer)) = answer_code answer
code_byte (Err refusal) = refusal_code refusal

-- the bytes of a reply, but for a page
abbrev pub reply_bytes : Reply → List ℕ
reply_bytes (ToOpen code) = 0x81 ∷ (code_byte code ∷ [])
reply_bytes (ToBegin code) = 0x82 ∷ (code_byte code ∷ [])
reply_bytes (ToTurns code used) = 0x83 ∷ (code_byte code ∷ (used ∷ []))
reply_bytes (ToTake refusal) = 0x84 ∷ (refusal_code refusal ∷ [])
reply_bytes NoFrame = 0xFF ∷ (refusal_code refusal.NoFrame ∷ [])

-- the line of a reply
abbrev pub reply_line : Reply → List ℕ
reply_line reply = hex_of (reply_bytes reply)

-- the digits that a line holds
abbrev pub line_digits : Line → List ℕ
line_digits (Two digits) = digits
line_digits (Three digits) = digits

-- 01 for a key that the page shows: its cell is not 0
abbrev pub key_byte : ℕ → ℕ
key_byte zero = 0
key_byte (suc row) = 1

-- four bytes for each number, the highest first
abbrev pub weight_bytes : List ℕ → List ℕ
weight_bytes [] = []
weight_bytes (w ∷ weights) = w / 16777216 % 256 ∷ (w / 65536 % 256 ∷ (w / 256 % 256 ∷ (w % 256 ∷ weight_bytes weights)))

-- the bytes of the cells of a page of n keys: first those of the keys, then those of the pairs
abbrev pub page_bytes : ℕ → List ℕ → List ℕ
page_bytes n cells = 0x84 ∷ (0x00 ∷ (map key_byte (take n cells) ++ weight_bytes (drop n cells)))

-- the line of a page
abbrev pub page_line : ℕ → List ℕ → List ℕ
page_line n cells = hex_of (page_bytes n cells)

-- a line with its line feed
abbrev pub fed : List ℕ → List ℕ
fed line = line ++ (10 ∷ [])

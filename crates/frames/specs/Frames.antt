-- Which bytes are a frame: the kind first, and for each kind one length. Numbers have the highest byte first.
use Rattle.std.specs.Prelude.{ℕ, zero, suc, ◌+◌, ◌*◌, Bool, if◌then◌else◌, ◌&&◌, List, length, Some, None, Option, Ok, Err, Result, ◌==◌, slice_index}
use Rattle.std.proofs.Common.{zero-lt-suc}
use Rattle.codes.specs.declared.refusal.Refusal.{Refusal}
use Rattle.codes.specs.declared.refusal.Refusal.TheVariants.{NoFrame}
use Rattle.frames.specs.declared.frame.Frame.{Frame}
use Rattle.frames.specs.declared.frame.Frame.TheVariants.{Open, Begin, Turns, Take}

-- the byte at a place
abbrev pub one : List ℕ → ℕ → ℕ
one bs i = slice_index bs i

-- the number of the two bytes from a place on
abbrev pub two : List ℕ → ℕ → ℕ
two bs i = one bs i * 256 + one bs (i + 1)

-- the number of the four bytes from a place on
abbrev pub four : List ℕ → ℕ → ℕ
four bs i = one bs i * 16777216 + one bs (i + 1) * 65536 + one bs (i + 2) * 256 + one bs (i + 3)

-- bytes of a kind and a length
abbrev pub shaped : ℕ → ℕ → List ℕ → Bool
shaped kind size bs = one bs 0 == kind && length bs == size

-- turns of a worker, one at least
abbrev pub turns_of : ℕ → ℕ → Result Frame Refusal
turns_of w zero = Err NoFrame
turns_of w (suc n) = Ok (Turns w (record { value = suc n; ok = zero-lt-suc n }))

-- the frame of its bytes
abbrev pub frame_of : List ℕ → Result Frame Refusal
frame_of bs =
    if shaped 1 11 bs then Ok (Open (record { keys = one bs 1; workers = one bs 2; vrows = two bs 3; erows = two bs 5; top = four bs 7 }))
    else if shaped 2 9 bs then Ok (Begin (record { worker = one bs 1; call = one bs 2; from = one bs 3; to = one bs 4; weight = four bs 5 }))
    else if shaped 3 3 bs then turns_of (one bs 1) (one bs 2)
    else if shaped 4 2 bs then Ok (Take (one bs 1))
    else Err NoFrame

-- the frame of the bytes of a line, where it has bytes
abbrev pub frame_in : Option (List ℕ) → Result Frame Refusal
frame_in None = Err NoFrame
frame_in (Some bs) = frame_of bs

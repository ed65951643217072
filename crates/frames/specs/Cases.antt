-- Worked cases: which frame some lines are, and the lines of some replies.
use Rattle.std.specs.Prelude.{◌≡◌, ℕ, List, [], ◌∷◌, None, Some, Ok, Err, Result, codes}
use Rattle.std.proofs.Common.{zero-lt-suc}
use Rattle.codes.specs.declared.answer.Answer.TheVariants.{VertexAdded}
use Rattle.codes.specs.declared.refusal.Refusal.{Refusal}
use Rattle.codes.specs.declared.refusal.Refusal.TheVariants.{WorkerBusy, WorkerIdle, NoFinishedPage, NoFrame}
use Rattle.frames.specs.declared.frame.Frame.{Frame}
use Rattle.frames.specs.declared.frame.Frame.TheVariants.{Open, Begin, Turns, Take}
use Rattle.frames.specs.declared.reply.Reply.TheVariants.{ToOpen, ToBegin, ToTurns, ToTake, NoFrame as Unframed}
use Rattle.frames.specs.Hex.{bytes_of}
use Rattle.frames.specs.Frames.{frame_in}
use Rattle.frames.specs.Replies.{reply_line, page_line}

-- the frame that a line is
abbrev pub read : List ℕ → Result Frame Refusal
read line = frame_in (bytes_of line)

pub record Cases : Type 0 where
  -- frames
  pub opens : read (codes "0102020004000400000009") ≡ Ok (Open (record { keys = 2; workers = 2; vrows = 4; erows = 4; top = 9 }))
  pub begins : read (codes "0201040001000000FF") ≡ Ok (Begin (record { worker = 1; call = 4; from = 0; to = 1; weight = 255 }))
  pub turns : read (codes "0300FF") ≡ Ok (Turns 0 (record { value = 255; ok = zero-lt-suc 254 }))
  pub small_letters : read (codes "0300ff") ≡ read (codes "0300FF")
  pub takes : read (codes "0407") ≡ Ok (Take 7)
  pub numbers : read (codes "010303A1B2C3D4E5F60718") ≡ Ok (Open (record { keys = 3; workers = 3; vrows = 41394; erows = 50132; top = 3858106136 }))
  -- no frames
  pub nothing : read [] ≡ Err NoFrame
  pub no_turns : read (codes "030000") ≡ Err NoFrame
  pub blank : read (codes "03 0FF") ≡ Err NoFrame
  pub half : read (codes "0300F") ≡ Err NoFrame
  pub no_digit : read (codes "0300FG") ≡ Err NoFrame
  pub too_short : read (codes "0300") ≡ Err NoFrame
  pub too_long : read (codes "0300FF00") ≡ Err NoFrame
  pub no_kind : read (codes "0500") ≡ Err NoFrame
  -- replies
  pub opened : reply_line (ToOpen (Ok None)) ≡ codes "8100"
  pub busy : reply_line (ToBegin (Err WorkerBusy)) ≡ codes "82E4"
  pub added : reply_line (ToTurns (Ok (Some VertexAdded)) 6) ≡ codes "831006"
  pub running : reply_line (ToTurns (Ok None) 255) ≡ codes "8300FF"
  pub idle : reply_line (ToTurns (Err WorkerIdle) 0) ≡ codes "83E800"
  pub not_taken : reply_line (ToTake NoFinishedPage) ≡ codes "84EA"
  pub no_frame : reply_line Unframed ≡ codes "FFED"
  pub page : page_line 2 (7 ∷ (0 ∷ (1 ∷ (4294967295 ∷ (0 ∷ (3735928559 ∷ [])))))) ≡ codes "8400010000000001FFFFFFFF00000000DEADBEEF"

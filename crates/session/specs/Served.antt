-- A text replied to line by line.
use Rattle.std.specs.Prelude.{◌≡◌, ℕ, ◌+◌, ◌<◌, ◌≤◌, List, [], ◌++◌, length, Some, None, Option, Result}
use Rattle.codes.specs.declared.refusal.Refusal.{Refusal}
use Rattle.frames.specs.Frames.{frame_in}
use Rattle.frames.specs.Hex.{bytes_of}
use Rattle.frames.specs.Replies.{fed}
use Rattle.frames.specs.Areas.{Put}
use Rattle.frames.specs.declared.frame.Frame.{Frame}
use Rattle.frames.specs.declared.frame.Frame.TheVariants as frame
use Rattle.session.specs.Answers.{Replies}
use Rattle.session.specs.Sessions.{SessionState}
use Rattle.session.specs.Texts.{line_of, behind_line}

-- the reply to the first line of a text, and the session after it
abbrev pub LineReplies : SessionState → List ℕ → List ℕ → SessionState → Type 0
LineReplies d text line d' = Replies d (frame_in (bytes_of (line_of text))) line d'

-- From a session and a text: what is left of the text, what has been written, and the session, after some lines.
pub data Served (d : SessionState) (text : List ℕ) : List ℕ → List ℕ → SessionState → Type 0 where
  nothing_yet : Served d text text [] d
  one_more : (rest out line : List ℕ) (e f : SessionState) → Served d text rest out e → 1 ≤ length rest → LineReplies e rest line f → Served d text (behind_line rest) (out ++ fed line) f

-- no reply to a frame fits behind the first `at` bytes of an area
abbrev pub NoRoom : SessionState → Result Frame Refusal → ℕ → ℕ → Type 0
NoRoom d f at size = (line : List ℕ) (d' : SessionState) → Replies d f line d' → size < at + length (fed line)

-- the fewest bytes of a line that replies to a frame while a run is open, with its line feed
abbrev pub line_len : Frame → ℕ
line_len (frame.Turns w n) = 7
line_len (frame.Open o) = 5
line_len (frame.Begin b) = 5
line_len (frame.Take w) = 5

-- the reply to a frame, with its line feed, written into an area from `at` on to its end at n
pub record Written (d : SessionState) (f : Result Frame Refusal) (at : ℕ) (old new : List ℕ) (n : ℕ) (d' : SessionState) : Type 0 where
  pub line : List ℕ
  pub replies : Replies d f line d'
  pub put : Put at (fed line) old new n

-- where the reply does not fit whole, nothing is written and the frame is not carried out
abbrev pub RepliesInto : SessionState → Result Frame Refusal → ℕ → List ℕ → List ℕ → Option ℕ → SessionState → Type 0
RepliesInto d f at old new None d' = (new ≡ old) × (d' ≡ d) × NoRoom d f at (length old)
RepliesInto d f at old new (Some n) d' = Written d f at old new n d'

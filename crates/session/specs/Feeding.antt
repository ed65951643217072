-- A text that comes piece by piece, and the replies to its lines.
use Rattle.std.specs.Prelude.{◌≡◌, ℕ, List, ◌++◌, length, take}
use Rattle.session.specs.Sessions.{SessionState}
use Rattle.session.specs.Texts.{feed_at}
use Rattle.session.specs.Served.{Served}

-- From a session on: what was read so far of a text, the bytes that are held of its last line, which has no line feed yet, and the replies. Whatever the text goes on with, the lines before that line are served.
pub record Feeding (start : SessionState) (read held out : List ℕ) (now : SessionState) : Type 0 where
  pub line : List ℕ
  pub free : feed_at line ≡ length line
  pub first : held ≡ take 23 line
  pub served : (more : List ℕ) → Served start (read ++ more) (line ++ more) out now

-- some bytes are read behind those before them, and some replies written behind those before them
abbrev pub Carries : SessionState → List ℕ → List ℕ → List ℕ → List ℕ → SessionState → Type 0
Carries d held bytes held' out e =
    (start : SessionState) (read pre : List ℕ) → Feeding start read held pre d → Feeding start (read ++ bytes) held' (pre ++ out) e

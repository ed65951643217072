-- Lines that are replied to one after the other.
use Rattle.std.specs.Prelude.{◌≡◌, List, [], ◌∷◌, ℕ}
use Rattle.frames.specs.Frames.{frame_in}
use Rattle.frames.specs.Hex.{bytes_of}
use Rattle.session.specs.Answers.{Replies}
use Rattle.session.specs.Sessions.{SessionState}

-- from a session on, the lines have these replies, one each
abbrev pub Plays : SessionState → List (List ℕ) → List (List ℕ) → Type 0
Plays d [] [] = Unit {0}
Plays d [] (reply ∷ replies) = ⊥
Plays d (line ∷ lines) [] = ⊥
Plays d (line ∷ lines) (reply ∷ replies) = (d' : SessionState) × Replies d (frame_in (bytes_of line)) reply d' × Plays d' lines replies

-- and no others
abbrev pub PlaysOnce : Type 0
PlaysOnce = (d : SessionState) (lines out out' : List (List ℕ)) → Plays d lines out → Plays d lines out' → out ≡ out'

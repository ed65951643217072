-- What a service has written of what it has read, from its start to its end. Where it is not known what the reader has left or what the writer holds, nothing is said.
use Rattle.std.specs.Prelude.{◌≡◌, ℕ, List, [], ◌++◌, length, take, Some, None, Option, Ok, Err, Result}
use Rattle.std.specs.Io.KnownBytes.{Appends}
use Rattle.session.specs.Sessions.{SessionState}
use Rattle.session.specs.Texts.{feed_at}
use Rattle.session.specs.Served.{Served}
use Rattle.session.specs.Feeding.{Feeding, Carries}
use Rattle.session.specs.declared.serve.ServeError.{ServeError}
use Rattle.session.specs.declared.serve.ServeError.TheVariants.{Read, Write}

-- known bytes of a writer grow by a front of `bytes`, and by all of it where that did not fail
abbrev pub GrowsByFront : {E : Type 0} → Option (List ℕ) → Option (List ℕ) → List ℕ → Result Unit E → Type 0
GrowsByFront old new bytes (Ok x) = Appends old new bytes
GrowsByFront old new bytes (Err e) = (n : ℕ) × Appends old new (take n bytes)

-- some bytes are taken in, and the replies behind those before them are written
pub record Passes (d : SessionState) (held bytes held' : List ℕ) (old new : Option (List ℕ)) (e : SessionState) : Type 0 where
  pub out : List ℕ
  pub carries : Carries d held bytes held' out e
  pub written : Appends old new out

-- a front of the bytes was taken in, and a front of the replies is written
pub record Breaks (d : SessionState) (held bytes : List ℕ) (old new : Option (List ℕ)) : Type 0 where
  pub k : ℕ
  pub n : ℕ
  pub later : List ℕ
  pub out : List ℕ
  pub session : SessionState
  pub carries : Carries d held (take k bytes) later out session
  pub written : Appends old new (take n out)

-- the input has ended: the last line is replied to, where it has no line feed, and that is written
pub record Finishes {E : Type 0} (d : SessionState) (held : List ℕ) (old new : Option (List ℕ)) (r : Result Unit E) : Type 0 where
  pub out : List ℕ
  pub session : SessionState
  pub served : (start : SessionState) (read pre : List ℕ) → Feeding start read held pre d → Served start read [] (pre ++ out) session
  pub written : GrowsByFront old new out r

-- every line was read and replied to
pub record AllServed (d : SessionState) (text before : List ℕ) (left after : Option (List ℕ)) : Type 0 where
  pub out : List ℕ
  pub session : SessionState
  pub served : Served d text [] out session
  pub read : left ≡ Some []
  pub written : after ≡ Some (before ++ out)

-- the input failed: every line that was read whole was replied to, and what was read of the next has no line feed
pub record ServedUpTo (d : SessionState) (text before : List ℕ) (left after : Option (List ℕ)) : Type 0 where
  pub line : List ℕ
  pub unread : List ℕ
  pub out : List ℕ
  pub session : SessionState
  pub free : feed_at line ≡ length line
  pub served : Served d text (line ++ unread) out session
  pub read : left ≡ Some unread
  pub written : after ≡ Some (before ++ out)

-- the output failed: what is written is a front of the replies to the lines that were read
pub record WrittenUpTo (d : SessionState) (text before : List ℕ) (left after : Option (List ℕ)) : Type 0 where
  pub behind : List ℕ
  pub unread : List ℕ
  pub out : List ℕ
  pub n : ℕ
  pub session : SessionState
  pub served : Served d text (behind ++ unread) out session
  pub read : left ≡ Some unread
  pub written : after ≡ Some (before ++ take n out)

-- from a session on: what a reader had and has left, what a writer held and holds, and how it ended
abbrev pub Serves : SessionState → Option (List ℕ) → Option (List ℕ) → Option (List ℕ) → Option (List ℕ) → Result Unit ServeError → Type 0
Serves d (Some text) left (Some before) after (Ok x) = AllServed d text before left after
Serves d (Some text) left (Some before) after (Err (Read e)) = ServedUpTo d text before left after
Serves d (Some text) left (Some before) after (Err (Write e)) = WrittenUpTo d text before left after
Serves d (Some text) left None after r = Unit {0}
Serves d None left (Some before) after r = Unit {0}
Serves d None left None after r = Unit {0}

-- so far
pub record ServedSoFar (d : SessionState) (text before : List ℕ) (left after : Option (List ℕ)) (held : List ℕ) (now : SessionState) : Type 0 where
  pub read : List ℕ
  pub unread : List ℕ
  pub out : List ℕ
  pub whole : text ≡ read ++ unread
  pub feeding : Feeding d read held out now
  pub rest : left ≡ Some unread
  pub written : after ≡ Some (before ++ out)

-- the same, where what is read and written is known
abbrev pub Serving : SessionState → Option (List ℕ) → Option (List ℕ) → Option (List ℕ) → Option (List ℕ) → List ℕ → SessionState → Type 0
Serving d (Some text) left (Some before) after held now = ServedSoFar d text before left after held now
Serving d (Some text) left None after held now = Unit {0}
Serving d None left (Some before) after held now = Unit {0}
Serving d None left None after held now = Unit {0}

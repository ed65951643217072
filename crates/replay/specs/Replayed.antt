-- A text replied to line by line, into an area, and what the memory then holds.
use Rattle.std.specs.Prelude.{◌≡◌, ℕ, ◌≤◌, ◌⊎◌, List, [], length, Some, None, Option}
use Rattle.layout.specs.declared.sizes.Sizes.{Sizes}
use Rattle.frames.specs.Frames.{frame_in}
use Rattle.frames.specs.Hex.{bytes_of}
use Rattle.frames.specs.Areas.{Put}
use Rattle.stepper.specs.Lent.{fresh_state}
use Rattle.session.specs.Sessions.{SessionState, SessionState.Shut, SessionState.Running, cells_of}
use Rattle.session.specs.Texts.{line_of}
use Rattle.session.specs.Served.{Served, NoRoom}

-- the reply to the next line does not fit behind the first n bytes of an area
pub record Unfit (d : SessionState) (rest : List ℕ) (n size : ℕ) : Type 0 where
  pub some : 1 ≤ length rest
  pub full : NoRoom d (frame_in (bytes_of (line_of rest))) n size

-- some lines on: their replies are in the area from a place to n, and the session is that after them
pub record Through (d : SessionState) (text old new : List ℕ) (at n : ℕ) (rest : List ℕ) (d' : SessionState) : Type 0 where
  pub written : List ℕ
  pub served : Served d text rest written d'
  pub put : Put at written old new n

-- The lines of a text up to its end, or to the first whose reply does not fit: no line without a reply is carried out.
pub record Replayed (d : SessionState) (text old new : List ℕ) (at n : ℕ) (d' : SessionState) : Type 0 where
  pub rest : List ℕ
  pub through : Through d text old new at n rest d'
  pub ended : (rest ≡ []) ⊎ Unfit d' rest n (length new)

-- a replay over a memory: nothing is open where it begins, and the cells are then those of the session in which it ended
pub record Replays (before text old new : List ℕ) (n : ℕ) (after : List ℕ) : Type 0 where
  pub session : SessionState
  pub replayed : Replayed (Shut before) text old new 0 n session
  pub cells : after ≡ cells_of session

-- nothing is open over the cells, or a run of these sizes that was just opened
abbrev pub opened_or : List ℕ → Option Sizes → SessionState
opened_or cells None = Shut cells
opened_or cells (Some z) = Running (fresh_state cells z)

-- the lines of a text up to one that opens a run, or all of them
abbrev pub Until : List ℕ → List ℕ → List ℕ → List ℕ → ℕ → List ℕ → List ℕ → Option Sizes → Type 0
Until cells text old new n rest cells' None = Replayed (Shut cells) text old new 0 n (Shut cells')
Until cells text old new n rest cells' (Some z) = Through (Shut cells) text old new 0 n rest (Running (fresh_state cells' z))

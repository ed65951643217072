-- What a session stands for: the cells of a memory on which nothing is open, or the state of a run.
use Rattle.std.specs.Prelude.{ℕ, List, [], Some, None, Option}
use Rattle.machine.specs.States.{State}
use Rattle.stepper.specs.Runs.{state_of, memory_of as run_memory}
use Rattle.session.specs.declared.states.Session.{Session}
use Rattle.session.specs.declared.states.Session.TheVariants as session

-- nothing is open over the cells, or a run is
pub data SessionState : Type 0 where
  Shut : List ℕ → SessionState
  Running : State → SessionState

-- the state of a session over a memory
abbrev pub session_of : {M : Type 0} {m : _} → (M → List ℕ) → Session M m → SessionState
session_of cells_of (session.Closed m) = Shut (cells_of m)
session_of cells_of (session.Open r) = Running (state_of cells_of r)

-- the state of the session in a slot; where none is there, no memory is
abbrev pub session_in : {M : Type 0} {m : _} → (M → List ℕ) → Option (Session M m) → SessionState
session_in cells_of (Some s) = session_of cells_of s
session_in cells_of None = Shut []

-- the memory of a session
abbrev pub memory_of : {M : Type 0} {m : _} → Session M m → M
memory_of (session.Closed m) = m
memory_of (session.Open r) = run_memory r

-- the cells of a session
abbrev pub cells_of : SessionState → List ℕ
cells_of (Shut cs) = cs
cells_of (Running s) = s.cells

-- The state that a run over a memory stands for.
use Rattle.std.specs.Prelude.{ℕ, List, Ok, Err, Result}
use Rattle.codes.specs.declared.refusal.Refusal.{Refusal}
use Rattle.machine.specs.States.{State, state_in}
use Rattle.stepper.specs.declared.run.Run.{Run}

-- its cells, its sizes and the records of its workers
abbrev pub state_of : {M : Type 0} {m : _} → (M → List ℕ) → Run M m → State
state_of cells_of r = state_in (cells_of r.memory) r.table

-- the memory that it holds
abbrev pub memory_of : {M : Type 0} {m : _} → Run M m → M
memory_of r = r.memory

-- what opening returned, by what its memory holds
abbrev pub opened_or : {M : Type 0} {m : _} → (M → List ℕ) → Result (Run M m) (M × Refusal) → Result State (List ℕ × Refusal)
opened_or cells_of (Ok r) = Ok (state_of cells_of r)
opened_or cells_of (Err e) = Err (cells_of e.0, e.1)

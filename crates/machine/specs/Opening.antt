-- What opening answers, and what it makes of the cells and of the records.
use Rattle.std.specs.Prelude.{ℕ, if◌then◌else◌, List, ◌++◌, length, drop, replicate, Ok, Err, Result, nat_lt, slice_set}
use Rattle.codes.specs.declared.refusal.Refusal.{Refusal}
use Rattle.codes.specs.declared.refusal.Refusal.TheVariants.{TooFewCells}
use Rattle.layout.specs.declared.sizes.Sizes.{Sizes}
use Rattle.layout.specs.declared.names.Cell.TheVariants.{Clock}
use Rattle.layout.specs.Layout.{needed, index_of}
use Rattle.machine.specs.States.{State}
use Rattle.machine.specs.Workers.{fresh_table}

-- the first n cells at 0, the others as they were
abbrev pub cleared : ℕ → List ℕ → List ℕ
cleared n cs = replicate n 0 ++ drop n cs

-- refused where there are fewer cells than the sizes need
abbrev pub too_few : List ℕ → Sizes → Result Unit Refusal
too_few cs z = if nat_lt (length cs) (needed z) then Err TooFewCells else Ok tt

-- the clock at 1, the other needed cells at 0, and those past them as they were
abbrev pub empty_graph : List ℕ → Sizes → List ℕ
empty_graph cs z = slice_set (cleared (needed z) cs) (index_of z Clock) 1

abbrev pub opened_cells : List ℕ → Sizes → List ℕ
opened_cells cs z = if nat_lt (length cs) (needed z) then cs else empty_graph cs z

abbrev pub opened_state : List ℕ → Sizes → State
opened_state cs z = record { cells = empty_graph cs z; sizes = z; workers = fresh_table }

-- a run over the cells, or the cells as they were
abbrev pub opened : List ℕ → Sizes → Result State (List ℕ × Refusal)
opened cs z = if nat_lt (length cs) (needed z) then Err (cs, TooFewCells) else Ok (opened_state cs z)

-- a refused opening leaves the run as it was
abbrev pub reopened : State → Sizes → State
reopened s new = if nat_lt (length s.cells) (needed new) then s else opened_state s.cells new

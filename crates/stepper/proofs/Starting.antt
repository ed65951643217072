-- An opened run starts with the promise.
use Rattle.std.proofs.Common.{◌≡◌, ℕ, ◌≤◌, Bool, true, false, ltb, cond, List, length, Ok, Err, Result, sym, refl, ◌∙◌, subst}
use Rattle.std.proofs.lemmas.Bool.{ltb-false}
use Rattle.codes.specs.declared.refusal.Refusal.{Refusal}
use Rattle.codes.specs.declared.refusal.Refusal.TheVariants.{TooFewCells}
use Rattle.layout.specs.declared.sizes.Sizes.{Sizes}
use Rattle.layout.specs.Layout.{needed}
use Rattle.machine.specs.declared.table.Table.{Table}
use Rattle.machine.specs.States.{State, state_in}
use Rattle.machine.specs.Workers.{fresh_table}
use Rattle.machine.specs.Opening.{too_few, empty_graph, opened_cells, opened_state}
use Rattle.runs.proofs.Theorems.{openings_empty}
use Rattle.promise.proofs.Contracts.{opening_kept}
use Rattle.stepper.specs.Promised.{Starts}

opening_starts : (cs : List ℕ) (z : Sizes) → needed z ≤ length cs → Starts (opened_state cs z)
opening_starts cs z l =
    let empty = openings_empty z cs l in
    record { clean = empty.0; shows = empty.1; promised = opening_kept cs z l }

abbrev fresh_over : Sizes → List ℕ → State
fresh_over z ds = record { cells = ds; sizes = z; workers = fresh_table }

abbrev done_with : Unit {0} → Result (Unit {0}) Refusal
done_with u = Ok u

ready_as : (b : Bool) (cs ds : List ℕ) (z : Sizes) → ltb (length cs) (needed z) ≡ b → cond b (Err TooFewCells) (done_with tt) ≡ done_with tt → ds ≡ cond b cs (empty_graph cs z) → Starts (fresh_over z ds)
ready_as true cs ds z t e f = absurd cc
ready_as false cs ds z t e f = subst (λ (x : List ℕ). Starts (fresh_over z x)) (sym f) (opening_starts cs z (ltb-false (length cs) (needed z) t))

-- cells that were made ready start a run, beside fresh records
pub ready_starts : (cs ds : List ℕ) (z : Sizes) (t : Table) (u : Unit {0}) (r : Result (Unit {0}) Refusal) → r ≡ too_few cs z → r ≡ Ok u → ds ≡ opened_cells cs z → t ≡ record { sizes = z; workers = fresh_table } → Starts (state_in ds t)
ready_starts cs ds z t u r e k f g = subst (λ (x : Table). Starts (state_in ds x)) (sym g) (ready_as (ltb (length cs) (needed z)) cs ds z refl (sym e ∙ k) f)

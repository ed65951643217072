-- A memory that is cleared is that of an opened run.
use Rattle.std.proofs.Common.{◌≡◌, if◌then◌else◌, Bool, true, false, ℕ, List, Ok, Err, ap}
use Rattle.codes.specs.declared.refusal.Refusal.{Refusal}
use Rattle.codes.specs.declared.refusal.Refusal.TheVariants.{TooFewCells}
use Rattle.layout.specs.declared.sizes.Sizes.{Sizes}
use Rattle.stepper.specs.Lent.{fresh_state}

pub opened_by : (b : Bool) (cs after graph : List ℕ) (z : Sizes) (e : List ℕ × Refusal) (u : Unit {0}) → Ok u ≡ (if b then Err TooFewCells else Ok u) → after ≡ (if b then cs else graph) → Ok (fresh_state after z) ≡ if b then Err e else Ok (fresh_state graph z)
opened_by true cs after graph z e u a q = cc
opened_by false cs after graph z e u a q = ap (λ x. Ok (fresh_state x z)) q

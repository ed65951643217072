-- Every run keeps the laws of stamps.
use Rattle.std.proofs.Common.{◌≡◌, ℕ, List, refl, ◌∙◌, ⊎_elim, arith}
use Rattle.layout.specs.declared.sizes.Sizes.{Sizes}
use Rattle.places.specs.Marks.{pending}
use Rattle.machine.specs.States.{State}
use Rattle.machine.specs.History.{Event, Traces}
use Rattle.laws.specs.Fits.{Linked}
use Rattle.laws.specs.Clean.{IsStamp}
use Rattle.laws.specs.Stamps.{RunsStamp}
use Rattle.laws.proofs.Keeps.{New, split, new_starts}
use Rattle.laws.proofs.Steps.{step_each, run_each}
use Rattle.laws.proofs.Runs.{runs_sound}
use Rattle.laws.proofs.Stamped.{turn_moves, runs_stamped}
use Rattle.laws.proofs.Moments.{runs_sources}

-- no request changes the sizes
runs_sizes : (start : State) (h : List Event) (s : State) → Traces start h s → s.sizes ≡ start.sizes
runs_sizes start = run_each start (λ h s. s.sizes ≡ start.sizes) refl (λ e h s t k. step_each s (λ u. u.sizes ≡ start.sizes) (λ u r. r.rows.sizes ∙ k) (λ b c q. k) (λ w b. k) e.request)

stamp_apart : (z : Sizes) (n : ℕ) → IsStamp z n → ¬ (n ≡ 0) × ¬ (n ≡ pending)
stamp_apart z n i = (λ e. omega arith, λ e. omega arith)

pub runs_stamp : RunsStamp
runs_stamp start c h s t =
    let k = runs_sound start c h s t in
    let i = runs_stamped start c h s t in
    record {
      sizes = runs_sizes start h s t;
      apart = stamp_apart s.sizes;
      clock = i.clock;
      fields = i.fields;
      turns = λ w b. turn_moves s w k b i;
      starts = λ w b j f r n x. ⊎_elim (λ (o : Linked s j r). absurd (n o)) (λ (m : New s w k b j r). new_starts s w k b j r m f) (split s w k b j r x);
      sources = runs_sources start c h s t;
    }

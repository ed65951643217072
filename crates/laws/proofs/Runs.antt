-- Every run from a clean state keeps its places fit.
use Rattle.std.proofs.Common.{sym, subst}
use Rattle.laws.specs.Clean.{Clean}
use Rattle.machine.specs.States.{State}
use Rattle.laws.specs.Fits.{FitPlace}
use Rattle.laws.specs.Sound.{Sound, RunsSound, RunsKeepLaws}
use Rattle.laws.proofs.Clean.{clean_counted, clean_heads, clean_olders}
use Rattle.laws.proofs.Stays.{turn_laws}
use Rattle.laws.proofs.Keeps.{turn_sound}
use Rattle.laws.proofs.Begins.{begin_sound}
use Rattle.laws.proofs.Rests.{rest_sound}
use Rattle.laws.proofs.Steps.{step_each, run_each}

clean_sound : (s : State) → Clean s → Sound s
clean_sound s c = record {
  cells = c.cells;
  table = c.table;
  heads = clean_heads s c;
  counted = clean_counted s c;
  olders = clean_olders s c;
  places = λ w b. subst (FitPlace s) (sym (c.idle w b)) tt;
  queues = c.books;
}

pub runs_sound : RunsSound
runs_sound start c =
    run_each start (λ h s. Sound s) (clean_sound start c)
    (λ e h s t k. step_each s Sound (rest_sound s k) (λ b c q. begin_sound s b k c q) (λ w b. turn_sound s w k b) e.request)

pub runs_keep_laws : RunsKeepLaws
runs_keep_laws start c h s t w b =
    let k = runs_sound start c h s t in
    turn_laws s w (record { worker = b; cells = k.cells; counted = k.counted; place = k.places w b })

use Rattle.std.proofs.Common.{sym, ap, ◌∙◌}
use Rattle.layout.specs.Limits.{numbers_of}
use Rattle.stepper.specs.Runs.{state_of, opened_or}
use Rattle.session.proofs.Opening.{opens_run, not_both}
use Rattle.session.proofs.ask.open.Goals as goal
use Rattle.session.proofs.ask.open.Goals.{in-Ok, in-Err}

pub returns-in-Ok-opened-clause-opens : goal.returns-in-Ok-opened-clause-opens
returns-in-Ok-opened-clause-opens g c =
    elim c.match-try_from.branch [
      | in-Ok w ↦
          opens_run c.args.opening (g.M.CellMemory.cells c.args.memory) w.in-Ok.sizes (state_of g.M.CellMemory.cells c.in-Ok-opened.run')
          (ap numbers_of (sym w.in-Ok.is) ∙ c.try_from.ensures)
          (ap (opened_or g.M.CellMemory.cells) (sym c.in-Ok-opened.is ∙ w.opened-is) ∙ w.open-opened.ensures.answer)
      | in-Err w ↦ absurd (not_both c.match-try_from.opened _ _ c.in-Ok-opened.is w.opened-is)
    ]
